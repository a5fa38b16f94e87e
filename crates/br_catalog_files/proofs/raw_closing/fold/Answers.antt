use Rattle.std.proofs.Common.{subst}
use Rattle.sqlite_wal.specs.Reads.{AreClean}
use Rattle.br_store.proofs.LookFolds.{clean_before}
use Rattle.br_catalog_files.proofs.RawFolds.{with_empty_log}
use Rattle.br_catalog_files.proofs.raw_closing.fold.Goals as goal

pub returns-in-Ok-clause-clean : goal.returns-in-Ok-clause-clean
returns-in-Ok-clause-clean g c clean =
    let old = c.in_ok-files.files in
    let new = c.in-Ok.left in
    let d = g.D.Disk in
    let before : AreClean d old.log new.db = clean_before (d.is_clean new.log) (d.is_clean old.log) (d.is_clean new.db) c.in-Ok.ensures.clean clean in
    c.in_ok-files.ensures.clean (subst (λ db. AreClean d old.log db) c.in-Ok.ensures.db before)

pub returns-in-Ok-clause-folded : goal.returns-in-Ok-clause-folded
returns-in-Ok-clause-folded g c clean numbered sound =
    let old = c.in_ok-files.files in
    let new = c.in-Ok.left in
    let d = g.D.Disk in
    let before : AreClean d old.log new.db = clean_before (d.is_clean new.log) (d.is_clean old.log) (d.is_clean new.db) c.in-Ok.ensures.clean clean in
    with_empty_log g.met.D.Disk.seen_may_stay c.args.store old new
    (c.in_ok-files.ensures.copied (subst (λ db. AreClean d old.log db) c.in-Ok.ensures.db before) numbered sound) c.in-Ok.ensures.log c.in-Ok.ensures.db
