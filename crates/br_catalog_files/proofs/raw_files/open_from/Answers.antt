use Rattle.std.proofs.Common.{ℕ, Bool, cond, List, ap₂, subst}
use Rattle.sqlite_disk.specs.Events.{Event, replay}
use Rattle.sqlite_store.specs.FileStore.{view}
use Rattle.sqlite_trees.proofs.Doubt.{clean_of}
use Rattle.sqlite_wal.specs.Recovery.{Image}
use Rattle.br_catalog_files.specs.FileMigration.{ShowsDatabase}
use Rattle.br_catalog_files.proofs.raw_files.open_from.Goals as goal

abbrev image : List ℕ → List ℕ → Image
image log db = record { log = log; db = db }

abbrev seen : List ℕ → List ℕ → Bool → List Event → List ℕ
seen log db is_log history = (replay (cond is_log log db) history).seen

pub returns-in-Ok-clause-fresh : goal.returns-in-Ok-clause-fresh
returns-in-Ok-clause-fresh g c = λ clean. (c.in-Ok.ensures.ok (clean_of (view c.in-Ok.store).is_clean clean)).fresh

pub returns-in-Ok-clause-found : goal.returns-in-Ok-clause-found
returns-in-Ok-clause-found g c = λ clean.
    let (log, db) = c.in_ok-files.ensures.fresh in
    let over = c.in-Ok.ensures.ok (clean_of (view c.in-Ok.store).is_clean clean) in
    let same = ap₂ image (ap₂ (seen g.S.Start.log g.S.Start.db) log.0 log.1) (ap₂ (seen g.S.Start.log g.S.Start.db) db.0 db.1) in
    subst (λ (i : Image). ShowsDatabase i c.in-Ok.store) same over.holds
