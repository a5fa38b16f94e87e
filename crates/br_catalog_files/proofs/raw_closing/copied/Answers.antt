use Rattle.std.proofs.Common.{◌≡◌, IsTrue, sym, ap, subst, arith, ◌∙◌}
use Rattle.sqlite_wal.specs.Recovery.{Image}
use Rattle.sqlite_wal.specs.Files.{outcomes}
use Rattle.sqlite_wal.specs.Reads.{AreClean}
use Rattle.sqlite_wal.proofs.StateLemmas.{open_from}
use Rattle.sqlite_trees.specs.View.{View, IsClean}
use Rattle.sqlite_trees.proofs.Doubt.{clean_of, no_doubt}
use Rattle.sqlite_pool.proofs.StateLemmas.{open_usable, clean_is, may_leave_is}
use Rattle.sqlite_store.specs.FileStore.{state, view}
use Rattle.sqlite.specs.Closing.{HoldsAlone}
use Rattle.sqlite.proofs.Theorems.{copied as holds}
use Rattle.br_catalog_files.proofs.raw_closing.copied.Goals as goal

pub returns-in-Ok-clause-usable : goal.returns-in-Ok-clause-usable
returns-in-Ok-clause-usable g c =
    subst (λ p. IsTrue (g.D.Disk.is_usable p.0)) (sym c.close.ensures) (open_usable c.checkpoint.new.self.pool c.in-Ok.ensures.still).0

pub returns-in-Ok-clause-clean : goal.returns-in-Ok-clause-clean
returns-in-Ok-clause-clean g c honest =
    let last = c.checkpoint.new.self in
    let sure_now = subst (λ p. AreClean g.D.Disk p.0 p.1) c.close.ensures honest in
    let none : IsClean (view last) = no_doubt _ (clean_is last.pool ∙ sure_now) in
    let clean : IsClean (view c.rollback.new.self) = omega (arith, c.checkpoint.ensures.quiet.clean) in
    omega (arith, c.rollback.ensures.quiet.clean)

pub returns-in-Ok-clause-copied : goal.returns-in-Ok-clause-copied
returns-in-Ok-clause-copied g c honest numbered sound =
    let back = c.args.store in
    let before = c.rollback.new.self in
    let last = c.checkpoint.new.self in
    let q = c.checkpoint.ensures.quiet in
    let stays = g.met.D.Disk.seen_may_stay in
    let sure_now = subst (λ p. AreClean g.D.Disk p.0 p.1) c.close.ensures honest in
    let none : IsClean (view last) = no_doubt _ (clean_is last.pool ∙ sure_now) in
    let clean : IsClean (view before) = omega (arith, q.clean) in
    let early : IsClean (view back) = omega (arith, c.rollback.ensures.quiet.clean) in
    let h = open_from (state before) c.in-Ok.ensures.ready (clean_of (view before).is_clean clean) in
    let second = c.rollback.ensures.undone.kept clean in
    let on = c.in-Ok.ensures.open none in
    let same = c.checkpoint.ensures.same on in
    let still : IsTrue (view last).is_numbered = subst IsTrue (sym (ap (λ (v : View). v.is_numbered) same ∙ second.numbered)) numbered in
    let committed : (view last).committed ≡ (view back).committed = ap (λ (v : View). v.committed) same ∙ second.committed h in
    let each = λ (image : Image) (may : outcomes g.D.Disk c.close.result.log c.close.result.db image).
    subst (HoldsAlone image) committed (holds last stays on still
    (λ db found. sound db (c.rollback.ensures.quiet.outcomes db (q.outcomes db found)))
    (c.in-Ok.ensures.moved (c.rollback.ensures.logged (second.was_open h))) image
    (may_leave_is last.pool image sure_now (subst (λ p. outcomes g.D.Disk p.0 p.1 image) c.close.ensures may))) in
    record {
      was_clean = early;
      was_open = second.was_open h;
      seen = each _ (stays _, stays _);
      left = each;
    }
