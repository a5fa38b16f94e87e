use Rattle.br_store.proofs.LookFolds.{folded}
use Rattle.br_store.proofs.look_folding.fold.Goals as goal

pub returns-in-Ok : goal.returns-in-Ok
returns-in-Ok g c = record {
  folded = folded g.met.D.Disk.seen_may_stay _ _ _ c.in-Ok.ensures.copied c.emptied.ensures.log c.emptied.ensures.clean c.emptied.ensures.db;
}
