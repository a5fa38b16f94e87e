use Rattle.std.proofs.Common.{refl}
use Rattle.br_model.specs.Job.{no_pair}
use Rattle.br_history.proofs.history.History.new.Goals as goal

pub invariant_of-result : goal.invariant_of-result
unfolding no_pair
invariant_of-result c = record {
  history = rw c.new.ensures.items refl;
  has_ids = λ q. rw (c.new-2.ensures.empty, c.new.ensures.items) refl;
  has_sessions = λ q. rw (c.new-3.ensures.empty, c.new.ensures.items) refl;
}
