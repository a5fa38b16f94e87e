use Rattle.br_store.proofs.LookMoments.{marked_as}
use Rattle.br_store.proofs.look_file.check_mark.Goals as goal

pub returns-then-are_same-clause-marked : goal.returns-then-are_same-clause-marked
returns-then-are_same-clause-marked g c =
    marked_as _ _ _ _ _ _ _ (c.are_same.ensures.stamp c.if-are_same.true) (c.are_same.ensures.front c.if-are_same.true) c.in_ok-found.ensures.marked
