use Rattle.br_store.proofs.LookMoments.{marked}
use Rattle.br_store.proofs.look_file.mark_of.Goals as goal

pub returns-clause-marked : goal.returns-clause-marked
returns-clause-marked g c = marked _ _ _ _ _ _ _ c.in_ok-len.ensures.same c.in_ok-len.ensures.later c.in_ok-stamp.ensures.later c.in_ok-len.ensures.front c.in_ok-stamp.ensures.stamp
