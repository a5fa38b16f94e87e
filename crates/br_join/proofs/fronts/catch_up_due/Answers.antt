use Rattle.br_join.proofs.fronts.catch_up_due.Goals as goal

pub loop-preserved : goal.loop-preserved
loop-preserved c = λ held known. c.catch_up_one.ensures held (c.loop.invariant held known)
