use Rattle.br_join.proofs.fronts.with_noted.Goals as goal

pub returns-in-Ok : goal.returns-in-Ok
returns-in-Ok c = λ held known. c.in-Ok.ensures held known
