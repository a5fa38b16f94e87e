use Rattle.br_join.proofs.begun.with_one.Goals as goal

pub returns-then-add : goal.returns-then-add
returns-then-add c = λ held begun. c.add.ensures c.if-add.true held begun
