use Rattle.br_join.proofs.begun.caught_up.Goals as goal

pub returns-then-catch_up : goal.returns-then-catch_up
returns-then-catch_up c = λ held key begun. c.catch_up.ensures c.if-catch_up.true held key begun
