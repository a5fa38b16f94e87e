use Rattle.std.proofs.Common.{Option, Some, subst, sym}
use Rattle.br_join.specs.Front.{IsKnown}
use Rattle.br_join.specs.declared.begun.Begun.{Begun}
use Rattle.br_join.proofs.begun.catch_up_known.Goals as goal

pub returns : goal.returns
returns c = λ held key known. c.caught_up.ensures held key (subst (λ (o : Option Begun). IsKnown held key (Some o)) (sym c.in-Some.ensures.value) known)
