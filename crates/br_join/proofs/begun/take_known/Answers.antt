use Rattle.std.proofs.Common.{Option, Some, subst, sym}
use Rattle.br_join.specs.Front.{IsKnown}
use Rattle.br_join.specs.declared.begun.Begun.{Begun}
use Rattle.br_join.proofs.begun.take_known.Goals as goal

pub returns : goal.returns
returns c = λ held known. c.added.ensures held (subst (λ (o : Option Begun). IsKnown held c.args.hit.now.key (Some o)) (sym c.take.ensures.value) known)
