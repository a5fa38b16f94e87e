use Rattle.std.proofs.Common.{Option, Some, subst}
use Rattle.br_join.specs.Front.{IsKnown}
use Rattle.br_join.specs.declared.begun.Begun.{Begun}
use Rattle.br_join.proofs.begun.added.Goals as goal

pub returns-in-Some : goal.returns-in-Some
returns-in-Some c = λ held known. c.with_one.ensures held (subst (λ (o : Option Begun). IsKnown held c.args.hit.now.key (Some o)) c.in-Some.is known)
