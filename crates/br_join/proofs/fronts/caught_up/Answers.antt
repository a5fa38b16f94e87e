use Rattle.std.proofs.Common.{Option, subst}
use Rattle.br_join.specs.Front.{AreKnownIf, Tree}
use Rattle.br_join.proofs.fronts.caught_up.Goals as goal

pub returns-in-Some : goal.returns-in-Some
returns-in-Some c = λ held known. c.catch_up_due.ensures held (subst (λ (o : Option Tree). AreKnownIf held o) c.in-Some.is known)
