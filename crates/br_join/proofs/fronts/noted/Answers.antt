use Rattle.std.proofs.Common.{Option, subst}
use Rattle.br_join.specs.Front.{AreKnownIf, Tree}
use Rattle.br_join.proofs.fronts.noted.Goals as goal

pub returns-in-Some : goal.returns-in-Some
returns-in-Some c = λ held known. c.with_noted.ensures held (subst (λ (o : Option Tree). AreKnownIf held o) c.in-Some.is known)
