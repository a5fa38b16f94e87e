use Rattle.std.proofs.Common.{Option, sym, subst}
use Rattle.br_join.specs.Front.{AreKnownIf, Tree}
use Rattle.br_join.proofs.fronts.Fronts.rise.Goals as goal

pub returns : goal.returns
returns c = λ held known. c.caught_up.ensures held (subst (λ (o : Option Tree). AreKnownIf held o) (sym c.take.ensures.value) known)
