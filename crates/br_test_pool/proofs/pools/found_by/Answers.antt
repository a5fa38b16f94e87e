use Rattle.std.proofs.Common.{List, sym, subst}
use Rattle.br_model.specs.Meaning.{Piece}
use Rattle.br_pool.specs.Pool.{AreNumbered}
use Rattle.br_test_pool.proofs.pools.found_by.Goals as goal

pub run_pool-requires-clause-numbered : goal.run_pool-requires-clause-numbered
run_pool-requires-clause-numbered g c = λ κs within. subst (λ (l : List Piece). AreNumbered l) (sym c.deref.ensures.value) c.in_ok-pieces.ensures.numbered
