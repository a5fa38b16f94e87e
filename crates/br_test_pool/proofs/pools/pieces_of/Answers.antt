use Rattle.std.proofs.Common.{List, sym, subst}
use Rattle.br_model.specs.Meaning.{Piece}
use Rattle.br_pool.specs.Pool.{AreNumbered}
use Rattle.br_pool.proofs.NumberLaws.{are_numbered}
use Rattle.br_test_pool.proofs.pools.pieces_of.Goals as goal

pub returns-clause-numbered : goal.returns-clause-numbered
returns-clause-numbered c = subst (λ (l : List Piece). AreNumbered l) (sym c.in_ok-pieces.ensures) (are_numbered c.in_ok-bootstrap.bootstrap)

pub returns-clause-split : goal.returns-clause-split
returns-clause-split c = (c.in_ok-bootstrap.bootstrap, c.in_ok-pieces.ensures)
