use Rattle.std.proofs.Common.{List, sym, subst}
use Rattle.br_model.specs.Meaning.{Piece}
use Rattle.br_match.specs.Come.{AreOfBootstrap}
use Rattle.br_test_pool.proofs.streams.stream_text.Goals as goal

pub stream-requires-clause-split : goal.stream-requires-clause-split
stream-requires-clause-split g c = λ κs within. subst (λ (l : List Piece). AreOfBootstrap l) (sym c.deref.ensures.value) c.in_ok-pieces.ensures.split
