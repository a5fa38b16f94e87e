use Rattle.std.proofs.Common.{ap}
use Rattle.br_model.specs.Meaning.{Piece}
use Rattle.br_join.proofs.PieceLaws.{opened_step}
use Rattle.br_join.proofs.joiner.opened.Goals as goal

pub loop-piece-preserved : goal.loop-piece-preserved
loop-piece-preserved c =
    opened_step c.loop-piece.numbers c.insert.new.self c.args.pieces.now c.loop-piece.piece-index c.piece-item.result c.piece.inside.number
    c.loop-piece-test.true c.piece-item.is (ap (λ (p : Piece). p.number) c.piece.view_is) c.loop-piece.invariant c.in_ok-insert.ensures.updates.0
