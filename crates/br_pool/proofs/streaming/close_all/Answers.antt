use Rattle.std.proofs.Common.{◌≡◌, true, take_all, ap, sym, subst, ◌∙◌}
use Rattle.br_model.specs.Meaning.{Piece}
use Rattle.br_join.specs.Joining.{IsMadeFor, Joining, closed_each, is_ready}
use Rattle.br_join.proofs.ReadyLaws.{each_closed_hits, each_closed_is_made, each_closed_is_ready, each_closed_names}
use Rattle.br_pool.proofs.CloseLaws.{closed_step, known_next}
use Rattle.br_pool.proofs.streaming.close_all.Goals as goal

pub loop-piece-preserved : goal.loop-piece-preserved
loop-piece-preserved c =
    record {
      closed = closed_step c.args.pieces.now c.loop-piece.piece-index c.piece-item.result c.args.joiner.now c.loop-piece.joiner c.close_piece.new.self c.piece.inside.number
          c.loop-piece-test.true c.piece-item.is (ap (λ (p : Piece). p.number) c.piece.view_is) c.loop-piece.invariant.closed c.in-Ok.ensures.ok;
    }

-- the joiner knows the piece
pub unreachable-requires : goal.unreachable-requires
unreachable-requires c =
    known_next c.args.pieces.now c.loop-piece.piece-index c.piece-item.result c.args.joiner.now c.loop-piece.joiner c.piece.inside.number
    c.loop-piece-test.true c.piece-item.is (ap (λ (p : Piece). p.number) c.piece.view_is) c.requires c.loop-piece.invariant.closed c.in_default.ensures.stranger.1

pub returns-clause-ready : goal.returns-clause-ready
returns-clause-ready c =
    let pieces = c.args.pieces.now in
    let whole : c.loop-piece.joiner ≡ closed_each c.args.joiner.now pieces =
    c.loop-piece.invariant.closed ∙ ap (closed_each c.args.joiner.now) (take_all c.loop-piece.piece-index pieces c.loop-piece-test.false) in
    subst (λ (j : Joining). is_ready j ≡ true) (sym whole) (each_closed_is_ready pieces c.args.joiner.now c.requires)

pub returns-clause-made : goal.returns-clause-made
returns-clause-made c =
    let pieces = c.args.pieces.now in
    let whole : c.loop-piece.joiner ≡ closed_each c.args.joiner.now pieces =
    c.loop-piece.invariant.closed ∙ ap (closed_each c.args.joiner.now) (take_all c.loop-piece.piece-index pieces c.loop-piece-test.false) in
    subst (λ (j : Joining). IsMadeFor pieces j.pieces) (sym whole) (each_closed_is_made pieces c.args.joiner.now pieces c.requires (λ p inside. inside))

pub returns-clause-hits : goal.returns-clause-hits
returns-clause-hits c =
    let pieces = c.args.pieces.now in
    let whole : c.loop-piece.joiner ≡ closed_each c.args.joiner.now pieces =
    c.loop-piece.invariant.closed ∙ ap (closed_each c.args.joiner.now) (take_all c.loop-piece.piece-index pieces c.loop-piece-test.false) in
    ap (λ (j : Joining). j.hits) whole ∙ each_closed_hits c.args.joiner.now pieces

pub returns-clause-names : goal.returns-clause-names
returns-clause-names c =
    let pieces = c.args.pieces.now in
    let whole : c.loop-piece.joiner ≡ closed_each c.args.joiner.now pieces =
    c.loop-piece.invariant.closed ∙ ap (closed_each c.args.joiner.now) (take_all c.loop-piece.piece-index pieces c.loop-piece-test.false) in
    ap (λ (j : Joining). j.names) whole ∙ each_closed_names c.args.joiner.now pieces
