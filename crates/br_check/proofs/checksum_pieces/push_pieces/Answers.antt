use Rattle.std.proofs.Common.{arith}
use Rattle.br_volume.proofs.ExtendLaws.{grows_itself, grows_more}
use Rattle.br_check.specs.ChecksumPieces.{TellsPiece}
use Rattle.br_check.specs.Shown.{moment}
use Rattle.br_check.proofs.CallLaws.{lines_more, none_told}
use Rattle.br_check.proofs.TellLaws.{tells_both, tells_none}
use Rattle.br_check.proofs.checksum_pieces.push_pieces.Goals as goal

pub loop-piece-init : goal.loop-piece-init
loop-piece-init g c = record {
  tells = none_told TellsPiece (moment g.D.Drive c.args.drive.now) c.args.text.now.items;
  grows = grows_itself (g.D.Drive.shows c.args.drive.now);
  told = tells_none (g.W.Write.contents c.args.writer.now) c.args.text.now.items;
  counted = omega arith;
}

pub loop-piece-preserved : goal.loop-piece-preserved
loop-piece-preserved g c =
    let first = g.D.Drive.shows c.args.drive.now in
    let second = g.D.Drive.shows c.loop-piece.drive in
    let third = g.D.Drive.shows c.push_piece.new.drive in
    let before = c.loop-piece.invariant in
    let one = c.in_ok-push_piece.ensures.tells in
    record {
      tells =
          lines_more TellsPiece (moment g.D.Drive c.args.drive.now) (moment g.D.Drive c.loop-piece.drive) (moment g.D.Drive c.push_piece.new.drive)
          c.args.pieces.now c.loop-piece.piece-index c.piece-item.result c.args.text.now.items c.loop-piece.text.items c.push_piece.new.text.items one.0
          c.loop-piece-test.true c.piece-item.is before.tells
          (record { later = record { grows = c.push_piece.ensures.grows; counted = c.push_piece.ensures.counted }; tells = one.1 }) one.2;
      grows = grows_more first second third before.grows c.push_piece.ensures.grows;
      told =
          tells_both (g.W.Write.contents c.args.writer.now) (g.W.Write.contents c.loop-piece.writer) (g.W.Write.contents c.push_piece.new.writer) c.args.text.now.items
          c.loop-piece.text.items c.push_piece.new.text.items before.told c.in_ok-push_piece.ensures.written;
      counted = omega (arith, before.counted, c.push_piece.ensures.counted);
    }

pub returns-in_err-push_piece-clause-grows : goal.returns-in_err-push_piece-clause-grows
returns-in_err-push_piece-clause-grows g c =
    grows_more (g.D.Drive.shows c.args.drive.now) (g.D.Drive.shows c.loop-piece.drive) (g.D.Drive.shows c.push_piece.new.drive) c.loop-piece.invariant.grows
    c.push_piece.ensures.grows
