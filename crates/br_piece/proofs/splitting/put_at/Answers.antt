use Rattle.std.proofs.Common.{◌<◌, length, sym, ap, ◌∙◌, slice_set}
use Rattle.br_piece.specs.Piece.{put_at}
use Rattle.br_piece.proofs.SplitLaws.{set_more}
use Rattle.br_piece.proofs.splitting.put_at.Goals as goal

pub returns-in_ok-add-in-Some : goal.returns-in_ok-add-in-Some
returns-in_ok-add-in-Some c =
    let inside : c.in-Some.place < length c.args.pieces.now.items = rw c.in-Some.is at c.requires.inside in
    ap (λ p. slice_set c.args.pieces.now.items c.in-Some.place p) c.in_ok-add-in-Some.ensures
    ∙ set_more c.in-Some.place c.args.pieces.now.items c.index_mut.result.now (c.args.number, c.args.group.now) c.index_mut.ensures.value inside
    ∙ sym (ap (λ o. put_at o c.args.pieces.now.items (c.args.number, c.args.group.now)) c.in-Some.is)
