use Rattle.std.proofs.Common.{◌≤◌, take}
use Rattle.br_volume.specs.Drive.{OnlyGrows}
use Rattle.br_check.specs.ChecksumPieces.{SumsOver}
use Rattle.br_check.specs.Shown.{shown_between}
use Rattle.br_check.specs.Told.{TellsMore}
use Rattle.br_check.proofs.checksum_pieces.push_pieces.Given as goal

-- what is said of the pieces so far
abbrev pub invariant-loop-piece : goal.invariant-loop-piece
invariant-loop-piece g l = record {
  tells : SumsOver (shown_between g.D.Drive l.initial.drive l.drive) (take l.piece-index l.pieces) l.initial.text.items l.text.items;
  grows : OnlyGrows (g.D.Drive.shows l.initial.drive) (g.D.Drive.shows l.drive);
  told : TellsMore (g.W.Write.contents l.initial.writer) (g.W.Write.contents l.writer) l.initial.text.items l.text.items;
  counted : g.D.Drive.failures l.initial.drive ≤ g.D.Drive.failures l.drive;
}
