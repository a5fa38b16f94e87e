use Rattle.std.proofs.Common.{◌≡◌, ◌≤◌, ◌-◌, ◌^◌}
use Rattle.br_volume.specs.Drive.{OnlyGrows}
use Rattle.br_check.specs.AskedBlocks.{groups_of, volume_of}
use Rattle.br_check.proofs.PieceLaws.{Walked}
use Rattle.br_check.specs.Told.{TellsMore}
use Rattle.br_check.proofs.checksum_pieces.push_piece.Given as goal

-- the lines of the blocks so far
abbrev pub invariant-loop-size : goal.invariant-loop-size
invariant-loop-size g l = record {
  walked : Walked (g.D.Drive.shows l.drive) (volume_of l.asked) (groups_of l.asked) l.addr l.initial.text.items l.text.items;
  volume : volume_of l.asked ≡ l.fn.piece.volume;
  groups : groups_of l.asked ≡ l.fn.piece.groups;
  grows : OnlyGrows (g.D.Drive.shows l.initial.drive) (g.D.Drive.shows l.drive);
  told : TellsMore (g.W.Write.contents l.initial.writer) (g.W.Write.contents l.writer) l.initial.text.items l.text.items;
  counted : g.D.Drive.failures l.initial.drive ≤ g.D.Drive.failures l.drive;
}

abbrev pub decreases-loop-size : goal.decreases-loop-size
decreases-loop-size g l = 2 ^ 63 - l.addr
