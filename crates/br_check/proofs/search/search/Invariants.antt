use Rattle.std.proofs.Common.{◌≤◌, take}
use Rattle.br_volume.specs.Drive.{OnlyGrows}
use Rattle.br_check.specs.Search.{AreSearched}
use Rattle.br_check.specs.Shown.{shown_between}
use Rattle.br_check.proofs.search.search.Given as goal

-- what was found of the pieces so far
abbrev pub invariant-loop-piece : goal.invariant-loop-piece
invariant-loop-piece g l = record {
  searched : AreSearched (shown_between g.D.Drive l.initial.drive l.drive) (take l.piece-index l.pieces) l.results.items;
  grows : OnlyGrows (g.D.Drive.shows l.initial.drive) (g.D.Drive.shows l.drive);
  counted : g.D.Drive.failures l.initial.drive ≤ g.D.Drive.failures l.drive;
}
