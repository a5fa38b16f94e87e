use Rattle.std.proofs.Common.{◌≡◌, ◌≤◌, ◌-◌, ◌^◌}
use Rattle.br_volume.specs.Drive.{OnlyGrows}
use Rattle.br_match.specs.Walk.{ComesTo, IsWalked, Over}
use Rattle.br_check.proofs.search.search_piece.Given as goal

-- over all volumes that the drive may be taken to have shown so far, these hits were found before
-- the walk came to its address
abbrev pub invariant-loop-walk : goal.invariant-loop-walk
invariant-loop-walk g l = record {
  of : l.walk.piece.now ≡ l.piece;
  walked : Over (g.D.Drive.shows l.initial.drive) (g.D.Drive.shows l.drive) l.piece (λ volumes. IsWalked volumes l.piece l.walk.addr l.hits.items);
  come : Over (g.D.Drive.shows l.initial.drive) (g.D.Drive.shows l.drive) l.piece (λ volumes. ComesTo volumes l.piece l.walk.addr);
  grows : OnlyGrows (g.D.Drive.shows l.initial.drive) (g.D.Drive.shows l.drive);
  counted : g.D.Drive.failures l.initial.drive ≤ g.D.Drive.failures l.drive;
}

abbrev pub decreases-loop-walk : goal.decreases-loop-walk
decreases-loop-walk g l = 2 ^ 63 - l.walk.addr
