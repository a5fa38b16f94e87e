use Rattle.std.proofs.Common.{◌≡◌, ◌≤◌, ◌-◌, ◌^◌, List}
use Rattle.br_model.specs.Meaning.{Hit}
use Rattle.br_volume.specs.Drive.{OnlyGrows}
use Rattle.br_match.specs.Seen.{piece_of, address_of}
use Rattle.br_match.specs.Walk.{Over}
use Rattle.br_pool.specs.Gathering.{Pushes}
use Rattle.br_pool.specs.Outlets.{outlet_view}
use Rattle.br_pool.proofs.SendingLaws.{WalksOn}
use Rattle.br_pool.proofs.sender.send_piece.Given as goal

-- over all volumes that the drive may be taken to have shown so far, these hits were sent before the
-- walk came to its address
abbrev pub invariant-loop-walk : goal.invariant-loop-walk
invariant-loop-walk g l = record {
  of : piece_of l.walk ≡ l.piece;
  pass : (l.outlet.pass.table_id ≡ l.initial.outlet.pass.table_id) × (l.outlet.pass.me.1 ≡ l.initial.outlet.pass.me.1);
  sent : (hits : List Hit) × Pushes (outlet_view l.initial.outlet) (outlet_view l.outlet) hits
      × Over (g.D.Drive.shows l.initial.drive) (g.D.Drive.shows l.drive) l.piece
      (WalksOn l.piece (address_of l.walk) hits);
  grows : OnlyGrows (g.D.Drive.shows l.initial.drive) (g.D.Drive.shows l.drive);
  counted : g.D.Drive.failures l.initial.drive ≤ g.D.Drive.failures l.drive;
}

abbrev pub decreases-loop-walk : goal.decreases-loop-walk
decreases-loop-walk g l = 2 ^ 63 - address_of l.walk
