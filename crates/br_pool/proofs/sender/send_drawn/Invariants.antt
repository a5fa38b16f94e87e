use Rattle.std.proofs.Common.{◌≡◌, List, [], false, ◌≤◌, ◌-◌, ◌+◌, length, map, vec_len, vec_capacity}
use Rattle.br_model.specs.Volume.{Volume}
use Rattle.br_volume.specs.Drive.{OnlyGrows}
use Rattle.br_match.specs.Come.{AllComeTo}
use Rattle.br_pool.specs.Gathering.{hits_of_batches}
use Rattle.br_pool.specs.Outlets.{outlet_view}
use Rattle.br_pool.specs.Pool.{StandsTold}
use Rattle.br_pool.specs.Sending.{IsSent}
use Rattle.br_pool.specs.Workers.{EachHolds, number_at, numbers_of}
use Rattle.br_pool.proofs.sender.send_drawn.Given as goal

-- each piece whose place was drawn is answered, and its hits are sent
abbrev pub invariant-loop-place : goal.invariant-loop-place
invariant-loop-place g l = record {
  inside : l.reader.out ≡ false;
  claims_are : l.seat.claims ≡ l.sending.round.now.claims.now.claims;
  limit_is : l.seat.limit ≡ l.sending.round.now.claims.now.limit;
  grows : OnlyGrows (g.D.Drive.shows l.fn.reader.drive) (g.D.Drive.shows l.reader.drive);
  counted : g.D.Drive.failures l.fn.reader.drive ≤ g.D.Drive.failures l.reader.drive;
  drawn : numbers_of l.answers.items ≡ map (number_at l.sending.round.now.left.now) l.seat.drawn;
  pass : (l.outlet.pass.table_id ≡ l.sending.line.now.table.shared.table_id) × (l.outlet.pass.me.1 ≡ []);
  parts : (outlet_view l.outlet).parts ≡ 1;
  come : (volumes : List Volume) → StandsTold l.sending.round.now.pieces.now volumes (g.D.Drive.shows l.fn.reader.drive) (g.D.Drive.shows l.reader.drive)
      → AllComeTo volumes l.sending.round.now.pieces.now (hits_of_batches (outlet_view l.outlet).pushed);
  each : EachHolds (IsSent (λ volumes. StandsTold l.sending.round.now.pieces.now volumes (g.D.Drive.shows l.fn.reader.drive) (g.D.Drive.shows l.reader.drive)) (hits_of_batches (outlet_view l.outlet).pushed))
      l.sending.round.now.pieces.now l.answers.items;
  many : vec_len l.answers ≡ length l.seat.drawn;
  room : l.sending.round.now.claims.now.limit ≤ vec_capacity l.answers;
}

abbrev pub decreases-loop-place : goal.decreases-loop-place
decreases-loop-place g l = l.seat.limit + 1 - length l.seat.drawn
