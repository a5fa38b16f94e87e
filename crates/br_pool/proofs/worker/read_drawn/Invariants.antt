use Rattle.std.proofs.Common.{◌≡◌, false, ◌≤◌, ◌-◌, ◌+◌, length, map, vec_len, vec_capacity}
use Rattle.br_volume.specs.Drive.{OnlyGrows}
use Rattle.br_pool.specs.Pool.{StandsTold}
use Rattle.br_pool.specs.Workers.{AllAnswer, number_at, numbers_of}
use Rattle.br_pool.proofs.worker.read_drawn.Given as goal

-- each piece whose place was drawn is answered
abbrev pub invariant-loop-place : goal.invariant-loop-place
invariant-loop-place g l = record {
  inside : l.reader.out ≡ false;
  claims_are : l.seat.claims ≡ l.round.claims.now.claims;
  limit_is : l.seat.limit ≡ l.round.claims.now.limit;
  grows : OnlyGrows (g.D.Drive.shows l.fn.reader.drive) (g.D.Drive.shows l.reader.drive);
  counted : g.D.Drive.failures l.fn.reader.drive ≤ g.D.Drive.failures l.reader.drive;
  drawn : numbers_of l.answers.items ≡ map (number_at l.round.left.now) l.seat.drawn;
  each : AllAnswer (λ volumes. StandsTold l.round.pieces.now volumes (g.D.Drive.shows l.fn.reader.drive) (g.D.Drive.shows l.reader.drive)) l.round.pieces.now l.answers.items;
  many : vec_len l.answers ≡ length l.seat.drawn;
  room : l.round.claims.now.limit ≤ vec_capacity l.answers;
}

abbrev pub decreases-loop-place : goal.decreases-loop-place
decreases-loop-place g l = l.seat.limit + 1 - length l.seat.drawn
