use Rattle.std.proofs.Common.{◌≡◌, length}
use Rattle.std.specs.List.{AllZip}
use Rattle.br_pool.specs.Gathers.{Gathers}
use Rattle.br_pool.specs.Rounds.{OverAll}
use Rattle.br_pool.specs.Sending.{IsSent}
use Rattle.br_pool.specs.Slots.{FillsBy, rounds_left}
use Rattle.br_pool.specs.Workers.{HaveServed, outs}
use Rattle.br_pool.proofs.streaming.stream_rounds.Given as goal

-- each slot that is filled has the answer for a piece whose hits were taken
abbrev pub invariant-loop-alloc : goal.invariant-loop-alloc
invariant-loop-alloc g l = record {
  many : length l.slots ≡ length l.fn.slots;
  served : HaveServed g.D.Drive.shows g.D.Drive.failures l.fn.readers.items l.readers.items;
  filled : Gathers (OverAll g.D.Drive.shows l.task.pieces.now l.fn.readers.items l.readers.items) l.task.pieces.now l.fn.joiner l.joiner
      (λ taken. AllZip (FillsBy (IsSent (OverAll g.D.Drive.shows l.task.pieces.now l.fn.readers.items l.readers.items) taken)) l.task.pieces.now l.slots);
}

abbrev pub decreases-loop-alloc : goal.decreases-loop-alloc
decreases-loop-alloc g l = rounds_left (outs l.readers.items) l.slots
