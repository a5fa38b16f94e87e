use Rattle.std.proofs.Common.{◌≡◌, length}
use Rattle.br_pool.specs.Rounds.{FilledOver}
use Rattle.br_pool.specs.Slots.{rounds_left}
use Rattle.br_pool.specs.Workers.{HaveServed, outs}
use Rattle.br_pool.proofs.rounds.run_rounds.Given as goal

-- each slot that is filled has the answer for its piece, over all that the drives showed so far
abbrev pub invariant-loop-alloc : goal.invariant-loop-alloc
invariant-loop-alloc g l = record {
  many : length l.slots ≡ length l.fn.slots;
  served : HaveServed g.D.Drive.shows g.D.Drive.failures l.fn.readers.items l.readers.items;
  filled : FilledOver g.D.Drive.shows l.task.pieces.now l.fn.readers.items l.readers.items l.slots;
}

abbrev pub decreases-loop-alloc : goal.decreases-loop-alloc
decreases-loop-alloc g l = rounds_left (outs l.readers.items) l.slots
