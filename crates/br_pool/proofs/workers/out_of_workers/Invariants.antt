use Rattle.std.proofs.Common.{◌≡◌, ◌≤◌, ◌+◌, ◌++◌, map, reverse, flat_map, length, vec_len, vec_capacity}
use Rattle.std.specs.List.{AllByRecursion}
use Rattle.br_pool.specs.Slots.{AllBelow, with_each}
use Rattle.br_pool.proofs.workers.out_of_workers.Given as goal

-- what is taken apart and what is left are all
abbrev pub invariant-loop-workers : goal.invariant-loop-workers
invariant-loop-workers g l = record {
  readers : l.readers.items ++ reverse (map (λ w. w.reader) l.workers.items) ≡ reverse (map (λ w. w.reader) l.fn.workers.items);
  seats : l.seats.items ++ reverse (map (λ w. w.seat) l.workers.items) ≡ reverse (map (λ w. w.seat) l.fn.workers.items);
  slots : with_each l.slots (flat_map (λ w. w.answers.items) (reverse l.workers.items)) ≡ with_each l.fn.slots (flat_map (λ w. w.answers.items) (reverse l.fn.workers.items));
  below : AllByRecursion (λ w. AllBelow (length l.fn.slots) w.answers.items) l.workers.items;
  long : length l.slots ≡ length l.fn.slots;
  readers_room : vec_len l.readers + vec_len l.workers ≤ vec_capacity l.readers;
  seats_room : vec_len l.seats + vec_len l.workers ≤ vec_capacity l.seats;
}

abbrev pub decreases-loop-workers : goal.decreases-loop-workers
decreases-loop-workers g l = vec_len l.workers
