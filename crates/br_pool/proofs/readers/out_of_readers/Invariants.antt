use Rattle.std.proofs.Common.{◌≡◌, ◌≤◌, ◌+◌, ◌++◌, map, reverse, vec_len, vec_capacity}
use Rattle.br_pool.proofs.readers.out_of_readers.Given as goal

-- the drives that are back and those that are left are all
abbrev pub invariant-loop-readers : goal.invariant-loop-readers
invariant-loop-readers g l = record {
  drives : l.drives.items ++ reverse (map (λ r. r.drive) l.readers.items) ≡ reverse (map (λ r. r.drive) l.fn.readers.items);
  room : vec_len l.drives + vec_len l.readers ≤ vec_capacity l.drives;
}

abbrev pub decreases-loop-readers : goal.decreases-loop-readers
decreases-loop-readers g l = vec_len l.readers
