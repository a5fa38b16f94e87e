use Rattle.std.proofs.Common.{◌≡◌, ◌≤◌, ◌+◌, ◌++◌, false, map, reverse, vec_len, vec_capacity}
use Rattle.std.specs.List.{AllByRecursion}
use Rattle.br_pool.proofs.readers.into_readers.Given as goal

abbrev pub invariant-loop-readers : goal.invariant-loop-readers
invariant-loop-readers g l = record {
  drives : l.drives.items ++ reverse (map (λ r. r.drive) l.readers.items) ≡ l.fn.drives.items;
  fresh : AllByRecursion (λ r. r.out ≡ false) l.readers.items;
  many : vec_len l.drives + vec_len l.readers ≡ vec_len l.fn.drives;
  readers_room : vec_len l.drives + vec_len l.readers ≤ vec_capacity l.readers;
  room : vec_capacity l.drives ≡ vec_capacity l.fn.drives;
}

abbrev pub decreases-loop-readers : goal.decreases-loop-readers
decreases-loop-readers g l = vec_len l.drives
