use Rattle.std.proofs.Common.{◌≡◌, ◌≤◌, None, vec_len, vec_capacity}
use Rattle.std.specs.List.{AllByRecursion}
use Rattle.br_pool.proofs.slots.empty_slots.Given as goal

abbrev pub invariant-loop-place : goal.invariant-loop-place
invariant-loop-place l = record {
  many : vec_len l.slots ≡ l._place;
  room : l.count ≤ vec_capacity l.slots;
  none : AllByRecursion (λ s. s ≡ None) l.slots.items;
}
