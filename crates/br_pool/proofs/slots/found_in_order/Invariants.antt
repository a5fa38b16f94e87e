use Rattle.std.proofs.Common.{◌≡◌, ◌+◌, ◌≤◌, ◌++◌, false, vec_len, vec_capacity}
use Rattle.std.specs.List.{list_any}
use Rattle.br_pool.specs.Slots.{full_of, is_empty}
use Rattle.br_pool.proofs.slots.found_in_order.Given as goal

abbrev pub invariant-loop-slot : goal.invariant-loop-slot
invariant-loop-slot l = record {
  so_far : full_of l.founds.items ++ l.slot-iterator.rest.items ≡ l.fn.slots.items;
  no_gap : list_any is_empty l.slot-iterator.rest.items ≡ false;
  room : vec_len l.founds + l.slot-iterator.rest.len ≤ vec_capacity l.founds;
}
