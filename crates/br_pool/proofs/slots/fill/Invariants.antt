use Rattle.std.proofs.Common.{◌≡◌, length}
use Rattle.br_pool.specs.Slots.{AllBelow, with_each}
use Rattle.br_pool.proofs.slots.fill.Given as goal

-- what is left, once it is filled in, gives what all gives
abbrev pub invariant-loop-number : goal.invariant-loop-number
invariant-loop-number l = record {
  same : with_each l.slots l.number-iterator.rest.items ≡ with_each l.fn.slots l.fn.answers.items;
  below : AllBelow (length l.fn.slots) l.number-iterator.rest.items;
  long : length l.slots ≡ length l.fn.slots;
}
