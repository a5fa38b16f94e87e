use Rattle.std.proofs.Common.{◌≡◌, ◌++◌, drop, length}
use Rattle.br_damage.specs.NarrowedBootstrap.{with_volume}
use Rattle.br_damage.proofs.narrowed_bootstrap.with_volume.Given as goal

-- the flags so far, and those that are left
abbrev pub invariant-loop-group : goal.invariant-loop-group
invariant-loop-group l = record {
  more : l.more.items ++ with_volume l.vol (drop l.group-index l.flags) (drop l.group-index l.groups) ≡ with_volume l.vol l.flags l.groups;
  many : length l.more.items ≡ l.group-index;
  place : l.place ≡ l.group-index;
}
