use Rattle.std.proofs.Common.{◌≡◌, ◌++◌, drop}
use Rattle.br_damage.specs.NarrowedBootstrap.{with_flag}
use Rattle.br_damage.proofs.narrowed_bootstrap.groups_with.Given as goal

-- the groups so far, and those that are left
abbrev pub invariant-loop-group : goal.invariant-loop-group
invariant-loop-group l = record {
  some : l.some.items ++ with_flag l.flag (drop l.group-index l.flags) (drop l.group-index l.groups) ≡ with_flag l.flag l.flags l.groups;
  place : l.place ≡ l.group-index;
}
