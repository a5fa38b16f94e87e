use Rattle.std.proofs.Common.{◌≡◌, ◌≤◌, true, length, take}
use Rattle.std.specs.List.{list_all}
use Rattle.br_model.specs.BootstrapText.{is_group}
use Rattle.br_damage.specs.NarrowedBootstrap.{LeaveBySpans}
use Rattle.br_damage.proofs.narrowed_bootstrap.without.Given as goal

-- what is left of the groups so far
abbrev pub invariant-loop-group : goal.invariant-loop-group
invariant-loop-group l = record {
  left : LeaveBySpans l.lost.spans.items (take l.group-index l.groups) l.left.items;
  few : length l.left.items ≤ l.group-index;
  valid : list_all is_group (take l.group-index l.groups) ≡ true → list_all is_group l.left.items ≡ true;
}
