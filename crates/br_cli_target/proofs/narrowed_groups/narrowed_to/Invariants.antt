use Rattle.std.proofs.Common.{◌≡◌, take, flat_map}
use Rattle.br_cli_target.specs.NarrowedGroups.{narrow_to}
use Rattle.br_cli_target.proofs.narrowed_groups.narrowed_to.Given as goal

abbrev pub invariant-loop-group : goal.invariant-loop-group
invariant-loop-group l = l.narrow.items ≡ flat_map (narrow_to l.keys) (take l.group-index l.groups)
