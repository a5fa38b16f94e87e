use Rattle.std.proofs.Common.{◌≡◌, take, map, flat_map}
use Rattle.br_cli_target.specs.FirstAsking.{asked_by, shown}
use Rattle.br_cli_target.proofs.first_asking.asked_of.Given as goal

abbrev pub invariant-loop-group : goal.invariant-loop-group
invariant-loop-group l = map shown l.asked.items ≡ flat_map (asked_by l.session) (take l.group-index l.groups)
