use Rattle.std.proofs.Common.{◌≡◌, drop}
use Rattle.br_model.specs.Meaning.{bound_of, just_groups}
use Rattle.br_match.proofs.GroupLaws.{bound_from}
use Rattle.br_match.proofs.walk.bound_for.Given as goal

abbrev pub invariant-loop-group : goal.invariant-loop-group
invariant-loop-group l = bound_from l.bound (just_groups (drop l.group-index l.groups)) ≡ bound_of (just_groups l.groups)
