use Rattle.br_match.proofs.NearLaws.{EndsSoFar}
use Rattle.br_match.proofs.matchers.ends_of.Given as goal

abbrev pub invariant-loop-group : goal.invariant-loop-group
invariant-loop-group l = EndsSoFar l.groups l.group-index l.greatest l.ends.items
