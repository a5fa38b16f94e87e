use Rattle.std.proofs.Common.{take}
use Rattle.std.specs.List.{AllZip}
use Rattle.br_match.specs.Groups.{AreAlike}
use Rattle.br_match.proofs.matcher.matchers_for.Given as goal

abbrev pub invariant-loop-number : goal.invariant-loop-number
invariant-loop-number l = AllZip AreAlike l.matchers.items (take l.number-index l.groups)
