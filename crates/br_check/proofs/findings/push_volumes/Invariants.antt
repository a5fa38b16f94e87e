use Rattle.std.proofs.Common.{◌≡◌, ◌++◌, take, flat_map}
use Rattle.br_check.specs.Findings.{volume_line}
use Rattle.br_check.proofs.findings.push_volumes.Given as goal

abbrev pub invariant-loop-found : goal.invariant-loop-found
invariant-loop-found l = l.text.items ≡ l.initial.text.items ++ flat_map volume_line (take l.found-index l.results)
