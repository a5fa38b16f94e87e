use Rattle.std.proofs.Common.{◌≡◌, ◌++◌}
use Rattle.br_check.specs.Search.{all_found}
use Rattle.br_check.proofs.run.hits_of.Given as goal

-- the hits so far, and those of the pieces that are left
abbrev pub invariant-loop-found : goal.invariant-loop-found
invariant-loop-found l = l.hits.items ++ all_found l.found-iterator.rest.items ≡ all_found l.fn.results.items
