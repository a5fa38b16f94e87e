use Rattle.std.proofs.Common.{◌≡◌, map, take}
use Rattle.br_tree.proofs.list.paths_of.Given as goal

-- the paths so far
abbrev pub invariant-loop-pair : goal.invariant-loop-pair
invariant-loop-pair l = l.paths.items ≡ map (λ pair. pair.0.now) (take l.pair-index l.pairs)
