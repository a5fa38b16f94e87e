use Rattle.std.proofs.Common.{◌≡◌, ◌++◌, flat_map}
use Rattle.br_cli_target.specs.OwnHits.{hit_among}
use Rattle.br_cli_target.proofs.searched_hits.append_among.Given as goal

-- the hits so far, and those of the files among the hits that are left
abbrev pub invariant-loop-hit : goal.invariant-loop-hit
invariant-loop-hit l =
    l.hits.items ++ flat_map (hit_among l.keys) l.hit-iterator.rest.items ≡ l.initial.hits.items ++ flat_map (hit_among l.keys) l.fn.batch.hits.items
