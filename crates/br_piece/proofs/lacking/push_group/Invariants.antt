use Rattle.std.proofs.Common.{◌≡◌, ◌++◌, drop, map, flat_map}
use Rattle.br_piece.specs.Missing.{in_group, missing_in, missing_at}
use Rattle.br_piece.proofs.lacking.push_group.Given as goal

-- the runs so far, and those of the ranges that are left
abbrev pub invariant-loop-range : goal.invariant-loop-range
invariant-loop-range l =
    l.found.items ++ map (in_group l.place) (flat_map (missing_in l.group l.keys) (drop l.range-index l.range-items))
    ≡ l.initial.found.items ++ missing_at l.keys (l.place, l.group)
