use Rattle.std.proofs.Common.{◌≡◌, ◌++◌, drop, flat_map}
use Rattle.std.specs.List.{enumerate_from}
use Rattle.br_piece.specs.Missing.{missing_at}
use Rattle.br_piece.proofs.lacking.missing_of.Given as goal

-- the runs so far, and those of the groups that are left
abbrev pub invariant-loop-place : goal.invariant-loop-place
invariant-loop-place l =
    l.found.items ++ flat_map (missing_at l.keys) (enumerate_from l.place (drop l.place l.groups))
    ≡ flat_map (missing_at l.keys) (enumerate_from 0 l.groups)
