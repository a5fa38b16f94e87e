use Rattle.std.proofs.Common.{◌≡◌, ◌++◌, drop, flat_map}
use Rattle.std.specs.List.{enumerate_from}
use Rattle.br_piece.specs.MissingLines.{count_at, count_lines}
use Rattle.br_piece.proofs.missing_lines.push_counts.Given as goal

-- the lines so far, and those of the groups that are left
abbrev pub invariant-loop-place : goal.invariant-loop-place
invariant-loop-place l =
    l.text.items ++ flat_map (count_at l.groups l.keys) (enumerate_from l.place (drop l.place l.counts))
    ≡ l.initial.text.items ++ count_lines l.groups l.counts l.keys
