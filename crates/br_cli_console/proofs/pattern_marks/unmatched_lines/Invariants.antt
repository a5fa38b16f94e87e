use Rattle.std.proofs.Common.{◌≡◌, take, flat_map}
use Rattle.br_cli_console.specs.UnmatchedLines.{unmatched_line}
use Rattle.br_cli_console.proofs.pattern_marks.unmatched_lines.Given as goal

-- the lines of the patterns so far
abbrev pub invariant-loop-pattern : goal.invariant-loop-pattern
invariant-loop-pattern l = l.lines.items ≡ flat_map (λ p. unmatched_line p.now) (take l.pattern-index l.patterns)
