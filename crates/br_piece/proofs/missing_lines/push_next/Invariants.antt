use Rattle.std.proofs.Common.{◌≡◌, ◌++◌, take, flat_map}
use Rattle.br_piece.specs.MissingLines.{next_text}
use Rattle.br_piece.proofs.missing_lines.push_next.Given as goal

abbrev pub invariant-loop-range : goal.invariant-loop-range
invariant-loop-range l = l.text.items ≡ l.initial.text.items ++ flat_map next_text (take l.range-index l.ranges)
