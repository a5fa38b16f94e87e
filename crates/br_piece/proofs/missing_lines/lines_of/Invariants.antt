use Rattle.std.proofs.Common.{◌≡◌, take, flat_map}
use Rattle.br_piece.specs.MissingLines.{gap_text}
use Rattle.br_piece.proofs.missing_lines.lines_of.Given as goal

abbrev pub invariant-loop-gap : goal.invariant-loop-gap
invariant-loop-gap l = l.text.items ≡ flat_map (gap_text l.groups) (take l.gap-index l.gaps)
