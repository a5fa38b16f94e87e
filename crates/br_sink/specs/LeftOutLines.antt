-- The lines of files that are left out.
use Rattle.std.specs.Prelude.{ℕ, List, ◌∷◌, ◌++◌, flat_map, decimal, codes}
use Rattle.br_model.specs.Text.{line, escaped}

-- the line of one: the number of the reason, and the path
abbrev pub left_line : ℕ → List ℕ → List ℕ
left_line number path = line (codes "left " ++ decimal number ++ 32 ∷ escaped path)

-- the lines of files that are left out for one reason
abbrev pub left_lines : ℕ → List (List ℕ) → List ℕ
left_lines number paths = flat_map (left_line number) paths
