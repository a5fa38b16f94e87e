-- The lines of other things in a folder.
use Rattle.std.specs.Prelude.{ℕ, List, ◌++◌, flat_map, codes}
use Rattle.br_model.specs.Text.{line, escaped}

-- the line of one path
abbrev pub other_line : List ℕ → List ℕ
other_line path = line (codes "other " ++ escaped path)

abbrev pub other_lines : List (List ℕ) → List ℕ
other_lines paths = flat_map other_line paths
