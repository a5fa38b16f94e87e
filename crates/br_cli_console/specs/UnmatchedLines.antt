-- The line of a pattern that meets no path.
use Rattle.std.specs.Prelude.{ℕ, List, ◌++◌, codes}
use Rattle.br_model.specs.Text.{escaped, line}

-- `unmatched` and the pattern, escaped
abbrev pub unmatched_line : List ℕ → List ℕ
unmatched_line pattern = line (codes "unmatched " ++ escaped pattern)
