-- The lines beside a refusal at a terminal.
use Rattle.std.specs.Prelude.{◌==◌, ℕ, List, [], ◌++◌, Option, Some, None, codes, find}
use Rattle.br_cli_common.specs.RefusalRows.{Row, all_rows}

-- two lines: the name with what it means, and what to do next
abbrev pub words : Row → List ℕ
words row = codes "  " ++ row.name ++ codes ": " ++ row.meaning ++ codes "\n  Next: " ++ row.next ++ codes "\n"

abbrev pub words_or_none : Option Row → List ℕ
words_or_none None = []
words_or_none (Some row) = words row

-- the lines of a number, if it is in the table
abbrev pub words_of : ℕ → List ℕ
words_of number = words_or_none (find (λ row. row.number == number) all_rows)
