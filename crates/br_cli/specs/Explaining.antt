-- The exit status of the command `explain`.
use Rattle.std.specs.Prelude.{ℕ, ◌==◌, Option, Some, None, find}
use Rattle.br_cli_common.specs.RefusalRows.{Row, all_rows}

-- 0 for a row that was found, else 2
abbrev pub row_status : Option Row → ℕ
row_status None = 2
row_status (Some row) = 0

-- 0 for a number of the table, else 2
abbrev pub number_status : ℕ → ℕ
number_status number = row_status (find (λ row. row.number == number) all_rows)
