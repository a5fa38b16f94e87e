-- Which row of a catalogue cannot be read, and which of its columns is wrong.
use Rattle.std.specs.Prelude.{◌≡◌, ℕ, ◌+◌, ◌==◌, Bool, true, false, not, List, [], ◌∷◌, Option, Some, None, find, Result, Ok, Err}
use Rattle.std.specs.Result.{is_ok}
use Rattle.sqlite.specs.declared.types.Value.{Value}
use Rattle.sqlite.specs.Order.{Row, column}
use Rattle.br_model.specs.Answer.{◌>>=◌, refuse_if}
use Rattle.br_catalog_rows.specs.Decode.{digest_in, letter_in, name_in, natural, path_in, small, string_in, volume_in}
use Rattle.br_catalog_rows.specs.declared.fault.RowsFault.{RowsFault}
use Rattle.br_catalog_rows.specs.declared.fault.RowsFault.TheVariants.{BadRows, Memory}
use Rattle.br_catalog_rows.specs.declared.wrong_rows.Column.{Column}
use Rattle.br_catalog_rows.specs.declared.wrong_rows.ColumnKind.{ColumnKind}
use Rattle.br_catalog_rows.specs.declared.wrong_rows.ColumnKind.TheVariants.{Positive, Small, Natural, Letter, Name, VolumeName, Path, Characters, Digest}

-- a value was read, or it is wrong
abbrev pub Tells : {X : Type 0} → Result X RowsFault → Bool → Type 0
Tells (Ok x) right = right ≡ true
Tells (Err BadRows) right = right ≡ false
Tells (Err Memory) right = ⊥

-- a number of 32 bits that is not 0, else 47
unfoldable pub positive : Value → Result ℕ ℕ
positive v = do
  n ← small v
  _ ← refuse_if (n == 0) 47
  Ok n

-- whether the column of a row at a place is of a kind
abbrev pub fits_kind : ColumnKind → Row → ℕ → Bool
fits_kind Positive row at = is_ok (positive (column row at))
fits_kind Small row at = is_ok (small (column row at))
fits_kind Natural row at = is_ok (natural (column row at))
fits_kind Letter row at = is_ok (letter_in (column row at))
fits_kind Name row at = is_ok (name_in (column row at))
fits_kind VolumeName row at = is_ok (volume_in (column row at))
fits_kind Path row at = is_ok (path_in (column row at) (column row (at + 1)))
fits_kind Characters row at = is_ok (string_in (column row at))
fits_kind Digest row at = is_ok (digest_in (column row at))

-- whether a column of a row is of its kind
unfoldable pub fits : Row → Column → Bool
fits row c = fits_kind c.kind row c.at

-- the first of the columns that is wrong in a row
abbrev pub wrong_in : List Column → Row → Option Column
wrong_in columns row = find (λ c. not (fits row c)) columns

abbrev pub found_or : ℕ → Option Column → Option (ℕ × Column) → Option (ℕ × Column)
found_or at (Some c) later = Some (at, c)
found_or at None later = later

-- the place of the first row that is wrong, and its first column that is; the first row's place is given
unfoldable pub first_wrong : List Column → ℕ → List Row → Option (ℕ × Column)
first_wrong columns at [] = None
first_wrong columns at (row ∷ rows) = found_or at (wrong_in columns row) (first_wrong columns (at + 1) rows)
