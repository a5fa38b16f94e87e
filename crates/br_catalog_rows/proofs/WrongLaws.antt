-- Values that are read, and values that are wrong.
use Rattle.std.proofs.Common.{◌≡◌, ap, sym, ◌∙◌, ℕ, ◌+◌, ◌<◌, ◌≤◌, Bool, true, false, not, cond, List, [], ◌∷◌, length, drop, get_or, Option, Some, None, Result, Ok, Err}
use Rattle.std.specs.Result.{is_ok}
use Rattle.br_model.specs.Answer.{Answers}
use Rattle.br_catalog_rows.specs.Fault.{rows_cause}
use Rattle.std.proofs.lemmas.List.{at_drop_more, drop_all}
use Rattle.sqlite.specs.Order.{Row}
use Rattle.br_catalog_rows.specs.Wrong.{Tells, first_wrong, fits, found_or, wrong_in}
use Rattle.br_catalog_rows.specs.declared.wrong_rows.Column.{Column}
use Rattle.br_catalog_rows.specs.declared.fault.RowsFault.{RowsFault}
use Rattle.br_catalog_rows.specs.declared.fault.RowsFault.TheVariants.{BadRows, Memory}

-- a value is read exactly if the model reads one
pub told : {X Y : Type 0} (view : X → Y) (read : Result X RowsFault) (expected : Result Y ℕ) (right : Bool)
    → Answers view rows_cause read expected → Tells read right → right ≡ is_ok expected
told view (Ok x) expected right answers tells = tells ∙ sym (ap is_ok answers)
told view (Err BadRows) expected right answers tells = tells ∙ sym (ap is_ok answers)
told view (Err Memory) expected right answers tells = absurd tells

-- a function of what is left of a list, at an item
at_item : {X Y : Type 0} (F : List X → Y) (xs : List X) (i : ℕ) (x : X) → i < length xs → x ≡ get_or xs i x → F (drop i xs) ≡ F (x ∷ drop (i + 1) xs)
at_item F xs i x inside is = at_drop_more F xs i x inside ∙ ap (λ t. F (t ∷ drop (i + 1) xs)) (sym is)

-- ---- columns

pub column_found : (columns : List Column) (row : Row) (i : ℕ) (x : Column) → i < length columns → x ≡ get_or columns i x → fits row x ≡ false
    → wrong_in (drop i columns) row ≡ Some x
column_found columns row i x inside is wrong =
    at_item (λ cs. wrong_in cs row) columns i x inside is ∙ ap (λ (b : Bool). cond (not b) (Some x) (wrong_in (drop (i + 1) columns) row)) wrong

pub column_passed : (columns : List Column) (row : Row) (i : ℕ) (x : Column) → i < length columns → x ≡ get_or columns i x → fits row x ≡ true
    → wrong_in (drop i columns) row ≡ wrong_in (drop (i + 1) columns) row
column_passed columns row i x inside is right =
    at_item (λ cs. wrong_in cs row) columns i x inside is ∙ ap (λ (b : Bool). cond (not b) (Some x) (wrong_in (drop (i + 1) columns) row)) right

pub columns_done : (columns : List Column) (row : Row) (i : ℕ) → length columns ≤ i → wrong_in (drop i columns) row ≡ None
columns_done columns row i end = ap (λ cs. wrong_in cs row) (drop_all i columns end)

-- ---- rows

pub row_found : (columns : List Column) (rows : List Row) (i : ℕ) (row : Row) (x : Column) → i < length rows → row ≡ get_or rows i row
    → wrong_in columns row ≡ Some x → first_wrong columns i (drop i rows) ≡ Some (i, x)
unfolding first_wrong
row_found columns rows i row x inside is wrong =
    at_item (first_wrong columns i) rows i row inside is ∙ ap (λ (found : Option Column). found_or i found (first_wrong columns (i + 1) (drop (i + 1) rows))) wrong

pub row_passed : (columns : List Column) (rows : List Row) (i : ℕ) (row : Row) → i < length rows → row ≡ get_or rows i row
    → wrong_in columns row ≡ None → first_wrong columns i (drop i rows) ≡ first_wrong columns (i + 1) (drop (i + 1) rows)
unfolding first_wrong
row_passed columns rows i row inside is right =
    at_item (first_wrong columns i) rows i row inside is ∙ ap (λ (found : Option Column). found_or i found (first_wrong columns (i + 1) (drop (i + 1) rows))) right

pub rows_done : (columns : List Column) (rows : List Row) (i : ℕ) → length rows ≤ i → first_wrong columns i (drop i rows) ≡ None
unfolding first_wrong
rows_done columns rows i end = ap (first_wrong columns i) (drop_all i rows end)
