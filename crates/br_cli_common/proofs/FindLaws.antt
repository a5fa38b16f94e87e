-- The row with a number.
use Rattle.std.proofs.Common.{◌≡◌, ◌∙◌, sym, ◌==◌, ◌||◌, ℕ, Bool, true, false, cond, List, [], ◌∷◌, Option, Some, None, refl, ap, map, option_map}
use Rattle.std.specs.Borrow.{Bor}
use Rattle.std.specs.Prelude.{IfSome, find, is_some}
use Rattle.std.specs.List.{list_any}
use Rattle.std.specs.Option.{option_or}
use Rattle.std.proofs.lemmas.List.Folds.{find-append}
use Rattle.std.proofs.lemmas.Bool.{eqb-true}
use Rattle.br_cli_common.specs.declared.refusal.Refusal.{Refusal}
use Rattle.br_cli_common.specs.RefusalTable.{explained}
use Rattle.br_cli_common.specs.RefusalRows.{Row, all_rows, rows_below_50, rows_from_50, row_of}

or_step : (b : Bool) (row : Refusal) (found : Option Refusal) (rest : Bool) → is_some found ≡ rest → is_some (cond b (Some row) found) ≡ (b || rest)
or_step true row found rest e = refl
or_step false row found rest e = e

is_found : (number : ℕ) (rows : List Refusal) → is_some (find (λ row. row.number == number) rows) ≡ list_any (λ n. n == number) (map (λ row. row.number) rows)
is_found number [] = refl
is_found number (row ∷ more) = or_step (row.number == number) row _ _ (is_found number more)

pick : (b : Bool) (row : Refusal) (found : Option Refusal) (P : Refusal → Type 0) → (b ≡ true → P row) → IfSome found P → IfSome (cond b (Some row) found) P
pick true row found P first rest = first refl
pick false row found P first rest = rest

has_number : (number : ℕ) (rows : List Refusal) → IfSome (find (λ row. row.number == number) rows) (λ row. row.number ≡ number)
has_number number [] = tt
has_number number (row ∷ more) =
    pick (row.number == number) row _ (λ (r : Refusal). r.number ≡ number) (λ e. eqb-true row.number number e) (has_number number more)

is_some_seen : (r : Option (Bor Refusal)) → is_some r ≡ is_some (option_map (λ row. row.now) r)
is_some_seen None = refl
is_some_seen (Some row) = refl

seen : (r : Option (Bor Refusal)) (P : Refusal → Type 0) → IfSome (option_map (λ row. row.now) r) P → IfSome r (λ row. P row.now)
seen None P holds = tt
seen (Some row) P holds = holds

-- a row is found if the list has the number
pub known : (r : Option (Bor Refusal)) (rows : List Refusal) (number : ℕ) → option_map (λ row. row.now) r ≡ find (λ row. row.number == number) rows
    → is_some r ≡ list_any (λ n. n == number) (map (λ row. row.number) rows)
known r rows number is = is_some_seen r ∙ ap is_some is ∙ is_found number rows

-- the row that is found has the number
pub right : (r : Option (Bor Refusal)) (rows : List Refusal) (number : ℕ) → option_map (λ row. row.now) r ≡ find (λ row. row.number == number) rows
    → IfSome r (λ row. row.now.number ≡ number)
right r rows number is = seen r (λ (row : Refusal). row.number ≡ number) (rw is (has_number number rows))

row_step : (b : Bool) (row : Refusal) (found : Option Refusal) (rest : Option Row) → option_map row_of found ≡ rest
    → option_map row_of (cond b (Some row) found) ≡ cond b (Some (row_of row)) rest
row_step true row found rest e = refl
row_step false row found rest e = e

is_found_row : (number : ℕ) (rows : List Refusal)
    → option_map row_of (find (λ row. row.number == number) rows) ≡ find (λ row. row.number == number) (map row_of rows)
is_found_row number [] = refl
is_found_row number (row ∷ more) = row_step (row.number == number) row _ _ (is_found_row number more)

row_seen : (r : Option (Bor Refusal)) → option_map (λ row. row_of row.now) r ≡ option_map row_of (option_map (λ row. row.now) r)
row_seen None = refl
row_seen (Some row) = refl

-- the row that is found has the words of the list's row
pub found_row : (r : Option (Bor Refusal)) (rows : List Refusal) (number : ℕ) → option_map (λ row. row.now) r ≡ find (λ row. row.number == number) rows
    → option_map (λ row. row_of row.now) r ≡ find (λ row. row.number == number) (map row_of rows)
found_row r rows number is = row_seen r ∙ ap (option_map row_of) is ∙ is_found_row number rows

either_seen : (a b : Option (Bor Refusal)) → option_map (λ row. row_of row.now) (option_or a b) ≡ option_or (option_map (λ row. row_of row.now) a) (option_map (λ row. row_of row.now) b)
either_seen None b = refl
either_seen (Some row) b = refl

both : (a b c d : Option Row) → a ≡ b → c ≡ d → option_or a c ≡ option_or b d
both a b c d first rest = ap (λ (x : Option Row). option_or x c) first ∙ ap (option_or b) rest

-- the row that one of two lists has is that of both as one
pub found_either : (a b : Option (Bor Refusal)) (number : ℕ) (below from : List Refusal) → map row_of below ≡ rows_below_50 → map row_of from ≡ rows_from_50
    → option_map (λ row. row_of row.now) a ≡ find (λ row. row.number == number) (map row_of below)
    → option_map (λ row. row_of row.now) b ≡ find (λ row. row.number == number) (map row_of from)
    → option_map (λ row. row_of row.now) (option_or a b) ≡ find (λ row. row.number == number) all_rows
found_either a b number below from low high is_low is_high =
    let picks = λ (row : Row). row.number == number in
    either_seen a b
    ∙ both _ (find picks rows_below_50) _ (find picks rows_from_50) (is_low ∙ ap (find picks) low) (is_high ∙ ap (find picks) high)
    ∙ sym (find-append picks rows_below_50 rows_from_50)

or_row : (b : Bool) (row : Row) (found : Option Row) (rest : Bool) → is_some found ≡ rest → is_some (cond b (Some row) found) ≡ (b || rest)
or_row true row found rest e = refl
or_row false row found rest e = e

is_row : (number : ℕ) (rows : List Row) → is_some (find (λ row. row.number == number) rows) ≡ list_any (λ n. n == number) (map (λ (row : Row). row.number) rows)
is_row number [] = refl
is_row number (row ∷ more) = or_row (row.number == number) row _ _ (is_row number more)

is_some_row : (r : Option (Bor Refusal)) → is_some r ≡ is_some (option_map (λ row. row_of row.now) r)
is_some_row None = refl
is_some_row (Some row) = refl

-- a row is found if its number is explained
pub explained_row : (r : Option (Bor Refusal)) (number : ℕ) → option_map (λ row. row_of row.now) r ≡ find (λ row. row.number == number) all_rows
    → is_some r ≡ list_any (λ n. n == number) explained
explained_row r number is = is_some_row r ∙ ap is_some is ∙ is_row number all_rows

-- the row that is found has the number
pub either_right : (a b : Option (Bor Refusal)) (number : ℕ) → IfSome a (λ row. row.now.number ≡ number) → IfSome b (λ row. row.now.number ≡ number)
    → IfSome (option_or a b) (λ row. row.now.number ≡ number)
either_right None b number first rest = rest
either_right (Some row) b number first rest = first
