-- The lines of a text, and their statements one after another.
use Rattle.std.proofs.Common.{◌≡◌, ◌<◌, ◌≤◌, ◌+◌, ◌==◌, ℕ, zero, suc, Bool, true, false, not, cond, List, [], ◌∷◌, length, get_or, set, Option, Some, None, Ok, Err, refl, ap, sym, ◌∙◌, arith}
use Rattle.std.specs.List.{list_any, slice_split, before_first, after_first}
use Rattle.std.specs.Str.Lines.{lines, lines_of_parts, strip_carriage_return}
use Rattle.std.proofs.lemmas.Bool.{ne_eqb}
use Rattle.std.proofs.lemmas.List.Splits.{length-slice_split}
use Rattle.br_model.specs.Answer.{IsRefusal}
use Rattle.br_model.specs.Text.{is_empty}
use Rattle.br_model.specs.Bootstrap.{Group}
use Rattle.br_model.specs.BootstrapText.{Statement, change_last, with_statement, read_line, read_lines}
use Rattle.br_bsr.specs.Fault.{at_line}
use Rattle.br_bsr.proofs.ItemLaws.{split_at_first, split_nowhere}

-- ---- the first line

abbrev is_end : ℕ → Bool
is_end b = b == 10

parts_more : (x : List ℕ) (parts : List (List ℕ)) → 0 < length parts → lines_of_parts (x ∷ parts) ≡ strip_carriage_return x ∷ lines_of_parts parts
parts_more x [] some = absurd (omega arith)
parts_more x (y ∷ more) some = refl

pub first_ended : (text line rest : List ℕ) → list_any is_end text ≡ true → line ≡ strip_carriage_return (before_first is_end text)
    → rest ≡ after_first is_end text → lines text ≡ line ∷ lines rest
first_ended text line rest some front back =
    ap lines_of_parts (split_at_first is_end text some)
    ∙ parts_more (before_first is_end text) (slice_split is_end (after_first is_end text)) (omega (arith, length-slice_split is_end (after_first is_end text)))
    ∙ ap (λ (l : List ℕ). l ∷ lines (after_first is_end text)) (sym front) ∙ ap (λ (r : List ℕ). line ∷ lines r) (sym back)

last_part : (x : List ℕ) (empty : Bool) → empty ≡ false → cond empty [] (x ∷ []) ≡ x ∷ []
last_part x empty e = rw e refl

pub first_open : (text rest : List ℕ) → list_any is_end text ≡ false → 0 < length text → rest ≡ [] → lines text ≡ text ∷ lines rest
first_open text rest none some e =
    ap lines_of_parts (split_nowhere is_end text none) ∙ last_part text (length text == 0) (ne_eqb (length text) 0 (λ z. omega (arith, z)))
    ∙ ap (λ (r : List ℕ). text ∷ lines r) (sym e)

-- ---- a line and the lines after it

pub line_said : (n : ℕ) (groups : List Group) (has_volume : Bool) (text : List ℕ) (more : List (List ℕ)) (s : Statement) → has_volume ≡ not (is_empty groups)
    → read_line has_volume text ≡ Ok s → read_lines n groups (text ∷ more) ≡ read_lines (n + 1) (with_statement groups s) more
unfolding read_lines
line_said n groups has_volume text more s has e = rw (ap (λ b. read_line b text) (sym has) ∙ e) refl

line_refused : (n : ℕ) (groups : List Group) (has_volume : Bool) (text : List ℕ) (more : List (List ℕ)) (number : ℕ) → has_volume ≡ not (is_empty groups)
    → read_line has_volume text ≡ Err number → read_lines n groups (text ∷ more) ≡ Err (record { number = number; line = n })
unfolding read_lines
line_refused n groups has_volume text more number has e = rw (ap (λ b. read_line b text) (sym has) ∙ e) refl

pub lines_refused : (n : ℕ) (groups : List Group) (has_volume : Bool) (text : List ℕ) (more : List (List ℕ)) (e : Option ℕ) → has_volume ≡ not (is_empty groups)
    → IsRefusal e (read_line has_volume text) → IsRefusal (at_line n e) (read_lines n groups (text ∷ more))
lines_refused n groups has_volume text more None has h = tt
lines_refused n groups has_volume text more (Some number) has h = line_refused n groups has_volume text more number has h

pub lines_over : (n : ℕ) (groups : List Group) (rest : List ℕ) → length rest ≡ 0 → read_lines n groups (lines rest) ≡ Ok groups
unfolding read_lines
lines_over n groups [] none = refl
lines_over n groups (x ∷ rest) none = absurd (omega arith)

-- ---- the last group changed

pub last_changed : (f : Group → Group) (groups : List Group) (i : ℕ) (x y : Group) → i + 1 ≡ length groups → x ≡ get_or groups i x → y ≡ f x
    → set groups i y ≡ change_last f groups
last_changed f [] i x y place is e = absurd (omega arith)
last_changed f (g ∷ []) zero x y place is e = ap (λ (z : Group). z ∷ []) (e ∙ ap f is)
last_changed f (g ∷ []) (suc i) x y place is e = absurd (omega arith)
last_changed f (g ∷ h ∷ more) zero x y place is e = absurd (omega arith)
last_changed f (g ∷ h ∷ more) (suc i) x y place is e =
    ap (λ (gs : List Group). g ∷ gs) (last_changed f (h ∷ more) i x y (omega arith) is e)

pub none_changed : (f : Group → Group) (groups : List Group) → length groups ≤ 0 → groups ≡ change_last f groups
none_changed f [] none = refl
none_changed f (g ∷ more) none = absurd (omega arith)
