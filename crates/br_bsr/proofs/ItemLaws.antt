-- Items between commas.
use Rattle.std.proofs.Common.{◌≡◌, ◌<◌, ℕ, Bool, true, false, ltb, List, [], ◌∷◌, ◌++◌, length, Result, Ok, Err, refl, ap, sym, ◌∙◌, arith}
use Rattle.std.specs.List.{list_any, slice_split, position_or_len, before_first, after_first}
use Rattle.std.proofs.lemmas.Bool.Decides.{nat_tests}
use Rattle.std.proofs.lemmas.List.{append_assoc}
use Rattle.std.proofs.lemmas.List.Splits.{slice_split_first}
use Rattle.br_model.specs.Answer.{◌>>=◌}
use Rattle.br_model.specs.Bootstrap as model
use Rattle.br_model.specs.BootstrapText.{is_comma, read_item, read_items}
use Rattle.br_bsr.specs.Statement.{behind}
use Rattle.br_bsr.proofs.ScanLaws.{any_is_place}
use Rattle.std.proofs.lemmas.Bool.{or_parts}

within : (n m : ℕ) → ltb n m ≡ true → n < m
within n m e = grind (arith, nat_tests)

-- the part before the first byte that passes, and the parts after it
pub split_at_first : {X : Type 0} (p : X → Bool) (xs : List X) → list_any p xs ≡ true
    → slice_split p xs ≡ before_first p xs ∷ slice_split p (after_first p xs)
split_at_first p [] e = absurd cc
split_at_first p (x ∷ xs) e =
    slice_split_first p (x ∷ xs) x (within (position_or_len p (x ∷ xs)) (length (x ∷ xs)) (sym (any_is_place p (x ∷ xs)) ∙ e))

-- one part, if no byte passes
pub split_nowhere : {X : Type 0} (p : X → Bool) (xs : List X) → list_any p xs ≡ false → slice_split p xs ≡ xs ∷ []
split_nowhere p [] e = refl
split_nowhere p (x ∷ xs) e =
    let parts = or_parts (p x) (list_any p xs) e in
    let rest : slice_split p xs ≡ xs ∷ [] = split_nowhere p xs parts.1 in
    rw (parts.0, rest) refl

behind_more : (ranges : List model.Range) (r : model.Range) (rest : Result (List model.Range) ℕ)
    → behind ranges (rest >>= (λ rs. Ok (r ∷ rs))) ≡ behind (ranges ++ r ∷ []) rest
behind_more ranges r (Ok more) = ap Ok (sym (append_assoc ranges (r ∷ []) more))
behind_more ranges r (Err e) = refl

pub items_go_on : (c : model.Criterion) (ranges : List model.Range) (item : List ℕ) (items : List (List ℕ)) (r : model.Range)
    → read_item c item ≡ Ok r → behind ranges (read_items c (item ∷ items)) ≡ behind (ranges ++ r ∷ []) (read_items c items)
unfolding read_items
items_go_on c ranges item items r e = rw e (behind_more ranges r (read_items c items))

pub items_refused : (c : model.Criterion) (ranges : List model.Range) (item : List ℕ) (items : List (List ℕ)) (n : ℕ)
    → read_item c item ≡ Err n → behind ranges (read_items c (item ∷ items)) ≡ Err n
unfolding read_items
items_refused c ranges item items n e = rw e refl

pub items_end : (c : model.Criterion) (ranges : List model.Range) (item : List ℕ) (r : model.Range)
    → read_item c item ≡ Ok r → behind ranges (read_items c (item ∷ [])) ≡ Ok (ranges ++ r ∷ [])
unfolding read_items
items_end c ranges item r e = rw e refl

-- ---- one item of a text, and what follows it

pub one_more : (c : model.Criterion) (ranges : List model.Range) (rest item items : List ℕ) (r : model.Range) → list_any is_comma rest ≡ true
    → item ≡ before_first is_comma rest → items ≡ after_first is_comma rest → read_item c item ≡ Ok r
    → behind ranges (read_items c (slice_split is_comma rest)) ≡ behind (ranges ++ r ∷ []) (read_items c (slice_split is_comma items))
one_more c ranges rest item items r any front back e =
    ap (λ parts. behind ranges (read_items c parts)) (split_at_first is_comma rest any)
    ∙ items_go_on c ranges (before_first is_comma rest) (slice_split is_comma (after_first is_comma rest)) r (ap (read_item c) (sym front) ∙ e)
    ∙ ap (λ text. behind (ranges ++ r ∷ []) (read_items c (slice_split is_comma text))) (sym back)

pub refused_here : (c : model.Criterion) (ranges : List model.Range) (rest item : List ℕ) (n : ℕ) → list_any is_comma rest ≡ true
    → item ≡ before_first is_comma rest → read_item c item ≡ Err n → behind ranges (read_items c (slice_split is_comma rest)) ≡ Err n
refused_here c ranges rest item n any front e =
    ap (λ parts. behind ranges (read_items c parts)) (split_at_first is_comma rest any)
    ∙ items_refused c ranges (before_first is_comma rest) (slice_split is_comma (after_first is_comma rest)) n (ap (read_item c) (sym front) ∙ e)

pub last_item : (c : model.Criterion) (ranges : List model.Range) (rest : List ℕ) (r : model.Range) → list_any is_comma rest ≡ false
    → read_item c rest ≡ Ok r → behind ranges (read_items c (slice_split is_comma rest)) ≡ Ok (ranges ++ r ∷ [])
last_item c ranges rest r none e =
    ap (λ parts. behind ranges (read_items c parts)) (split_nowhere is_comma rest none) ∙ items_end c ranges rest r e

pub last_refused : (c : model.Criterion) (ranges : List model.Range) (rest : List ℕ) (n : ℕ) → list_any is_comma rest ≡ false
    → read_item c rest ≡ Err n → behind ranges (read_items c (slice_split is_comma rest)) ≡ Err n
last_refused c ranges rest n none e =
    ap (λ parts. behind ranges (read_items c parts)) (split_nowhere is_comma rest none) ∙ items_refused c ranges rest [] n e
