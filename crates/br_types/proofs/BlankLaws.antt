-- The first blank of a text, and its first byte that is none.
use Rattle.std.proofs.Common.{◌≡◌, ℕ, ◌<◌, ◌≤◌, Bool, true, false, not, cond, List, [], ◌∷◌, length, take, drop, ◌-◌, get_or, Option, Some, None, refl, sym, ap, ◌∙◌, arith}
use Rattle.std.specs.Prelude.{nat_lt, position}
use Rattle.std.specs.List.{position_or_len}
use Rattle.std.proofs.lemmas.Bool.{le-ltb, lt-ltb, false_from_ne_true}
use Rattle.std.proofs.lemmas.Bool.Decides.{nat_tests}
use Rattle.std.proofs.lemmas.Grind.{common_steps}
use Rattle.std.proofs.lemmas.List.Sums.{position_or_len_is, prefix_len_is}
use Rattle.bstr.specs.Find.{IsFirstByte}
use Rattle.bstr.specs.Bytes.{is_in, not_in}
use Rattle.br_model.specs.Text.{is_blank, trim_front}

-- the set of the blanks
blank_in_set : (x : ℕ) → is_in (32 ∷ 9 ∷ []) x ≡ is_blank x
unfolding is_in
blank_in_set x = grind (arith, nat_tests)

placed : (text : List ℕ) (k : ℕ) → position_or_len is_blank text ≡ k → position is_blank text ≡ cond (nat_lt k (length text)) (Some k) None
placed text k e = rw e refl

-- what `find_byteset` finds
pub first_blank : (text : List ℕ) (r : Option ℕ) → IsFirstByte (is_in (32 ∷ 9 ∷ [])) text r → r ≡ position is_blank text
first_blank text None never =
    let here : position_or_len is_blank text ≡ length text =
    position_or_len_is is_blank text (length text) 0 (omega arith) (λ k less. sym (blank_in_set _) ∙ false_from_ne_true _ (never k (omega arith) less)) (λ less. absurd (omega (arith, less))) in
    sym (placed text (length text) here ∙ rw (le-ltb (length text) (length text) (omega arith)) refl)
first_blank text (Some k) found =
    let here : position_or_len is_blank text ≡ k =
    position_or_len_is is_blank text k 0 (omega (arith, found.0.high)) (λ j less. sym (blank_in_set _) ∙ false_from_ne_true _ (found.0.before j (omega arith) less)) (λ less. sym (blank_in_set _) ∙ found.1) in
    sym (placed text k here ∙ rw (lt-ltb k (length text) found.0.high) refl)

front_at : (text : List ℕ) (k : ℕ) → k ≤ length text → ((j : ℕ) → j < k → is_blank (get_or text j 0) ≡ true) → (k < length text → is_blank (get_or text k 0) ≡ false) → trim_front is_blank text ≡ drop k text
unfolding trim_front
front_at text k fits blank other = ap (λ n. drop n text) (prefix_len_is is_blank text k 0 fits blank other)

is_true : (b : Bool) → ¬ (not b ≡ true) → b ≡ true
is_true true never = refl
is_true false never = absurd (never refl)

is_false : (b : Bool) → not b ≡ true → b ≡ false
is_false true passes = sym passes
is_false false passes = refl

rest_is : (text : List ℕ) (k : ℕ) → k < length text → take (length text - k) (drop k text) ≡ drop k text
rest_is text k below = grind (arith, common_steps)

-- the text from the first byte that is no blank
pub front_found : (text : List ℕ) (k : ℕ) → IsFirstByte (not_in (32 ∷ 9 ∷ [])) text (Some k) → trim_front is_blank text ≡ take (length text - k) (drop k text)
front_found text k found =
    front_at text k (omega (arith, found.0.high)) (λ j less. sym (blank_in_set _) ∙ is_true _ (found.0.before j (omega arith) less)) (λ less. sym (blank_in_set _) ∙ is_false _ found.1)
    ∙ sym (rest_is text k found.0.high)

-- all bytes are blanks
pub front_missing : (text : List ℕ) → IsFirstByte (not_in (32 ∷ 9 ∷ [])) text None → trim_front is_blank text ≡ []
front_missing text never =
    front_at text (length text) (omega arith) (λ j less. sym (blank_in_set _) ∙ is_true _ (never j (omega arith) less)) (λ less. absurd (omega (arith, less)))
    ∙ none
  where
    none : drop (length text) text ≡ []
    none = grind (arith, common_steps)
