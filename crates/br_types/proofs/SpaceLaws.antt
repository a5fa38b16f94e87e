-- The first byte of a kind.
use Rattle.std.proofs.Common.{◌≡◌, ◌∙◌, ◌==◌, ℕ, cond, List, length, Option, Some, None, refl, sym, arith}
use Rattle.std.specs.Prelude.{◌<◌, IfSome, nat_lt, position}
use Rattle.std.specs.List.{position_or_len}
use Rattle.std.proofs.lemmas.Bool.{le-ltb, lt-ltb, false_from_ne_true}
use Rattle.std.proofs.lemmas.List.Sums.{position_or_len_is}
use Rattle.bstr.specs.Find.{IsFirstByte, is_byte}

placed : (end : ℕ) (text : List ℕ) (k : ℕ) → position_or_len (λ c. c == end) text ≡ k
    → position (λ c. c == end) text ≡ cond (nat_lt k (length text)) (Some k) None
placed end text k e = rw e refl

-- what `find_byte` finds
pub first_place : (end : ℕ) (text : List ℕ) (r : Option ℕ) → IsFirstByte (is_byte end) text r → r ≡ position (λ c. c == end) text
first_place end text None never =
    let here : position_or_len (λ c. c == end) text ≡ length text =
    position_or_len_is (λ c. c == end) text (length text) 0 (omega arith) (λ k less. false_from_ne_true _ (never k (omega arith) less)) (λ less. absurd (omega (arith, less))) in
    sym (placed end text (length text) here ∙ rw (le-ltb (length text) (length text) (omega arith)) refl)
first_place end text (Some k) found =
    let here : position_or_len (λ c. c == end) text ≡ k =
    position_or_len_is (λ c. c == end) text k 0 (omega (arith, found.0.high)) (λ j less. false_from_ne_true _ (found.0.before j (omega arith) less)) (λ less. found.1) in
    sym (placed end text k here ∙ rw (lt-ltb k (length text) found.0.high) refl)

-- it is inside of the text
pub first_within : (end : ℕ) (text : List ℕ) (r : Option ℕ) → IsFirstByte (is_byte end) text r → IfSome r (λ k. k < length text)
first_within end text None never = tt
first_within end text (Some k) found = found.0.high
