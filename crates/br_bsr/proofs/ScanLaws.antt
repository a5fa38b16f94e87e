-- The places at which a text is cut.
use Rattle.std.proofs.Common.{◌≡◌, ◌<◌, ◌≤◌, ◌+◌, ◌-◌, ◌||◌, ◌&&◌, ◌==◌, ℕ, suc, Bool, true, false, not, cond, ltb, Some, None, List, [], ◌∷◌, ◌++◌, length, take, drop, get_or, refl, add-one, append_assoc, drop-cons, sym, ◌∙◌, inl, inr, arith}
use Rattle.std.specs.Prelude.{position}
use Rattle.std.specs.List.{list_any, position_or_len, before_first}
use Rattle.std.proofs.lemmas.Bool.Decides.{nat_tests}
use Rattle.std.proofs.lemmas.Grind.{common_steps}
use Rattle.std.proofs.lemmas.List.{append-nil}
use Rattle.std.proofs.Math.Seq.{take-suc}
use Rattle.br_model.specs.BootstrapText.{before_comment}
use Rattle.br_model.proofs.AnswerLaws.{chosen}

any_cond : (b : Bool) (n m : ℕ) (t : Bool) → t ≡ ltb n m → (b || t) ≡ ltb (cond (not b) (1 + n) 0) (suc m)
any_cond true n m t e = grind (arith, nat_tests)
any_cond false n m t e = grind (arith, nat_tests)

pub any_is_place : {X : Type 0} (p : X → Bool) (xs : List X) → list_any p xs ≡ ltb (position_or_len p xs) (length xs)
any_is_place p [] = refl
any_is_place p (x ∷ xs) = any_cond (p x) (position_or_len p xs) (length xs) (list_any p xs) (any_is_place p xs)

-- the facts of a place that was found
pub record IsPlace {X : Type 0} (p : X → Bool) (xs : List X) (i : ℕ) : Type 0 where
  pub within : i < length xs
  pub any : list_any p xs ≡ true
  pub place : position_or_len p xs ≡ i

pub place_found : {X : Type 0} (p : X → Bool) (xs : List X) (i : ℕ) → position p xs ≡ Some i → IsPlace p xs i
place_found p xs i e =
    elim (chosen (ltb (position_or_len p xs) (length xs)) (Some (position_or_len p xs)) None (Some i) e) [
      | inl h ↦ let same : position_or_len p xs ≡ i = cc in record {
        within = grind (arith, nat_tests);
        any = any_is_place p xs ∙ h.0;
        place = same;
      }
      | inr h ↦ absurd cc
    ]

take_all_of : {X : Type 0} (xs : List X) (n : ℕ) → length xs ≤ n → take n xs ≡ xs
take_all_of xs n e = grind (arith, common_steps)

drop_all_of : {X : Type 0} (xs : List X) (n : ℕ) → length xs ≤ n → drop n xs ≡ []
drop_all_of xs n e = grind (arith, common_steps)

pub place_none : {X : Type 0} (p : X → Bool) (xs : List X) → position p xs ≡ None → (list_any p xs ≡ false) × (before_first p xs ≡ xs)
place_none p xs e =
    elim (chosen (ltb (position_or_len p xs) (length xs)) (Some (position_or_len p xs)) None None e) [
      | inl h ↦ absurd cc
      | inr h ↦ (any_is_place p xs ∙ h.0, take_all_of xs (position_or_len p xs) (grind (arith, nat_tests)))
    ]

-- ---- the last byte

pub last_apart : (rest : List ℕ) → 1 ≤ length rest → rest ≡ take (length rest - 1) rest ++ get_or rest (length rest - 1) 0 ∷ []
last_apart rest some = let below : length rest - 1 < length rest = omega arith in
    sym (take_all_of rest (suc (length rest - 1)) (omega arith)) ∙ take-suc rest (length rest - 1) 0 below

-- ---- a comment

pub comment_ends : (quoted : Bool) (text : List ℕ) (i : ℕ) → i < length text → get_or text i 0 ≡ 35 → quoted ≡ false
    → before_comment quoted (drop i text) ≡ []
unfolding before_comment
comment_ends quoted text i below sign free = rw (drop-cons text i 0, sign, free) refl

comment_step : (quoted : Bool) (c : ℕ) (front rest : List ℕ) → (c == 35 && not quoted) ≡ false
    → front ++ before_comment quoted (c ∷ rest) ≡ (front ++ c ∷ []) ++ before_comment (cond (c == 34) (not quoted) quoted) rest
unfolding before_comment
comment_step quoted c front rest other = rw other (sym (append_assoc front (c ∷ []) (before_comment (cond (c == 34) (not quoted) quoted) rest)))

pub comment_not_yet : (quoted : Bool) (text : List ℕ) (i : ℕ) → i < length text → (get_or text i 0 == 35 && not quoted) ≡ false
    → take i text ++ before_comment quoted (drop i text)
    ≡ take (i + 1) text ++ before_comment (cond (get_or text i 0 == 34) (not quoted) quoted) (drop (i + 1) text)
comment_not_yet quoted text i below other =
    rw (add-one, drop-cons text i 0, take-suc text i 0) (comment_step quoted (get_or text i 0) (take i text) (drop (suc i) text) other)

pub comment_done : (quoted : Bool) (text : List ℕ) (i : ℕ) → length text ≤ i → take i text ++ before_comment quoted (drop i text) ≡ text
unfolding before_comment
comment_done quoted text i past = rw (take_all_of text i past, drop_all_of text i past) (append-nil text)
