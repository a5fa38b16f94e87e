-- A path cut after its last slash.
use Rattle.std.proofs.Common.{◌≡◌, ◌+◌, ◌<◌, ℕ, zero, suc, None, Some, slice_index, arith, List, [], ◌∷◌, ◌++◌, length, take, drop, Bool, true, false, cond, ◌||◌, refl, sym, ap, ◌∙◌, length-append}
use Rattle.std.proofs.lemmas.Bool.{false_from_ne_true}
use Rattle.std.specs.List.{list_any}
use Rattle.bstr.specs.Find.{IsLastByte, is_byte}
use Rattle.br_model.specs.Name.{is_slash}
use Rattle.br_catalog_rows.specs.Decode.{front, rest}

-- the path is its front and its rest
pub cut_joins : (p : List ℕ) → front p ++ rest p ≡ p
unfolding front rest
cut_joins [] = refl
cut_joins (c ∷ cs) = go (list_any is_slash (c ∷ cs)) (cut_joins cs)
  where
    go : (b : Bool) → front cs ++ rest cs ≡ cs → cond b (c ∷ front cs) [] ++ cond b (rest cs) (c ∷ cs) ≡ c ∷ cs
    go true is = ap (λ l. c ∷ l) is
    go false is = refl

none_front : (p : List ℕ) → list_any is_slash p ≡ false → front p ≡ []
unfolding front
none_front [] h = refl
none_front (x ∷ p) h = rw h refl

-- a path without a slash
none_any : (p : List ℕ) → ((j : ℕ) → j < length p → is_slash (slice_index p j) ≡ false) → list_any is_slash p ≡ false
none_any [] none = refl
none_any (x ∷ p) none = ap (λ (b : Bool). b || list_any is_slash p) (none 0 (omega arith)) ∙ none_any p (λ j less. none (suc j) (omega (arith, less)))

any_at : (p : List ℕ) (k : ℕ) → k < length p → is_slash (slice_index p k) ≡ true → list_any is_slash p ≡ true
any_at [] k less is = absurd (omega arith)
any_at (x ∷ p) zero less is = ap (λ (b : Bool). b || list_any is_slash p) is
any_at (x ∷ p) (suc k) less is = go (is_slash x) (any_at p k (omega (arith, less)) is)
  where
    go : (b : Bool) → list_any is_slash p ≡ true → (b || list_any is_slash p) ≡ true
    go true e = refl
    go false e = e

-- the front ends at the last slash
ends_at : (p : List ℕ) (k : ℕ) → k < length p → is_slash (slice_index p k) ≡ true → ((j : ℕ) → k < j → j < length p → is_slash (slice_index p j) ≡ false)
    → length (front p) ≡ k + 1
unfolding front
ends_at [] k less is after = absurd (omega arith)
ends_at (x ∷ p) zero less is after =
    let none : front p ≡ [] = none_front p (none_any p (λ j below. after (suc j) (omega arith) (omega (arith, below)))) in
    ap (λ (b : Bool). length (cond (b || list_any is_slash p) (x ∷ front p) [])) is ∙ ap (λ (l : List ℕ). length (x ∷ l)) none
ends_at (x ∷ p) (suc k) less is after =
    let some : list_any is_slash p ≡ true = any_at p k (omega (arith, less)) is in
    let more : length (front p) ≡ k + 1 = ends_at p k (omega (arith, less)) is (λ j above below. after (suc j) (omega (arith, above)) (omega (arith, below))) in
    ap (λ (b : Bool). length (cond (is_slash x || b) (x ∷ front p) [])) some ∙ go (is_slash x) more
  where
    go : (b : Bool) → length (front p) ≡ k + 1 → length (cond (b || true) (x ∷ front p) []) ≡ suc k + 1
    go true e = omega (arith, e)
    go false e = omega (arith, e)

-- where the kit finds the last slash
pub front_last : (p : List ℕ) (k : ℕ) → IsLastByte (is_byte 47) p (Some k) → length (front p) ≡ k + 1
front_last p k found = ends_at p k found.0.high found.1 (λ j above below. false_from_ne_true _ (found.0.after j (omega (arith, above)) below))

-- where it finds none
pub front_never : (p : List ℕ) → IsLastByte (is_byte 47) p None → length (front p) ≡ 0
front_never p never = ap length (none_front p (none_any p (λ j less. false_from_ne_true _ (never j (omega arith) less))))

take_front : (a b : List ℕ) → take (length a) (a ++ b) ≡ a
take_front [] b = refl
take_front (x ∷ a) b = ap (λ l. x ∷ l) (take_front a b)

drop_front : (a b : List ℕ) → drop (length a) (a ++ b) ≡ b
drop_front [] b = refl
drop_front (x ∷ a) b = drop_front a b

pub front_is : (p : List ℕ) → take (length (front p)) p ≡ front p
front_is p = ap (take (length (front p))) (sym (cut_joins p)) ∙ take_front (front p) (rest p)

pub rest_is : (p : List ℕ) → drop (length (front p)) p ≡ rest p
rest_is p = ap (drop (length (front p))) (sym (cut_joins p)) ∙ drop_front (front p) (rest p)

pub front_short : (p : List ℕ) → length (front p) + length (rest p) ≡ length p
front_short p = sym (length-append (front p) (rest p)) ∙ ap length (cut_joins p)
