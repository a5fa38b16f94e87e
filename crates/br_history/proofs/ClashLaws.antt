-- Lists in which no element clashes with a later one, read from the front.
use Rattle.std.proofs.Common.{◌≡◌, ℕ, zero, suc, ◌+◌, ◌<◌, Bool, true, false, not, ◌&&◌, ◌||◌, List, [], ◌∷◌, ◌++◌, take, length, get_or, refl, sym, ap, ◌∙◌, inl, inr, arith}
use Rattle.std.proofs.lemmas.Bool.{and_from, or_cases}
use Rattle.std.proofs.lemmas.List.{take_more}
use Rattle.std.proofs.lemmas.List.Folds.{list_any-append, list_any_at}
use Rattle.std.specs.List.{list_any}
use Rattle.br_model.specs.Job.{no_pair}

shuffle : (a b c d : Bool) → (not (a || (b || false)) && (c && not d)) ≡ ((not a && c) && not (b || d))
shuffle true b c d = refl
shuffle false true true d = refl
shuffle false true false d = refl
shuffle false false true d = refl
shuffle false false false d = refl

-- with one more at the end, that one is compared with all before it
pub no_pair_push : {X : Type 0} (clash : X → X → Bool) (xs : List X) (x : X) → no_pair clash (xs ++ x ∷ []) ≡ (no_pair clash xs && not (list_any (λ y. clash y x) xs))
unfolding no_pair
no_pair_push clash [] x = refl
no_pair_push clash (y ∷ ys) x =
    ap (λ b. not b && no_pair clash (ys ++ x ∷ [])) (list_any-append (clash y) ys (x ∷ []))
    ∙ ap (λ b. not (list_any (clash y) ys || (clash y x || false)) && b) (no_pair_push clash ys x)
    ∙ shuffle (list_any (clash y) ys) (clash y x) (no_pair clash ys) (list_any (λ z. clash z x) ys)

-- where the next element clashes with none before it
pub no_pair_more : {X : Type 0} (clash : X → X → Bool) (xs : List X) (i : ℕ) (x : X) → i < length xs → x ≡ get_or xs i x → no_pair clash (take i xs) ≡ true
    → list_any (λ y. clash y x) (take i xs) ≡ false → no_pair clash (take (i + 1) xs) ≡ true
no_pair_more clash xs i x lt is before none =
    ap (no_pair clash) (take_more xs i x lt ∙ ap (λ y. take i xs ++ y ∷ []) (sym is)) ∙ no_pair_push clash (take i xs) x ∙ and_from _ _ before (ap not none)

first_clash : (b c : Bool) → b ≡ true → (not b && c) ≡ false
first_clash true c e = refl
first_clash false c e = absurd cc

later_clash : (b c : Bool) → c ≡ false → (b && c) ≡ false
later_clash true c e = e
later_clash false c e = refl

-- where the next element clashes with one before it
pub pair_found : {X : Type 0} (clash : X → X → Bool) (xs : List X) (i : ℕ) (x : X) → i < length xs → x ≡ get_or xs i x
    → list_any (λ y. clash y x) (take i xs) ≡ true → no_pair clash xs ≡ false
unfolding no_pair
pair_found clash [] i x lt is some = absurd (omega arith)
pair_found clash (y ∷ ys) zero x lt is some = absurd cc
pair_found clash (y ∷ ys) (suc i) x lt is some =
    elim (or_cases (clash y x) (list_any (λ z. clash z x) (take i ys)) some) [
      | inl here ↦ first_clash (list_any (clash y) ys) (no_pair clash ys) (list_any_at (clash y) ys i x (omega arith) (ap (clash y) (sym is) ∙ here))
      | inr there ↦ later_clash (not (list_any (clash y) ys)) (no_pair clash ys) (pair_found clash ys i x (omega arith) is there)
    ]
