-- Answers in the slots of their pieces.
use Rattle.std.proofs.Common.{◌≡◌, ℕ, zero, suc, List, [], ◌∷◌, ◌++◌, length, slice_set, Option, Some, refl, ap, ◌∙◌}
use Rattle.br_pool.specs.Workers.{Answer}
use Rattle.br_pool.specs.Slots.{with_each}

pub with_each_append : (slots : List (Option Answer)) (xs ys : List (ℕ × Answer)) → with_each slots (xs ++ ys) ≡ with_each (with_each slots xs) ys
with_each_append slots [] ys = refl
with_each_append slots (x ∷ xs) ys = with_each_append (slice_set slots x.0 (Some x.1)) xs ys

pub length_set : {X : Type 0} (xs : List X) (i : ℕ) (x : X) → length (slice_set xs i x) ≡ length xs
length_set [] i x = refl
length_set (y ∷ ys) zero x = refl
length_set (y ∷ ys) (suc i) x = ap suc (length_set ys i x)

pub length_with_each : (slots : List (Option Answer)) (xs : List (ℕ × Answer)) → length (with_each slots xs) ≡ length slots
length_with_each slots [] = refl
length_with_each slots (x ∷ xs) = length_with_each (slice_set slots x.0 (Some x.1)) xs ∙ length_set slots x.0 (Some x.1)
