-- The numbers of files, compared one after another.
use Rattle.std.proofs.Common.{◌≡◌, ◌&&◌, Bool, true, false, List, [], ◌∷◌, length, arith, refl, ap, sym, ◌∙◌}
use Rattle.std.specs.Prelude.{ℤ}
use Rattle.std.specs.Ordering.{int_eq}
use Rattle.std.proofs.lemmas.Bool.{and_parts}
use Rattle.std.proofs.lemmas.Bool.Decides.{Decides-int_eq}
use Rattle.br_model.specs.Attribute.{Stat, stat_from, stat_numbers}

-- whether numbers are the same, compared one after another
abbrev are_same : List ℤ → List ℤ → Bool
are_same [] ys = true
are_same (x ∷ xs) [] = false
are_same (x ∷ []) (y ∷ ys) = int_eq x y
are_same (x ∷ z ∷ xs) (y ∷ ys) = int_eq x y && are_same (z ∷ xs) ys

same_itself : (xs : List ℤ) → are_same xs xs ≡ true
same_itself [] = refl
same_itself (x ∷ []) = (Decides-int_eq x x).1 refl
same_itself (x ∷ z ∷ xs) = λ i. (Decides-int_eq x x).1 refl i && same_itself (z ∷ xs) i

-- two lists with the same number of numbers; the first has at least one
same_numbers : (x y : ℤ) (xs ys : List ℤ) → are_same (x ∷ xs) (y ∷ ys) ≡ true → length xs ≡ length ys → x ∷ xs ≡ y ∷ ys
same_numbers x y [] [] same many = ap (λ z. z ∷ []) ((Decides-int_eq x y).0 same)
same_numbers x y [] (b ∷ ys) same many = absurd (omega (arith, many))
same_numbers x y (a ∷ xs) [] same many = absurd (omega (arith, many))
same_numbers x y (a ∷ xs) (b ∷ ys) same many =
    let p = and_parts (int_eq x y) (are_same (a ∷ xs) (b ∷ ys)) same in
    let rest = same_numbers a b xs ys p.1 (omega (arith, many)) in
    λ i. (Decides-int_eq x y).0 p.0 i ∷ rest i

-- the numbers of a file decide it
from_numbers : (s : Stat) → stat_from (stat_numbers s) ≡ s
unfolding stat_from
from_numbers s = refl

pub same_stat : (a b : Stat) → are_same (stat_numbers a) (stat_numbers b) ≡ true → a ≡ b
same_stat a b same = sym (from_numbers a) ∙ ap stat_from (same_numbers a.dev b.dev _ _ same refl) ∙ from_numbers b

pub stat_itself : (a b : Stat) → a ≡ b → are_same (stat_numbers a) (stat_numbers b) ≡ true
stat_itself a b e = ap (λ (s : Stat). are_same (stat_numbers a) (stat_numbers s)) (sym e) ∙ same_itself (stat_numbers a)
