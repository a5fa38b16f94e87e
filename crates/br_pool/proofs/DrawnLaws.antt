-- The numbers that a worker draws.
use Rattle.std.proofs.Common.{◌≡◌, ℕ, ◌<◌, List, [], ◌∷◌, ◌++◌, map, length, ap, sym, subst, ◌∙◌}
use Rattle.std.specs.List.{AllByRecursion}
use Rattle.br_pool.specs.Workers.{Answer, number_at, numbers_of}
use Rattle.br_pool.proofs.ListLaws.{all_at, map_more}

-- the number drawn is that of a piece
pub below_at : (n : ℕ) (left : List ℕ) (place number : ℕ) → AllByRecursion (λ (x : ℕ). x < n) left → place < length left → number ≡ number_at left place → number < n
below_at n left place number all low e = subst (λ m. m < n) (sym e) (all_at (λ (x : ℕ). x < n) left place 0 low all)

-- the numbers after one more answer
pub one_more : (left : List ℕ) (place number : ℕ) (a : Answer) (drawn : List ℕ) (before after : List (ℕ × Answer)) → after ≡ before ++ (number, a) ∷ [] → number ≡ number_at left place
    → numbers_of before ≡ map (number_at left) drawn → numbers_of after ≡ map (number_at left) (drawn ++ place ∷ [])
one_more left place number a drawn before after e is so =
    ap numbers_of e ∙ map_more (λ (x : ℕ × Answer). x.0) before (number, a) ∙ ap (λ (l : List ℕ). l ++ number ∷ []) so
    ∙ ap (λ (n : ℕ). map (number_at left) drawn ++ n ∷ []) is ∙ sym (map_more (number_at left) drawn place)
