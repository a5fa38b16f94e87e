-- Flags that are all true.
use Rattle.std.proofs.Common.{◌≡◌, true, List, [], ◌∷◌, length, refl, ap}
use Rattle.std.specs.Prelude.{replicate}
use Rattle.std.specs.List.{items_where_true}

-- they leave all elements
pub all_stay : {X : Type 0} (xs : List X) → items_where_true (replicate (length xs) true) xs ≡ xs
all_stay [] = refl
all_stay (x ∷ xs) = ap (λ (ys : List _). x ∷ ys) (all_stay xs)
