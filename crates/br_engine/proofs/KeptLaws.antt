-- The elements of a list that are left by their flags.
use Rattle.std.proofs.Common.{◌≡◌, if◌then◌else◌, Bool, true, false, List, [], ◌∷◌, length, drop, map, arith, refl, ap, ◌∙◌}
use Rattle.std.specs.List.{items_where_true, filter}
use Rattle.std.specs.List.Retain.{ReturnsInTurn, IsFiltered}
use Rattle.br_engine.specs.NewestFlags.{front_flag}

module _ {X P : Type 0} (R : P → X → Bool → P → Type 0) (left : P → List Bool) (says : (p : P) (x : X) (b : Bool) (q : P) → R p x b q → (b ≡ front_flag (left p)) × (left q ≡ drop 1 (left p))) where
  one : (x : X) (xs : List X) (b : Bool) (bs flags : List Bool) → b ≡ front_flag flags → items_where_true bs xs ≡ items_where_true (drop 1 flags) xs
      → items_where_true (b ∷ bs) (x ∷ xs) ≡ items_where_true flags (x ∷ xs)
  one x xs true bs [] e rest = absurd cc
  one x xs false bs [] e rest = rest
  one x xs true bs (true ∷ flags) e rest = ap (λ ys. x ∷ ys) rest
  one x xs true bs (false ∷ flags) e rest = absurd cc
  one x xs false bs (true ∷ flags) e rest = absurd cc
  one x xs false bs (false ∷ flags) e rest = rest

  told : (p q : P) (bs : List Bool) (xs : List X) → length bs ≡ length xs → ReturnsInTurn R p bs xs q → items_where_true bs xs ≡ items_where_true (left p) xs
  told p q [] [] e h = empty (left p)
    where
      empty : (flags : List Bool) → items_where_true {X = X} [] [] ≡ items_where_true flags []
      empty [] = refl
      empty (b ∷ flags) = refl
  told p q [] (x ∷ xs) e h = absurd (omega arith)
  told p q (b ∷ bs) [] e h = absurd h
  told p q (b ∷ bs) (x ∷ xs) e h =
      let said = says p x b h.0 h.1 in
      one x xs b bs (left p) said.0 (told h.0 q bs xs (omega arith) h.2 ∙ ap (λ flags. items_where_true flags xs) said.1)

  -- a test that gives one flag after the other leaves the flagged elements
  pub flagged_are_left : (p : P) (xs ys : List X) → IsFiltered R p xs ys → ys ≡ items_where_true (left p) xs
  flagged_are_left p xs ys h = h.4 ∙ told p h.1 h.0 xs h.2 h.3

-- flags that a test gives leave what passes it
pub flagged_pass : {X Y : Type 0} (f : X → Y) (test : Y → Bool) (xs : List X) → map f (items_where_true (map (λ x. test (f x)) xs) xs) ≡ filter test (map f xs)
flagged_pass f test [] = refl
flagged_pass f test (x ∷ xs) = go (test (f x)) (flagged_pass f test xs)
  where
    go : (b : Bool) → map f (items_where_true (map (λ x. test (f x)) xs) xs) ≡ filter test (map f xs)
        → map f (items_where_true (b ∷ map (λ x. test (f x)) xs) (x ∷ xs)) ≡ (if b then f x ∷ filter test (map f xs) else filter test (map f xs))
    go true rest = ap (λ ys. f x ∷ ys) rest
    go false rest = rest
