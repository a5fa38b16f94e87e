-- What a chain that ends in `reduce` gives, if its closure returns by what the items show.
use Rattle.std.proofs.Common.{◌≡◌, List, [], ◌∷◌, map, Option, Some, None, sym, ap, subst, ◌∙◌}
use Rattle.std.proofs.lemmas.Iterator.{YieldsList, items_from_drains}
use Rattle.std.specs.Prelude.{option_map}
use Rattle.std.specs.Iterator.{Drains, DrainsIf, FoldTurn, ReducesItems}
use Rattle.std.specs.Fn.{Called}
use Rattle.std.specs.List.{FoldsTo, fold, reduce}
use denote.Param.Members.{Mut}

folded : {A B F : Type 0} (g : Mut F (A × (A × Unit {0})) A) (v : A → B) (h : B → B → B) (f : F)
    → ((a x b : A) (q : F) → Called g f (a, (x, tt)) b q → (q ≡ f) × (v b ≡ h (v a) (v x))) → (a : A) (xs : List A) (last : F) (y : A)
    → FoldsTo {P = F × A} (FoldTurn g) (f, a) xs (last, y) → v y ≡ fold h (v a) (map v xs)
folded {A} {B} {F} g v h f each a [] last y e = ap (λ (p : F × A). v p.1) (sym e)
folded {A} {B} {F} g v h f each a (x ∷ xs) last y (j, turn, rest) =
    let k = each a x j.1 j.0 turn in
    folded g v h f each j.1 xs last y (subst (λ q. FoldsTo {P = F × A} (FoldTurn g) (q, j.1) xs (last, y)) k.0 rest) ∙ ap (λ b. fold h b (map v xs)) k.1

drained : {S A : Type 0} (steps : S → Option A → S → Type 0) (s : S) (xs : List A) → Drains steps s xs → DrainsIf steps (Unit {0}) s xs
drained steps s xs d = (d.1.0, d.1.1, λ _. (d.0, d.1.2))

-- the items that a chain yields, reduced
pub reduced : {S A B F : Type 0} {steps : S → Option A → S → Type 0} {v : A → B} {g : Mut F (A × (A × Unit {0})) A} {all : List B} (h : B → B → B) (s : S) (f : F) (r : Option A)
    → ReducesItems steps g s f r → YieldsList steps v s all → ((a x b : A) (q : F) → Called g f (a, (x, tt)) b q → (q ≡ f) × (v b ≡ h (v a) (v x))) → option_map v r ≡ reduce h all
reduced {steps = steps} {v} h s f None ran road each = ap (reduce h) (items_from_drains [] (drained steps s [] ran) road)
reduced {steps = steps} {v} {g} h s f (Some y) (x, xs, last, drains, turns) road each =
    ap Some (folded g v h f each x xs last y turns) ∙ ap (reduce h) (items_from_drains (x ∷ xs) (drained steps s (x ∷ xs) drains) road)
