-- A joiner whose pieces are closed, one after the other.
use Rattle.std.proofs.Common.{◌≡◌, ℕ, zero, suc, ◌<◌, ◌+◌, List, [], ◌∷◌, ◌++◌, take, length, get_or, None, ap, sym, subst, ◌∙◌, arith}
use Rattle.std.proofs.lemmas.List.{take_more}
use Rattle.std.specs.Prelude.{Contains}
use Rattle.std.specs.FinMap.{get}
use Rattle.br_model.specs.Meaning.{Piece}
use Rattle.br_join.specs.Joining.{IsMadeFor, Joining, closed_each, with_closed}
use Rattle.br_join.proofs.ReadyLaws.{each_closed_is_made, each_closed_more, knows_piece}

-- the next piece of a list is closed after those before it
pub closed_step : (pieces : List Piece) (i : ℕ) (p : Piece) (first now next : Joining) (k : ℕ) → i < length pieces → p ≡ get_or pieces i p → k ≡ p.number
    → now ≡ closed_each first (take i pieces) → next ≡ with_closed now k → next ≡ closed_each first (take (i + 1) pieces)
closed_step pieces i p first now next k low at number so_far put =
    put ∙ (λ t. with_closed (so_far t) (number t)) ∙ sym (each_closed_more first (take i pieces) p)
    ∙ sym (ap (closed_each first) (take_more pieces i p low ∙ ap (λ (q : Piece). take i pieces ++ q ∷ []) (sym at)))

-- what is before it is in the list
taken_inside : (ps : List Piece) (n : ℕ) (q : Piece) → Contains (take n ps) q → Contains ps q
taken_inside [] zero q inside = inside
taken_inside [] (suc n) q inside = inside
taken_inside (p ∷ ps) zero q (k, low, e) = absurd (omega (arith, low))
taken_inside (p ∷ ps) (suc n) q (zero, low, e) = (zero, omega arith, e)
taken_inside (p ∷ ps) (suc n) q (suc k, low, e) = let r = taken_inside ps n q (k, omega (arith, low), e) in (suc r.0, (let l = r.1 in omega (arith, l)), r.2)

-- the joiner knows the next piece
pub known_next : (pieces : List Piece) (i : ℕ) (p : Piece) (first now : Joining) (k : ℕ) → i < length pieces → p ≡ get_or pieces i p → k ≡ p.number
    → IsMadeFor pieces first.pieces → now ≡ closed_each first (take i pieces) → get now.pieces k ≡ None → ⊥
known_next pieces i p first now k low at number made so_far none =
    knows_piece pieces now.pieces p (subst (λ (j : Joining). IsMadeFor pieces j.pieces) (sym so_far) (each_closed_is_made pieces first (take i pieces) made (taken_inside pieces i)))
    (i, low, sym at) (ap (get now.pieces) (sym number) ∙ none)
