-- The pieces of a bootstrap are whole: each has groups, their numbers rise, and they are on its volume.
use Rattle.std.proofs.Common.{◌≡◌, ℕ, zero, suc, ◌+◌, ◌<◌, ◌≤◌, Bool, true, false, not, cond, List, [], ◌∷◌, length, map, filter, refl, subst, arith}
use Rattle.std.proofs.lemmas.Slice.Eq.{bytes_eq-Decides}
use Rattle.std.specs.Prelude.{bytes_eq, slice_index}
use Rattle.std.specs.List.{AllByRecursion, enumerate_from}
use Rattle.std.specs.List.Sorted.{IsStrictlyIncreasing}
use Rattle.br_model.specs.Order.{without_repeats}
use Rattle.br_model.specs.Bootstrap.{Group}
use Rattle.br_model.specs.Meaning.{Piece, IsPiece, groups_on, volumes_of, pieces_of, PiecesAreWhole}
use Rattle.br_model.proofs.ListLaws.{all_filter, all_weaker}

abbrev number_of : ℕ × Group → ℕ
number_of g = g.0

abbrev pub is_on : List ℕ → ℕ × Group → Bool
is_on volume g = bytes_eq g.1.volume volume

abbrev pub on_from : ℕ → List Group → List ℕ → List (ℕ × Group)
on_from n groups volume = filter (is_on volume) (enumerate_from n groups)

-- a number before rising ones that it is below
rises : (n : ℕ) (ns : List ℕ) → IsStrictlyIncreasing ns → (0 < length ns → n < slice_index ns 0) → IsStrictlyIncreasing (n ∷ ns)
rises n ns rise below zero lt = below (omega arith)
rises n ns rise below (suc k) lt =
    let next : suc (k + 1) ≡ suc k + 1 = omega arith in
    subst (λ i. slice_index ns k < slice_index (n ∷ ns) i) next (rise k (omega arith))

-- the numbers rise from the first one on
numbers_rise : (n : ℕ) (groups : List Group) (volume : List ℕ)
    → IsStrictlyIncreasing (map number_of (on_from n groups volume)) × (0 < length (map number_of (on_from n groups volume)) → n ≤ slice_index (map number_of (on_from n groups volume)) 0)
numbers_rise n [] volume = ((λ k lt. absurd (omega arith)), λ lt. absurd (omega arith))
numbers_rise n (g ∷ gs) volume = go (bytes_eq g.volume volume) (numbers_rise (n + 1) gs volume)
  where
    rest : List (ℕ × Group)
    rest = on_from (n + 1) gs volume

    go : (b : Bool) → IsStrictlyIncreasing (map number_of rest) × (0 < length (map number_of rest) → n + 1 ≤ slice_index (map number_of rest) 0)
        → IsStrictlyIncreasing (map number_of (cond b ((n, g) ∷ rest) rest)) × (0 < length (map number_of (cond b ((n, g) ∷ rest) rest)) → n ≤ slice_index (map number_of (cond b ((n, g) ∷ rest) rest)) 0)
    go true h = (rises n (map number_of rest) h.0 (λ lt. omega (arith, h.1 lt)), λ lt. omega arith)
    go false h = (h.0, λ lt. omega (arith, h.1 lt))

-- each group is on the volume
on_volume : (n : ℕ) (groups : List Group) (volume : List ℕ) → AllByRecursion (λ (g : ℕ × Group). g.1.volume ≡ volume) (on_from n groups volume)
on_volume n [] volume = tt
on_volume n (g ∷ gs) volume = go (bytes_eq g.volume volume) refl (on_volume (n + 1) gs volume)
  where
    go : (b : Bool) → bytes_eq g.volume volume ≡ b → AllByRecursion (λ (h : ℕ × Group). h.1.volume ≡ volume) (on_from (n + 1) gs volume)
        → AllByRecursion (λ (h : ℕ × Group). h.1.volume ≡ volume) (cond b ((n, g) ∷ on_from (n + 1) gs volume) (on_from (n + 1) gs volume))
    go true e rest = ((bytes_eq-Decides g.volume volume).0 e, rest)
    go false e rest = rest

-- what holds of all holds of those that are left without repeats
pub once : (P : List ℕ → Type 0) (xs : List (List ℕ)) → AllByRecursion P xs → AllByRecursion P (without_repeats xs)
unfolding without_repeats
once P [] h = tt
once P (x ∷ xs) h = (h.0, all_filter P (λ y. not (bytes_eq x y)) (without_repeats xs) (once P xs h.1))

-- each volume that is named has groups
abbrev HasGroups : ℕ → List Group → List ℕ → Type 0
HasGroups n groups volume = 0 < length (on_from n groups volume)

each_has_groups : (n : ℕ) (groups : List Group) → AllByRecursion (HasGroups n groups) (map (λ (g : Group). g.volume) groups)
each_has_groups n [] = tt
each_has_groups n (g ∷ gs) =
    (first ((bytes_eq-Decides g.volume g.volume).1 refl), all_weaker (HasGroups (n + 1) gs) (HasGroups n (g ∷ gs)) (λ volume h. more volume (bytes_eq g.volume volume) h) (map (λ (h : Group). h.volume) gs) (each_has_groups (n + 1) gs))
  where
    first : bytes_eq g.volume g.volume ≡ true → HasGroups n (g ∷ gs) g.volume
    first e = rw e (omega arith)

    more : (volume : List ℕ) (b : Bool) → HasGroups (n + 1) gs volume → 0 < length (cond b ((n, g) ∷ on_from (n + 1) gs volume) (on_from (n + 1) gs volume))
    more volume true h = omega arith
    more volume false h = h

abbrev pub piece_of : List Group → ℕ × List ℕ → Piece
piece_of groups v = record { number = v.0; volume = v.1; groups = groups_on groups v.1 }

are_pieces : (n : ℕ) (groups : List Group) (volumes : List (List ℕ)) → AllByRecursion (HasGroups 0 groups) volumes → AllByRecursion IsPiece (map (piece_of groups) (enumerate_from n volumes))
unfolding groups_on
are_pieces n groups [] h = tt
are_pieces n groups (v ∷ vs) h =
    (record { some = h.0; rise = (numbers_rise 0 groups v).0; on_volume = on_volume 0 groups v }, are_pieces (n + 1) groups vs h.1)

pub pieces_are_whole_lem : PiecesAreWhole
unfolding pieces_of
pieces_are_whole_lem groups =
    are_pieces 0 groups (volumes_of groups) (once (HasGroups 0 groups) (map (λ (g : Group). g.volume) groups) (each_has_groups 0 groups))
