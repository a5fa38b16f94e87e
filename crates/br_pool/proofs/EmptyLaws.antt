-- The slots that are empty, and that a round in which no drive goes out leaves none.
use Rattle.std.proofs.Common.{◌≡◌, ℕ, zero, suc, ◌+◌, ◌<◌, ◌≤◌, ◌⊎◌, inl, inr, Bool, true, false, cond, ltb, lt-ltb, List, [], ◌∷◌, ◌++◌, map, length, drop, slice_index_or, Option, Some, None, refl, ap, sym, subst, ◌∙◌, append_assoc, arith}
use Rattle.std.specs.Prelude.{if◌then◌else◌}
use Rattle.std.specs.List.{AllByRecursion, list_any}
use Rattle.br_claim.specs.Claims.{Seated, AreDealt, some_ended, times_in}
use Rattle.br_claim.specs.Rule.{times}
use Rattle.br_pool.specs.Workers.{Answer, AreAllAnswered, count_in, number_at, numbers_of}
use Rattle.br_pool.specs.Slots.{AllBelow, empties, is_empty, rounds_left, with_each}
use Rattle.br_pool.proofs.ListLaws.{drop_at}
use Rattle.br_pool.proofs.SlotLaws.{length_with_each}
use Rattle.br_pool.proofs.FilledLaws.{FilledAt, each_filled, each_keeps}

-- ---- the walk over the slots

pub empties_more : (left new : List ℕ) (slots : List (Option Answer)) (k : ℕ) (s : Option Answer) (all : List ℕ) → k < length slots → s ≡ slice_index_or slots k s
    → left ++ empties k (drop k slots) ≡ all → new ≡ left ++ (if is_empty s then k ∷ [] else []) → new ++ empties (k + 1) (drop (k + 1) slots) ≡ all
empties_more left new slots k s all low is h e =
    let one : suc k ≡ k + 1 = omega arith in
    subst (λ n. new ++ empties n (drop n slots) ≡ all) one
    (ap (λ l. l ++ empties (suc k) (drop (suc k) slots)) e ∙ append_assoc left (if is_empty s then k ∷ [] else []) (empties (suc k) (drop (suc k) slots))
    ∙ ap (λ l. left ++ empties k l) (sym (drop_at slots k s low is)) ∙ h)

-- each is the number of a slot
pub empties_low : (k n : ℕ) (slots : List (Option Answer)) → k + length slots ≤ n → AllByRecursion (λ (x : ℕ). x < n) (empties k slots)
empties_low k n [] low = tt
empties_low k n (None ∷ slots) low = (omega (arith, low), empties_low (suc k) n slots (omega (arith, low)))
empties_low k n (Some a ∷ slots) low = empties_low (suc k) n slots (omega (arith, low))

-- each slot is filled, or its number is among them
pub filled_or_left : (k : ℕ) (slots : List (Option Answer)) (y : ℕ) → y < length slots
    → FilledAt slots y ⊎ ((x : ℕ) × (x < length (empties k slots)) × (number_at (empties k slots) x ≡ k + y))
filled_or_left k [] y low = absurd (omega (arith, low))
filled_or_left k (None ∷ slots) zero low =
    let first : 0 < suc (length (empties (suc k) slots)) = omega arith in let e : k ≡ k + 0 = omega arith in inr (0, first, e)
filled_or_left k (Some a ∷ slots) zero low = inl tt
filled_or_left k (None ∷ slots) (suc y) low = later (filled_or_left (suc k) slots y (omega (arith, low)))
  where
    later : FilledAt slots y ⊎ ((x : ℕ) × (x < length (empties (suc k) slots)) × (number_at (empties (suc k) slots) x ≡ (suc k) + y))
        → FilledAt (None ∷ slots) (suc y) ⊎ ((x : ℕ) × (x < length (empties k (None ∷ slots))) × (number_at (empties k (None ∷ slots)) x ≡ k + suc y))
    later (inl f) = inl f
    later (inr (x, under, e)) =
        let u : suc x < suc (length (empties (suc k) slots)) = omega (arith, under) in let s : (suc k) + y ≡ k + suc y = omega arith in inr (suc x, u, e ∙ s)
filled_or_left k (Some a ∷ slots) (suc y) low = later (filled_or_left (suc k) slots y (omega (arith, low)))
  where
    later : FilledAt slots y ⊎ ((x : ℕ) × (x < length (empties (suc k) slots)) × (number_at (empties (suc k) slots) x ≡ (suc k) + y))
        → FilledAt (Some a ∷ slots) (suc y) ⊎ ((x : ℕ) × (x < length (empties k (Some a ∷ slots))) × (number_at (empties k (Some a ∷ slots)) x ≡ k + suc y))
    later (inl f) = inl f
    later (inr (x, under, e)) = let s : (suc k) + y ≡ k + suc y = omega arith in inr (x, under, e ∙ s)

none_empty : (slots : List (Option Answer)) → ((y : ℕ) → y < length slots → FilledAt slots y) → list_any is_empty slots ≡ false
none_empty [] h = refl
none_empty (None ∷ slots) h = absurd (h 0 (omega arith))
none_empty (Some a ∷ slots) h = none_empty slots (λ y low. h (suc y) (omega (arith, low)))

-- ---- after a round

-- if all that is left was drawn and answered, no slot is empty
pub all_filled : (slots : List (Option Answer)) (all : List (ℕ × Answer)) (n : ℕ) (seats : List Seated) (lists : List (List ℕ)) → AllBelow (length slots) all
    → n ≡ length (empties 0 slots) → AreDealt n (some_ended seats) lists → lists ≡ map (λ (s : Seated). s.drawn) seats → AreAllAnswered (empties 0 slots) seats all
    → list_any is_empty (with_each slots all) ≡ false
all_filled slots all n seats lists below len dealt same done =
    none_empty (with_each slots all) (λ y low. let len_is = length_with_each slots all in parted y (filled_or_left 0 slots y (omega (arith, len_is, low))))
  where
    drawn : (x : ℕ) → x < n → 0 < times_in x (map (λ (s : Seated). s.drawn) seats)
    drawn x low =
        let whole : dealt.each.0 ≡ n = dealt.each.3 done.0 in
        let is : ltb x dealt.each.0 ≡ true = lt-ltb x dealt.each.0 (omega (arith, whole, low)) in
        subst (λ l. 0 < times_in x l) same (subst (λ m. 0 < m) (sym (dealt.each.2 x)) (subst (λ b. 0 < cond b 1 0) (sym is) (omega arith)))

    parted : (y : ℕ) → FilledAt slots y ⊎ ((x : ℕ) × (x < length (empties 0 slots)) × (number_at (empties 0 slots) x ≡ 0 + y)) → FilledAt (with_each slots all) y
    parted y (inl f) = each_keeps slots all y f
    parted y (inr (x, under, e)) =
        let q : 0 + y ≡ y = omega arith in each_filled slots all y below (subst (λ p. 0 < times p (numbers_of all)) (e ∙ q) (done.1 x (drawn x (omega (arith, under, len)))))

-- fewer rounds are left
pub rounds_fall : (were are : List Bool) (slots after : List (Option Answer)) → list_any is_empty slots ≡ true
    → (count_in are < count_in were) ⊎ (list_any is_empty after ≡ false) → rounds_left are after < rounds_left were slots
rounds_fall were are slots after some (inl fewer) = subst (λ b. rounds_left are after < cond b (suc (count_in were)) 0) (sym some) (under (list_any is_empty after))
  where
    under : (b : Bool) → cond b (suc (count_in are)) 0 < suc (count_in were)
    under true = omega (arith, fewer)
    under false = omega arith
rounds_fall were are slots after some (inr none) =
    subst (λ b. cond b (suc (count_in are)) 0 < rounds_left were slots) (sym none) (subst (λ b. 0 < cond b (suc (count_in were)) 0) (sym some) (omega arith))
