-- The first group that asks for a file, by the ranges of its session.
use Rattle.std.proofs.Common.{◌≡◌, ℕ, zero, suc, ◌<◌, ◌≤◌, ◌^◌, Bool, true, false, ◌&&◌, ◌||◌, cond, List, [], ◌∷◌, ◌++◌, length, drop, get_or, map, flat_map, Some, refl, ap, ◌∙◌, arith}
use Rattle.std.proofs.lemmas.Bool.Decides.{nat_tests}
use Rattle.std.specs.Prelude.{find, max, option_map}
use Rattle.std.specs.Borrow.{Bor}
use Rattle.std.specs.Int.{is_in_range}
use Rattle.std.specs.List.{list_any}
use Rattle.std.specs.List.Sorted.{IsNonDecreasingBy}
use Rattle.br_model.specs.Bootstrap.{Range, Group, admits}
use Rattle.br_model.specs.Text.{is_empty}
use Rattle.br_cli_target.specs.FirstAsking.{AskingGroup, AsksFirst, all_indexes, asked_by, asked_of, first_asked, has_index, ranges_of, reaches_from, shown}
use Rattle.br_cli_target.specs.NarrowedGroups.{asks_for}

-- ---- the first group

-- whether a range has the index
abbrev has : ℕ → Range → Bool
has n r = is_in_range r.low r.high n

-- the group itself, if one of its ranges has the index, or else what comes after
first_of_ranges : (n : ℕ) (g : Group) (rs : List Range) (more : List AskingGroup)
    → first_asked n (map (λ (r : Range). (r, g)) rs ++ more) ≡ cond (list_any (has n) rs) (Some g) (first_asked n more)
first_of_ranges n g [] more = refl
first_of_ranges n g (r ∷ rs) more = go (has n r) (first_of_ranges n g rs more)
  where
    go : (b : Bool) → first_asked n (map (λ (r : Range). (r, g)) rs ++ more) ≡ cond (list_any (has n) rs) (Some g) (first_asked n more)
        → option_map (λ (a : AskingGroup). a.1) (cond b (Some (r, g)) (find (has_index n) (map (λ (r : Range). (r, g)) rs ++ more)))
        ≡ cond (b || list_any (has n) rs) (Some g) (first_asked n more)
    go true rest = refl
    go false rest = rest

-- the range of all indexes has each
all_have : (n : ℕ) → n < 2 ^ 64 → is_in_range 0 18446744073709551615 n ≡ true
all_have n lt = grind (arith, nat_tests)

-- the ranges of a group have the indexes that it admits
ranges_admit : (n : ℕ) (rs : List Range) → n < 2 ^ 64 → list_any (has n) (cond (is_empty rs) (all_indexes ∷ []) rs) ≡ admits rs n
ranges_admit n rs lt = go (is_empty rs)
  where
    go : (b : Bool) → list_any (has n) (cond b (all_indexes ∷ []) rs) ≡ (b || list_any (has n) rs)
    go true = ap (λ b. b || false) (all_have n lt)
    go false = refl

pub asks_first_lem : AsksFirst
unfolding asked_of
asks_first_lem [] key lt = refl
asks_first_lem (g ∷ gs) key lt = go (admits g.session_ids key.session.id) (admits g.session_times key.session.time) (asks_first_lem gs key lt)
  where
    more : List AskingGroup
    more = flat_map (asked_by key.session) gs

    go : (a b : Bool) → first_asked key.index more ≡ find (asks_for key) gs
        → first_asked key.index (cond (a && b) (map (λ (r : Range). (r, g)) (ranges_of g)) [] ++ more) ≡ cond (a && b && admits g.indexes key.index) (Some g) (find (asks_for key) gs)
    go true true rest =
        first_of_ranges key.index g (ranges_of g) more
        ∙ ap (λ t. cond t (Some g) (first_asked key.index more)) (ranges_admit key.index g.indexes lt)
        ∙ ap (cond (admits g.indexes key.index) (Some g)) rest
    go true false rest = rest
    go false b rest = rest

-- ---- ranges that end before an index

ends_before : (n low high m : ℕ) → max m high < n → is_in_range low high n ≡ false
ends_before n low high m lt = let below : high < n = omega (arith, lt) in grind (arith, nat_tests)

-- ranges at the front that end before the index do not have it
pub ended_are_passed : (n m : ℕ) (asked : List AskingGroup) (i : ℕ) → i ≤ length asked → ((k : ℕ) (d : ℕ) → k < i → get_or (reaches_from m asked) k d < n)
    → first_asked n asked ≡ first_asked n (drop i asked)
ended_are_passed n m asked zero le h = refl
ended_are_passed n m [] (suc i) le h = refl
ended_are_passed n m (a ∷ rest) (suc i) le h =
    let out : has_index n a ≡ false = ends_before n a.0.low a.0.high m (h 0 0 (omega arith)) in
    ap (λ b. option_map (λ (x : AskingGroup). x.1) (cond b (Some a) (find (has_index n) rest))) out
    ∙ ended_are_passed n (max m a.0.high) rest i (omega (arith, le)) (λ k d lt. h (suc k) d (omega (arith, lt)))

pub as_many : (m : ℕ) (asked : List AskingGroup) → length (reaches_from m asked) ≡ length asked
as_many m [] = refl
as_many m (a ∷ rest) = ap suc (as_many (max m a.0.high) rest)

at_least : (m : ℕ) (asked : List AskingGroup) (j d : ℕ) → j < length (reaches_from m asked) → m ≤ get_or (reaches_from m asked) j d
at_least m [] j d lt = absurd (omega (arith, lt))
at_least m (a ∷ rest) zero d lt = omega arith
at_least m (a ∷ rest) (suc j) d lt = let after = at_least (max m a.0.high) rest j d (omega (arith, lt)) in omega (arith, after)

pub reaches_rise : (m : ℕ) (asked : List AskingGroup) → IsNonDecreasingBy (λ (r : ℕ). r) (reaches_from m asked)
reaches_rise m [] i j d le lt = absurd (omega (arith, lt))
reaches_rise m (a ∷ rest) zero zero d le lt = omega arith
reaches_rise m (a ∷ rest) zero (suc j) d le lt = at_least (max m a.0.high) rest j d (omega (arith, lt))
reaches_rise m (a ∷ rest) (suc i) zero d le lt = absurd (omega (arith, le))
reaches_rise m (a ∷ rest) (suc i) (suc j) d le lt = reaches_rise (max m a.0.high) rest i j d (omega (arith, le)) (omega (arith, lt))

-- ---- groups that are borrowed

-- the first range with the index, with its group
pub find_shown : (n : ℕ) (asked : List (Range × Bor Group))
    → first_asked n (map shown asked) ≡ option_map (λ (a : Range × Bor Group). a.1.now) (find (λ (a : Range × Bor Group). is_in_range a.0.low a.0.high n) asked)
find_shown n [] = refl
find_shown n (a ∷ more) = go (is_in_range a.0.low a.0.high n) (find_shown n more)
  where
    go : (b : Bool) → first_asked n (map shown more) ≡ option_map (λ (x : Range × Bor Group). x.1.now) (find (λ (x : Range × Bor Group). is_in_range x.0.low x.0.high n) more)
        → option_map (λ (x : AskingGroup). x.1) (cond b (Some (shown a)) (find (has_index n) (map shown more)))
        ≡ option_map (λ (x : Range × Bor Group). x.1.now) (cond b (Some a) (find (λ (x : Range × Bor Group). is_in_range x.0.low x.0.high n) more))
    go true rest = refl
    go false rest = rest
