-- Files in order, and the part of them that a group asks for by a range.
use Rattle.std.proofs.Common.{◌≡◌, ℕ, zero, suc, ◌+◌, ◌<◌, ◌≤◌, Bool, true, false, not, ◌&&◌, ◌||◌, cond, eqb, ltb, leb, List, [], ◌∷◌, length, get_or, take, drop, filter, Some, None, refl, sym, ap, subst, ◌∙◌, ◌⊎◌, inl, inr, arith}
use Rattle.std.proofs.lemmas.Bool.{and_parts, eqb-true, eqb-false, ltb-true, ltb-false}
use Rattle.std.proofs.lemmas.Bool.Decides.{nat_tests}
use Rattle.std.proofs.lemmas.List.Elements.{Contains-get_or}
use Rattle.std.proofs.lemmas.Option.{same_Some}
use Rattle.std.specs.Int.{is_in_range}
use Rattle.std.specs.List.Sorted.{IsPartitionedBy, IsSorted}
use Rattle.std.specs.Cmp.{nat_cmp_is}
use Rattle.std.specs.FinMap.{nat_cmp-IsAntisymmetric}
use Rattle.std.specs.Ordering.{nat_cmp, ordering_then, is_lt}
use Rattle.std.specs.declared.cmp.Ordering.{Ordering}
use Rattle.std.specs.declared.cmp.Ordering.TheVariants.{Less, Equal, Greater}
use Rattle.br_model.specs.Name.{FileKey, key_cmp}
use Rattle.br_model.specs.Bootstrap.{Range, Group, admits}
use Rattle.br_model.proofs.ListLaws.{all_filter, all_weaker, of_each, filter_within}
use Rattle.br_piece.specs.Missing.{admits_session}
use Rattle.br_piece.specs.NearRanges.{AreSorted, IsUpTo, is_asked, is_before, is_up_to, one_of}

-- ---- the order

pub greater : (a b : ℕ) → nat_cmp a b ≡ Greater → b < a
greater a b e = go (ltb b a) refl
  where
    go : (t : Bool) → ltb b a ≡ t → b < a
    go true is = ltb-true b a is
    go false is = absurd (other (eqb a b) refl)
      where
        other : (t : Bool) → eqb a b ≡ t → ⊥
        other true same = let tie : Equal ≡ nat_cmp a b = nat_cmp_is a b Equal (eqb-true a b same) in absurd cc
        other false apart =
            let le : a ≤ b = ltb-false b a is in
            let ne = eqb-false a b apart in
            let below : Less ≡ nat_cmp a b = nat_cmp_is a b Less (omega (arith, le, ne)) in
            absurd cc

-- of two files of which the second is not less, the first is not after it
not_less : (a b : FileKey) → is_lt (key_cmp b a) ≡ false → IsUpTo a b
not_less a b e = by_id (nat_cmp b.session.id a.session.id) refl e
  where
    by_index : (o : Ordering) → nat_cmp b.index a.index ≡ o → is_lt o ≡ false → a.index ≤ b.index
    by_index Less is f = absurd cc
    by_index Equal is f = let same = nat_cmp-IsAntisymmetric b.index a.index is in omega (arith, same)
    by_index Greater is f = let lt = greater b.index a.index is in omega (arith, lt)

    by_time : a.session.id ≡ b.session.id → (o : Ordering) → nat_cmp b.session.time a.session.time ≡ o → is_lt (ordering_then o (nat_cmp b.index a.index)) ≡ false → IsUpTo a b
    by_time id Less is f = absurd cc
    by_time id Equal is f = inr (id, inr (sym (nat_cmp-IsAntisymmetric b.session.time a.session.time is), by_index (nat_cmp b.index a.index) refl f))
    by_time id Greater is f = inr (id, inl (greater b.session.time a.session.time is))

    by_id : (o : Ordering) → nat_cmp b.session.id a.session.id ≡ o
        → is_lt (ordering_then (ordering_then o (nat_cmp b.session.time a.session.time)) (nat_cmp b.index a.index)) ≡ false → IsUpTo a b
    by_id Less is f = absurd cc
    by_id Equal is f = by_time (sym (nat_cmp-IsAntisymmetric b.session.id a.session.id is)) (nat_cmp b.session.time a.session.time) refl f
    by_id Greater is f = inl (greater b.session.id a.session.id is)

-- the order goes on
up_to_up_to : (a b c : FileKey) → IsUpTo a b → IsUpTo b c → IsUpTo a c
up_to_up_to a b c (inl p) (inl q) = inl (omega (arith, p, q))
up_to_up_to a b c (inl p) (inr (q, h)) = inl (omega (arith, p, q))
up_to_up_to a b c (inr (p, g)) (inl q) = inl (omega (arith, p, q))
up_to_up_to a b c (inr (p, inl g)) (inr (q, inl h)) = inr (p ∙ q, inl (omega (arith, g, h)))
up_to_up_to a b c (inr (p, inl g)) (inr (q, inr (t, h))) = inr (p ∙ q, inl (omega (arith, g, t)))
up_to_up_to a b c (inr (p, inr (s, g))) (inr (q, inl h)) = inr (p ∙ q, inl (omega (arith, s, h)))
up_to_up_to a b c (inr (p, inr (s, g))) (inr (q, inr (t, h))) = inr (p ∙ q, inr (s ∙ t, omega (arith, g, h)))

-- what a sort leaves is in order
pub sorted_are : (keys : List FileKey) → IsSorted key_cmp keys → AreSorted keys
sorted_are [] h = tt
sorted_are (a ∷ []) h = (tt, tt)
sorted_are (a ∷ b ∷ more) h =
    let rest : AreSorted (b ∷ more) =
    sorted_are (b ∷ more) (λ k d low lt.
    let next : suc k + 1 ≡ suc (k + 1) = omega arith in
    subst (λ j. is_lt (key_cmp (get_or (a ∷ b ∷ more) j d) (get_or (b ∷ more) k d)) ≡ false) next (h (suc k) d (omega arith) (omega (arith, lt)))) in
    let first : IsUpTo a b = not_less a b (h 0 a (omega arith) (omega arith)) in
    ((first, all_weaker (IsUpTo b) (IsUpTo a) (λ c. up_to_up_to a b c first) more rest.0), rest)

-- ---- where a test changes

-- in a list in order a test that holds of each file before one of which it holds parts the list
pub parted : (p : FileKey → Bool) → ((a b : FileKey) → IsUpTo a b → p b ≡ true → p a ≡ true) → (keys : List FileKey) → AreSorted keys → IsPartitionedBy p keys
parted p down [] sorted i j d le lt e = absurd (omega (arith, lt))
parted p down (k ∷ ks) sorted zero zero d le lt e = e
parted p down (k ∷ ks) sorted zero (suc j) d le lt e = down k (get_or ks j d) (of_each (IsUpTo k) ks (get_or ks j d) sorted.0 (Contains-get_or ks j d (omega (arith, lt)))) e
parted p down (k ∷ ks) sorted (suc i) zero d le lt e = absurd (omega (arith, le))
parted p down (k ∷ ks) sorted (suc i) (suc j) d le lt e = parted p down ks sorted.1 i j d (omega (arith, le)) (omega (arith, lt)) e

-- what comes before and after the place where a test changes
pub parts_at : {X : Type 0} (p : X → Bool) (xs : List X) (i : ℕ) → ((k : ℕ) (d : X) → k < i → p (get_or xs k d) ≡ true)
    → ((k : ℕ) (d : X) → i ≤ k → k < length xs → p (get_or xs k d) ≡ false) → i ≤ length xs
    → (take i xs ≡ filter p xs) × (drop i xs ≡ filter (λ x. not (p x)) xs)
parts_at p [] zero before after le = (refl, refl)
parts_at p [] (suc i) before after le = absurd (omega (arith, le))
parts_at {X} p (x ∷ xs) zero before after le =
    let fails : p x ≡ false = after 0 x (omega arith) (omega arith) in
    let rest = parts_at p xs zero (λ k d lt. absurd (omega (arith, lt))) (λ k d ge lt. after (suc k) d (omega arith) (omega (arith, lt))) (omega arith) in
    rw fails (rest.0, ap (λ (ys : List X). x ∷ ys) rest.1)
parts_at {X} p (x ∷ xs) (suc i) before after le =
    let holds : p x ≡ true = before 0 x (omega arith) in
    let rest = parts_at p xs i (λ k d lt. before (suc k) d (omega (arith, lt))) (λ k d ge lt. after (suc k) d (omega (arith, ge)) (omega (arith, lt))) (omega (arith, le)) in
    rw holds (ap (λ (ys : List X). x ∷ ys) rest.0, rest.1)

-- ---- the tests of a part

before_numbers : (ai at an bi bt bn id time low : ℕ) → (ai < bi) ⊎ ((ai ≡ bi) × ((at < bt) ⊎ ((at ≡ bt) × (an ≤ bn))))
    → ((ltb bi id || eqb bi id && ltb bt time) || (eqb bi id && eqb bt time) && ltb bn low) ≡ true
    → ((ltb ai id || eqb ai id && ltb at time) || (eqb ai id && eqb at time) && ltb an low) ≡ true
before_numbers ai at an bi bt bn id time low (inl p) e = grind (arith, nat_tests)
before_numbers ai at an bi bt bn id time low (inr (p, inl q)) e = grind (arith, nat_tests)
before_numbers ai at an bi bt bn id time low (inr (p, inr (q, r))) e = grind (arith, nat_tests)

-- what comes before a file that is before those of a part is before them, too
pub before_down : (id time low : ℕ) (a b : FileKey) → IsUpTo a b → is_before id time low b ≡ true → is_before id time low a ≡ true
before_down id time low a b up e = before_numbers a.session.id a.session.time a.index b.session.id b.session.time b.index id time low up e

up_to_numbers : (ai at an bi bt bn id time high : ℕ) → (ai < bi) ⊎ ((ai ≡ bi) × ((at < bt) ⊎ ((at ≡ bt) × (an ≤ bn))))
    → ((ltb bi id || eqb bi id && ltb bt time) || (eqb bi id && eqb bt time) && leb bn high) ≡ true
    → ((ltb ai id || eqb ai id && ltb at time) || (eqb ai id && eqb at time) && leb an high) ≡ true
up_to_numbers ai at an bi bt bn id time high (inl p) e = grind (arith, nat_tests)
up_to_numbers ai at an bi bt bn id time high (inr (p, inl q)) e = grind (arith, nat_tests)
up_to_numbers ai at an bi bt bn id time high (inr (p, inr (q, r))) e = grind (arith, nat_tests)

pub up_to_down : (id time high : ℕ) (a b : FileKey) → IsUpTo a b → is_up_to id time high b ≡ true → is_up_to id time high a ≡ true
up_to_down id time high a b up e = up_to_numbers a.session.id a.session.time a.index b.session.id b.session.time b.index id time high up e

-- a part of files in order is in order
pub part_is_sorted : (p : FileKey → Bool) (keys : List FileKey) → AreSorted keys → AreSorted (filter p keys)
part_is_sorted p [] h = tt
part_is_sorted p (k ∷ ks) h = go (p k) (part_is_sorted p ks h.1)
  where
    go : (b : Bool) → AreSorted (filter p ks) → AreSorted (cond b (k ∷ filter p ks) (filter p ks))
    go true rest = (all_filter (IsUpTo k) p ks h.0, rest)
    go false rest = rest

-- ---- groups that name one session

one_range : (r : Range) (n : ℕ) → is_in_range r.low r.high n ≡ true → eqb r.low r.high ≡ true → n ≡ r.low
one_range r n inside same = numbers r.low r.high n inside (eqb-true r.low r.high same)
  where
    numbers : (low high m : ℕ) → is_in_range low high m ≡ true → low ≡ high → m ≡ low
    numbers low high m e f = grind (arith, nat_tests)

-- ranges that name one number admit no other
one_is_admitted : (rs : List Range) (id n : ℕ) → one_of rs ≡ Some id → admits rs n ≡ true → n ≡ id
one_is_admitted [] id n is e = absurd cc
one_is_admitted (r ∷ []) id n is e = go (eqb r.low r.high) refl is
  where
    first : (b : Bool) → (b || false) ≡ true → b ≡ true
    first true f = refl
    first false f = absurd cc

    go : (b : Bool) → eqb r.low r.high ≡ b → cond b (Some r.low) None ≡ Some id → n ≡ id
    go true same f = one_range r n (first (is_in_range r.low r.high n) e) same ∙ same_Some r.low id f
    go false same f = absurd cc
one_is_admitted (r ∷ s ∷ more) id n is e = absurd cc

asked_numbers : (ki kt kn id time low high : ℕ) → ki ≡ id → kt ≡ time → is_in_range low high kn ≡ true
    → (not ((ltb ki id || eqb ki id && ltb kt time) || (eqb ki id && eqb kt time) && ltb kn low) ≡ true)
    × (((ltb ki id || eqb ki id && ltb kt time) || (eqb ki id && eqb kt time) && leb kn high) ≡ true)
asked_numbers ki kt kn id time low high p q e = (grind (arith, nat_tests), grind (arith, nat_tests))

-- what a group that names one session asks for is in the part
asked_is_within : (g : Group) (r : Range) (id time : ℕ) → one_of g.session_ids ≡ Some id → one_of g.session_times ≡ Some time → (k : FileKey) → is_asked g r k ≡ true
    → (not (is_before id time r.low k) ≡ true) × (is_up_to id time r.high k ≡ true)
asked_is_within g r id time ids times k e =
    let outer = and_parts (admits_session g k.session) (is_in_range r.low r.high k.index) e in
    let inner = and_parts (admits g.session_ids k.session.id) (admits g.session_times k.session.time) outer.0 in
    asked_numbers k.session.id k.session.time k.index id time r.low r.high (one_is_admitted g.session_ids id k.session.id ids inner.0)
    (one_is_admitted g.session_times time k.session.time times inner.1) outer.1

-- the part of the files has all that the group asks for
pub part_has_asked : (g : Group) (r : Range) (id time : ℕ) (keys : List FileKey) → one_of g.session_ids ≡ Some id → one_of g.session_times ≡ Some time
    → filter (is_asked g r) (filter (is_up_to id time r.high) (filter (λ k. not (is_before id time r.low k)) keys)) ≡ filter (is_asked g r) keys
part_has_asked g r id time keys ids times =
    let from : FileKey → Bool = λ k. not (is_before id time r.low k) in
    filter_within (is_asked g r) (is_up_to id time r.high) (λ k e. (asked_is_within g r id time ids times k e).1) (filter from keys)
    ∙ filter_within (is_asked g r) from (λ k e. (asked_is_within g r id time ids times k e).0) keys
