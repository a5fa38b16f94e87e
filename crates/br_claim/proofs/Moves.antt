-- Each step keeps the rule of the claim word.
use Rattle.std.proofs.Common.{◌≡◌, ◌≢◌, ℕ, zero, suc, ◌+◌, ◌-◌, ◌%◌, ◌^◌, ◌<◌, ◌≤◌, ◌==◌, ◌||◌, ltb, cond, true, false, Bool, List, [], ◌∷◌, ◌++◌, length, map, set, slice_index, sym, refl, ap, ◌∙◌, subst, ⊎_elim, arith, MatchBool}
use mathlib.Core.Option.{some, some-ne-none, some-injective}
use lib.ListN.{get_elem?}
use Rattle.std.proofs.lemmas.Bool.Decides.{nat_tests}
use Rattle.atomic_table.proofs.Lists.{at_set, at_snoc, set_again}
use Rattle.br_claim.specs.declared.rule.Hand.{Hand}
use Rattle.br_claim.specs.Claims.{Seated, with_seat, with_seats, times_in, some_ended, AllAscending, IsAscending, AreDealt, AllOf}
use Rattle.atomic_table.specs.Seated.{TableId}
use Rattle.br_claim.specs.Rule.{hand, nobody, times, total, once_below, RisesFrom, AllUnder, FitsHand, IsGiven, Given, Drew, KnowsAll}

pub total_set : (f : Hand → ℕ) (views : List Hand) (j : ℕ) (v w : Hand) → get_elem? views j ≡ some v → total f (set views j w) + f v ≡ total f views + f w
total_set f [] j v w at = absurd (some-ne-none v (sym at))
total_set f (u ∷ us) zero v w at = let e : f u ≡ f v = ap f (some-injective u v at) in omega arith
total_set f (u ∷ us) (suc j) v w at = let e = total_set f us j v w at in omega (arith, e)

pub total_at : (f : Hand → ℕ) (views : List Hand) (j : ℕ) (v : Hand) → get_elem? views j ≡ some v → f v ≤ total f views
total_at f [] j v at = absurd (some-ne-none v (sym at))
total_at f (u ∷ us) zero v at = let e : f u ≡ f v = ap f (some-injective u v at) in omega arith
total_at f (u ∷ us) (suc j) v at = let e = total_at f us j v at in omega (arith, e)

pub total-snoc : (f : Hand → ℕ) (views : List Hand) (w : Hand) → total f (views ++ w ∷ []) ≡ total f views + f w
total-snoc f [] w = omega arith
total-snoc f (u ∷ us) w = let e = total-snoc f us w in omega (arith, e)

total_le : (f g : Hand → ℕ) (views : List Hand) → ((j : ℕ) (v : Hand) → get_elem? views j ≡ some v → f v ≤ g v) → total f views ≤ total g views
total_le f g [] h = omega arith
total_le f g (u ∷ us) h = let a = h 0 u refl in let b = total_le f g us (λ j v at. h (suc j) v at) in omega (arith, a, b)

total_none : (f : Hand → ℕ) (views : List Hand) → total (λ v. v.parts) views ≡ 0 → ((j : ℕ) (v : Hand) → get_elem? views j ≡ some v → v.parts ≡ 0 → f v ≡ 0) → total f views ≡ 0
total_none f [] none h = refl
total_none f (u ∷ us) none h = let a = h 0 u refl (omega arith) in let b = total_none f us (omega arith) (λ j v at. h (suc j) v at) in omega (arith, a, b)

-- if one seat has all parts, the others count for nothing
total_sole : (f : Hand → ℕ) (views : List Hand) (j : ℕ) (v : Hand) → get_elem? views j ≡ some v → total (λ u. u.parts) views ≡ v.parts
    → ((j : ℕ) (v : Hand) → get_elem? views j ≡ some v → v.parts ≡ 0 → f v ≡ 0) → total f views ≡ f v
total_sole f [] j v at all h = absurd (some-ne-none v (sym at))
total_sole f (u ∷ us) zero v at all h = let e : f u ≡ f v = ap f (some-injective u v at) in let p : u.parts ≡ v.parts = ap (λ (y : Hand). y.parts) (some-injective u v at) in
    let b = total_none f us (omega arith) (λ j v at. h (suc j) v at) in omega (arith, e, b)
total_sole f (u ∷ us) (suc j) v at all h = let m = total_at (λ y. y.parts) us j v at in let a = h 0 u refl (omega arith) in
    let b = total_sole f us j v at (omega arith) (λ j v at. h (suc j) v at) in omega (arith, a, b)

pub times-append : (x : ℕ) (xs ys : List ℕ) → times x (xs ++ ys) ≡ times x xs + times x ys
times-append x [] ys = omega arith
times-append x (y ∷ xs) ys = let e = times-append x xs ys in omega (arith, e)

-- a number that is in the list at most as often as in the numbers below k is below k
under_times : (k n : ℕ) (xs : List ℕ) → ((x : ℕ) → times x xs ≤ cond (ltb x k) (once_below x n) 0) → AllUnder k xs
under_times k n [] h = tt
under_times k n (y ∷ ys) h = (
  (let a = h y in grind (arith, nat_tests, a)),
  under_times k n ys (λ x. let a = h x in omega (arith, a)),
)

fits_set : (n word : ℕ) (views : List Hand) (id : ℕ) (w : Hand) → FitsHand n word w → ((j : ℕ) (v : Hand) → get_elem? views j ≡ some v → FitsHand n word v) → (j : ℕ) (v : Hand) → get_elem? (set views id w) j ≡ some v → FitsHand n word v
fits_set n word views id w mine others j v at = ⊎_elim (λ (t : (j ≡ id) × (w ≡ v)). subst (λ (y : Hand). FitsHand n word y) t.1 mine) (λ (t : (j ≢ id) × (get_elem? views j ≡ some v)). others j v t.1) (at_set views id j w v at)

later : (n word : ℕ) (v : Hand) → FitsHand n word v → FitsHand n (word + 1) v
later n word v h = record { limit = h.limit; past = h.past; idle = h.idle; ended = λ p. let a = h.ended p in omega (arith, a) }

each_hit : (x word n a b c : ℕ) → word < n → a ≡ cond (ltb x word) (once_below x n) 0 → b + c ≡ a + (c + (cond (word == x) 1 0 + 0)) → b ≡ cond (ltb x (word + 1)) (once_below x n) 0
each_hit x word n a b c low is sum = grind (arith, nat_tests)

each_miss : (x word n a : ℕ) → n ≤ word → a ≡ cond (ltb x word) (once_below x n) 0 → a ≡ cond (ltb x (word + 1)) (once_below x n) 0
each_miss x word n a high is = grind (arith, nat_tests)

draw_hit : (n word id : ℕ) (v : Hand) (views : List Hand) → 0 < v.parts → v.limit ≡ n → word < n → IsGiven n word views → get_elem? views id ≡ some v → IsGiven n (word + 1) (set views id (hand v.limit v.parts (v.drawn ++ word ∷ []) v.past))
draw_hit n word id v views any is low h at = let w : Hand = hand v.limit v.parts (v.drawn ++ word ∷ []) v.past in let mine = h.fits id v at in record {
  parts = let e = total_set (λ u. u.parts) views id v w at in let p = h.parts in omega (arith, e, p);
  each = λ x. each_hit x word n (total (λ u. times x u.drawn) views) (total (λ u. times x u.drawn) (set views id w)) (times x v.drawn) low (h.each x)
      (total_set (λ u. times x u.drawn) views id v w at ∙ ap (λ (k : ℕ). total (λ u. times x u.drawn) views + k) (times-append x v.drawn (word ∷ [])));
  bound = omega arith;
  fits = fits_set n (word + 1) views id w (record { limit = λ _. is; past = mine.past; idle = λ none. absurd (omega arith); ended = λ p. let a = mine.ended p in omega (arith, a) })
      (λ j u e. later n word u (h.fits j u e));
}

draw_miss : (n word id : ℕ) (v : Hand) (views : List Hand) → v.past < v.parts → v.limit ≡ n → n ≤ word → IsGiven n word views → get_elem? views id ≡ some v → IsGiven n (word + 1) (set views id (hand v.limit v.parts v.drawn (v.past + 1)))
draw_miss n word id v views any is high h at = let w : Hand = hand v.limit v.parts v.drawn (v.past + 1) in let mine = h.fits id v at in record {
  parts = let e = total_set (λ u. u.parts) views id v w at in let p = h.parts in omega (arith, e, p);
  each = λ x. let e = total_set (λ u. times x u.drawn) views id v w at in each_miss x word n (total (λ u. times x u.drawn) (set views id w)) high
      (let a = h.each x in let b : total (λ u. times x u.drawn) (set views id w) ≡ total (λ u. times x u.drawn) views = omega (arith, e) in b ∙ a);
  bound = let e = total_set (λ u. u.past) views id v w at in let b = h.bound in omega (arith, e, b);
  fits = fits_set n (word + 1) views id w (record { limit = λ _. is; past = omega arith; idle = λ none. absurd (omega arith); ended = λ p. omega arith })
      (λ j u e. later n word u (h.fits j u e));
}

past_bound : (n word : ℕ) (views : List Hand) → IsGiven n word views → word ≤ n + 65536
past_bound n word views h = let a = total_le (λ v. v.past) (λ v. v.parts) views (λ j v at. (h.fits j v at).past) in let b = h.bound in let c = h.parts in omega (arith, a, b, c)

seen_under : (n word id : ℕ) (v : Hand) (views : List Hand) → IsGiven n word views → get_elem? views id ≡ some v → AllUnder word v.drawn
seen_under n word id v views h at = under_times word n v.drawn (λ x. subst (λ (k : ℕ). times x v.drawn ≤ k) (h.each x) (total_at (λ u. times x u.drawn) views id v at))

draw_cases : (n word id : ℕ) (v : Hand) (views : List Hand) → v.past < v.parts → v.limit ≡ n → IsGiven n word views → get_elem? views id ≡ some v → (b : Bool) → ltb word v.limit ≡ b
    → (w : Hand) × IsGiven n (word + 1) (set views id w) × MatchBool b ((w ≡ hand v.limit v.parts (v.drawn ++ word ∷ []) v.past) × AllUnder word v.drawn) (w ≡ hand v.limit v.parts v.drawn (v.past + 1))
draw_cases n word id v views any is h at true e = (hand v.limit v.parts (v.drawn ++ word ∷ []) v.past, draw_hit n word id v views (omega arith) is (grind (arith, nat_tests)) h at, (refl, seen_under n word id v views h at))
draw_cases n word id v views any is h at false e = (hand v.limit v.parts v.drawn (v.past + 1), draw_miss n word id v views any is (grind (arith, nat_tests)) h at, refl)

pub draws : (n id : ℕ) (v : Hand) (words : List ℕ) (views : List Hand) → v.limit < 2 ^ 32 → v.past < v.parts → Given n words views → get_elem? views id ≡ some v
    → (w : Hand) × Given n (set words 0 ((slice_index words 0 + 1) % 2 ^ 64)) (set views id w) × Drew v (slice_index words 0) w
draws n id v [] views fit any h at = absurd h
draws n id v (word ∷ other ∷ words) views fit any h at = absurd h
draws n id v (word ∷ []) views fit any h at = let top = past_bound n word views h in
    let same = (h.fits id v at).limit (omega arith) in let here : (word + 1) % 2 ^ 64 ≡ word + 1 = omega (arith, top, same) in
    let c = draw_cases n word id v views any ((h.fits id v at).limit (omega arith)) h at (ltb word v.limit) refl in
    (c.0, subst (λ (k : ℕ). IsGiven n k (set views id c.0)) (sym here) c.1, c.2)

pub splits : (n id p : ℕ) (words : List ℕ) (views : List Hand) → 0 < p → Given n words views → get_elem? views id ≡ some (hand n p [] 0) → Given n words (set views id (hand n (p - 1) [] 0) ++ hand n 1 [] 0 ∷ [])
splits n id p [] views any h at = absurd h
splits n id p (word ∷ other ∷ words) views any h at = absurd h
splits n id p (word ∷ []) views any h at = let v : Hand = hand n p [] 0 in let l : Hand = hand n (p - 1) [] 0 in let r : Hand = hand n 1 [] 0 in let vs : List Hand = set views id l in record {
  parts = let a = total_set (λ u. u.parts) views id v l at in let b = total-snoc (λ u. u.parts) vs r in let c = h.parts in omega (arith, a, b, c);
  each = λ x. let a = total_set (λ u. times x u.drawn) views id v l at in let b = total-snoc (λ u. times x u.drawn) vs r in let e : total (λ u. times x u.drawn) (vs ++ r ∷ []) ≡ total (λ u. times x u.drawn) views = omega (arith, a, b) in e ∙ h.each x;
  bound = let a = total_set (λ u. u.past) views id v l at in let b = total-snoc (λ u. u.past) vs r in let c = h.bound in omega (arith, a, b, c);
  fits = λ j u e. ⊎_elim (fits_set n word views id l (record { limit = λ _. refl; past = omega arith; idle = λ _. refl; ended = λ p. absurd (omega arith) }) h.fits j u)
      (λ (same : r ≡ u). subst (λ (y : Hand). FitsHand n word y) same (record { limit = λ _. refl; past = omega arith; idle = λ _. refl; ended = λ p. absurd (omega arith) })) (at_snoc vs r u j e);
}

pub splits_as : (n id limit made : ℕ) (v : Hand) (words : List ℕ) (views : List Hand) → v ≡ hand limit (65536 - made) [] 0 → limit ≡ n → made < 65536 → Given n words views → get_elem? views id ≡ some v
    → Given n words (set views id (hand v.limit (v.parts - 1) v.drawn v.past) ++ hand v.limit 1 [] 0 ∷ [])
splits_as n id limit made v words views e is more h at = let f : v ≡ hand n (65536 - made) [] 0 = e ∙ ap (λ (k : ℕ). hand k (65536 - made) [] 0) is in
    let P : Hand → Type 0 = λ y. get_elem? views id ≡ some y → Given n words (set views id (hand y.limit (y.parts - 1) y.drawn y.past) ++ hand y.limit 1 [] 0 ∷ []) in
    subst P (sym f) (splits n id (65536 - made) words views (omega arith) h) at

later_end : (n word a b : ℕ) → 0 < a + b → (0 < a → n ≤ word) → (0 < b → n ≤ word) → n ≤ word
later_end n word zero b p x y = y (omega arith)
later_end n word (suc a) b p x y = x (omega arith)

below_low : (x word n : ℕ) → word < n → cond (ltb x word) (once_below x n) 0 ≡ once_below x word
below_low x word n low = grind (arith, nat_tests)

below_high : (x word n : ℕ) → n ≤ word → cond (ltb x word) (once_below x n) 0 ≡ once_below x n
below_high x word n high = grind (arith, nat_tests)

joins_total : (f : Hand → ℕ) (views : List Hand) (id other : ℕ) (v w b : Hand) → f nobody ≡ 0 → f b ≡ f v + f w → get_elem? views id ≡ some v → get_elem? (set views id b) other ≡ some w → total f (set (set views id b) other nobody) ≡ total f views
joins_total f views id other v w b none sum at there = let p = total_set f views id v b at in let q = total_set f (set views id b) other w nobody there in omega (arith, p, q, none, sum)

pub joins : (n id other : ℕ) (v w : Hand) (words : List ℕ) (views : List Hand) → v.limit ≡ n → Given n words views → get_elem? views id ≡ some v → ¬ (other ≡ id)
    → get_elem? (set views id (hand v.limit (v.parts + w.parts) (v.drawn ++ w.drawn) (v.past + w.past))) other ≡ some w
    → Given n words (set (set views id (hand v.limit (v.parts + w.parts) (v.drawn ++ w.drawn) (v.past + w.past))) other nobody)
joins n id other v w [] views is h at apart there = absurd h
joins n id other v w (word ∷ also ∷ words) views is h at apart there = absurd h
joins n id other v w (word ∷ []) views is h at apart there = let b : Hand = hand v.limit (v.parts + w.parts) (v.drawn ++ w.drawn) (v.past + w.past) in let mine = h.fits id v at in
    let was : get_elem? views other ≡ some w = ⊎_elim (λ (t : (other ≡ id) × (b ≡ w)). absurd (apart t.0)) (λ (t : (other ≢ id) × (get_elem? views other ≡ some w)). t.1) (at_set views id other b w there) in
    let theirs = h.fits other w was in record {
      parts = joins_total (λ u. u.parts) views id other v w b refl refl at there ∙ h.parts;
      each = λ x. joins_total (λ u. times x u.drawn) views id other v w b refl (times-append x v.drawn w.drawn) at there ∙ h.each x;
      bound = let e = joins_total (λ u. u.past) views id other v w b refl refl at there in let c = h.bound in omega (arith, e, c);
      fits = fits_set n word (set views id b) other nobody (record { limit = λ p. absurd (omega arith); past = omega arith; idle = λ _. refl; ended = λ p. absurd (omega arith) })
          (fits_set n word views id b (record {
            limit = λ _. is;
            past = let x = mine.past in let y = theirs.past in omega (arith, x, y);
            idle = λ none. let x = mine.idle (omega arith) in let y = theirs.idle (omega arith) in ap (λ (l : List ℕ). l ++ w.drawn) x ∙ y;
            ended = λ p. later_end n word v.past w.past p mine.ended theirs.ended;
          }) h.fits);
    }

learn_cases : (n word id : ℕ) (v : Hand) (views : List Hand) → v.parts ≡ 65536 → v.limit ≡ n → IsGiven n word views → get_elem? views id ≡ some v → (b : Bool) → ltb word n ≡ b → KnowsAll v
learn_cases n word id v views all is h at true e = let low : word < n = grind (arith, nat_tests) in (
  word,
  omega arith,
  (λ x. sym (total_sole (λ u. times x u.drawn) views id v at (h.parts ∙ sym all) (λ j u a none. ap (times x) ((h.fits j u a).idle none))) ∙ h.each x ∙ below_low x word n low),
  λ p. let a = (h.fits id v at).ended p in absurd (omega (arith, a)),
)
learn_cases n word id v views all is h at false e = let high : n ≤ word = grind (arith, nat_tests) in (
  n,
  omega arith,
  (λ x. sym (total_sole (λ u. times x u.drawn) views id v at (h.parts ∙ sym all) (λ j u a none. ap (times x) ((h.fits j u a).idle none))) ∙ h.each x ∙ below_high x word n high),
  λ _. sym is,
)

pub learns : (n id : ℕ) (v : Hand) (words : List ℕ) (views : List Hand) → v.parts ≡ 65536 → v.limit ≡ n → Given n words views → get_elem? views id ≡ some v → KnowsAll v
learns n id v [] views all is h at = absurd h
learns n id v (word ∷ also ∷ words) views all is h at = absurd h
learns n id v (word ∷ []) views all is h at = learn_cases n word id v views all is h at (ltb word n) refl

rises_snoc : (low x : ℕ) (xs : List ℕ) → RisesFrom low xs → AllUnder x xs → low ≤ x → RisesFrom low (xs ++ x ∷ [])
rises_snoc low x [] r u le = (le, tt)
rises_snoc low x (y ∷ ys) r u le = (r.0, rises_snoc (suc y) x ys r.1 u.1 (let a = u.0 in omega (arith, a)))

under_snoc : (n x : ℕ) (xs : List ℕ) → AllUnder n xs → x < n → AllUnder n (xs ++ x ∷ [])
under_snoc n x [] u lt = (lt, tt)
under_snoc n x (y ∷ ys) u lt = (u.0, under_snoc n x ys u.1 lt)

rises_length : (low n : ℕ) (xs : List ℕ) → RisesFrom low xs → AllUnder n xs → low ≤ n → length xs + low ≤ n
rises_length low n [] r u le = omega arith
rises_length low n (y ∷ ys) r u le = let a = r.0 in let b = u.0 in let c = rises_length (suc y) n ys r.1 u.1 (omega (arith, b)) in omega (arith, a, b, c)

pub room_left : (n x : ℕ) (xs : List ℕ) → RisesFrom 0 xs → AllUnder n xs → AllUnder x xs → x < n → length xs < n
room_left n x xs r u v lt = let a = rises_length 0 x xs r v (omega arith) in omega (arith, a)

pub rises_on : (x : ℕ) (xs : List ℕ) → RisesFrom 0 xs → AllUnder x xs → RisesFrom 0 (xs ++ x ∷ [])
rises_on x xs r u = rises_snoc 0 x xs r u (omega arith)

pub under_on : (n x : ℕ) (xs : List ℕ) → AllUnder n xs → x < n → AllUnder n (xs ++ x ∷ [])
under_on = under_snoc

pub has_turn : (limit : ℕ) (items : List ℕ) (b : Bool) (v : Hand) → v ≡ hand limit 1 items (cond b 1 0) → b ≡ false → v.past < v.parts
has_turn limit items b v e off = let p : v.past ≡ cond b 1 0 = ap (λ (y : Hand). y.past) e in let q : v.parts ≡ 1 = ap (λ (y : Hand). y.parts) e in let f : Bool → ℕ = λ y. cond y 1 0 in let r : f b ≡ f false = ap f off in omega (arith, p, q, r)

drew_at : (limit found past : ℕ) (items : List ℕ) (w : Hand) (b : Bool) → b ≡ true
    → MatchBool b ((w ≡ hand limit 1 (items ++ found ∷ []) past) × AllUnder found items) (w ≡ hand limit 1 items (past + 1)) → (w ≡ hand limit 1 (items ++ found ∷ []) past) × AllUnder found items
drew_at limit found past items w true e d = d
drew_at limit found past items w false e d = absurd (cc)

pub drew_hit : (limit found past : ℕ) (items : List ℕ) (v w : Hand) → v ≡ hand limit 1 items past → found < limit → Drew v found w → (w ≡ hand limit 1 (items ++ found ∷ []) past) × AllUnder found items
drew_hit limit found past items v w e low d = let P : Hand → Type 0 = λ y. Drew y found w in drew_at limit found past items w (ltb found limit) (grind (arith, nat_tests)) (subst P e d)

-- the claims' own view after these seats are joined
pub with_seats-snoc : (v : Hand) (ss : List Seated) (s : Seated) → with_seats v (ss ++ s ∷ []) ≡ with_seat (with_seats v ss) s
with_seats-snoc v [] s = refl
with_seats-snoc v (t ∷ ss) s = with_seats-snoc (with_seat v t) ss s

pub with_seats-limit : (v : Hand) (ss : List Seated) → (with_seats v ss).limit ≡ v.limit
with_seats-limit v [] = refl
with_seats-limit v (s ∷ ss) = with_seats-limit (with_seat v s) ss

with_seats-parts : (v : Hand) (ss : List Seated) → (with_seats v ss).parts ≡ v.parts + length ss
with_seats-parts v [] = omega arith
with_seats-parts v (s ∷ ss) = let e = with_seats-parts (with_seat v s) ss in omega (arith, e)

with_seats-drawn : (x : ℕ) (v : Hand) (ss : List Seated) → times x (with_seats v ss).drawn ≡ times x v.drawn + times_in x (map (λ s. s.drawn) ss)
with_seats-drawn x v [] = omega arith
with_seats-drawn x v (s ∷ ss) = let e = with_seats-drawn x (with_seat v s) ss in let a = times-append x v.drawn s.drawn in omega (arith, e, a)

with_seats-past_le : (v : Hand) (ss : List Seated) → v.past ≤ (with_seats v ss).past
with_seats-past_le v [] = omega arith
with_seats-past_le v (s ∷ ss) = let e = with_seats-past_le (with_seat v s) ss in omega (arith, e)

past_from : (v : Hand) (s : Seated) (ss : List Seated) (b : Bool) → s.ended ≡ b → (s.ended || some_ended ss) ≡ true → (some_ended ss ≡ true → 0 < (with_seats (with_seat v s) ss).past) → 0 < (with_seats (with_seat v s) ss).past
past_from v s ss true is ended next = let e = with_seats-past_le (with_seat v s) ss in let f : Bool → ℕ = λ y. cond y 1 0 in let r : f s.ended ≡ f true = ap f is in omega (arith, e, r)
past_from v s ss false is ended next = next (let f : Bool → Bool = λ y. y || some_ended ss in let r : f s.ended ≡ f false = ap f is in sym r ∙ ended)

with_seats-past : (v : Hand) (ss : List Seated) → some_ended ss ≡ true → 0 < (with_seats v ss).past
with_seats-past v [] ended = absurd (cc)
with_seats-past v (s ∷ ss) ended = past_from v s ss s.ended refl ended (with_seats-past (with_seat v s) ss)

pub looks : (n id : ℕ) (v : Hand) (words : List ℕ) (views : List Hand) → Given n words views → get_elem? views id ≡ some v → Given n (set words 0 (slice_index words 0)) (set views id v)
looks n id v [] views h at = absurd h
looks n id v (word ∷ also ∷ words) views h at = absurd h
looks n id v (word ∷ []) views h at = subst (λ (y : List Hand). IsGiven n word y) (sym (set_again views id v at)) h

-- the claims' own view after every seat is joined
pub all_parts : (limit made : ℕ) (own me : Hand) (ss : List Seated) → own ≡ hand limit (65536 - made) [] 0 → made ≤ 65536 → length ss ≡ made → me ≡ with_seats own ss → me.parts ≡ 65536
all_parts limit made own me ss is few all e = let a = ap (λ (y : Hand). y.parts) e in let b = with_seats-parts own ss in let c = ap (λ (y : Hand). y.parts) is in omega (arith, a, b, c, all)

pub all_rise-snoc : (lists : List (List ℕ)) (xs : List ℕ) → AllAscending lists → IsAscending xs → AllAscending (lists ++ xs ∷ [])
all_rise-snoc [] xs h r = (r, tt)
all_rise-snoc (ys ∷ lists) xs h r = (h.0, all_rise-snoc lists xs h.1 r)

pub dealt : (limit made : ℕ) (own me : Hand) (ss : List Seated) (lists : List (List ℕ)) → own ≡ hand limit (65536 - made) [] 0 → me ≡ with_seats own ss → KnowsAll me → lists ≡ map (λ s. s.drawn) ss → AllAscending (map (λ s. s.drawn) ss) → AreDealt limit (some_ended ss) lists
dealt limit made own me ss lists is e knows same rise = record {
  ascending = let P : List (List ℕ) → Type 0 = AllAscending in subst P (sym same) rise;
  each = let l : me.limit ≡ limit = ap (λ (y : Hand). y.limit) e ∙ with_seats-limit own ss ∙ ap (λ (y : Hand). y.limit) is in (
    knows.0,
    (let b = knows.1 in omega (arith, b, l)),
    (λ x. let a = knows.2 x in let b : times x me.drawn ≡ times x (with_seats own ss).drawn = ap (λ (y : Hand). times x y.drawn) e in let c = with_seats-drawn x own ss in
        let d : times x own.drawn ≡ 0 = ap (λ (y : Hand). times x y.drawn) is in let f : times_in x lists ≡ times_in x (map (λ s. s.drawn) ss) = ap (times_in x) same in
        let g : times_in x lists ≡ times x me.drawn = omega (arith, b, c, d, f) in g ∙ a),
    λ ended. let a = with_seats-past own ss ended in let b = ap (λ (y : Hand). y.past) e in knows.3 (omega (arith, a, b)) ∙ l,
  );
}

pub drawn-snoc : (ss : List Seated) (s : Seated) → map (λ t. t.drawn) (ss ++ s ∷ []) ≡ map (λ t. t.drawn) ss ++ s.drawn ∷ []
drawn-snoc [] s = refl
drawn-snoc (t ∷ ss) s = ap (λ l. t.drawn ∷ l) (drawn-snoc ss s)

pub none_left : (xs ys all : List Seated) → xs ++ ys ≡ all → length xs ≡ length all → xs ≡ all
none_left [] [] all e len = e
none_left [] (y ∷ ys) all e len = let l = ap length e in absurd (omega (arith, l, len))
none_left (x ∷ xs) ys [] e len = absurd (cc)
none_left (x ∷ xs) ys (a ∷ all) e len = let t : xs ++ ys ≡ all = cc in let h : x ≡ a = cc in let r = none_left xs ys all t (omega (arith, len)) in cc

pub all_of : (a b : TableId) (xs ys : List Seated) → a ≡ b → xs ≡ ys → AllOf b ys → AllOf a xs
all_of a b xs ys e f h = let P : TableId → Type 0 = λ t. AllOf t xs in let Q : List Seated → Type 0 = λ l. AllOf b l in subst P (sym e) (subst Q (sym f) h)

pub dealt_as : (limit n : ℕ) (ss all : List Seated) (lists : List (List ℕ)) → limit ≡ n → ss ≡ all → AreDealt limit (some_ended ss) lists → AreDealt n (some_ended all) lists
dealt_as limit n ss all lists e f d = let P : ℕ → Type 0 = λ k. AreDealt k (some_ended ss) lists in let Q : List Seated → Type 0 = λ l. AreDealt n (some_ended l) lists in subst Q f (subst P e d)
