-- The room for data while more come.
use Rattle.std.proofs.Common.{◌≡◌, ℕ, ◌+◌, ◌-◌, ◌<◌, ◌≤◌, Bool, true, false, List, ◌++◌, Option, Some, None, refl, sym, ap, ◌∙◌, ⊎_elim, arith}
use Rattle.std.specs.Prelude.{nat_lt, if◌then◌else◌}
use Rattle.std.proofs.lemmas.Bool.{cases_lt, le-ltb, lt-ltb}
use Rattle.std.proofs.lemmas.List.Sums.{sum_by-append}
use Rattle.br_model.specs.Meaning.{Hit}
use Rattle.br_join.specs.Room.{data_in, data_len, filled, filled_by, overfull, with_left}
use Rattle.br_join.specs.declared.room.Room.{Room}

-- data that fit
fits : (r : Room) (left bytes : ℕ) → bytes ≤ left → filled_by (Some left) r bytes ≡ with_left r (left - bytes)
fits r left bytes less = ap (λ (b : Bool). if b then overfull r else with_left r (left - bytes)) (le-ltb left bytes less)

-- and data that do not
runs_over : (r : Room) (left bytes : ℕ) → left < bytes → filled_by (Some left) r bytes ≡ overfull r
runs_over r left bytes more = ap (λ (b : Bool). if b then overfull r else with_left r (left - bytes)) (lt-ltb left bytes more)

-- ---- data that come one part after the other

abbrev made : Option ℕ → Option ℕ → Bool → Room
made bound left holds = record { bound = bound; left = left; holds_all = holds }

none_by : (bound left : Option ℕ) (holds : Bool) → filled (made bound left holds) 0 ≡ made bound left holds
none_by bound None holds = refl
none_by bound (Some n) holds =
    let same : n - 0 ≡ n = omega arith in
    fits (made bound (Some n) holds) n 0 (omega arith) ∙ ap (with_left (made bound (Some n) holds)) same

-- no data take no room
pub filled_none : (r : Room) → filled r 0 ≡ r
filled_none r = none_by r.bound r.left r.holds_all

over_stays : (r : Room) (bytes : ℕ) → filled (overfull r) bytes ≡ overfull r
over_stays r bytes = go (nat_lt 0 bytes)
  where
    go : (b : Bool) → (if b then overfull (overfull r) else with_left (overfull r) (0 - bytes)) ≡ overfull r
    go true = refl
    go false = let none : 0 - bytes ≡ 0 = omega arith in ap (with_left (overfull r)) none

more_by : (bound left : Option ℕ) (holds : Bool) (a b : ℕ) → filled (filled (made bound left holds) a) b ≡ filled (made bound left holds) (a + b)
more_by bound None holds a b = refl
more_by bound (Some n) holds a b =
    ⊎_elim
    (λ (more : n < a). ap (λ (s : Room). filled s b) (runs_over r n a more) ∙ over_stays r b ∙ sym (runs_over r n (a + b) (omega (arith, more))))
    (λ (less : a ≤ n). ⊎_elim
    (λ (more : n - a < b). ap (λ (s : Room). filled s b) (fits r n a less) ∙ runs_over (with_left r (n - a)) (n - a) b more ∙ sym (runs_over r n (a + b) (omega (arith, more, less))))
    (λ (fewer : b ≤ n - a).
    let same : n - a - b ≡ n - (a + b) = omega (arith, fewer, less) in
    ap (λ (s : Room). filled s b) (fits r n a less) ∙ fits (with_left r (n - a)) (n - a) b fewer ∙ ap (with_left r) same ∙ sym (fits r n (a + b) (omega (arith, fewer, less))))
    (cases_lt (n - a) b)) (cases_lt n a)
  where
    r : Room
    r = made bound (Some n) holds

-- data that come one part after the other take the room of all
pub filled_more : (r : Room) (xs ys : List Hit) → filled (filled r (data_in xs)) (data_in ys) ≡ filled r (data_in (xs ++ ys))
filled_more r xs ys = more_by r.bound r.left r.holds_all (data_in xs) (data_in ys) ∙ ap (filled r) (sym (sum_by-append data_len xs ys))
