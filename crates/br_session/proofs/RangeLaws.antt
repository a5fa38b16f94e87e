-- The least and the greatest of indexes, taken one after another.
use Rattle.std.proofs.Common.{◌≡◌, ℕ, zero, suc, ◌+◌, ◌<◌, ◌≤◌, List, [], ◌∷◌, length, take, get_or, Some, None, map, fold, refl, sym, ap, ◌∙◌, min, max, ltb, false, ◌^◌, arith}
use Rattle.std.proofs.lemmas.Bool.{le-ltb}
use Rattle.std.proofs.lemmas.List.Sums.{sum_by-cons}
use Rattle.std.specs.Prelude.{unwrap_or, sum_by}
use Rattle.std.specs.List.{AllByRecursion}
use Rattle.br_model.specs.Session.{least_of, greatest_of}
use Rattle.br_session.specs.Spans.{with_index, within64}

both : (a b : ℕ) (ns : List ℕ) → fold with_index (Some (a, b)) ns ≡ Some (fold min a ns, fold max b ns)
both a b [] = refl
both a b (n ∷ ns) = both (min a n) (max b n) ns

pub range_is : (ns : List ℕ) → unwrap_or (fold with_index None ns) (0, 0) ≡ (least_of ns, greatest_of ns)
range_is [] = refl
range_is (n ∷ ns) =
    let top : max 0 n ≡ n = omega arith in
    ap (λ o. unwrap_or o (0, 0)) (both n n ns) ∙ ap (λ (m : ℕ). (fold min n ns, fold max m ns)) (sym top)

-- what holds of all images holds of each
pub image_at : {X Y : Type 0} (P : Y → Type 0) (f : X → Y) (xs : List X) (i : ℕ) (d : X) → AllByRecursion P (map f xs) → i < length xs → P (f (get_or xs i d))
image_at P f [] i d h lt = absurd (omega arith)
image_at P f (x ∷ xs) zero d h lt = h.0
image_at P f (x ∷ xs) (suc i) d h lt = image_at P f xs i d h.1 (omega arith)

-- a front with one more is no longer than all
pub front_within : {X Y : Type 0} (f : Y → ℕ) (h : X → Y) (xs : List X) (i : ℕ) (d : X) → i < length xs → sum_by f (map h (take i xs)) + f (h (get_or xs i d)) ≤ sum_by f (map h xs)
front_within f h [] i d lt = absurd (omega arith)
front_within f h (x ∷ xs) zero d lt = omega (arith, sum_by-cons f (h x) (map h xs))
front_within f h (x ∷ xs) (suc i) d lt =
    let more = front_within f h xs i d (omega arith) in
    omega (arith, more, sum_by-cons f (h x) (map h (take i xs)), sum_by-cons f (h x) (map h xs))

-- a number of more than 64 bits
pub too_great : (n m : ℕ) → n ≤ m → 2 ^ 64 ≤ n → None ≡ within64 m
too_great n m le great = let test : ltb m (2 ^ 64) ≡ false = le-ltb m (2 ^ 64) (omega (arith, le, great)) in rw test refl
