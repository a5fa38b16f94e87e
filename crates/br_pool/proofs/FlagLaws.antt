-- Drives that go out: those that are not out become fewer, or no flag changes.
use Rattle.std.proofs.Common.{◌≡◌, suc, ◌<◌, ◌⊎◌, inl, inr, Bool, true, false, List, [], ◌∷◌, map, refl, ap, arith}
use Rattle.std.specs.Prelude.{◌&&◌, ◌||◌, not}
use Rattle.std.specs.List.{AllByRecursion, AllZip, list_any}
use Rattle.br_pool.specs.Workers.{count_in}

-- what was out is out
abbrev pub Stay : List Bool → List Bool → Type 0
Stay were are = AllZip (λ (a b : Bool). a ≡ true → b ≡ true) were are

-- none changed
abbrev pub Same : List Bool → List Bool → Type 0
Same were are = AllZip (λ (a b : Bool). b ≡ a) were are

differ : false ≡ true → ⊥
differ e = absurd cc

differ_too : true ≡ false → ⊥
differ_too e = absurd cc

same_count : (were are : List Bool) → Same were are → count_in are ≡ count_in were
same_count [] [] z = refl
same_count [] (b ∷ are) z = absurd z
same_count (a ∷ were) [] z = absurd z
same_count (true ∷ were) (true ∷ are) z = same_count were are z.1
same_count (true ∷ were) (false ∷ are) z = absurd (differ z.0)
same_count (false ∷ were) (true ∷ are) z = absurd (differ_too z.0)
same_count (false ∷ were) (false ∷ are) z = ap suc (same_count were are z.1)

pub fewer_or_same : (were are : List Bool) → Stay were are → (count_in are < count_in were) ⊎ Same were are
fewer_or_same [] [] z = inr tt
fewer_or_same [] (b ∷ are) z = absurd z
fewer_or_same (a ∷ were) [] z = absurd z
fewer_or_same (true ∷ were) (true ∷ are) z = behind (fewer_or_same were are z.1)
  where
    behind : (count_in are < count_in were) ⊎ Same were are → (count_in (true ∷ are) < count_in (true ∷ were)) ⊎ Same (true ∷ were) (true ∷ are)
    behind (inl fewer) = inl fewer
    behind (inr same) = inr (refl, same)
fewer_or_same (true ∷ were) (false ∷ are) z = absurd (differ (z.0 refl))
fewer_or_same (false ∷ were) (true ∷ are) z = behind (fewer_or_same were are z.1)
  where
    behind : (count_in are < count_in were) ⊎ Same were are → (count_in (true ∷ are) < count_in (false ∷ were)) ⊎ Same (false ∷ were) (true ∷ are)
    behind (inl fewer) = let low : count_in are < suc (count_in were) = omega (arith, fewer) in inl low
    behind (inr same) = let e = same_count were are same in let low : count_in are < suc (count_in were) = omega (arith, e) in inl low
fewer_or_same (false ∷ were) (false ∷ are) z = behind (fewer_or_same were are z.1)
  where
    behind : (count_in are < count_in were) ⊎ Same were are → (count_in (false ∷ are) < count_in (false ∷ were)) ⊎ Same (false ∷ were) (false ∷ are)
    behind (inl fewer) = let low : suc (count_in are) < suc (count_in were) = omega (arith, fewer) in inl low
    behind (inr same) = inr (refl, same)

-- ---- the test for another round

pub and_left : (a b : Bool) → (a && b) ≡ true → a ≡ true
and_left true b e = refl
and_left false b e = absurd cc

pub and_right : (a b : Bool) → (a && b) ≡ true → b ≡ true
and_right true b e = e
and_right false b e = absurd cc

pub and_not : (a b : Bool) → (a && b) ≡ false → a ≡ true → b ≡ false
and_not true b e h = e
and_not false b e h = absurd cc

-- some are not out
pub some_in : {R : Type 0} (out : R → Bool) (rs : List R) → list_any (λ (r : R). not (out r)) rs ≡ true → 0 < count_in (map out rs)
some_in out [] e = absurd cc
some_in {R} out (r ∷ rs) e = parted (λ more. some_in out rs more) (out r) e
  where
    parted : (list_any (λ (r : R). not (out r)) rs ≡ true → 0 < count_in (map out rs)) → (b : Bool) → (not b || list_any (λ (r : R). not (out r)) rs) ≡ true → 0 < count_in (b ∷ map out rs)
    parted behind true more = behind more
    parted behind false more = let low : 0 < suc (count_in (map out rs)) = omega arith in low

-- all are out
pub none_in : {R : Type 0} (out : R → Bool) (rs : List R) → list_any (λ (r : R). not (out r)) rs ≡ false → AllByRecursion (λ (b : Bool). b ≡ true) (map out rs)
none_in out [] e = tt
none_in {R} out (r ∷ rs) e = parted (λ more. none_in out rs more) (out r) e
  where
    parted : (list_any (λ (r : R). not (out r)) rs ≡ false → AllByRecursion (λ (b : Bool). b ≡ true) (map out rs)) → (b : Bool) → (not b || list_any (λ (r : R). not (out r)) rs) ≡ false
        → AllByRecursion (λ (b : Bool). b ≡ true) (b ∷ map out rs)
    parted behind true more = (refl, behind more)
    parted behind false more = absurd cc
