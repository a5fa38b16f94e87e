-- Copies that are counted, and how the counts are to each other.
use Rattle.std.proofs.Common.{◌≡◌, ◌≤◌, ◌+◌, ◌-◌, ◌^◌, ℕ, suc, Bool, true, false, not, if◌then◌else◌, List, [], ◌∷◌, Option, Some, None, filter, length, min, arith, refl, ap, sym, ◌∙◌}
use Rattle.std.specs.List.{cons_option, list_any}
use Rattle.br_model.specs.Restored.{Restored}
use Rattle.br_types.specs.Newest.{Copy, copies_of, copy_of, is_current, is_of, is_outdated}
use Rattle.br_engine.specs.OlderCounts.{and_one, counts, lasts, lasts_that, older, on_top}

-- a number that is capped, and one more
one_more : (n k : ℕ) → n ≡ min k (2 ^ 64 - 1) → min (n + 1) (2 ^ 64 - 1) ≡ min (suc k) (2 ^ 64 - 1)
one_more n k e = omega (arith, e)

-- one more copy before others is counted, or not
pub counted_first : (test : Copy → Bool) (c : Copy) (cs : List Copy) (n : ℕ) (passes more : Bool) → test c ≡ passes
    → more ≡ counts passes (list_any (is_of c.path) cs) → n ≡ min (lasts_that test cs) (2 ^ 64 - 1)
    → and_one n more ≡ min (lasts_that test (c ∷ cs)) (2 ^ 64 - 1)
counted_first test c cs n passes more t m e = rw m (go (list_any (is_of c.path) cs) passes t)
  where
    go : (known passes : Bool) → test c ≡ passes
        → and_one n (counts passes known) ≡ min (length (filter test (if known then lasts cs else c ∷ lasts cs))) (2 ^ 64 - 1)
    go true true t = e
    go true false t = e
    go false true t = rw t (one_more n (length (filter test (lasts cs))) e)
    go false false t = rw t e

-- of the last copies no more pass a test than of all
few_lasts : (test : Copy → Bool) (cs : List Copy) → lasts_that test cs ≤ length (filter test cs)
few_lasts test [] = let none : 0 ≤ 0 = omega arith in none
few_lasts test (c ∷ cs) = go (list_any (is_of c.path) cs) (test c) refl (few_lasts test cs)
  where
    go : (known passes : Bool) → test c ≡ passes → length (filter test (lasts cs)) ≤ length (filter test cs)
        → length (filter test (if known then lasts cs else c ∷ lasts cs)) ≤ length (filter test (c ∷ cs))
    go true true t few = rw t (let more : length (filter test (lasts cs)) ≤ suc (length (filter test cs)) = omega (arith, few) in more)
    go true false t few = rw t few
    go false true t few = rw t (let more : suc (length (filter test (lasts cs))) ≤ suc (length (filter test cs)) = omega (arith, few) in more)
    go false false t few = rw t few

-- the number of older files is that of the outdated copies
older_are : (all : List Copy) (rs : List Restored)
    → length (filter (λ r. not (is_current all (copy_of r))) rs) ≡ length (filter (is_outdated all) (copies_of rs))
older_are all [] = refl
older_are all (r ∷ rs) = go (copy_of r) (older_are all rs)
  where
    old : List Restored
    old = filter (λ r. not (is_current all (copy_of r))) rs

    one : (c : Copy) (b : Bool) → is_outdated all c ≡ b → length old ≡ length (filter (is_outdated all) (copies_of rs))
        → length (if not (not (is_outdated all c)) then r ∷ old else old) ≡ length (filter (is_outdated all) (c ∷ copies_of rs))
    one c true t e = rw t (ap suc e)
    one c false t e = rw t e

    go : (o : Option Copy) → length old ≡ length (filter (is_outdated all) (copies_of rs))
        → length (if not (is_current all o) then r ∷ old else old) ≡ length (filter (is_outdated all) (cons_option o (copies_of rs)))
    go None e = e
    go (Some c) e = one c (is_outdated all c) refl e

-- if no file is older, none of these is the last of its path
pub none_on_top : (rs : List Restored) → older rs ≡ 0 → on_top rs ≡ 0
unfolding older on_top
none_on_top rs e =
    let few = few_lasts (is_outdated (copies_of rs)) (copies_of rs) in
    let none : length (filter (is_outdated (copies_of rs)) (copies_of rs)) ≡ 0 = sym (older_are (copies_of rs) rs) ∙ e in
    omega (arith, few, none)
