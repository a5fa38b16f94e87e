-- Sums that are kept for flags, and flags that are set from one place to another.
use Rattle.std.specs.Prelude.{◌≡◌, ℕ, zero, suc, ◌+◌, ◌-◌, ◌*◌, ◌/◌, ◌<◌, ◌≤◌, Bool, true, false, if◌then◌else◌, List, [], ◌∷◌, length, take, drop, get_or, count_by}
use Rattle.br_tree.specs.Walk.{differs}

-- the number of flags that are set
abbrev pub set_in : List Bool → ℕ
set_in flags = count_by (λ flag. flag) flags

-- the place of the middle one of some sums
abbrev pub middle : List ℕ → ℕ
middle sums = length sums / 2

-- the number of flags that the middle one counts: sixteen for each sum up to it
abbrev pub cut : List ℕ → ℕ
cut sums = 16 * (length sums / 2 + 1)

-- the middle one of some sums is the number of set flags before the cut; the same holds for the
-- sums and the flags before it, and for those after it, down to a depth
abbrev pub AreSumsTo : ℕ → List ℕ → List Bool → Type 0
AreSumsTo zero sums flags = Unit {0}
AreSumsTo (suc depth) sums flags =
    (0 < length sums → get_or sums (middle sums) 0 ≡ set_in (take (cut sums) flags))
    × AreSumsTo depth (take (middle sums) sums) (take (cut sums) flags)
    × AreSumsTo depth (drop (middle sums + 1) sums) (drop (cut sums) flags)

-- the sums are those of the flags
pub record AreSums (sums : List ℕ) (flags : List Bool) : Type 0 where
  pub counted : (depth : ℕ) → AreSumsTo depth sums flags
  pub room : 16 * length sums ≤ length flags

-- the flags after those from one place to another were set to a value
abbrev pub painted : ℕ → ℕ → Bool → List Bool → List Bool
painted from to value [] = []
painted from zero value (flag ∷ flags) = flag ∷ flags
painted zero (suc to) value (flag ∷ flags) = value ∷ painted zero to value flags
painted (suc from) (suc to) value (flag ∷ flags) = flag ∷ painted from to value flags

-- the number of flags that this changes
abbrev pub repainted : ℕ → ℕ → Bool → List Bool → ℕ
repainted from to value [] = 0
repainted from zero value (flag ∷ flags) = 0
repainted zero (suc to) value (flag ∷ flags) = (if differs value flag then 1 else 0) + repainted zero to value flags
repainted (suc from) (suc to) value (flag ∷ flags) = repainted from to value flags

-- the number of set flags after k flags were set or cleared
abbrev pub moved : Bool → ℕ → ℕ → ℕ
moved true n k = n + k
moved false n k = n - k
