-- The number of files of a restore that are older copies of paths.
use Rattle.std.specs.Prelude.{◌≡◌, ℕ, Bool, true, false, not, List, [], ◌∷◌, filter, length, min, ◌+◌, ◌^◌, ◌-◌, if◌then◌else◌}
use Rattle.std.specs.List.{list_any}
use Rattle.br_model.specs.Restored.{Restored}
use Rattle.br_types.specs.Newest.{AreNoted, Copy, copies_of, is_newest, is_of, is_outdated}
use Rattle.br_types.specs.declared.newest.NewestCopies.{NewestCopies}
use Rattle.br_engine.specs.declared.older_counts.LastCopies.{LastCopies}

-- the number of files for whose path a newer file is among the outcomes
unfoldable pub older : List Restored → ℕ
older rs = length (filter (λ r. not (is_newest rs r)) rs)

-- the last of the copies of each path
abbrev pub lasts : List Copy → List Copy
lasts [] = []
lasts (c ∷ cs) = if list_any (is_of c.path) cs then lasts cs else c ∷ lasts cs

-- the number of paths whose last copy passes a test
abbrev pub lasts_that : (Copy → Bool) → List Copy → ℕ
lasts_that test cs = length (filter test (lasts cs))

-- the number of paths whose last file is older than another one among the outcomes
unfoldable pub on_top : List Restored → ℕ
on_top rs = lasts_that (is_outdated (copies_of rs)) (copies_of rs)

-- true if a copy counts: it passes the test, and no copy of its path comes after it
abbrev pub counts : Bool → Bool → Bool
counts true known = not known
counts false known = false

-- a number plus one, at most 2^64 - 1, if the flag is set
abbrev pub and_one : ℕ → Bool → ℕ
and_one n more = if more then min (n + 1) (2 ^ 64 - 1) else n

-- the last copies that pass a test are counted
pub record IsCounted (test : Copy → Bool) (last : LastCopies) (cs : List Copy) : Type 0 where
  pub noted : AreNoted last.seen cs
  pub counted : last.count ≡ min (lasts_that test cs) (2 ^ 64 - 1)

-- whichever copies are counted, one more is counted at the front, if it passes the test
abbrev pub CountsFirst : LastCopies → LastCopies → Bool → Copy → Type 0
CountsFirst before after passes c =
    (test : Copy → Bool) (cs : List Copy) → test c ≡ passes → IsCounted test before cs → IsCounted test after (c ∷ cs)

-- whichever outcomes are counted that are older than one of the copies, one more is counted at the
-- front
abbrev pub CountsOver : LastCopies → LastCopies → NewestCopies → Restored → Type 0
CountsOver before after copies r =
    (all : List Copy) (rs : List Restored) → AreNoted copies all → IsCounted (is_outdated all) before (copies_of rs)
    → IsCounted (is_outdated all) after (copies_of (r ∷ rs))
