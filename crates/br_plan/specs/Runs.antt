-- Files whose indexes follow one another.
use Rattle.std.specs.Prelude.{◌≡◌, ℕ, zero, suc, ◌+◌, ◌==◌, ◌<◌, ◌≤◌, if◌then◌else◌, List, [], ◌∷◌, length}
use Rattle.br_plan.specs.Selected.{FileOf}

-- the first files, as many as this or all, have this index, the one after it, and so on
abbrev pub AreNext : ℕ → ℕ → List FileOf → Type 0
AreNext index zero files = Unit {0}
AreNext index (suc n) [] = Unit {0}
AreNext index (suc n) (f ∷ fs) = (f.1 ≡ index) × AreNext (index + 1) n fs

-- for each file a number of files from it on whose indexes follow one another
abbrev pub AreRuns : List FileOf → List ℕ → Type 0
AreRuns [] [] = Unit {0}
AreRuns [] (n ∷ ns) = ⊥
AreRuns (f ∷ fs) [] = ⊥
AreRuns (f ∷ fs) (n ∷ ns) = (0 < n) × AreNext f.1 n (f ∷ fs) × AreRuns fs ns

-- the greatest length of a run that begins with a file of this index, before a run of this length
-- whose first index is the next one
abbrev pub longest : ℕ → ℕ → ℕ → ℕ
longest index next len = if index + 1 == next then len + 1 else 1

-- the first files, as many as this, have the indexes from one to another
pub record IsFirstRun (files : List FileOf) (low high len : ℕ) : Type 0 where
  pub some : 0 < len
  pub bound : len ≤ length files
  pub next : AreNext low len files
  pub last : high + 1 ≡ low + len
