-- The indexes of files, by job.
use Rattle.std.specs.Prelude.{◌≡◌, ℕ, Bool, true, false, not, ◌&&◌, ◌||◌, ◌==◌, nat_le, Option, Some, None, is_some}
use Rattle.std.specs.Ordering.{nat_cmp}
use Rattle.std.specs.BTreeMap.{BTreeMap, get}
use Rattle.std.specs.BTreeSet.{contains}
use Rattle.br_catalog_files.specs.declared.seen_indexes.Indexes.{Indexes}

-- these have the index
unfoldable pub has : Indexes → ℕ → Bool
has indexes index = (not (index == 0) && nat_le index indexes.last) || contains nat_cmp indexes.others index

-- the indexes, if there are some, have this one
abbrev pub is_in : Option Indexes → ℕ → Bool
is_in None index = false
is_in (Some indexes) index = has indexes index

-- the job has a set of indexes
abbrev pub has_job : BTreeMap ℕ Indexes → ℕ → Bool
has_job seen job = is_some (get nat_cmp seen job)

-- the job has the index
abbrev pub has_index : BTreeMap ℕ Indexes → ℕ → ℕ → Bool
has_index seen job index = is_in (get nat_cmp seen job) index

-- the index is above 0, and this one
abbrev pub is_index : ℕ → ℕ → Bool
is_index index q = not (index == 0) && index == q

-- an index is noted, if it is above 0
abbrev pub Notes : Indexes → ℕ → Indexes → Type 0
Notes old index new = (q : ℕ) → has new q ≡ (has old q || is_index index q)

-- a job gained an index that it did not have, or an index of 0
pub record Saw (old : BTreeMap ℕ Indexes) (job index : ℕ) (new : BTreeMap ℕ Indexes) : Type 0 where
  pub known : has_job old job ≡ true
  pub fresh : (not (index == 0) && has_index old job index) ≡ false
  pub jobs : (q : ℕ) → has_job new q ≡ has_job old q
  pub noted : (q i : ℕ) → has_index new q i ≡ (has_index old q i || (job == q && is_index index i))
