-- The newest copy of each path among some files.
use Rattle.std.specs.Prelude.{◌≡◌, ℕ, Bool, true, false, not, ◌&&◌, if◌then◌else◌, List, [], ◌∷◌, filter, filter_map, bytes_eq, Option, Some, None, is_some, Ok, Err, IfSome, Contains}
use Rattle.std.specs.Borrow.{Bor}
use Rattle.std.specs.List.{list_any}
use Rattle.std.specs.Ordering.{nat_cmp, is_lt}
use Rattle.std.specs.Cmp.Lexicographic.{slice_cmp}
use Rattle.std.specs.BTreeMap.{BTreeMap, get_by}
use Rattle.br_model.specs.Name.{FileKey}
use Rattle.br_model.specs.File.{Outcome}
use Rattle.br_model.specs.Meaning.{Hits}
use Rattle.br_model.specs.Restored.{Restored, files}
use Rattle.br_model.specs.Job.{JobRows}
use Rattle.br_model.specs.Choice.{Request}
use Rattle.br_model.specs.Plan.{Plan, plan_of}
use Rattle.br_types.specs.declared.newest.NewestCopies.{NewestCopies}

-- a file under its path
pub record Copy : Type 0 where
  pub key : FileKey
  pub path : List ℕ

-- copies are ordered by session time, then by session number, then by index
abbrev pub age_rank : FileKey → List ℕ
age_rank k = k.session.time ∷ k.session.id ∷ k.index ∷ []

-- whether the first copy is older than the second
abbrev pub is_older : FileKey → FileKey → Bool
is_older a b = is_lt (slice_cmp nat_cmp (age_rank a) (age_rank b))

-- whether the copy is one of the path
abbrev pub is_of : List ℕ → Copy → Bool
is_of path c = bytes_eq c.path path

-- whether a newer copy of the path is among the copies
unfoldable pub is_outdated : List Copy → Copy → Bool
is_outdated copies c = list_any (λ (d : Copy). is_of c.path d && is_older c.key d.key) copies

-- ---- the newest files of a restore

-- a file as a copy of its path; none for a fault
abbrev pub copy_of : Restored → Option Copy
copy_of r = of_outcome r.outcome
  where
    of_outcome : Outcome → Option Copy
    of_outcome (Ok item) = Some (record { key = r.key; path = item.path })
    of_outcome (Err f) = None

-- the copies among the outcomes
abbrev pub copies_of : List Restored → List Copy
copies_of rs = filter_map copy_of rs

-- whether no copy is a newer one of the path; always true if there is no copy to compare
abbrev pub is_current : List Copy → Option Copy → Bool
is_current copies None = true
is_current copies (Some c) = not (is_outdated copies c)

-- whether no file among the outcomes is newer and has the same path; true for a fault
abbrev pub is_newest : List Restored → Restored → Bool
is_newest rs r = is_current (copies_of rs) (copy_of r)

-- the outcomes without the files for whose path there is a newer one
unfoldable pub newest : List Restored → List Restored
newest rs = filter (is_newest rs) rs

-- ---- a set of copies that has the newest of each path

-- whether a copy is older than a known one
abbrev pub is_beaten : FileKey → Option FileKey → Bool
is_beaten key None = false
is_beaten key (Some k) = is_older key k

-- whether a copy replaces the known one
abbrev pub is_news : Option FileKey → FileKey → Bool
is_news None key = true
is_news (Some k) key = is_older k key

-- the copy found is the newest of the path: it is one of the copies, and a copy is outdated exactly
-- if it is older
pub record IsNewestAt (copies : List Copy) (path : List ℕ) (found : Option FileKey) : Type 0 where
  pub some : is_some found ≡ list_any (is_of path) copies
  pub among : IfSome found (λ k. Contains copies (record { key = k; path = path }))
  pub beats : (key : FileKey) → is_outdated copies (record { key = key; path = path }) ≡ is_beaten key found

-- the newest copy of each path, by the bytes of the path
abbrev pub Kept : Type 0
Kept = BTreeMap (Bor (List ℕ)) FileKey

-- the newest copy of a path, if there is one
abbrev pub kept_at : List ℕ → Kept → Option FileKey
kept_at path kept = get_by (λ k. slice_cmp nat_cmp path k.now) kept

-- the newest copy of a path after one more copy
abbrev pub with_copy : List ℕ → Option FileKey → Copy → Option FileKey
with_copy path known c = if is_of path c && is_news known c.key then Some c.key else known

-- a copy was added to the set
abbrev pub Keeps : Kept → Copy → Kept → Type 0
Keeps before c after = (path : List ℕ) → kept_at path after ≡ with_copy path (kept_at path before) c

-- the set has at each path the newest of the copies
abbrev pub AreNoted : NewestCopies → List Copy → Type 0
AreNoted set copies = (path : List ℕ) → IsNewestAt copies path (kept_at path set.newest)

-- ---- laws

-- for each file there is one among the newest that has its path and is not older
abbrev pub NewestHasEachPath : Type 0
NewestHasEachPath =
    (rs : List Restored) (c : Copy) → Contains (copies_of rs) c
    → (d : Copy) × Contains (copies_of (newest rs)) d × (d.path ≡ c.path) × (is_older d.key c.key ≡ false)

-- no two files have one key
abbrev pub HaveOwnKeys : List Copy → Type 0
HaveOwnKeys copies = (c d : Copy) → Contains copies c → Contains copies d → c.key ≡ d.key → c ≡ d

-- if files have keys of their own, the newest have paths of their own
abbrev pub NewestHasEachPathOnce : Type 0
NewestHasEachPathOnce =
    (rs : List Restored) (c d : Copy) → HaveOwnKeys (copies_of rs) → Contains (copies_of (newest rs)) c → Contains (copies_of (newest rs)) d
    → c.path ≡ d.path → c ≡ d

-- a plan has each path once, so its files are the newest for any hits
abbrev pub PlannedAreNewest : Type 0
PlannedAreNewest =
    (history : List JobRows) (q : Request) (marks : List (List ℕ)) (plan : Plan) (hits : Hits)
    → plan_of history q marks ≡ Ok plan → newest (files hits (Some plan.names)) ≡ files hits (Some plan.names)
