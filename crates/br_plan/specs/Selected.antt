-- Selected entries, by one test of each, and the keys of their files in the jobs.
use Rattle.std.specs.Prelude.{◌≡◌, ℕ, Bool, false, ◌&&◌, ◌||◌, ◌==◌, nat_lt, if◌then◌else◌, List, [], ◌∷◌, ◌++◌, map, filter, ℤ, pos, negsuc}
use Rattle.std.specs.Borrow.{Bor}
use Rattle.std.specs.List.{list_any}
use Rattle.std.specs.Cmp.Lexicographic.{slice_cmp}
use Rattle.std.specs.Ordering.{nat_cmp, ordering_then}
use Rattle.std.specs.declared.cmp.Ordering.{Ordering}
use Rattle.std.specs.BTreeSet.{BTreeSet, contains, contains_by}
use Rattle.br_model.specs.Order.{is_among}
use Rattle.br_model.specs.Name.{FileKey}
use Rattle.br_model.specs.View.{Entry}
use Rattle.br_view.specs.declared.entry.Entry as shown
use Rattle.br_view.specs.Shown.{shown_pair}

-- whether a set of paths, which borrows them, has the path
abbrev pub has_path : BTreeSet (Bor (List ℕ)) → List ℕ → Bool
has_path set path = contains_by (λ k. slice_cmp nat_cmp path k.now) set

-- the set has these paths
abbrev pub ArePaths : BTreeSet (Bor (List ℕ)) → List (List ℕ) → Type 0
ArePaths set paths = (q : List ℕ) → has_path set q ≡ is_among paths q

-- a file of a job, by the numbers of both
abbrev pub FileOf : Type 0
FileOf = ℕ × ℕ

-- files of jobs are ordered by job, then by index
abbrev pub file_cmp : FileOf → FileOf → Ordering
file_cmp a b = ordering_then (nat_cmp a.0 b.0) (nat_cmp a.1 b.1)

-- the file of an entry
abbrev pub file_of : Entry → FileOf
file_of e = (e.job, e.index)

-- whether an entry of the job with this index of a link, or 0, is a hard link to the file
abbrev pub links_by : ℕ → ℤ → FileOf → Bool
links_by job (pos n) file = nat_lt 0 n && file.1 == n && file.0 == job
links_by job (negsuc n) file = false

-- whether the entry is a hard link to the file
abbrev pub links_to : FileOf → Entry → Bool
links_to file e = links_by e.job e.link_index file

-- whether a set of files has the file
abbrev pub has_file : BTreeSet FileOf → FileOf → Bool
has_file set file = contains file_cmp set file

-- the second set has one more file, if this is the index of a link
abbrev pub AddsLink : BTreeSet FileOf → ℕ → ℤ → BTreeSet FileOf → Type 0
AddsLink old job link new = (q : FileOf) → has_file new q ≡ (has_file old q || links_by job link q)

-- the same, if the entry is flagged
abbrev pub AddsIf : BTreeSet FileOf → Bool → shown.Entry → BTreeSet FileOf → Type 0
AddsIf old flag e new = (q : FileOf) → has_file new q ≡ (has_file old q || flag && links_by e.job e.link_index q)

-- ---- flags of entries

-- a path with its entry
abbrev pub Pair : Type 0
Pair = Bor (List ℕ) × shown.Entry

-- whether the path of each entry is marked
abbrev pub flags_in : List (List ℕ) → List Entry → List Bool
flags_in marks entries = map (λ (e : Entry). is_among marks e.path) entries

-- whether a flagged one of the entries is a hard link to the file
abbrev pub is_linked_by : List Pair → List Bool → FileOf → Bool
is_linked_by [] flags q = false
is_linked_by (p ∷ ps) [] q = false
is_linked_by (p ∷ ps) (flag ∷ flags) q = flag && links_to q (shown_pair p) || is_linked_by ps flags q

-- the set has the files to which the flagged entries are hard links
abbrev pub AreLinked : BTreeSet FileOf → List Pair → List Bool → Type 0
AreLinked set pairs flags = (q : FileOf) → has_file set q ≡ is_linked_by pairs flags q

-- the entries that are flagged or whose file passes the test
abbrev pub kept_of : (FileOf → Bool) → List Pair → List Bool → List Pair
kept_of linked [] flags = []
kept_of linked (p ∷ ps) [] = []
kept_of linked (p ∷ ps) (flag ∷ flags) = (if flag || linked (file_of (shown_pair p)) then p ∷ [] else []) ++ kept_of linked ps flags

-- the entries that are flagged, and those of the files to which flagged ones are hard links
abbrev pub selected_by : List Pair → List Bool → List Pair
selected_by pairs flags = kept_of (is_linked_by pairs flags) pairs flags

-- ---- marks

-- whether the entry is marked, or a marked one is a hard link to its file
abbrev pub is_selected : List (List ℕ) → List Entry → Entry → Bool
is_selected marks entries e = is_among marks e.path || list_any (λ (d : Entry). is_among marks d.path && links_to (file_of e) d) entries

-- the selected entries
abbrev pub selected_of : List (List ℕ) → List Entry → List Entry
selected_of marks entries = filter (is_selected marks entries) entries

-- the key of an entry's file
abbrev pub key_of : shown.Entry → FileKey
key_of e = record { session = e.session; index = e.index }

-- key and path of the file of an entry that comes with its path
abbrev pub named_pair : Pair → FileKey × List ℕ
named_pair p = (key_of p.1, p.0.now)
