-- What a walk over the rows of a job keeps of the rows before.
use Rattle.std.specs.Prelude.{◌≡◌, ℕ, Bool, false, not, ◌&&◌, ◌||◌, ◌==◌, nat_le, bytes_eq, List, Option, Some, None}
use Rattle.std.specs.Borrow.{Bor}
use Rattle.std.specs.List.{list_any}
use Rattle.std.specs.Ordering.{nat_cmp}
use Rattle.std.specs.Cmp.Lexicographic.{slice_cmp}
use Rattle.std.specs.BTreeSet.{BTreeSet, contains}
use Rattle.std.specs.BTreeMap.{BTreeMap, get_by}
use Rattle.br_model.specs.Job.{FileRow, Span}

-- the second set has one more index, if the index is above 0
abbrev pub Notes : BTreeSet ℕ → ℕ → BTreeSet ℕ → Type 0
Notes old index new = (q : ℕ) → contains nat_cmp new q ≡ (contains nat_cmp old q || (not (index == 0) && index == q))

-- the set has the indexes above 0 of the rows
abbrev pub AreSeen : BTreeSet ℕ → List FileRow → Type 0
AreSeen seen files = (q : ℕ) → contains nat_cmp seen q ≡ list_any (λ (f : FileRow). not (f.index == 0) && f.index == q) files

-- whether an end, if there is one, is at an address or after it
abbrev pub reaches : ℕ → Option ℕ → Bool
reaches address None = false
reaches address (Some end) = nat_le address end

-- the ends of the spans on a volume, by a map that borrows its keys
abbrev pub end_on : List ℕ → BTreeMap (Bor (List ℕ)) ℕ → Option ℕ
end_on volume ends = get_by (λ k. slice_cmp nat_cmp volume k.now) ends

-- the map has for each volume the greatest end of the spans on it
abbrev pub AreEnds : BTreeMap (Bor (List ℕ)) ℕ → List Span → Type 0
AreEnds ends spans = (volume : List ℕ) (address : ℕ) → list_any (λ (s : Span). bytes_eq s.volume volume && nat_le address s.end) spans ≡ reaches address (end_on volume ends)
