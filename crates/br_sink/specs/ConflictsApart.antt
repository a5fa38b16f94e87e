-- Which files of a restore are kept if those whose paths conflict are left out.
use Rattle.std.specs.Prelude.{◌≡◌, ℕ, Bool, true, false, not, if◌then◌else◌, List, [], ◌∷◌, ◌++◌, Option, Some, None, filter_map, map}
use Rattle.std.specs.List.{items_where_true, list_any}
use Rattle.br_model.specs.File.{Item}
use Rattle.br_model.specs.Name.{FileKey}
use Rattle.br_model.specs.Restored.{Restored}
use Rattle.br_model.specs.Delivery.{in_the_way, item_of}
use Rattle.br_join.specs.Outcome.{restored}
use Rattle.br_join.specs.declared.item.Outcome.{Outcome}
use Rattle.br_sink.specs.Delivery.{AreApart}
use Rattle.br_types.specs.Conflicts.{Noted}
use Rattle.br_types.specs.declared.conflicts.Ways.{Ways}

-- whether the path of a file conflicts with none of these; a fault has no path
abbrev pub is_free : List (List ℕ) → Option Item → Bool
is_free paths None = true
is_free paths (Some item) = not (list_any (in_the_way item.path) paths)

-- appends the path of a file to other paths, at the front
abbrev pub with_path : List (List ℕ) → Option Item → List (List ℕ)
with_path paths None = paths
with_path paths (Some item) = item.path ∷ paths

-- what is kept, given these paths: each outcome that conflicts neither with one of them nor with
-- one kept before
abbrev pub apart_beside : List (List ℕ) → List Restored → List Restored
apart_beside paths [] = []
apart_beside paths (r ∷ rs) =
    if is_free paths (item_of r) then r ∷ apart_beside (with_path paths (item_of r)) rs else apart_beside paths rs

-- the paths of the files that are left out, given these paths
abbrev pub conflicts_beside : List (List ℕ) → List Restored → List (List ℕ)
conflicts_beside paths [] = []
conflicts_beside paths (r ∷ rs) =
    if is_free paths (item_of r) then conflicts_beside (with_path paths (item_of r)) rs else with_path [] (item_of r) ++ conflicts_beside paths rs

-- what is kept: each outcome that does not conflict with one kept before it
abbrev pub apart : List Restored → List Restored
apart rs = apart_beside [] rs

-- the paths of the files that are left out: each conflicts with one kept before it
abbrev pub conflicts : List Restored → List (List ℕ)
conflicts rs = conflicts_beside [] rs

-- no two of the files that are kept conflict
abbrev pub KeptAreApart : Type 0
KeptAreApart = (rs : List Restored) → AreApart (filter_map item_of (apart rs))

-- if no two files conflict, all are kept
abbrev pub ApartStayWhole : Type 0
ApartStayWhole = (rs : List Restored) → AreApart (filter_map item_of rs) → (apart rs ≡ rs) × (conflicts rs ≡ [])

-- the paths of the files
abbrev pub paths_in : List Restored → List (List ℕ)
paths_in rs = map (λ (i : Item). i.path) (filter_map item_of rs)

-- One more outcome is kept exactly if it conflicts with none of those that are kept. So no other
-- list without conflicts keeps more of what comes first.
abbrev pub ApartGoesOn : Type 0
ApartGoesOn =
    (rs : List Restored) (r : Restored)
    → apart (rs ++ r ∷ []) ≡ (if is_free (paths_in (apart rs)) (item_of r) then apart rs ++ r ∷ [] else apart rs)

-- ---- the search

-- Whichever paths are noted: a wanted outcome is kept if it conflicts with none of them, and then
-- its path is noted too. An outcome that is not wanted is not kept.
abbrev pub IsKept : Ways → Ways → Bool → Option Item → Bool → Type 0
IsKept before after wanted item kept =
    (paths : List (List ℕ)) → Noted before paths
    → (kept ≡ (if wanted then is_free paths item else false)) × Noted after (if kept then with_path paths item else paths)

-- the outcomes that are wanted
abbrev pub wanted_of : List Bool → List (FileKey × Outcome) → List Restored
wanted_of wanted outcomes = map restored (items_where_true wanted outcomes)
