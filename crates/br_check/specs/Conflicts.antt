-- Paths that conflict: one of two is a file where the other needs a folder.
use Rattle.std.specs.Prelude.{◌≡◌, ℕ, if◌then◌else◌, List, [], ◌∷◌, ◌++◌, length, flat_map, codes, Result, Ok, Err}
use Rattle.std.specs.List.{AllZip, list_any}
use Rattle.br_model.specs.Delivery.{Stop, delivery, in_the_way}
use Rattle.br_model.specs.File.{Outcome}
use Rattle.br_model.specs.Manifest.{Totals, totals_of}
use Rattle.br_model.specs.Restored.{Restored}
use Rattle.br_types.specs.Newest.{Copy}
use Rattle.br_records.specs.Outline.{Foreseen, IsOutlineOf, Outlined}
use Rattle.br_types.specs.Conflicts.{Noted}
use Rattle.br_types.specs.declared.conflicts.Ways.{Ways}
use Rattle.br_check.specs.Findings.{copies_of, named_line}

-- the copies whose paths conflict with one of these, or with that of an earlier copy that does not
-- conflict itself
abbrev pub conflicts_beside : List (List ℕ) → List Copy → List Copy
conflicts_beside paths [] = []
conflicts_beside paths (c ∷ more) =
    if list_any (in_the_way c.path) paths then c ∷ conflicts_beside paths more else conflicts_beside (c.path ∷ paths) more

-- the copies whose paths conflict with that of an earlier copy that does not conflict itself
abbrev pub conflicts : List Copy → List Copy
conflicts copies = conflicts_beside [] copies

-- the lines of these copies
abbrev pub lines_beside : List (List ℕ) → List Copy → List ℕ
lines_beside paths copies = flat_map (named_line (codes "conflict")) (conflicts_beside paths copies)

-- the lines of all files whose paths conflict with an earlier one
abbrev pub conflict_lines : List Outlined → List ℕ
conflict_lines os = lines_beside [] (copies_of os)

-- ---- the search

-- The lines of these copies were appended, and the other paths are noted: for any copies that
-- follow, the lines of all are these lines and those that are still to come.
pub record Told (ways : Ways) (before after : List ℕ) (copies : List Copy) : Type 0 where
  pub paths : List (List ℕ)
  pub noted : Noted ways paths
  pub lines : (more : List Copy) → after ++ lines_beside paths more ≡ before ++ lines_beside [] (copies ++ more)

-- for any copies whose lines were appended before, these now follow them
abbrev pub TellsMore : Ways → Ways → List ℕ → List ℕ → List Copy → Type 0
TellsMore ways later text longer copies = (before : List ℕ) (told : List Copy) → Told ways before text told → Told later before longer (told ++ copies)

-- ---- what it means for a delivery

-- the outcome agrees with its outline; so no digest differs
abbrev pub IsForeseen : Foreseen → Outcome → Type 0
IsForeseen (Ok o) (Ok item) = IsOutlineOf item o
IsForeseen (Err e) (Err f) = f ≡ e
IsForeseen (Ok o) (Err f) = ⊥
IsForeseen (Err e) (Ok item) = ⊥

-- all outcomes of a restore agree with their outlines
abbrev pub AreForeseen : List Outlined → List Restored → Type 0
AreForeseen os rs = AllZip (λ (o : Outlined) (r : Restored). IsForeseen o.outline r.outcome) os rs

-- a delivery stops with 81 at the first of the copies that conflict, after the files before it; if
-- there is none, it does not stop
abbrev pub StopsAt : List Copy → Totals → List Copy → Result Totals Stop → Type 0
StopsAt copies totals [] result = result ≡ Ok totals
StopsAt copies totals (c ∷ more) result =
    (before : List Copy) × (after : List Copy) × (copies ≡ before ++ c ∷ after) × (result ≡ Err (record { number = 81; done = length before }))

-- the delivery of a restore with these outlines stops at the first conflict, and at nothing else
abbrev pub ConflictsStop : Type 0
ConflictsStop = (os : List Outlined) (rs : List Restored) → AreForeseen os rs → StopsAt (copies_of os) (totals_of rs) (conflicts (copies_of os)) (delivery rs)
