-- A sink around another sink. It leaves out the files at which that one fails.
use Rattle.std.specs.Prelude.{◌≡◌, ℕ, ◌+◌, ◌<◌, ◌≤◌, Bool, not, List, [], ◌∷◌, ◌++◌, length, map, take, Option, Result, Ok, Err}
use Rattle.std.specs.List.{items_where_true}
use Rattle.br_model.specs.Delivery.{Stop}
use Rattle.br_model.specs.File.{Item}
use Rattle.br_model.specs.Name.{FileKey}
use Rattle.br_join.specs.declared.item.Outcome.{Outcome}
use Rattle.br_types.specs.declared.wanted.Stops.{Stops}
use Rattle.br_sink.specs.Delivery.{items_in}
use Rattle.br_sink.specs.Sink.{HasMore}
use Rattle.br_sink.specs.declared.left_out.Noted.{Noted}

-- Each file that was taken has a flag. The sink got those with a true flag, in their order; the
-- others are left out.
pub record ArePut (start has : Option (List Item)) (left taken : List Item) : Type 0 where
  pub flags : List Bool
  pub each : length flags ≡ length taken
  pub put : HasMore (items_where_true flags taken) start has
  pub others : left ≡ items_where_true (map not flags) taken

-- the sink inside, the files that it had at first, the files taken since then, and those of them
-- that are left out
pub record InLeaving (S : Type 0) : Type 0 where
  pub stops : Stops
  pub inner : S
  pub start : Option (List Item)
  pub taken : List Item
  pub left : List Item

-- what a sink that failed this number of times has of the noted files; it failed at each that is
-- left out
pub record AreNoted (start has : Option (List Item)) (failures : ℕ) (noted : Noted) : Type 0 where
  pub put : ArePut start has noted.left.items noted.taken.items
  pub failed : length noted.left.items ≤ failures
  pub paths : noted.paths.items ≡ map (λ (i : Item). i.path) noted.left.items

-- one more file is left out
pub record Leaves (before after : Noted) (item : Item) : Type 0 where
  pub taken : after.taken.items ≡ before.taken.items ++ item ∷ []
  pub left : after.left.items ≡ before.left.items ++ item ∷ []
  pub paths : after.paths.items ≡ before.paths.items ++ item.path ∷ []

-- these files were taken, and none of them is left out
pub record Takes (before after : Noted) (items : List Item) : Type 0 where
  pub taken : after.taken.items ≡ before.taken.items ++ items
  pub left : after.left.items ≡ before.left.items
  pub paths : after.paths.items ≡ before.paths.items

-- a file is at this place among outcomes, after this number of files
pub record IsFileAt (outcomes : List (FileKey × Outcome)) (count place : ℕ) (item : Item) : Type 0 where
  pub within : place < length outcomes
  pub before : items_in (take place outcomes) ≡ take count (items_in outcomes)
  pub at_it : items_in (take (place + 1) outcomes) ≡ take count (items_in outcomes) ++ item ∷ []

-- the files that are dealt with: those of the first `count` outcomes, or those before a stop
abbrev pub passed : Result ℕ Stop → List (FileKey × Outcome) → List Item
passed (Ok count) outcomes = items_in (take count outcomes)
passed (Err stop) outcomes = take stop.done (items_in outcomes)

-- A sink that stopped at a file: its files and its number of failures, before and after.
pub record Stopped (outcomes : List (FileKey × Outcome)) (stop : Stop) (before after : Option (List Item)) (earlier later : ℕ) : Type 0 where
  pub put : HasMore (take stop.done (items_in outcomes)) before after
  pub counted : earlier ≤ later
  pub failed : stop.number ≡ 80 → earlier < later

-- whatever the sink had, the notes are right after it if they were right before
abbrev pub NotesStop : List (FileKey × Outcome) → Stop → Noted → Noted → Type 0
NotesStop outcomes stop before after =
    (start had has : Option (List Item)) (earlier later : ℕ) → Stopped outcomes stop had has earlier later
    → AreNoted start had earlier before → AreNoted start has later after

-- the notes are right for the sink as it is now if they were right for the sink as it was
abbrev pub StaysNoted : {S : Type 0} → (S → Option (List Item)) → (S → ℕ) → S → S → Noted → Noted → Type 0
StaysNoted has failures earlier later before after =
    (start : Option (List Item)) → AreNoted start (has earlier) (failures earlier) before → AreNoted start (has later) (failures later) after
