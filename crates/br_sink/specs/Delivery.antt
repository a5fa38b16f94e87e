-- What a delivery puts into a sink, and which file it stops at.
use Rattle.std.specs.Prelude.{◌≡◌, ℕ, ◌+◌, ◌<◌, ◌≤◌, ◌⊎◌, ◌==◌, if◌then◌else◌, List, [], length, map, take, filter_map, Option, Some, None, Result, Ok, Err}
use Rattle.br_model.specs.Name.{FileKey}
use Rattle.br_model.specs.File as model
use Rattle.br_model.specs.Delivery.{Stop, item_of, put_behind}
use Rattle.br_join.specs.Outcome.{restored}
use Rattle.br_join.specs.declared.item.Outcome.{Outcome}

-- the files among the outcomes, in their order
abbrev pub items_in : List (FileKey × Outcome) → List model.Item
items_in outcomes = filter_map item_of (map restored outcomes)

-- no path of these files conflicts with another
abbrev pub AreApart : List model.Item → Type 0
AreApart items = put_behind [] items ≡ Ok tt

-- the stop that the files decide; nothing if memory ran out or the sink failed
abbrev pub stop_cause : Stop → Option Stop
stop_cause stop = if stop.number == 81 then Some stop else None

-- the files that are put: all, or those before the stop
abbrev pub items_put : {A : Type 0} → Result A Stop → List model.Item → List model.Item
items_put (Ok a) items = items
items_put (Err stop) items = take stop.done items

-- a stop of a sink after fewer than this number of files: memory ran out (1), or the sink failed
-- (80)
pub record IsStopBelow (count : ℕ) (stop : Stop) : Type 0 where
  pub number : (stop.number ≡ 1) ⊎ (stop.number ≡ 80)
  pub within : stop.done < count

-- The first `place` outcomes contain this number of files, whose paths do not conflict. If more
-- outcomes follow, the next one is a file whose path conflicts with one of these.
pub record StandApart (outcomes : List (FileKey × Outcome)) (place files : ℕ) : Type 0 where
  pub inside : place ≤ length outcomes
  pub many : files ≡ length (items_in (take place outcomes))
  pub apart : AreApart (items_in (take place outcomes))
  pub within : place < length outcomes → files < length (items_in outcomes)
  pub next : place < length outcomes → put_behind [] (items_in outcomes) ≡ Err (record { number = 81; done = files })

-- A stop is at one of the files: memory ran out (1), the sink failed (80), or the path conflicts
-- (81). No paths of the files before it conflict, and its own path conflicts with one of them only if
-- the stop is 81.
pub record IsStopIn (items : List model.Item) (stop : Stop) : Type 0 where
  pub number : (stop.number ≡ 1) ⊎ (stop.number ≡ 80) ⊎ (stop.number ≡ 81)
  pub within : stop.done < length items
  pub before : AreApart (take stop.done items)
  pub at_it : (stop.number ≡ 81 → ⊥) → AreApart (take (stop.done + 1) items)
