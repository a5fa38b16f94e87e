-- How many files of runs of hits are made.
use Rattle.std.specs.Prelude.{◌≡◌, List, length, map, take}
use Rattle.std.specs.List.{AllByRecursion}
use Rattle.br_model.specs.Name.{FileKey}
use Rattle.br_model.specs.Restored.{Restored}
use Rattle.br_data.specs.ManyDrives.{RereadingMany}
use Rattle.br_join.specs.Outcome.{restored}
use Rattle.br_join.specs.Runs.{Run, file_of}
use Rattle.br_join.specs.declared.item.Outcome.{Outcome}
use Rattle.br_reread_parts.specs.Given.{GivesHits}

-- the bytes of all hits of the files are given as they were found
abbrev pub GivesRuns : RereadingMany → List Run → Type 0
GivesRuns many runs = AllByRecursion (λ (r : Run). GivesHits many r.hits) runs

-- these are the first files of the list
abbrev pub AreFirst : List Run → List Restored → Type 0
AreFirst runs made = made ≡ map file_of (take (length made) runs)

-- the files that are made stay the first ones, if the bytes of all hits are given as they were found
abbrev pub StayFirst : RereadingMany → List Run → List (FileKey × Outcome) → List (FileKey × Outcome) → Type 0
StayFirst many runs before after = GivesRuns many runs → AreFirst runs (map restored before) → AreFirst runs (map restored after)
