-- The files that hits make, in the order in which the set of them lists them.
use Rattle.std.specs.Prelude.{◌≡◌, ◌++◌, ℕ, List, Option, Some, None, option_map}
use Rattle.br_model.specs.Meaning.{Hit}
use Rattle.br_model.specs.Name.{FileKey}
use Rattle.br_model.specs.File.{Outcome}
use Rattle.br_model.specs.Restored.{Names, Restored, files_listed, outcome_of, planned_in, under_name}
use Rattle.br_records.specs.Records.{fragments}
use Rattle.br_records.specs.Runs.{listed}
use Rattle.br_join.specs.Front.{hits_for}

-- an outcome under the planned path, if there is one
abbrev pub named : Option (List ℕ) → Outcome → Outcome
named None outcome = outcome
named (Some path) outcome = under_name path outcome

-- the hits of one file, in order of place, and the path under which the file was planned, if it was
pub record Run : Type 0 where
  pub key : FileKey
  pub path : Option (List ℕ)
  pub hits : List Hit

-- the file that the hits of a run make
abbrev pub file_of : Run → Restored
file_of r = record { key = r.key; outcome = named r.path (outcome_of r.key (fragments r.hits)) }

-- the hits of the run are some of these, one after another
pub record IsPart (all : List Hit) (r : Run) : Type 0 where
  pub before : List Hit
  pub after : List Hit
  pub joined : before ++ (r.hits ++ after) ≡ all

-- the hits of the run are all that its file has among these
abbrev pub IsWholeRun : List Hit → Run → Type 0
IsWholeRun all r = r.hits ≡ hits_for r.key all

-- the files of the hits: the planned ones if there are names, else those that were found
abbrev pub files_of : List Hit → Option Names → List Restored
files_of hits names = files_listed (listed hits) (option_map planned_in names)
