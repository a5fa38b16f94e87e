-- The files that are restored from a set of hits, in order of their keys.
use Rattle.std.specs.Prelude.{ℕ, not, List, map, filter, bytes_eq, Option, Some, None, Ok}
use Rattle.std.specs.FinMap.{FinMap, entries}
use Rattle.br_model.specs.Answer.{◌>>=◌, refused_as, refuse_if}
use Rattle.br_model.specs.Order.{in_order}
use Rattle.br_model.specs.Name.{FileKey, key_rank, key_cmp, same_key}
use Rattle.br_model.specs.Block.{Fragment}
use Rattle.br_model.specs.Record.{join}
use Rattle.br_model.specs.File.{Outcome, fault, content}
use Rattle.br_model.specs.Meaning.{Spot, Hits}

-- the paths under which files were planned: a finite map
abbrev pub Names : Type 0
Names = FinMap key_cmp (List ℕ)

-- the path under which a file was planned
pub record Planned : Type 0 where
  pub key : FileKey
  pub path : List ℕ

-- the planned files of the names, in order of key
unfoldable pub planned_in : Names → List Planned
planned_in names = map (λ (e : FileKey × List ℕ). record { key = e.0; path = e.1 }) (entries names)

-- one file of a restore
pub record Restored : Type 0 where
  pub key : FileKey
  pub outcome : Outcome

-- the hits of a set, in order of file and place
abbrev pub HitList : Type 0
HitList = List ((FileKey × Spot) × Fragment)

-- the fragments of a file in order of place
unfoldable pub fragments_for : FileKey → HitList → List Fragment
fragments_for key listed =
    map (λ (e : (FileKey × Spot) × Fragment). e.1) (filter (λ (e : (FileKey × Spot) × Fragment). same_key e.0.0 key) listed)

-- the outcome of the fragments, joined to records (60, 61, 62)
unfoldable pub outcome_of : FileKey → List Fragment → Outcome
outcome_of key fragments = do
  records ← refused_as fault (join fragments)
  content key.index records

-- 69 if the file has another path than the planned one
unfoldable pub under_name : List ℕ → Outcome → Outcome
under_name path outcome = do
  item ← outcome
  _ ← refuse_if (not (bytes_eq item.path path)) (fault 69)
  Ok item

-- the files of the hits, by their keys
unfoldable pub files_found : HitList → List Restored
files_found listed =
    map (λ key. record { key = key; outcome = outcome_of key (fragments_for key listed) })
    (in_order key_rank (map (λ (e : (FileKey × Spot) × Fragment). e.0.0) listed))

-- the planned files, by their keys
unfoldable pub files_planned : HitList → List Planned → List Restored
files_planned listed names =
    map (λ (p : Planned). record { key = p.key; outcome = under_name p.path (outcome_of p.key (fragments_for p.key listed)) })
    (in_order (λ (p : Planned). key_rank p.key) names)

-- the planned files if there is a plan, else the files of the hits
unfoldable pub files_listed : HitList → Option (List Planned) → List Restored
files_listed listed None = files_found listed
files_listed listed (Some names) = files_planned listed names

-- the files of a restore, which may have been planned
unfoldable pub files : Hits → Option (List Planned) → List Restored
files hits names = files_listed (entries hits) names
