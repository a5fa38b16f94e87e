-- What a folder has besides the files of a delivery.
use Rattle.std.specs.Prelude.{◌≡◌, ℕ, Bool, not, ◌||◌, List, map, bytes_eq}
use Rattle.std.specs.List.{list_any}
use Rattle.br_model.specs.File.{Item}
use Rattle.br_model.specs.Name.{FileKey}
use Rattle.br_join.specs.declared.item.Outcome.{Outcome}
use Rattle.br_sink.specs.Delivery.{items_in}
use Rattle.br_types.specs.Conflicts.{goes_on_behind, has_path}
use Rattle.br_sink_folder.specs.declared.known_paths.Known.{Known}

-- the first path is the second one, or that of a folder on its way
abbrev pub is_on_way : List ℕ → List ℕ → Bool
is_on_way found path = bytes_eq path found || goes_on_behind found path

-- it is none of these paths, nor that of a folder on the way to one
abbrev pub is_other : List (List ℕ) → List ℕ → Bool
is_other paths found = not (list_any (is_on_way found) paths)

-- the paths of the files among the outcomes
abbrev pub paths_in : List (FileKey × Outcome) → List (List ℕ)
paths_in outcomes = map (λ (item : Item). item.path) (items_in outcomes)

-- the set has exactly these paths and those of the folders on their way
abbrev pub Has : Known → List (List ℕ) → Type 0
Has known paths = (q : List ℕ) → has_path (λ k. k.now) known.paths q ≡ list_any (is_on_way q) paths
