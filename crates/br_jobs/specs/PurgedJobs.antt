-- Jobs whose file rows are gone from a catalogue.
use Rattle.std.specs.Prelude.{◌≡◌, ℕ, Bool, ◌&&◌, not, if◌then◌else◌, List, [], ◌∷◌, ◌++◌, map, flat_map, codes, decimal}
use Rattle.std.specs.Borrow.{Bor}
use Rattle.br_model.specs.Text.{is_empty}
use Rattle.br_model.specs.Job.{JobRows}

-- whether the job wrote to volumes, and has no file rows
abbrev pub is_purged : JobRows → Bool
is_purged j = is_empty j.files && not (is_empty j.spans)

-- what a warning says after the number of its job
unfoldable pub lost : List ℕ
lost = codes ": no files of this job are in the catalogue"

unfoldable pub remedy : List ℕ
remedy = codes ", so older copies may come back; its bootstrap restores them"

-- the line that warns of a job
abbrev pub warning : JobRows → List ℕ
warning j = codes "purged " ++ decimal j.row.id ++ lost ++ remedy ++ 10 ∷ []

-- a line for each of the jobs that is purged
abbrev pub warnings : List JobRows → List ℕ
warnings jobs = flat_map (λ j. if is_purged j then warning j else []) jobs

-- the text has a line for each of these jobs that is purged
abbrev pub WarnsOf : List (Bor JobRows) → List ℕ → Type 0
WarnsOf chosen text = text ≡ warnings (map (λ (j : Bor JobRows). j.now) chosen)
