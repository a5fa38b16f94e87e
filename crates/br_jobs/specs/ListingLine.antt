-- The line of a job.
use Rattle.std.specs.Prelude.{◌≡◌, ◌⊎◌, ℕ, Bool, not, ◌&&◌, ◌==◌, if◌then◌else◌, List, [], ◌∷◌, ◌++◌, length, filter, flat_map, sum_by, bytes_eq, codes, decimal, Result, Ok, Err}
use Rattle.std.specs.Borrow.{Bor}
use Rattle.std.specs.List.{list_any, AllZip}
use Rattle.br_model.specs.Text.{escaped}
use Rattle.br_model.specs.Attribute.{Stat, read_stat}
use Rattle.br_model.specs.Console.{size_of}
use Rattle.br_model.specs.Job.{FileRow, JobRow, JobRows, Span}
use Rattle.br_model.specs.Moment.{read_moment}
use Rattle.br_model.specs.Name.{is_directory}

-- the text of a moment: `--before` reads it as these seconds; a moment beyond this form is an @ and
-- the seconds
abbrev pub IsMoment : ℕ → List ℕ → Type 0
IsMoment seconds text = (read_moment text ≡ Ok seconds) ⊎ (text ≡ 64 ∷ decimal seconds)

-- whether the row is of a saved file, and not of a deletion
abbrev pub is_saved : FileRow → Bool
is_saved f = not (f.index == 0)

-- the size in the numbers of a file; 0 for a negative one, and for numbers that can't be read
abbrev pub size_in : Result Stat ℕ → ℕ
size_in (Ok stat) = size_of stat.size
size_in (Err why) = 0

-- the bytes of a saved file count, those of a directory do not
abbrev pub counts : FileRow → Bool
counts f = is_saved f && not (is_directory f.path)

-- the bytes of a file that count
abbrev pub bytes_of : FileRow → ℕ
bytes_of f = if counts f then size_in (read_stat f.lstat) else 0

-- a name after a comma, unless it is that of the previous volume
abbrev pub next_text : List ℕ → List ℕ → List ℕ
next_text last name = if bytes_eq name last then [] else 44 ∷ escaped name

-- the names of the volumes of spans after one on the last volume; repeated names in a row are
-- written once
unfoldable pub later_text : List ℕ → List Span → List ℕ
later_text last [] = []
later_text last (s ∷ ss) = next_text last s.volume ++ later_text s.volume ss

-- the names of the volumes of spans with commas between them; repeated names in a row are written
-- once; - if there are no spans
abbrev pub volumes_text : List Span → List ℕ
volumes_text [] = codes "-"
volumes_text (s ∷ ss) = escaped s.volume ++ later_text s.volume ss

-- whether the job is among the chosen ones
abbrev pub is_chosen : List (Bor JobRows) → JobRows → Bool
is_chosen chosen j = list_any (λ (k : Bor JobRows). k.now.row.id == j.row.id) chosen

-- * for a job that is chosen, - for another
abbrev pub mark_of : Bool → ℕ
mark_of chosen = if chosen then 42 else 45

-- what comes before the moment of a job: its mark, its number, and the letters of its level and its status
abbrev pub start_text : Bool → JobRows → List ℕ
start_text chosen j = mark_of chosen ∷ 32 ∷ decimal j.row.id ++ 32 ∷ j.row.level ∷ 32 ∷ j.row.status ∷ 32 ∷ []

-- client and file set, each after a blank
abbrev pub names_text : JobRow → List ℕ
names_text row = 32 ∷ escaped row.client ++ 32 ∷ escaped row.fileset

-- the number of saved files, and their bytes, each after a blank
abbrev pub sums_text : List FileRow → List ℕ
sums_text files = 32 ∷ decimal (length (filter is_saved files)) ++ 32 ∷ decimal (sum_by bytes_of files)

-- the volumes after a blank, and the end of the line
abbrev pub end_text : List Span → List ℕ
end_text spans = 32 ∷ volumes_text spans ++ 10 ∷ []

-- what comes after the moment: client, file set, the number of files, their bytes, and the volumes
abbrev pub rest_text : JobRows → List ℕ
rest_text j = names_text j.row ++ sums_text j.files ++ end_text j.spans

-- the line of a job
abbrev pub IsLine : Bool → JobRows → List ℕ → Type 0
IsLine chosen j line = (moment : List ℕ) × IsMoment j.row.start moment × (line ≡ start_text chosen j ++ moment ++ rest_text j)
