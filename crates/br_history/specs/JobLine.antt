-- The lines of a job after the first.
use Rattle.std.specs.Prelude.{ℕ, nat_le, if◌then◌else◌, Bool, true, false, List, bytes_eq, length, codes, Option, Some, None, Result, Ok, Err}
use Rattle.br_model.specs.Answer.{◌>>=◌}
use Rattle.br_model.specs.Session.{ToSave, Place}
use Rattle.br_types.specs.DecimalSpelling.{fields_of}
use Rattle.br_history.specs.JobFields.{field, last_field, number_said, volume_said}
use Rattle.br_history.specs.FileLine.{path_said, saved_said}
use Rattle.br_history.specs.declared.job_line.JobLine.{JobLine}
use Rattle.br_history.specs.declared.job_line.JobLine.TheVariants as lines

-- what a line asks for: to save a file, to note a path as deleted, a place for blocks, or the end
pub data LineAsked : Type 0 where
  Save : ToSave → LineAsked
  Delete : List ℕ → LineAsked
  Give : Place → LineAsked
  End : LineAsked

-- a line's request, as the model's value
abbrev pub line_asked : JobLine → LineAsked
line_asked (lines.Save file) = Save file
line_asked (lines.Delete path) = Delete path
line_asked (lines.Place place) = Give place
line_asked lines.End = End

-- what the fields after `put` or `putd` ask for
unfoldable pub put_line_said : Bool → List ℕ → Result LineAsked ℕ
put_line_said digest fields = saved_said fields >>= (λ f. Ok (Save (record { file = f; digest = digest })))

-- what the field after `del` asks for
unfoldable pub delete_said : List ℕ → Result LineAsked ℕ
delete_said text = do
  field ← last_field text
  path ← path_said field
  Ok (Delete path)

-- what the fields after `place` ask for
unfoldable pub place_said : List ℕ → Result LineAsked ℕ
place_said fields = do
  volume ← field fields
  n ← number_said 4294967295 volume.1
  v ← volume_said volume.0
  Ok (Give (record { volume = v; blocks = n }))

-- what a line of a word and the fields after it asks for
abbrev pub fields_said : List ℕ → List ℕ → Result LineAsked ℕ
fields_said word fields =
    if bytes_eq word (codes "put") then put_line_said false fields
    else if bytes_eq word (codes "putd") then put_line_said true fields
    else if bytes_eq word (codes "del") then delete_said fields
    else if bytes_eq word (codes "place") then place_said fields
    else Err 90

-- what a line of one word asks for
abbrev pub word_said : List ℕ → Result LineAsked ℕ
word_said word = if bytes_eq word (codes "end") then Ok End else Err 90

-- the first word and, if there are some, the fields after it
abbrev pub said_by : List ℕ × Option (List ℕ) → Result LineAsked ℕ
said_by (word, Some fields) = fields_said word fields
said_by (word, None) = word_said word

-- what a line asks for; a line of more than 4096 bytes is refused
unfoldable pub line_said : List ℕ → Result LineAsked ℕ
line_said text = if nat_le (length text) 4096 then said_by (fields_of text) else Err 90
