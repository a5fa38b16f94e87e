-- The meaning of a line of a script that is not in a job.
use Rattle.std.specs.Prelude.{◌≡◌, ℕ, nat_le, if◌then◌else◌, List, bytes_eq, length, codes, Option, Some, None, Result, Ok, Err}
use Rattle.br_model.specs.Answer.{◌>>=◌, some_or, refused_as}
use Rattle.br_model.specs.Name.{checked_volume_name}
use Rattle.br_types.specs.Escape.{unescaped}
use Rattle.br_types.specs.DecimalSpelling.{bytes_spelled, fields_of}
use Rattle.br_cli_serve.specs.DriveCount.{drives_spelled}
use Rattle.br_cli_serve.specs.declared.script_line.ScriptLine.{ScriptLine}
use Rattle.br_cli_serve.specs.declared.script_line.ScriptLine.TheVariants as lines

-- The request of a line: a number of drives, bytes for the volume of a name, a bootstrap, a run,
-- or, with the fields that follow, a job or a restore.
pub data Said : Type 0 where
  Drives : ℕ → Said
  Volume : List ℕ → List ℕ → Said
  Bsr : Said
  Extract : Said
  Job : List ℕ → Said
  Restore : List ℕ → Said

-- the program's value for a line
abbrev pub said : ScriptLine → Said
said (lines.Drives count) = Drives count
said (lines.Volume name bytes) = Volume name bytes.items
said lines.Bsr = Bsr
said lines.Extract = Extract
said (lines.Job fields) = Job fields.now
said (lines.Restore fields) = Restore fields.now

-- the request of the field after `drives`
abbrev pub drives_said : List ℕ → Result Said (Unit {0})
drives_said field = some_or (drives_spelled field) tt >>= (λ n. Ok (Drives n))

-- an escaped name and the spelled bytes
abbrev pub volume_by : List ℕ × Option (List ℕ) → Result Said (Unit {0})
volume_by (name, None) = Err tt
volume_by (name, Some digits) =
    some_or (unescaped name) tt
    >>= (λ n. refused_as (λ _. tt) (checked_volume_name n)
    >>= (λ v. some_or (bytes_spelled digits) tt >>= (λ bytes. Ok (Volume v bytes))))

-- the request of the fields after `volume`
unfoldable pub volume_said : List ℕ → Result Said (Unit {0})
volume_said fields = volume_by (fields_of fields)

-- the request of a line with a word and fields after it
abbrev pub fields_said : List ℕ → List ℕ → Result Said (Unit {0})
fields_said word fields =
    if bytes_eq word (codes "volume") then volume_said fields
    else if bytes_eq word (codes "drives") then drives_said fields
    else if bytes_eq word (codes "job") then Ok (Job fields)
    else if bytes_eq word (codes "restore") then Ok (Restore fields)
    else Err tt

-- the request of a line of one word
abbrev pub word_said : List ℕ → Result Said (Unit {0})
word_said word =
    if bytes_eq word (codes "bsr") then Ok Bsr
    else if bytes_eq word (codes "extract") then Ok Extract
    else Err tt

-- the first word and the fields after it, if there are any
abbrev pub said_by : List ℕ × Option (List ℕ) → Result Said (Unit {0})
said_by (word, Some fields) = fields_said word fields
said_by (word, None) = word_said word

-- the request of a line; a line of more than 4096 bytes is refused
unfoldable pub line_said : List ℕ → Result Said (Unit {0})
line_said text = if nat_le (length text) 4096 then said_by (fields_of text) else Err tt

-- the number of drives after the request of a line
abbrev pub drives_after : Said → ℕ → ℕ
drives_after (Drives n) before = n
drives_after (Volume name bytes) before = before
drives_after Bsr before = before
drives_after Extract before = before
drives_after (Job fields) before = before
drives_after (Restore fields) before = before

-- the number of drives after a line; a malformed line leaves it unchanged
abbrev pub drives_by : Result Said (Unit {0}) → ℕ → ℕ
drives_by (Ok asked) before = drives_after asked before
drives_by (Err e) before = before

-- a line with this request leaves the number of drives unchanged
abbrev pub LeavesDrives : Result Said (Unit {0}) → Type 0
LeavesDrives asked = (n : ℕ) → drives_by asked n ≡ n
