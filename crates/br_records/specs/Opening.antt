-- A record that is open, as the model sees it.
use Rattle.std.specs.Prelude.{◌≡◌, ℕ, ◌-◌, List, [], ◌++◌, take, drop, Option, Some, None, Result}
use Rattle.std.specs.Option.{IfNone}
use Rattle.br_model.specs.Answer.{AnswersAlways, refused_as}
use Rattle.br_model.specs.File.{fault}
use Rattle.br_model.specs.Meaning.{Hit}
use Rattle.br_model.specs.Record.{Begun, Record, join_from, with_fragment}
use Rattle.br_records.specs.Making.{file_fault}
use Rattle.br_records.specs.Records.{bytes_in, fragments, prefixed}
use Rattle.br_records.specs.declared.making_fault.FileFault.{FileFault}
use Rattle.br_records.specs.declared.file_record.Open.{Open}

-- the open record, with the index of its file and the bytes so far
abbrev pub begun : ℕ → List ℕ → Open → Begun
begun index bytes open_one = record { index = index; stream = open_one.stream; bytes = bytes; left = open_one.left }

-- the same, if a record is open
abbrev pub begun_from : ℕ → List ℕ → Option Open → Option Begun
begun_from index bytes None = None
begun_from index bytes (Some open_one) = Some (begun index bytes open_one)

-- the result is the record that is open after one more hit, or the fault, as in the model for any
-- earlier bytes
abbrev pub IsOpenAfter : Option Open → Hit → Result Open FileFault → Type 0
IsOpenAfter opened hit result =
    (bytes : List ℕ) → IfNone opened (bytes ≡ [])
    → AnswersAlways (λ o. begun hit.key.index (bytes ++ hit.fragment.bytes) o) file_fault result
    (refused_as fault (with_fragment (begun_from hit.key.index bytes opened) hit.fragment))

-- the bytes of the hits from one place to another
abbrev pub bytes_between : ℕ → ℕ → List Hit → List ℕ
bytes_between first i hits = bytes_in (take (i - first) (drop first hits))

-- records that were joined, and after them those of the hits from a place on, if the open record
-- begins at `first`
abbrev pub joined_from : List Hit → ℕ → List Record → Option Open → ℕ → ℕ → Result (List Record) ℕ
joined_from hits index records opened first i =
    prefixed records (join_from (begun_from index (bytes_between first i hits) opened) (fragments (drop i hits)))
