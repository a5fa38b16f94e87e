-- The progress of writing a file whose plain data are read again.
use Rattle.std.specs.Prelude.{◌≡◌, ◌≤◌, ◌+◌, ◌-◌, ℕ, List, [], ◌++◌, length, Option, Some, None, Result, Ok, Err, ⊤}
use Rattle.std.specs.Io.KnownBytes.{Appends}
use Rattle.br_model.specs.File.{Item}
use Rattle.br_model.specs.Meaning.{Hit}
use Rattle.br_join.specs.Plain.{plain_bytes}
use Rattle.br_records.specs.Records.{fragments}
use Rattle.br_data.specs.ManyDrives.{RereadingMany}
use Rattle.br_sink.specs.declared.file_parts.PartsFault.{PartsFault}
use Rattle.br_reread_parts.specs.Given.{GivesHits}
use Rattle.br_reread_parts.specs.Windows.{data_bytes}
use Rattle.br_reread_parts.specs.declared.ahead.Ahead.{Ahead}

-- the digested bytes of a file, the next data, the number of bytes that may follow, and the hits
-- after them
pub record Step : Type 0 where
  pub read : List ℕ
  pub next : List ℕ
  pub left : ℕ
  pub rest : List Hit

-- this number of bytes is digested, and these data are next
abbrev pub step_of : List ℕ → Ahead → Step
step_of read ahead = record { read = read; next = data_bytes ahead.window.items; left = ahead.left; rest = ahead.rest.now }

-- all bytes are digested
abbrev pub end_of : List ℕ → ℕ → Step
end_of read left = record { read = read; next = []; left = left; rest = [] }

-- More of a file was read, and what was digested meanwhile was written. If the rest of the file is
-- given, its bytes are those that were left.
pub record PutsOn (many : RereadingMany) (before after : Option (List ℕ)) (old new : Step) : Type 0 where
  pub bytes : List ℕ
  pub read : new.read ≡ old.read ++ bytes
  pub left : new.left + length bytes ≡ old.left
  pub written : Appends before after bytes
  pub given : (later : RereadingMany) → GivesHits later old.rest → GivesHits later new.rest
  pub same : GivesHits many old.rest → bytes ++ (new.next ++ plain_bytes (fragments new.rest)) ≡ old.next ++ plain_bytes (fragments old.rest)

-- the same for a writer, from the data that were next to those that are next now
abbrev pub PutsTo : {W : Type 0} → (W → Option (List ℕ)) → RereadingMany → W → W → List ℕ → Ahead → List ℕ → Ahead → Type 0
PutsTo contents many before after read old now new = PutsOn many (contents before) (contents after) (step_of read old) (step_of now new)

-- the same to the end of the file
abbrev pub PutsRest : {W : Type 0} → (W → Option (List ℕ)) → RereadingMany → W → W → List ℕ → Ahead → List ℕ → Ahead → Type 0
PutsRest contents many before after read old now new =
    PutsOn many (contents before) (contents after) (step_of read old) (end_of now new.left)

-- the next data were written, and those after them read
pub record WritesOn (many : RereadingMany) (before after : Option (List ℕ)) (old new : Ahead) : Type 0 where
  pub puts : (read : List ℕ) → PutsOn many before after (step_of read old) (step_of (read ++ data_bytes old.window.items) new)
  pub fewer : length new.rest.now ≤ length old.rest.now - 1

-- the next data are the last ones: they were digested and written
abbrev pub EndsOn : Option (List ℕ) → Option (List ℕ) → List ℕ → List ℕ → Ahead → Ahead → Type 0
EndsOn before after read now old new = (many : RereadingMany) → old.rest.now ≡ [] → PutsOn many before after (step_of read old) (end_of now new.left)

-- the first data of a file were read, and as many bytes may follow as the file has
pub record OpensFile (many : RereadingMany) (hits : List Hit) (item : Item) (ahead : Ahead) : Type 0 where
  pub left : ahead.left ≡ length item.bytes
  pub given : (later : RereadingMany) → GivesHits later hits → GivesHits later ahead.rest.now
  pub same : GivesHits many hits → data_bytes ahead.window.items ++ plain_bytes (fragments ahead.rest.now) ≡ plain_bytes (fragments hits)

-- the hits after the next data are given, and the bytes of the file that are left are not more than may follow
abbrev pub Fits : RereadingMany → Step → Type 0
Fits many x = GivesHits many x.rest × (length (x.next ++ plain_bytes (fragments x.rest)) ≤ x.left)

-- the same of the data that are next
abbrev pub FitsAhead : RereadingMany → Ahead → Type 0
FitsAhead many ahead = Fits many (step_of [] ahead)

-- ---- two files

-- why one of two files failed, if one did
abbrev pub either_fault : Result (Option PartsFault) PartsFault → Option PartsFault
either_fault (Ok fault) = fault
either_fault (Err why) = Some why

-- what follows if neither of two files failed; the second file's fault is a result
abbrev pub IfBoth : Result (Option PartsFault) PartsFault → Type 0 → Type 0
IfBoth (Ok None) claim = claim
IfBoth (Ok (Some why)) claim = ⊤
IfBoth (Err why) claim = ⊤

-- what follows if the second of two files did not fail
abbrev pub IfPut : Option PartsFault → Type 0 → Type 0
IfPut None claim = claim
IfPut (Some why) claim = ⊤
