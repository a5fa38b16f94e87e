-- A file of which the plain data are read again and written, one hit after another.
use Rattle.std.specs.Prelude.{◌≡◌, ℕ, ◌≤◌, List, [], ◌∷◌, length, Option}
use Rattle.std.specs.Io.KnownBytes.{Appends}
use Rattle.br_model.specs.File.{Item}
use Rattle.br_model.specs.Meaning.{Hit}
use Rattle.br_join.specs.Plain.{plain_bytes}
use Rattle.br_records.specs.Records.{fragments}
use Rattle.br_data.specs.ManyDrives.{RereadingMany}
use Rattle.br_sink.specs.FileParts.{AreAlike, with_bytes}
use Rattle.br_sink.specs.Sink.{HasMore}
use Rattle.br_reread_parts.specs.Given.{GivesHits}

-- the hits are read again as they were found, and their plain data are the bytes of the file
abbrev pub GivesFile : RereadingMany → List Hit → Item → Type 0
GivesFile many hits item = GivesHits many hits × (item.bytes ≡ plain_bytes (fragments hits))

-- some bytes were written, so many at most
pub record WritesFew (most : ℕ) (before after : Option (List ℕ)) : Type 0 where
  pub bytes : List ℕ
  pub few : length bytes ≤ most
  pub written : Appends before after bytes

-- A file like this one was put. It is this one, if its bytes are given.
pub record PutsAlike (given : Type 0) (item : Item) (had has : Option (List Item)) : Type 0 where
  pub bytes : List ℕ
  pub alike : AreAlike bytes item.bytes
  pub same : given → bytes ≡ item.bytes
  pub more : HasMore (with_bytes item bytes ∷ []) had has
