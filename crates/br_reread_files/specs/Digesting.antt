-- A file whose data are digested, one window after another.
use Rattle.std.specs.Prelude.{◌≡◌, List, ◌++◌, map, All}
use Rattle.br_model.specs.Meaning.{Hit}
use Rattle.br_model.specs.Name.{FileKey}
use Rattle.br_join.specs.Plain.{plain_bytes}
use Rattle.br_records.specs.Records.{fragments}
use Rattle.br_data.specs.ManyDrives.{RereadingMany}
use Rattle.br_reread_parts.specs.Given.{GivesHits}
use Rattle.br_reread_parts.specs.Windows.{data_bytes}
use Rattle.br_reread_files.specs.declared.digesting.Ahead.{Ahead}
use Rattle.br_reread_files.specs.declared.digesting.Digesting.{Digesting}

-- the keys of the files of the hits
abbrev pub keys_of : List Hit → List FileKey
keys_of hits = map (λ (h : Hit). h.key) hits

-- the hits were read: as they were found, if they are given unchanged
pub record AreRead (many : RereadingMany) (hits : List Hit) (ahead : Ahead) : Type 0 where
  pub keys : keys_of ahead.hits.items ≡ keys_of hits
  pub same : GivesHits many hits → ahead.hits.items ≡ hits
  pub window : data_bytes ahead.window.items ≡ plain_bytes (fragments ahead.hits.items)

-- the data that were digested and the next ones are the plain data of the hits that were read
abbrev pub IsRead : Digesting → Type 0
IsRead d = d.reading ++ data_bytes d.window.items ≡ plain_bytes (fragments d.hits.items)

-- More of a file was read. Some hits were read before, and some of the others are left now. What is
-- given was read as it was found.
pub record ReadsOn (many : RereadingMany) (had rest : List Hit) (now : Digesting) (left : List Hit) : Type 0 where
  pub read : IsRead now
  pub keys : keys_of (now.hits.items ++ left) ≡ keys_of (had ++ rest)
  pub given : (later : RereadingMany) → GivesHits later rest → GivesHits later left
  pub same : GivesHits many rest → now.hits.items ++ left ≡ had ++ rest

-- A file was read to its end, and all of it is digested.
pub record IsDigested (many : RereadingMany) (had rest : List Hit) (now : Digesting) : Type 0 where
  pub digested : now.reading ≡ plain_bytes (fragments now.hits.items)
  pub keys : keys_of now.hits.items ≡ keys_of (had ++ rest)
  pub same : GivesHits many rest → now.hits.items ≡ had ++ rest

-- all hits are of one file, and their plain data are digested
abbrev pub IsWhole : FileKey → Digesting → Type 0
IsWhole key d = All (λ (h : Hit). h.key ≡ key) d.hits.items × (d.reading ≡ plain_bytes (fragments d.hits.items))
