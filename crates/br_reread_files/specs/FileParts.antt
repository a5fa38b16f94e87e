-- A file that is made from hits which are read again.
use Rattle.std.specs.Prelude.{List}
use Rattle.br_model.specs.File.{Item}
use Rattle.br_model.specs.Meaning.{Hit}
use Rattle.br_model.specs.Name.{FileKey}
use Rattle.br_data.specs.ManyDrives.{RereadingMany}
use Rattle.br_reread_parts.specs.Given.{GivesHits}
use Rattle.br_reread_files.specs.Again.{MakeItem}

-- the hits are read again as they were found, and those with the key make the file
abbrev pub GivesItem : RereadingMany → List Hit → FileKey → Item → Type 0
GivesItem many hits key item = GivesHits many hits × MakeItem hits key item
