-- Hits whose data the drives of a restore read again as they were found.
use Rattle.std.specs.Prelude.{List}
use Rattle.std.specs.List.{AllByRecursion}
use Rattle.br_model.specs.Meaning.{Hit}
use Rattle.br_data.specs.ManyDrives.{GivesMany, RereadingMany}

-- the bytes of the hit are given as they were found
abbrev pub GivesHit : RereadingMany → Hit → Type 0
GivesHit many hit = GivesMany many hit.spot hit.fragment.bytes

-- the bytes of all hits are given as they were found
abbrev pub GivesHits : RereadingMany → List Hit → Type 0
GivesHits many hits = AllByRecursion (GivesHit many) hits
