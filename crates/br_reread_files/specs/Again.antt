-- Files that are made once more.
use Rattle.std.specs.Prelude.{◌≡◌, List, map, Ok, IfOk}
use Rattle.std.specs.List.{AllByRecursion}
use Rattle.br_model.specs.File.{Item}
use Rattle.br_model.specs.Meaning.{Hit}
use Rattle.br_model.specs.Name.{FileKey}
use Rattle.br_model.specs.Restored.{Restored, fragments_for, outcome_of}
use Rattle.br_join.specs.Outcome.{restored}
use Rattle.br_records.specs.Runs.{listed}
use Rattle.br_join.specs.declared.item.Outcome.{Outcome}
use Rattle.br_data.specs.ManyDrives.{RereadingMany}
use Rattle.br_sink.specs.Delivery.{items_in}
use Rattle.br_sink.specs.FileParts.{AreAlike}
use Rattle.br_reread_parts.specs.Given.{GivesHits}

-- Two files differ at most in their bytes, which have the same length and the same digest.
pub record IsLike (one other : Item) : Type 0 where
  pub path : one.path ≡ other.path
  pub kind : one.kind ≡ other.kind
  pub stat : one.stat ≡ other.stat
  pub link : one.link ≡ other.link
  pub skipped : one.skipped ≡ other.skipped
  pub bytes : AreAlike one.bytes other.bytes

-- the hits with the key make the file
abbrev pub MakeItem : List Hit → FileKey → Item → Type 0
MakeItem hits key item = outcome_of key (fragments_for key (listed hits)) ≡ Ok item

-- for a file, the hits of its key make it
abbrev pub IsMadeOf : List Hit → Restored → Type 0
IsMadeOf hits r = IfOk r.outcome (λ item. MakeItem hits r.key item)

-- the hits are given as they were found, and make the files among the outcomes
abbrev pub CanMakeAll : RereadingMany → List Hit → List (FileKey × Outcome) → Type 0
CanMakeAll many hits outcomes = GivesHits many hits × AllByRecursion (IsMadeOf hits) (map restored outcomes)

-- the files that are made are those among the outcomes, if the hits are given as they were found
-- and make them
abbrev pub AreSameIfGiven : RereadingMany → List Hit → List (FileKey × Outcome) → List (FileKey × Outcome) → Type 0
AreSameIfGiven many hits outcomes made =
    GivesHits many hits → AllByRecursion (IsMadeOf hits) (map restored outcomes) → items_in made ≡ items_in outcomes
