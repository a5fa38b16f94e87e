-- Two files that are put side by side, or one after the other.
use Rattle.std.specs.Prelude.{◌≡◌, ℕ, List, [], ◌∷◌, Option, Some, None}
use Rattle.br_model.specs.File.{Item}
use Rattle.br_model.specs.Meaning.{Hit}
use Rattle.br_model.specs.Name.{FileKey}
use Rattle.br_data.specs.ManyDrives.{RereadingMany}
use Rattle.br_sink.specs.FileParts.{AreAlike, with_bytes}
use Rattle.br_sink.specs.Sink.{HasMore}
use Rattle.br_sink.specs.declared.file_parts.PartsFault.TheVariants.{Changed, Fault, NoDriveLeft}
use Rattle.br_sink.specs.declared.two_parts.TwoPut.{TwoPut}
use Rattle.br_sink.specs.declared.two_parts.TwoPut.TheVariants as put
use Rattle.br_reread_parts.specs.FileParts.{PutsAlike}
use Rattle.br_reread_parts.specs.declared.both.PlainFile.{PlainFile}
use Rattle.br_reread_files.specs.FileParts.{GivesItem}
use Rattle.br_reread_files.specs.Gathered.{Gathered}
use Rattle.br_reread_files.specs.declared.two_files.KeyedItem.{KeyedItem}
use Rattle.br_reread_files.specs.declared.two_files.TwoDone.{TwoDone}
use Rattle.br_reread_files.specs.declared.two_files.TwoDone.TheVariants.{Both, One, Neither}

-- the outcome without the bytes
abbrev pub done_as : TwoPut → TwoDone
done_as (put.Both x y) = Both
done_as (put.One x why) = One why
done_as (put.Neither why) = Neither why

-- Two files like these were put. They are these, if their bytes are given.
pub record PutsBoth (given : Type 0) (one other : Item) (had has : Option (List Item)) : Type 0 where
  pub first : List ℕ
  pub second : List ℕ
  pub alike : AreAlike first one.bytes × AreAlike second other.bytes
  pub same : given → (first ≡ one.bytes) × (second ≡ other.bytes)
  pub more : HasMore (with_bytes one first ∷ with_bytes other second ∷ []) had has

-- both files were put, or the first alone, or neither
abbrev pub PutsTwo : TwoDone → Type 0 → Item × Item → Option (List Item) → Option (List Item) → Type 0
PutsTwo Both given two had has = PutsBoth given two.0 two.1 had has
PutsTwo (One why) given two had has = PutsAlike given two.0 had has
PutsTwo (Neither why) given two had has = has ≡ had

-- the same, if anything was tried
abbrev pub PutsAny : Option TwoDone → Type 0 → Item × Item → Option (List Item) → Option (List Item) → Type 0
PutsAny (Some done) given two had has = PutsTwo done given two had has
PutsAny None given two had has = has ≡ had

-- the sink failed to put one of the files
abbrev pub FailsEither : TwoDone → Type 0
FailsEither Both = ⊥
FailsEither (One why) = why ≡ Fault
FailsEither (Neither why) = why ≡ Fault

-- the same, if the files were tried
abbrev pub FailsAny : Option TwoDone → Type 0
FailsAny (Some done) = FailsEither done
FailsAny None = ⊥

-- the data of one of the files are no longer those that were found
abbrev pub ChangesEither : TwoDone → Type 0
ChangesEither Both = ⊥
ChangesEither (One why) = why ≡ Changed
ChangesEither (Neither why) = why ≡ Changed

-- the same, if the files were tried
abbrev pub ChangesAny : Option TwoDone → Type 0
ChangesAny (Some done) = ChangesEither done
ChangesAny None = ⊥

-- no drive is left that reads one of the files
abbrev pub LosesEither : TwoDone → Type 0
LosesEither Both = ⊥
LosesEither (One why) = why ≡ NoDriveLeft
LosesEither (Neither why) = why ≡ NoDriveLeft

-- the same, if the files were tried
abbrev pub LosesAny : Option TwoDone → Type 0
LosesAny (Some done) = LosesEither done
LosesAny None = ⊥

-- the files of these two
abbrev pub plain_files : PlainFile → PlainFile → Item × Item
plain_files one other = (one.item.now, other.item.now)

-- the hits are read again as they were found, and those with the two keys make the two files
abbrev pub GivesBoth : RereadingMany → List Hit → FileKey → FileKey → Item → Item → Type 0
GivesBoth many hits key later one other = GivesItem many hits key one × GivesItem many hits later other

-- the files of these two, by their keys
abbrev pub keyed_files : KeyedItem → KeyedItem → Item × Item
keyed_files one other = (one.item.now, other.item.now)

-- what was gathered is read again as it was found, and the hits with the keys of these two make their files
abbrev pub GivesKeyed : RereadingMany → Gathered → KeyedItem → KeyedItem → Type 0
GivesKeyed many gathered one other = GivesBoth many gathered.hits one.key other.key one.item.now other.item.now
