-- Two files whose plain data are read again and written side by side.
use Rattle.std.specs.Prelude.{◌≡◌, ◌⊎◌, ℕ, List, Option, Some, None, Result, Ok, Err, IfSome, ⊤}
use Rattle.br_model.specs.File.{Item}
use Rattle.br_model.specs.Meaning.{Hit}
use Rattle.br_data.specs.ManyDrives.{RereadingMany}
use Rattle.br_sink.specs.FileParts.{AreAlike}
use Rattle.br_sink.specs.TwoParts.{why_of}
use Rattle.br_sink.specs.declared.file_parts.PartsFault.{PartsFault}
use Rattle.br_sink.specs.declared.file_parts.PartsFault.TheVariants as parts
use Rattle.br_sink.specs.declared.two_parts.TwoPut.{TwoPut}
use Rattle.br_sink.specs.declared.two_parts.TwoPut.TheVariants.{Both, One, Neither}
use Rattle.br_reread_parts.specs.FileParts.{GivesFile}
use Rattle.br_reread_parts.specs.Steps.{FitsAhead}
use Rattle.br_reread_parts.specs.declared.both.BothAhead.{BothAhead}
use Rattle.br_reread_parts.specs.declared.both.PlainFile.{PlainFile}

-- the hits of both files are read again as they were found, and their plain data are the bytes of the files
abbrev pub GivesTwo : RereadingMany → List Hit → List Hit → Item → Item → Type 0
GivesTwo many hits more one other = GivesFile many hits one × GivesFile many more other

-- the same holds for these two files
abbrev pub GivesPlain : RereadingMany → PlainFile → PlainFile → Type 0
GivesPlain many one other = GivesTwo many one.hits.now other.hits.now one.item.now other.item.now

-- the next data of both files and what comes after them fit
abbrev pub FitBoth : RereadingMany → BothAhead → Type 0
FitBoth many next = FitsAhead many next.one × FitsAhead many next.other

-- what was read of the files that did not fail is the bytes of the items
abbrev pub AreReadSame : Result (Option PartsFault) PartsFault → List ℕ → List ℕ → Item → Item → Type 0
AreReadSame (Ok None) first second one other = (first ≡ one.bytes) × (second ≡ other.bytes)
AreReadSame (Ok (Some _)) first second one other = first ≡ one.bytes
AreReadSame (Err _) first second one other = ⊤

-- a file of the two counts as changed only if this fault says so
abbrev pub IsChangedBy : TwoPut → Option PartsFault → Type 0
IsChangedBy two fault = why_of two ≡ Some parts.Changed → fault ≡ Some parts.Changed

-- a file of the two is not put for this reason, or counts as changed
abbrev pub FailsBy : TwoPut → Option PartsFault → Type 0
FailsBy two fault = IfSome (why_of two) (λ why. (fault ≡ Some why) ⊎ (why ≡ parts.Changed))

-- these are the bytes that were read, as many as the item has, with the same digest
abbrev pub AreRead : List ℕ → List ℕ → Item → Type 0
AreRead bytes read item = (bytes ≡ read) × AreAlike bytes item.bytes

-- The second file failed with this fault, or did not fail, and the first was put with these bytes.
-- The bytes read of the second file are put too, if it is like the item.
abbrev pub EndsAs : TwoPut → Option PartsFault → List ℕ → List ℕ → Item → Type 0
EndsAs (Both x y) None bytes read other = (x ≡ bytes) × AreRead y read other
EndsAs (Both x y) (Some _) bytes read other = ⊥
EndsAs (One x why) fault bytes read other = x ≡ bytes
EndsAs (Neither why) fault bytes read other = ⊥

-- what was read of two files is put if it is like the items
abbrev pub ComesOf : TwoPut → Result (Option PartsFault) PartsFault → List ℕ → List ℕ → Item → Item → Type 0
ComesOf (Both x y) (Ok None) first second one other = AreRead x first one × AreRead y second other
ComesOf (Both x y) (Ok (Some _)) first second one other = ⊥
ComesOf (Both x y) (Err _) first second one other = ⊥
ComesOf (One x why) (Ok fault) first second one other = AreRead x first one
ComesOf (One x why) (Err _) first second one other = ⊥
ComesOf (Neither why) put first second one other = ⊤
