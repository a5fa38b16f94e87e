-- Two files whose bytes are read again, side by side, while both are put.
use Rattle.std.specs.Prelude.{◌≡◌, ℕ, List, [], ◌∷◌, Option, Some, None, ⊤}
use Rattle.std.specs.Io.KnownBytes.{Appends}
use Rattle.br_model.specs.File.{Item}
use Rattle.br_sink.specs.FileParts.{AreAlike, WritesSome, with_bytes}
use Rattle.br_sink.specs.declared.file_parts.PartsFault.{PartsFault}
use Rattle.br_sink.specs.declared.file_parts.PartsFault.TheVariants as parts
use Rattle.br_sink.specs.declared.two_parts.TwoPut.{TwoPut}
use Rattle.br_sink.specs.declared.two_parts.TwoPut.TheVariants.{Both, One, Neither}

-- what two writers hold, if they tell it
abbrev pub held_by : {W : Type 0} → (W → Option (List ℕ)) → W → W → Option (List ℕ) × Option (List ℕ)
held_by contents first second = (contents first, contents second)

-- What was written of two files: all bytes of one that was put, and of one that was not some bytes, as many as it has at most.
abbrev pub WritesTwo : Item → Item → Option (List ℕ) × Option (List ℕ) → Option (List ℕ) × Option (List ℕ) → TwoPut → Type 0
WritesTwo one other before after (Both x y) = Appends before.0 after.0 x × Appends before.1 after.1 y
WritesTwo one other before after (One x why) = Appends before.0 after.0 x × WritesSome other.bytes before.1 after.1
WritesTwo one other before after (Neither why) = WritesSome one.bytes before.0 after.0 × WritesSome other.bytes before.1 after.1

-- each file that was put has as many bytes as were found, with the same digest
abbrev pub AreTwoAlike : Item → Item → TwoPut → Type 0
AreTwoAlike one other (Both x y) = AreAlike x one.bytes × AreAlike y other.bytes
AreTwoAlike one other (One x why) = AreAlike x one.bytes
AreTwoAlike one other (Neither why) = ⊤

-- each file that was put has the bytes that were found
abbrev pub AreTwoSame : Item → Item → TwoPut → Type 0
AreTwoSame one other (Both x y) = (x ≡ one.bytes) × (y ≡ other.bytes)
AreTwoSame one other (One x why) = x ≡ one.bytes
AreTwoSame one other (Neither why) = ⊤

-- the files that were put, in their order, with the bytes that were given
abbrev pub two_put : Item → Item → Option TwoPut → List Item
two_put one other (Some (Both x y)) = with_bytes one x ∷ with_bytes other y ∷ []
two_put one other (Some (One x why)) = with_bytes one x ∷ []
two_put one other (Some (Neither why)) = []
two_put one other None = []

-- why a file of the two was not put
abbrev pub why_of : TwoPut → Option PartsFault
why_of (Both x y) = None
why_of (One x why) = Some why
why_of (Neither why) = Some why

-- no file of the two was refused since its bytes are no longer those that were found
abbrev pub NotChanged : TwoPut → Type 0
NotChanged two = why_of two ≡ Some parts.Changed → ⊥

-- a file of the two was not put since no drive is left
abbrev pub IsLost : TwoPut → Type 0
IsLost two = why_of two ≡ Some parts.NoDriveLeft

-- the same, if the two were put side by side
abbrev pub LosesTwo : Option TwoPut → Type 0
LosesTwo None = ⊥
LosesTwo (Some two) = IsLost two

-- a file of the two was not put since the sink failed
abbrev pub FailsTwo : Option TwoPut → Type 0
FailsTwo None = ⊥
FailsTwo (Some two) = why_of two ≡ Some parts.Fault
