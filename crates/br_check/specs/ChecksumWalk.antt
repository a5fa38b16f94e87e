-- A walk over the blocks of a volume, while a drive's volumes grow.
use Rattle.std.specs.Prelude.{◌≡◌, ◌⊎◌, ℕ, ◌+◌, ◌^◌, ◌<◌, ◌≤◌, List, [], ◌++◌, length, take, drop, Option, Some, None, Ok, ⊤}
use Rattle.br_model.specs.Block.{Header, read_header}
use Rattle.br_model.specs.Bootstrap.{Group}
use Rattle.br_model.specs.Volume.{Volume, Extends}
use Rattle.br_check.specs.ChecksumBlocks.{PassesTo, block_at, block_line, bytes_in, differing_line, lines_from}
use Rattle.br_volume.specs.declared.drive.Got.{Got}
use Rattle.br_volume.specs.declared.drive.Got.TheVariants.{Block, End}
use Rattle.br_volume.specs.declared.fault.DriveFault.{DriveFault}
use Rattle.br_volume.specs.declared.fault.DriveFault.TheVariants.{Fault, UnknownVolume}
use Rattle.br_check.specs.declared.checksum_walk.AtAddress.{AtAddress}
use Rattle.br_check.specs.declared.checksum_walk.AtAddress.TheVariants.{Bytes, Nothing, Unread}
use Rattle.br_check.specs.declared.checksum_walk.ChecksumStep.{ChecksumStep}
use Rattle.br_check.specs.declared.checksum_walk.ChecksumStep.TheVariants.{Passed, Ended, Failed}

-- this holds for the bytes of a volume that a drive shows, if it tells its volumes
abbrev pub InShown : Option (List Volume) → List ℕ → (List ℕ → Type 0) → Type 0
InShown None volume P = ⊤
InShown (Some volumes) volume P = P (bytes_in volumes volume)

-- this holds for them, however much the volumes grow
abbrev pub InLater : Option (List Volume) → List ℕ → (List ℕ → Type 0) → Type 0
InLater None volume P = ⊤
InLater (Some volumes) volume P = (later : List Volume) → Extends later volumes → P (bytes_in later volume)

-- these bytes are at the address: as many as were asked for, or all that are left
pub record AreAt (bytes : List ℕ) (address size : ℕ) (got : List ℕ) : Type 0 where
  pub within : address < length bytes
  pub taken : take size (drop address bytes) ≡ got

-- what was seen if a drive read this
abbrev pub seen_of : Got → AtAddress
seen_of (Block n) = Bytes
seen_of End = Nothing

-- what was seen if a drive read nothing for this reason
abbrev pub IsUnseen : DriveFault → AtAddress → Type 0
IsUnseen fault s = ((s ≡ Unread) × (fault ≡ Fault)) ⊎ ((s ≡ Nothing) × (fault ≡ UnknownVolume))

-- what was read of a volume at an address: bytes, or nothing at its end; or the drive failed
abbrev pub IsSeen : Option (List Volume) → ℕ → ℕ → List ℕ → ℕ → ℕ → List ℕ → AtAddress → Type 0
IsSeen shown failures failed volume address size got Bytes = InShown shown volume (λ bytes. AreAt bytes address size got) × (address < 2 ^ 63)
IsSeen shown failures failed volume address size got Nothing = InShown shown volume (λ bytes. length bytes ≤ address)
IsSeen shown failures failed volume address size got Unread = failures < failed

-- a block with a header of this size is at the address
pub record HasSize (bytes : List ℕ) (address size : ℕ) : Type 0 where
  pub within : address < length bytes
  pub head : Header
  pub read : read_header (drop address bytes) ≡ Ok head
  pub is : head.size ≡ size

-- A block of this size is whole, and its line was appended if its checksum differs; or it
-- is not whole.
abbrev pub IsCompared : List ℕ → ℕ → ℕ → List ℕ → List ℕ → List ℕ → ChecksumStep → Type 0
IsCompared volume address size block before after (Passed passed) =
    (passed ≡ size) × (size ≤ length block) × (after ≡ before ++ differing_line volume address block)
IsCompared volume address size block before after Ended = (length block < size) × (after ≡ before)
IsCompared volume address size block before after Failed = ⊥

-- a block was passed between two addresses, and these are its lines
abbrev pub ArePassed : Option (List Volume) → List ℕ → List (ℕ × Group) → ℕ → ℕ → List ℕ → Type 0
ArePassed shown volume numbered address next told =
    InLater shown volume (λ bytes. PassesTo (block_line volume numbered) (block_at numbered bytes address) next told)

-- A step of a walk appended the lines of a block; or the walk is at its end; or the drive failed.
abbrev pub IsStep : Option (List Volume) → ℕ → ℕ → List ℕ → List (ℕ × Group) → ℕ → List ℕ → List ℕ → ChecksumStep → Type 0
IsStep shown failures failed volume numbered address before after (Passed size) =
    (told : List ℕ) × (after ≡ before ++ told) × ArePassed shown volume numbered address (address + size) told
IsStep shown failures failed volume numbered address before after Ended =
    (after ≡ before) × InShown shown volume (λ bytes. lines_from volume numbered bytes address ≡ [])
IsStep shown failures failed volume numbered address before after Failed = (after ≡ before) × (failures < failed)

-- a block that was passed has at least 16 bytes, and began below 2 ^ 63
abbrev pub GoesOn : ℕ → ChecksumStep → Type 0
GoesOn address (Passed size) = (address < 2 ^ 63) × (16 ≤ size)
GoesOn address Ended = ⊤
GoesOn address Failed = ⊤
