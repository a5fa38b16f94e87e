-- The name in the label of a volume. (Bacula's Developer's Guide, "Storage Media Output Format", "Volume Label Format".)
use Rattle.std.specs.Prelude.{◌≡◌, ◌⊎◌, ℕ, ◌<◌, nat_le, Bool, ◌&&◌, ◌==◌, if◌then◌else◌, List, [], ◌∷◌, ◌++◌, length, take, drop, find, bytes_eq, codes, Option, Some, None, nat_abs, Result, Ok, Err, ⊤}
use Rattle.std.specs.Int.{is_negative}
use Rattle.std.specs.List.{position}
use Rattle.br_model.specs.Block.{Fragment, fragments_of, read_block}
use Rattle.br_model.specs.Meaning.{Piece}
use Rattle.br_model.specs.Text.{line, escaped}
use Rattle.br_model.specs.Volume.{Volume, volume_bytes}
use Rattle.br_check.specs.Calls.{AppendsInTurn}
use Rattle.br_check.specs.Shown.{ComesLater, Moment, Shown}

-- the beginning of a label
unfoldable pub mark : List ℕ
mark = codes "Bacula 1.0 immortal" ++ 10 ∷ 0 ∷ []

-- the bytes up to a place, or all of them
abbrev pub up_to : Option ℕ → List ℕ → List ℕ
up_to None bytes = bytes
up_to (Some at) bytes = take at bytes

-- the bytes up to the first zero, or all of them
abbrev pub before_zero : List ℕ → List ℕ
before_zero bytes = up_to (position (λ b. b == 0) bytes) bytes

-- the name in a label that begins with the mark: it follows a version of four bytes and four times
-- of eight bytes, and ends at a zero
abbrev pub marked_name : List ℕ → Option (List ℕ)
marked_name label = if bytes_eq (take 21 label) mark then Some (before_zero (drop 57 label)) else None

-- the name in a label; none if the label ends before it
unfoldable pub name_in : List ℕ → Option (List ℕ)
name_in label = if nat_le 57 (length label) then marked_name label else None

-- the record of FileIndex -2 is the label of a volume
abbrev pub is_label : Fragment → Bool
is_label f = is_negative f.index && nat_abs f.index == 2

-- the name in a label, if there is one
abbrev pub name_of : Option Fragment → Option (List ℕ)
name_of None = None
name_of (Some f) = name_in f.bytes

-- the name in the label of a block
unfoldable pub name_in_block : List ℕ → Option (List ℕ)
name_in_block block = name_of (find is_label (fragments_of block))

-- the name in the label of a block that is whole
abbrev pub name_read : Result (List ℕ) ℕ → Option (List ℕ)
name_read (Ok block) = name_in_block block
name_read (Err why) = None

-- the name in the label of the volume that begins with these bytes
unfoldable pub name_at : List ℕ → Option (List ℕ)
name_at bytes = name_read (read_block bytes)

-- the line of a volume whose label has this name
abbrev pub other_line : List ℕ → List ℕ → List ℕ
other_line volume name = line (codes "label " ++ escaped volume ++ 32 ∷ escaped name)

-- the line of a volume, if the label has the name of another volume
abbrev pub named_line : List ℕ → List ℕ → List ℕ
named_line volume name = if bytes_eq name volume then [] else other_line volume name

-- the line of a volume, if the label has the name of another one
abbrev pub line_by : List ℕ → Option (List ℕ) → List ℕ
line_by volume None = []
line_by volume (Some name) = named_line volume name

-- the line of a volume, if it exists and the label in its first 65,536 bytes names another volume
abbrev pub label_line : List ℕ → Option (List ℕ) → List ℕ
label_line volume None = []
label_line volume (Some bytes) = line_by volume (name_at (take 65536 bytes))

-- The line about a volume over the volumes that a drive shows, if it tells them, by the failures of
-- the drive before and after: the line of the volume, or nothing if the drive failed.
abbrev pub TellsLabel : Option (List Volume) → ℕ → ℕ → List ℕ → List ℕ → Type 0
TellsLabel None failures later volume told = ⊤
TellsLabel (Some volumes) failures later volume told =
    (told ≡ label_line volume (volume_bytes volumes volume)) ⊎ ((told ≡ []) × (failures < later))

-- the line about the volume of a piece, by a call between two moments of the drive
pub record TellsVolume (before after : Moment) (piece : Piece) (told : List ℕ) : Type 0 where
  pub later : ComesLater before after
  pub tells : TellsLabel after.shows before.failures after.failures piece.volume told

-- the line about a volume was appended
abbrev pub AppendsLabel : Option (List Volume) → ℕ → ℕ → List ℕ → List ℕ → List ℕ → Type 0
AppendsLabel shown failures failed volume before after = (told : List ℕ) × TellsLabel shown failures failed volume told × (after ≡ before ++ told)

-- the line about the volume of each piece was appended, one volume after the other
abbrev pub LabelsOver : Shown → List Piece → List ℕ → List ℕ → Type 0
LabelsOver s pieces before after = AppendsInTurn TellsVolume s pieces before after
