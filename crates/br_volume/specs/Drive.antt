-- The result of a drive, and what always holds of the volumes that it shows.
use Rattle.std.specs.Prelude.{◌≡◌, ℕ, ◌+◌, ◌^◌, ◌<◌, ◌≤◌, nat_lt, if◌then◌else◌, List, [], length, take, drop, Option, Some, None, Result, Ok, ⊤}
use Rattle.br_model.specs.Answer.{◌>>=◌, some_or, Answers}
use Rattle.br_model.specs.Volume.{Volume, volume_bytes, Extends}
use Rattle.br_volume.specs.declared.drive.Got.{Got}
use Rattle.br_volume.specs.declared.drive.Got.TheVariants.{Block, End}
use Rattle.br_volume.specs.declared.fault.DriveFault.{DriveFault}
use Rattle.br_volume.specs.Fault.{cause}

-- the next `size` bytes of a text from an address, or all that are left; none at its end or past it
abbrev pub bytes_from : List ℕ → ℕ → ℕ → Option (List ℕ)
bytes_from bytes address size = if nat_lt address (length bytes) then Some (take size (drop address bytes)) else None

-- the next `size` bytes of a volume from an address, or all that are left; none at its end or past
-- it, and 14 if there is no such volume
unfoldable pub bytes_shown : List Volume → List ℕ → ℕ → ℕ → Result (Option (List ℕ)) ℕ
bytes_shown volumes name address size = do
  bytes ← some_or (volume_bytes volumes name) 14
  Ok (bytes_from bytes address size)

-- what a drive read: the bytes of its buffer, or none at the end
abbrev pub bytes_got : List ℕ → Got → Option (List ℕ)
bytes_got buffer (Block n) = Some buffer
bytes_got buffer End = None

-- If the drive tells its volumes, the result is what they show of a block, which is its address and
-- its size. A drive may fail, and memory may run out, at any time.
abbrev pub AnswersOver : Option (List Volume) → List ℕ → ℕ × ℕ → List ℕ → Result Got DriveFault → Type 0
AnswersOver None name block buffer result = ⊤
AnswersOver (Some volumes) name block buffer result =
    Answers (bytes_got buffer) cause result (bytes_shown volumes name block.0 block.1)

-- A drive tells its volumes always or never, and each volume only grows at its end.
abbrev pub OnlyGrows : Option (List Volume) → Option (List Volume) → Type 0
OnlyGrows None None = ⊤
OnlyGrows (Some earlier) (Some later) = Extends later earlier
OnlyGrows None (Some later) = ⊥
OnlyGrows (Some earlier) None = ⊥

-- A block has the bytes of the buffer, no more than were asked for, and ends before 2^63. At the
-- end the buffer is empty.
abbrev pub IsSized : ℕ → ℕ → List ℕ → Got → Type 0
IsSized address size buffer (Block n) = (n ≡ length buffer) × (n ≤ size) × (address + n < 2 ^ 63)
IsSized address size buffer End = buffer ≡ []
