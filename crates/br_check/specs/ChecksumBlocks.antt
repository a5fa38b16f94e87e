-- The blocks of a volume that a bootstrap asks for, and those of them whose checksums differ.
use Rattle.std.specs.Prelude.{◌≡◌, ℕ, zero, suc, ◌+◌, ◌==◌, ◌&&◌, not, if◌then◌else◌, Bool, List, [], ◌∷◌, ◌++◌, length, drop, flat_map, decimal, codes, Option, Some, None, Result, Ok, Err}
use Rattle.br_model.specs.Block.{u32_at}
use Rattle.br_model.specs.Bootstrap.{Group}
use Rattle.br_model.specs.Meaning.{Piece, bound_of, is_covered, just_groups}
use Rattle.br_model.specs.Text.{line, escaped}
use Rattle.br_model.specs.Volume.{BlockFault, LaidBlock, Volume, next_block, volume_bytes}
use Rattle.br_block.specs.Crc.{crc32}

-- ---- checksums

-- the CRC-32 of the bytes of a block after its checksum
abbrev pub sum_of : List ℕ → ℕ
sum_of block = crc32 (drop 4 block)

-- the checksum of a block is not 0, and is not this CRC-32
abbrev pub differs : List ℕ → Bool
differs block = not (u32_at 0 block == 0) && not (u32_at 0 block == sum_of block)

-- the line of a block whose checksum differs
abbrev pub sum_line : List ℕ → ℕ → List ℕ
sum_line volume address = line (codes "checksum " ++ escaped volume ++ 32 ∷ decimal address)

-- the line of a block, if its checksum differs
abbrev pub differing_line : List ℕ → ℕ → List ℕ → List ℕ
differing_line volume address block = if differs block then sum_line volume address else []

-- the line of a block, if one of the groups asks for its records and its checksum differs
abbrev pub block_line : List ℕ → List (ℕ × Group) → LaidBlock → List ℕ
block_line volume numbered b = if is_covered (just_groups numbered) b.address then differing_line volume b.address b.bytes else []

-- ---- blocks

-- the block at an address of a volume, as a restore reads it, and the address after it; none at the end
abbrev pub block_at : List (ℕ × Group) → List ℕ → ℕ → Result (Option (LaidBlock × ℕ)) BlockFault
block_at numbered bytes address = next_block bytes (bound_of (just_groups numbered)) (is_covered (just_groups numbered)) address

-- a block and those after it; none at the end, and none at a fault
abbrev pub and_after : (ℕ → List LaidBlock) → Result (Option (LaidBlock × ℕ)) BlockFault → List LaidBlock
and_after after (Ok None) = []
and_after after (Ok (Some step)) = step.0 ∷ after step.1
and_after after (Err fault) = []

-- at most n blocks from an address on, up to the end or the first fault
unfoldable pub blocks_until : List (ℕ × Group) → List ℕ → ℕ → ℕ → List LaidBlock
blocks_until numbered bytes zero address = []
blocks_until numbered bytes (suc n) address = and_after (blocks_until numbered bytes n) (block_at numbered bytes address)

-- a walk that found this passes a block, which ends at the next address and has these lines
abbrev pub PassesTo : (LaidBlock → List ℕ) → Result (Option (LaidBlock × ℕ)) BlockFault → ℕ → List ℕ → Type 0
PassesTo lines found next told = (block : LaidBlock) × (found ≡ Ok (Some (block, next))) × (told ≡ lines block)

-- a walk passes these blocks between two addresses
abbrev pub Leads : List (ℕ × Group) → List ℕ → ℕ → List LaidBlock → ℕ → Type 0
Leads numbered bytes address [] next = next ≡ address
Leads numbered bytes address (b ∷ more) next = (after : ℕ) × (block_at numbered bytes address ≡ Ok (Some (b, after))) × Leads numbered bytes after more next

-- the lines of blocks
abbrev pub block_lines : List ℕ → List (ℕ × Group) → List LaidBlock → List ℕ
block_lines volume numbered blocks = flat_map (block_line volume numbered) blocks

-- the lines of the blocks from an address on
unfoldable pub lines_from : List ℕ → List (ℕ × Group) → List ℕ → ℕ → List ℕ
lines_from volume numbered bytes address = flat_map (block_line volume numbered) (blocks_until numbered bytes (length bytes + 1) address)

-- the lines of all blocks of a piece, over the bytes of its volume
abbrev pub sum_lines : Piece → List ℕ → List ℕ
sum_lines piece bytes = lines_from piece.volume piece.groups bytes 0

-- the bytes, if there are some, else no bytes
abbrev pub or_none : Option (List ℕ) → List ℕ
or_none None = []
or_none (Some bytes) = bytes

-- the bytes of a volume; none if it does not exist
abbrev pub bytes_in : List Volume → List ℕ → List ℕ
bytes_in volumes name = or_none (volume_bytes volumes name)
