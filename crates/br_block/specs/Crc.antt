-- The CRC-32 of bytes, as ISO 3309, zlib, PNG and Bacula have it.
use Rattle.std.specs.Prelude.{◌≡◌, ℕ, zero, suc, ◌+◌, ◌*◌, ◌/◌, ◌%◌, ◌<◌, List, fold, get_or, length, bit_xor}

-- the generator x^32 + x^26 + .. + x + 1 without its highest power; the lowest power is in the highest bit
abbrev pub generator : ℕ
generator = 3988292384

-- what is subtracted after a bit left the register: the generator if it was 1
abbrev pub taken : ℕ → ℕ
taken zero = 0
taken (suc bit) = generator

-- the register after one bit
unfoldable pub shifted : ℕ → ℕ
shifted register = bit_xor (register / 2) (taken (register % 2))

-- the register after a number of bits
unfoldable pub shifted_by : ℕ → ℕ → ℕ
shifted_by zero register = register
shifted_by (suc bits) register = shifted_by bits (shifted register)

-- the register after it took in a byte
abbrev pub next : ℕ → ℕ → ℕ
next register byte = shifted_by 8 (bit_xor register byte)

-- the register after it took in all of some bytes
abbrev pub after : ℕ → List ℕ → ℕ
after register bytes = fold next register bytes

-- the CRC-32: the register is inverted at the beginning and at the end
abbrev pub crc32 : List ℕ → ℕ
crc32 bytes = bit_xor (after 4294967295 bytes) 4294967295

-- ---- the table

-- The entry at a place of the table: the register that begins as the place modulo 256, after 8 bits
-- in the first row of 256 places, after 16 in the second, and so on.
abbrev pub entry : ℕ → ℕ
entry place = shifted_by (8 * (place / 256 + 1)) (place % 256)

-- these are the first entries of the table
pub record AreEntries (entries : List ℕ) (count : ℕ) : Type 0 where
  pub few : length entries ≡ count
  pub each : (place : ℕ) → place < count → get_or entries place 0 ≡ entry place
