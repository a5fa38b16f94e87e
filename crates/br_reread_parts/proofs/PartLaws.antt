-- Bytes of a file that are written one part after another.
use Rattle.std.proofs.Common.{◌≡◌, ℕ, ◌+◌, List, [], ◌++◌, length, Option, arith, length-append}
use Rattle.std.specs.Io.KnownBytes.{Appends}
use Rattle.std.proofs.KnownBytes.{Appends-nil, Appends-trans}
use Rattle.br_sink.specs.FileParts.{WritesSome}
use Rattle.br_reread_parts.specs.FileParts.{WritesFew}

-- some bytes after the first ones
pub few_more : (a b c : Option (List ℕ)) (read : List ℕ) (room left : ℕ) → left + length read ≡ room → Appends a b read → WritesFew left b c → WritesFew room a c
few_more a b c read room left are so_far more = record {
  bytes = read ++ more.bytes;
  few = let sum = length-append read more.bytes in let few = more.few in omega (arith, are, few, sum);
  written = Appends-trans a b c read more.bytes so_far more.written;
}

-- no bytes
pub few_none : (a : Option (List ℕ)) (room : ℕ) → WritesFew room a a
few_none a room = record { bytes = []; few = omega arith; written = Appends-nil a }

-- some bytes of a file
pub some_of_few : (wanted : List ℕ) (most : ℕ) (a b : Option (List ℕ)) → most ≡ length wanted → WritesFew most a b → WritesSome wanted a b
some_of_few wanted most a b is few = record { bytes = few.bytes; few = let less = few.few in omega (arith, less, is); written = few.written }

-- this number of bytes, and no more may follow than were left
pub few_these : (a b : Option (List ℕ)) (read : List ℕ) (room left : ℕ) → left + length read ≡ room → Appends a b read → WritesFew room a b
few_these a b read room left are written = record { bytes = read; few = omega (arith, are); written = written }
