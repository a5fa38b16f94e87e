-- The plain data of a file: those of stream 2, one after another.
use Rattle.std.specs.Prelude.{ℕ, ◌^◌, not, ◌==◌, nat_lt, if◌then◌else◌, List, [], length, flat_map, Result, Ok, Err, nat_abs}
use Rattle.br_model.specs.Block.{Fragment}
use Rattle.br_model.specs.File.{has_bytes}
use Rattle.br_model.specs.Record.{Record}

-- bytes of a stream, if it is that of plain data
abbrev pub plain_of : ℕ → List ℕ → List ℕ
plain_of stream bytes = if stream == 2 then bytes else []

-- the plain data of the records
abbrev pub plain_data : List Record → List ℕ
plain_data records = flat_map (λ (r : Record). plain_of r.stream r.bytes) records

-- the plain data of the fragments
abbrev pub plain_bytes : List Fragment → List ℕ
plain_bytes fragments = flat_map (λ (f : Fragment). plain_of (nat_abs f.stream) f.bytes) fragments

-- bytes of a file, 68 if it would be too large
abbrev pub fitting_all : List ℕ → Result (List ℕ) ℕ
fitting_all bytes = if nat_lt (2 ^ 30) (length bytes) then Err 68 else Ok bytes

-- the bytes of a file of this type, if its data are these
abbrev pub bytes_of : ℕ → List ℕ → Result (List ℕ) ℕ
bytes_of kind bytes = if not (has_bytes kind) then Ok [] else fitting_all bytes
