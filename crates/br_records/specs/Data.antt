-- The data of a record, at its place in a file.
use Rattle.std.specs.Prelude.{ℕ, ◌^◌, nat_lt, if◌then◌else◌, Err, ◌+◌, ◌-◌, List, ◌++◌, length, drop, replicate, Result, Ok}
use Rattle.br_model.specs.Answer.{◌>>=◌}
use Rattle.br_model.specs.File as model
use Rattle.br_model.specs.Record.{Record}
use Rattle.br_records.specs.declared.record_data.Extent.{Extent}

-- the extent of these bytes
abbrev pub shown_extent : List ℕ → Extent → model.Extent
shown_extent bytes e = record { start = e.start; bytes = drop e.skip bytes }

-- the extent of bytes from an address on, 68 if the file would be too large
abbrev pub fitting : ℕ → List ℕ → Result model.Extent model.Fault
fitting start bytes = if nat_lt (2 ^ 30) (start + length bytes) then Err (model.fault 68) else Ok (record { start = start; bytes = bytes })

-- bytes followed by the data of one more record, with zeros between them
abbrev pub laid : List ℕ → Record → Result (List ℕ) ℕ
laid bytes r = do
  e ← model.extent_of (length bytes) r
  Ok (bytes ++ replicate (e.start - length bytes) 0 ++ e.bytes)
