-- Files whose bytes are read again, part by part, while they are put.
use Rattle.std.specs.Prelude.{◌≡◌, ℕ, ◌≤◌, List, length, Option}
use Rattle.std.specs.Io.KnownBytes.{Appends}
use Rattle.md5.specs.Md5.{md5}
use Rattle.br_model.specs.File.{Item}
use Rattle.br_data.specs.declared.reread_fault.AgainFault.{AgainFault}
use Rattle.br_data.specs.declared.reread_fault.AgainFault.TheVariants as again
use Rattle.br_sink.specs.declared.fault.SinkFault.{SinkFault}
use Rattle.br_sink.specs.declared.fault.SinkFault.TheVariants as sink
use Rattle.br_sink.specs.declared.file_parts.PartsFault.{PartsFault}
use Rattle.br_sink.specs.declared.file_parts.PartsFault.TheVariants as parts

-- the number of the refusal
abbrev pub parts_number : PartsFault → ℕ
parts_number parts.Memory = 1
parts_number parts.Fault = 80
parts_number parts.NoDriveLeft = 70
parts_number parts.Changed = 72

-- the fault of a sink that puts a file part by part
abbrev pub parts_fault : SinkFault → PartsFault
parts_fault sink.Memory = parts.Memory
parts_fault sink.Fault = parts.Fault

-- the fault of a file whose data can't be read again
abbrev pub again_fault : AgainFault → PartsFault
again_fault again.Memory = parts.Memory
again_fault again.Failed = parts.NoDriveLeft
again_fault again.Changed = parts.Changed

-- the same number of bytes, with the same digest
abbrev pub AreAlike : List ℕ → List ℕ → Type 0
AreAlike one other = (length one ≡ length other) × (md5 one ≡ md5 other)

-- the file with these bytes
abbrev pub with_bytes : Item → List ℕ → Item
with_bytes item bytes = record {
  path = item.path;
  kind = item.kind;
  stat = item.stat;
  link = item.link;
  bytes = bytes;
  skipped = item.skipped;
}

-- some bytes were written, at most as many as these
pub record WritesSome (wanted : List ℕ) (before after : Option (List ℕ)) : Type 0 where
  pub bytes : List ℕ
  pub few : length bytes ≤ length wanted
  pub written : Appends before after bytes
