-- A drive over memory.
use Rattle.std.specs.Prelude.{ℕ, ◌+◌, ◌-◌, ◌^◌, min, Bool, true, false, if◌then◌else◌, List, [], ◌∷◌, Option, Result, Ok, Err}
use Rattle.br_model.specs.Volume.{Volume}
use Rattle.br_volume.specs.Calls.{is_out, one_fewer}
use Rattle.br_volume.specs.Drive.{bytes_shown}
use Rattle.br_volume.specs.declared.drive.Got.{Got}
use Rattle.br_volume.specs.declared.drive.Got.TheVariants.{Block, End}
use Rattle.br_volume.specs.declared.fault.DriveFault.{DriveFault}
use Rattle.br_volume.specs.MemStore.{with_appended}
-- the volumes that are kept as pairs of a name and bytes, in their order
pub use Rattle.br_fs.specs.Memory.{kept_files as volumes_of}

-- its volumes, the tails that it is to append, the next one first, whether it was called before, the
-- number of calls before it fails, if it is to fail, the number of bytes that it gave, at most
-- 2^64 - 1, and the number of failed calls
pub record Held : Type 0 where
  pub volumes : List Volume
  pub tails : List Volume
  pub has_begun : Bool
  pub calls_left : Option ℕ
  pub bytes_read : ℕ
  pub failures : ℕ

-- a drive that was not called yet
abbrev pub unused : List Volume → List Volume → Option ℕ → Held
unused volumes tails calls_left =
    record { volumes = volumes; tails = tails; has_begun = false; calls_left = calls_left; bytes_read = 0; failures = 0 }

-- the volumes with the first of these tails appended to its volume
abbrev pub grown_by : List Volume → List Volume → List Volume
grown_by [] volumes = volumes
grown_by (tail ∷ tails) volumes = with_appended tail.name tail.bytes volumes

-- the tails after the first
abbrev pub without_first : List Volume → List Volume
without_first [] = []
without_first (tail ∷ tails) = tails

-- the drive as a call reads it: at each call but the first the next tail is appended
abbrev pub grown : Held → Held
grown drive = record {
  volumes = if drive.has_begun then grown_by drive.tails drive.volumes else drive.volumes;
  tails = if drive.has_begun then without_first drive.tails else drive.tails;
  has_begun = true;
  calls_left = drive.calls_left;
  bytes_read = drive.bytes_read;
  failures = drive.failures;
}

-- the number of bytes that a call gave
abbrev pub given : Result Got DriveFault → ℕ
given (Ok (Block n)) = n
given (Ok End) = 0
given (Err why) = 0

-- the drive after a call for which this one read, if the call gave `count` bytes
abbrev pub after_read : Held → ℕ → Held
after_read drive count = record {
  volumes = drive.volumes;
  tails = drive.tails;
  has_begun = drive.has_begun;
  calls_left = one_fewer drive.calls_left;
  bytes_read = min (drive.bytes_read + count) (2 ^ 64 - 1);
  failures = drive.failures;
}

-- the drive after a call that failed
abbrev pub after_fault : Held → Held
after_fault drive = record {
  volumes = drive.volumes;
  tails = drive.tails;
  has_begun = drive.has_begun;
  calls_left = drive.calls_left;
  bytes_read = drive.bytes_read;
  failures = drive.failures + 1;
}

-- the drive after a call that gave `count` bytes
abbrev pub after_call : Held → ℕ → Held
after_call drive count = if is_out drive.calls_left then after_fault drive else after_read (grown drive) count

-- the result of a call: 13 if none is left, else the bytes shown
abbrev pub bytes_held : Held → List ℕ → ℕ → ℕ → Result (Option (List ℕ)) ℕ
bytes_held drive name address size =
    if is_out drive.calls_left then Err 13 else bytes_shown (grown drive).volumes name address size
