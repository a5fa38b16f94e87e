-- Volumes in a folder of a disk.
use Rattle.std.specs.Prelude.{◌≡◌, ℕ, ◌==◌, Bool, true, false, ◌⊎◌, ◌+◌, ◌<◌, if◌then◌else◌, List, [], ◌∷◌, ◌++◌, length, take, drop, flat_map, bytes_eq, Option, Some, None, option_map, Result, Ok, Err, ⊤}
use Rattle.std.specs.List.{list_any}
use Rattle.br_model.specs.Volume.{Volume, volume_bytes}
use Rattle.br_fs.specs.Tree.{Tree}
use Rattle.br_fs.specs.Durable.{IsDurable, IsNamed, NamesFiles}
use Rattle.br_fs.specs.Calls.{Appends, HasFile, IsNothing}
use Rattle.br_volume.specs.Drive.{bytes_from, bytes_got}
use Rattle.br_volume.specs.Store.{AppendsTo, AppendsInPartTo, Failures, IsDurableIn, no_failures}
use Rattle.br_fs.specs.declared.fault.DiskFault.{DiskFault}
use Rattle.br_fs.specs.declared.fault.DiskFault.TheVariants as disk
use Rattle.br_volume.specs.declared.drive.Got.{Got}
use Rattle.br_volume.specs.declared.drive.Got.TheVariants.{Block, End}
use Rattle.br_volume.specs.declared.fault.DriveFault.{DriveFault}
use Rattle.br_volume.specs.declared.fault.DriveFault.TheVariants.{Memory, Fault, UnknownVolume}

-- the drive's fault for a fault of its disk
abbrev pub drive_fault : DiskFault → DriveFault
drive_fault disk.NotFound = UnknownVolume
drive_fault disk.Memory = Memory
drive_fault disk.Exists = Fault
drive_fault disk.Interrupted = Fault
drive_fault disk.Failed = Fault

-- a drive over a folder: what its disk tells, the folder's path, and the number of failed calls
pub record InFolder : Type 0 where
  pub told : Option Tree
  pub path : List ℕ
  pub failures : ℕ

-- a store over a folder: what its disk tells, and what of it is durable; the folder's path, the
-- failed calls, and the number of syncs of the disk that have failed
pub record StoreInFolder : Type 0 where
  pub told : Option Tree
  pub durable : Option (List Volume)
  pub path : List ℕ
  pub failures : Failures
  pub failed_syncs : ℕ

-- a store over a folder of a disk, of which no call has failed
abbrev pub store_over : Option Tree → Option (List Volume) → ℕ → List ℕ → StoreInFolder
store_over told durable failed_syncs path =
    record { told = told; durable = durable; path = path; failures = no_failures; failed_syncs = failed_syncs }

-- the path of a volume's file: the folder's, a slash, and the volume's name
abbrev pub file_path : List ℕ → List ℕ → List ℕ
file_path folder volume = folder ++ 47 ∷ volume

-- a file below a folder as a volume, whose name is the path from the folder on
abbrev pub volume_in : List ℕ → Volume → List Volume
volume_in folder f =
    if bytes_eq (take (length folder + 1) f.name) (folder ++ 47 ∷ [])
    then record { name = drop (length folder + 1) f.name; bytes = f.bytes } ∷ [] else []

-- the volumes of a folder: the files below it
abbrev pub volumes_in : List ℕ → List Volume → List Volume
volumes_in folder files = flat_map (volume_in folder) files

-- the volumes of a folder of a disk, if the disk tells its files
abbrev pub volumes_told : List ℕ → Option Tree → Option (List Volume)
volumes_told folder told = option_map (λ (tree : Tree). volumes_in folder tree.files) told

-- what is durable of the volumes of a folder, if the disk tells it
abbrev pub durable_told : List ℕ → Option (List Volume) → Option (List Volume)
durable_told folder durable = option_map (volumes_in folder) durable

-- if the disk tells its files and what is durable, a crash leaves a file at the path, if one is there
abbrev pub IsNamedAt : List ℕ → Option Tree → Option (List Volume) → Type 0
IsNamedAt path None durable = ⊤
IsNamedAt path (Some tree) None = ⊤
IsNamedAt path (Some tree) (Some durable) = (bytes : List ℕ) → volume_bytes tree.files path ≡ Some bytes → IsNamed durable path

-- if this is true, a crash leaves a file for each of the folder
abbrev pub AreNamedIf : Bool → List ℕ → Option Tree → Option (List Volume) → Type 0
AreNamedIf has_names folder told durable = has_names ≡ true → NamesFiles folder told durable

-- if the disk tells its files and what is durable, all bytes of the file are durable
abbrev pub IsSyncedAt : List ℕ → Option Tree → Option (List Volume) → Type 0
IsSyncedAt path None durable = ⊤
IsSyncedAt path (Some tree) None = ⊤
IsSyncedAt path (Some tree) (Some durable) = IsDurable tree.files durable path

-- the name has no slash
abbrev pub IsPlain : List ℕ → Type 0
IsPlain name = list_any (λ b. b == 47) name ≡ false

-- if the disk tells its files and what is durable, all bytes of the volume are durable
abbrev pub IsSyncedBelow : List ℕ → List ℕ → Option Tree → Option (List Volume) → Type 0
IsSyncedBelow folder volume told durable = IsDurableIn (volumes_told folder told) (durable_told folder durable) volume

-- if the disk tells its files, a file is at the path, and these are its next bytes
abbrev pub HasBlock : Option Tree → List ℕ → ℕ → ℕ → List ℕ → Got → Type 0
HasBlock told path address size buffer got =
    HasFile told path (λ bytes. bytes_got buffer got ≡ bytes_from bytes address size)

-- the bytes that were read as a block of at most this size; no bytes are the end
abbrev pub IsCut : ℕ → List ℕ → List ℕ → Got → Type 0
IsCut size was now End = (was ≡ []) × (now ≡ [])
IsCut size was now (Block n) = (0 < length was) × (now ≡ take size was) × (n ≡ length now)

-- the file at the path exists and can be appended to, or an empty one was made
abbrev pub CanAppend : List ℕ → Option Tree → Option Tree → Type 0
CanAppend path earlier later = (later ≡ earlier) ⊎ Appends path [] earlier later

-- If the disk tells that nothing is at the path, does not fail by itself and is not interrupted,
-- a call there is refused only if memory runs out.
abbrev pub IsKnownFree : Option ℕ → Option Tree → List ℕ → Type 0
IsKnownFree steady None path = ⊥
IsKnownFree steady (Some tree) path = (steady ≡ Some 0) × IsNothing (Some tree) path

-- a search where nothing is finds no file, unless memory runs out, and the disk is unchanged
abbrev pub FindsNone : Option ℕ → Result ℕ DriveFault → Type 0
FindsNone steady (Ok n) = ⊥
FindsNone steady (Err UnknownVolume) = steady ≡ Some 0
FindsNone steady (Err Memory) = ⊤
FindsNone steady (Err Fault) = ⊥

-- a store over the folder appended the bytes to a volume, or at most the first of them
abbrev pub AppendsBelow : List ℕ → List ℕ → List ℕ → Option Tree → Option Tree → Type 0
AppendsBelow folder volume bytes earlier later = AppendsTo volume bytes (volumes_told folder earlier) (volumes_told folder later)

abbrev pub AppendsInPartBelow : List ℕ → List ℕ → List ℕ → Option Tree → Option Tree → Type 0
AppendsInPartBelow folder volume bytes earlier later =
    AppendsInPartTo volume bytes (volumes_told folder earlier) (volumes_told folder later)
