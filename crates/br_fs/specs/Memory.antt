-- A disk over memory.
use Rattle.std.specs.Prelude.{ℕ, ◌+◌, ◌==◌, Bool, ◌&&◌, not, if◌then◌else◌, List, [], ◌∷◌, ◌++◌, length, take, drop, bytes_eq, map, flat_map, find, option_map, Vec, Option, Some, None, ◌≡◌, ⊤}
use Rattle.std.specs.List.{list_any}
use Rattle.br_model.specs.Volume.{Volume}
use Rattle.br_model.specs.SessionHolds.{bytes_of_volume}
use Rattle.br_fs.specs.Tree.{Tree, file_bytes, other_at}
use Rattle.br_fs.specs.Calls.{IsAt}
use Rattle.br_fs.specs.MemMaker.{is_below}
use Rattle.br_fs.specs.declared.kind.Kind.{Kind}
use Rattle.br_fs.specs.declared.kind.Kind.TheVariants.{File, Folder, Link, Other}
use Rattle.br_fs.specs.declared.kind.Metadata.{Metadata}

-- files that are kept as pairs of a path and bytes, in their order
abbrev pub kept_files : {A : Type 0} → List (List ℕ × Vec ℕ A) → List Volume
kept_files {A} kept = map (λ (v : List ℕ × Vec ℕ A). record { name = v.0; bytes = v.1.items }) kept

-- its tree, the files whose names are durable with the numbers of their bytes that are durable (of
-- the entries for one path, the first counts), the number of interrupts to come, the number of
-- calls before it fails if it is to fail, and the number of bytes that it still takes if it is to
-- be full
pub record Held : Type 0 where
  pub tree : Tree
  pub synced : List (List ℕ × ℕ)
  pub interrupts : ℕ
  pub calls_left : Option ℕ
  pub room : Option ℕ

-- a disk that is neither to fail nor to be full, with this number of interrupts to come
abbrev pub steady_from : Option ℕ → Option ℕ → ℕ → Option ℕ
steady_from None None interrupts = Some interrupts
steady_from None (Some room) interrupts = None
steady_from (Some n) room interrupts = None

abbrev pub steady_of : Held → Option ℕ
steady_of disk = steady_from disk.calls_left disk.room disk.interrupts

-- the disk, with this number of interrupts to come
abbrev pub with_interrupts : ℕ → Held → Held
with_interrupts n disk = record disk { interrupts = n }

-- the disk, to fail after this number of calls
abbrev pub with_calls : ℕ → Held → Held
with_calls n disk = record disk { calls_left = Some n }

-- the disk, to be full after this number of bytes
abbrev pub with_room : ℕ → Held → Held
with_room n disk = record disk { room = Some n }

-- the files that are durable, each up to the number of its bytes that are
abbrev pub durable_of : List Volume → List (List ℕ × ℕ) → List Volume
durable_of files synced = map (λ (s : List ℕ × ℕ). record { name = s.0; bytes = take s.1 (bytes_of_volume files s.0) }) synced

abbrev pub durable_on : Held → List Volume
durable_on disk = durable_of disk.tree.files disk.synced

-- whether the name of a file is durable
abbrev pub is_named : List (List ℕ × ℕ) → List ℕ → Bool
is_named synced path = list_any (λ (s : List ℕ × ℕ). bytes_eq s.0 path) synced

-- the entries after this number of bytes of a file was made durable, if its name is
abbrev pub with_synced : List ℕ → ℕ → List (List ℕ × ℕ) → List (List ℕ × ℕ)
with_synced path n synced = if is_named synced path then (path, n) ∷ synced else synced

-- the entries after the bytes of a file were made durable, if its name is
abbrev pub synced_after : List ℕ → Held → List (List ℕ × ℕ)
synced_after path disk = with_synced path (length (bytes_of_volume disk.tree.files path)) disk.synced

-- whether a path is that of a file of the folder itself
abbrev pub is_in_folder : List ℕ → List ℕ → Bool
is_in_folder folder path = is_below folder path && not (list_any (λ b. b == 47) (drop (length folder + 1) path))

-- entries of the files of the folder itself, of which no bytes are durable
abbrev pub entries_in : List ℕ → List Volume → List (List ℕ × ℕ)
entries_in folder files = flat_map (λ (f : Volume). if is_in_folder folder f.name then (f.name, 0) ∷ [] else []) files

-- a file with bytes appended
abbrev pub longer : List ℕ → Volume → Volume
longer bytes v = record { name = v.name; bytes = v.bytes ++ bytes }

-- the files with bytes appended to the first at this path, or with a new file of them at the end
abbrev pub with_appended : List ℕ → List ℕ → List Volume → List Volume
with_appended path bytes [] = record { name = path; bytes = bytes } ∷ []
with_appended path bytes (v ∷ vs) = if bytes_eq v.name path then longer bytes v ∷ vs else v ∷ with_appended path bytes vs

-- something other than a file
abbrev pub IsNotFile : Kind → Type 0
IsNotFile File = ⊥
IsNotFile Folder = ⊤
IsNotFile Link = ⊤
IsNotFile Other = ⊤

-- something at which nothing is found: a link
abbrev pub IsUnseen : Kind → Type 0
IsUnseen File = ⊤
IsUnseen Folder = ⊥
IsUnseen Link = ⊤
IsUnseen Other = ⊥

-- what is found at a path where something of this kind is
abbrev pub IsSeen : Kind → Option Metadata → Type 0
IsSeen kind None = IsUnseen kind
IsSeen kind (Some found) = (found.kind ≡ kind) × IsNotFile found.kind

-- nothing is at the path, or something at which nothing is found
abbrev pub IsUnseenAt : Option Kind → Type 0
IsUnseenAt None = ⊤
IsUnseenAt (Some kind) = IsUnseen kind

-- what is found at the path other than a file
abbrev pub IsOtherIn : List (List ℕ × Kind) → List ℕ → Option Metadata → Type 0
IsOtherIn others path None =
    IsUnseenAt (option_map (λ (e : List ℕ × Kind). e.1) (find (λ (e : List ℕ × Kind). bytes_eq e.0 path) others))
IsOtherIn others path (Some found) =
    (option_map (λ (e : List ℕ × Kind). e.1) (find (λ (e : List ℕ × Kind). bytes_eq e.0 path) others) ≡ Some found.kind)
    × IsNotFile found.kind

-- what is found at the path
abbrev pub IsIn : Tree → List ℕ → Option Metadata → Type 0
IsIn tree path None = (file_bytes tree path ≡ None) × IsUnseenAt (other_at tree path)
IsIn tree path (Some found) = IsAt tree path found.kind found.len
