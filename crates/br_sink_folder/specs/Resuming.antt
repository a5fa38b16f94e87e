-- What a resumed delivery leaves.
use Rattle.std.specs.Prelude.{◌≡◌, ℕ, true, List, [], ◌∷◌, length, take, Option, Some, None, ⊤}
use Rattle.std.specs.List.{AllByRecursion}
use Rattle.md5.specs.Md5.{md5}
use Rattle.br_model.specs.Delivery.{Stop}
use Rattle.br_model.specs.File.{Item, has_bytes}
use Rattle.br_fs.specs.Alike.{IsAlike}
use Rattle.br_fs.specs.Making.{Nodes, Bytes, node_at}
use Rattle.br_sink.specs.FileParts.{with_bytes}
use Rattle.br_sink_folder.specs.Below.{AddsFolders}
use Rattle.br_sink_folder.specs.FolderSink.{InFolder, PutsItem}
use Rattle.br_sink_folder.specs.Held.{LeavesFiles, is_put_at}
use Rattle.br_sink_folder.specs.Stopped.{LeavesAtStop, LeavesOnly}
use Rattle.br_sink_folder.specs.There.{IsThere}
use Rattle.br_types.specs.declared.wanted.Start.{Start}
use Rattle.br_types.specs.declared.wanted.Start.TheVariants.{Resumed}

-- what the folder may hold before, and the sink over it
pub record InResuming : Type 0 where
  pub start : Start
  pub folder : InFolder

-- a file of the same type and path, whose bytes have the same length and digest
pub record IsLike (other item : Item) : Type 0 where
  pub kind : other.kind ≡ item.kind
  pub path : other.path ≡ item.path
  pub count : length other.bytes ≡ length item.bytes
  pub digest : md5 other.bytes ≡ md5 item.bytes

-- one by one
abbrev pub AreLike : List Item → List Item → Type 0
AreLike [] [] = ⊤
AreLike (other ∷ others) (item ∷ items) = IsLike other item × AreLike others items
AreLike [] (item ∷ items) = ⊥
AreLike (other ∷ others) [] = ⊥

-- a file like this is put
abbrev pub PutsLike : List ℕ → Item → Option Nodes → Option Nodes → Type 0
PutsLike root item earlier later = (other : Item) × IsLike other item × PutsItem root other earlier later

-- the file is put with these bytes instead of its own
abbrev pub PutsBytes : List ℕ → Item → List ℕ → Option Nodes → Option Nodes → Type 0
PutsBytes root item bytes earlier later = PutsItem root (with_bytes item bytes) earlier later

-- files like these are put
abbrev pub LeavesLike : List ℕ → List Item → Option Nodes → Option Nodes → Type 0
LeavesLike root items earlier later = (others : List Item) × AreLike others items × LeavesFiles root others earlier later

-- a stop leaves files like those before it
abbrev pub LeavesLikeAtStop : List ℕ → List Item → Option Nodes → Option Nodes → Stop → Type 0
LeavesLikeAtStop root items earlier later stop = (others : List Item) × AreLike others items × LeavesAtStop root others earlier later stop

-- after a stop only files like those before it are left
abbrev pub IsLikeAfter : (List ℕ → Type 0) → List Item → InFolder → InFolder → Stop → Type 0
IsLikeAfter refused items old new stop =
    (others : List Item) × AreLike others (take stop.done items) × LeavesOnly refused old.path others old.nodes new.nodes

-- a file that is there already stays as it is in a resumed delivery, and only folders are made
abbrev pub StaysThere : Start → List ℕ → Item → Option Nodes → Option Nodes → Type 0
StaysThere start root item earlier later =
    start ≡ Resumed → has_bytes item.kind ≡ true → IsThere root item earlier → AddsFolders root earlier later

-- If the nodes are known, a file stays as it is that has the length and the digest of each item that
-- is put at its path.
abbrev pub KeepsWhole : List ℕ → List Item → Option Nodes → Option Nodes → Type 0
KeepsWhole root items None None = ⊤
KeepsWhole root items (Some earlier) (Some later) =
    (path bytes : List ℕ) → node_at earlier path ≡ Some (Bytes bytes)
    → AllByRecursion (λ (i : Item). is_put_at root path i ≡ true → IsAlike (length i.bytes) (md5 i.bytes) bytes) items
    → node_at later path ≡ Some (Bytes bytes)
KeepsWhole root items None (Some later) = ⊥
KeepsWhole root items (Some earlier) None = ⊥
