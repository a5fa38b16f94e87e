-- What is at each path while files and folders are made.
use Rattle.std.specs.Prelude.{◌≡◌, ℕ, Bool, true, false, ◌⊎◌, if◌then◌else◌, List, [], ◌∷◌, ◌++◌, bytes_eq, find, Option, Some, None, option_map, ⊤}
use Rattle.br_fs.specs.declared.kind.Kind.{Kind}
use Rattle.br_fs.specs.declared.kind.Kind.TheVariants.{File, Folder}

-- a file and its bytes; a file that is being written, with its number, which no other file has; or
-- a folder, a link or something else
pub data Node : Type 0 where
  Bytes : List ℕ → Node
  Opened : ℕ → Node
  Else : Kind → Node

-- paths and what is at each; of the entries for one path, the first counts
abbrev pub Nodes : Type 0
Nodes = List (List ℕ × Option Node)

-- what is at a path
abbrev pub first_node : Option (List ℕ × Option Node) → Option Node
first_node None = None
first_node (Some entry) = entry.1

abbrev pub node_at : Nodes → List ℕ → Option Node
node_at nodes path = first_node (find (λ (e : List ℕ × Option Node). bytes_eq e.0 path) nodes)

-- the kind that a call finds there
abbrev pub kind_of : Node → Kind
kind_of (Bytes bytes) = File
kind_of (Opened n) = File
kind_of (Else kind) = kind

-- If the nodes are told, one of this kind is at the path.
abbrev pub IsKindAt : Option Nodes → List ℕ → Kind → Type 0
IsKindAt None path kind = ⊤
IsKindAt (Some nodes) path kind = option_map kind_of (node_at nodes path) ≡ Some kind

-- If the nodes are told, nothing is at the path.
abbrev pub IsFree : Option Nodes → List ℕ → Type 0
IsFree None path = ⊤
IsFree (Some nodes) path = node_at nodes path ≡ None

-- what is at `other` after `node` was placed at `path`
abbrev pub node_after : Nodes → List ℕ → Option Node → List ℕ → Option Node
node_after earlier path node other = if bytes_eq path other then node else node_at earlier other

-- the later nodes are the earlier ones, except that this is now at one path
abbrev pub AreSet : List ℕ → Option Node → Nodes → Nodes → Type 0
AreSet path node earlier later = (other : List ℕ) → node_at later other ≡ node_after earlier path node other

-- Nodes are told always or never. If they are told, only the node at the path changes, to this one.
abbrev pub Sets : List ℕ → Option Node → Option Nodes → Option Nodes → Type 0
Sets path left None None = ⊤
Sets path left (Some earlier) (Some later) = AreSet path left earlier later
Sets path left None (Some later) = ⊥
Sets path left (Some earlier) None = ⊥

-- Nodes are told always or never. If they are told, the nodes at all other paths are unchanged.
abbrev pub KeepsOthers : List ℕ → Option Nodes → Option Nodes → Type 0
KeepsOthers path None None = ⊤
KeepsOthers path (Some earlier) (Some later) =
    (other : List ℕ) → bytes_eq path other ≡ false → node_at later other ≡ node_at earlier other
KeepsOthers path None (Some later) = ⊥
KeepsOthers path (Some earlier) None = ⊥

-- If the nodes are told, the path has a new file with its number and no bytes yet.
abbrev pub MakesFile : List ℕ → Option (List ℕ) → Option Nodes → Option Nodes → Type 0
MakesFile path contents None None = ⊤
MakesFile path contents (Some earlier) (Some later) =
    (n : ℕ) × (contents ≡ Some (n ∷ [])) × AreSet path (Some (Opened n)) earlier later
MakesFile path contents None (Some later) = ⊥
MakesFile path contents (Some earlier) None = ⊥

-- If the nodes are told, the file with this number is the one that is being written at the path.
abbrev pub IsOpenedAs : Option Nodes → List ℕ → Option (List ℕ) → Type 0
IsOpenedAs None path contents = ⊤
IsOpenedAs (Some nodes) path contents =
    (n : ℕ) × (bytes : List ℕ) × (contents ≡ Some (n ∷ bytes)) × (node_at nodes path ≡ Some (Opened n))

-- If the nodes are told, the path has a file of the bytes that were written.
abbrev pub PutsFile : List ℕ → Option (List ℕ) → Option Nodes → Option Nodes → Type 0
PutsFile path contents None None = ⊤
PutsFile path contents (Some earlier) (Some later) =
    (n : ℕ) × (bytes : List ℕ) × (contents ≡ Some (n ∷ bytes)) × AreSet path (Some (Bytes bytes)) earlier later
PutsFile path contents None (Some later) = ⊥
PutsFile path contents (Some earlier) None = ⊥

-- The file that is finished is at the path from now on, if it is the one being written there.
abbrev pub IsFinished : List ℕ → Option (List ℕ) → Option Nodes → Option Nodes → Type 0
IsFinished path contents earlier later = IsOpenedAs earlier path contents → PutsFile path contents earlier later

-- If the nodes are told, a folder is at the path: the one that was there, or else a new one.
abbrev pub IsFolderNow : List ℕ → Option Nodes → Option Nodes → Type 0
IsFolderNow path earlier later =
    (IsKindAt earlier path Folder × (later ≡ earlier)) ⊎ (IsFree earlier path × Sets path (Some (Else Folder)) earlier later)

-- If the nodes are told, a file is at the path, or nothing.
abbrev pub IsFileOrFree : Option Nodes → List ℕ → Type 0
IsFileOrFree nodes path = IsKindAt nodes path File ⊎ IsFree nodes path

-- If the nodes are told, nothing is changed, or an incomplete file is left at the path.
abbrev pub LeavesOpened : List ℕ → Option Nodes → Option Nodes → Type 0
LeavesOpened path earlier later = (later ≡ earlier) ⊎ ((n : ℕ) × Sets path (Some (Opened n)) earlier later)

-- a path that begins with the folder's and a slash
abbrev pub IsBelow : List ℕ → List ℕ → Type 0
IsBelow folder path = (rest : List ℕ) × (path ≡ folder ++ 47 ∷ rest)

-- nothing is below the folder
abbrev pub HasNoneBelow : Nodes → List ℕ → Type 0
HasNoneBelow nodes folder = (path : List ℕ) → IsBelow folder path → node_at nodes path ≡ None

-- something is below the folder
abbrev pub HasSomeBelow : Nodes → List ℕ → Type 0
HasSomeBelow nodes folder = (path : List ℕ) × IsBelow folder path × (node_at nodes path ≡ None → ⊥)

-- whether nothing is below the folder
abbrev pub IsEmptyIn : Nodes → List ℕ → Bool → Type 0
IsEmptyIn nodes folder true = HasNoneBelow nodes folder
IsEmptyIn nodes folder false = HasSomeBelow nodes folder

-- If the nodes are told, a folder is at the path, and this says whether nothing is below it.
abbrev pub IsEmptyAt : Option Nodes → List ℕ → Bool → Type 0
IsEmptyAt None path empty = ⊤
IsEmptyAt (Some nodes) path empty = IsKindAt (Some nodes) path Folder × IsEmptyIn nodes path empty

-- If the nodes are told, no folder is at the path.
abbrev pub IsNoFolder : Option Nodes → List ℕ → Type 0
IsNoFolder None path = ⊤
IsNoFolder (Some nodes) path = IsKindAt (Some nodes) path Folder → ⊥
