-- What a sink over a folder changes below the folder.
use Rattle.std.specs.Prelude.{◌≡◌, ℕ, ◌⊎◌, List, ◌++◌, Option, Some, None, ⊤}
use Rattle.br_fs.specs.Making.{Nodes, Bytes, Else, node_at, IsBelow, IsFileOrFree, MakesFile, Sets}
use Rattle.br_fs.specs.declared.kind.Kind.TheVariants.{Folder}

-- what a path below the folder has after nothing was there: a folder
abbrev pub IsNewFolder : List ℕ → List ℕ → Nodes → Nodes → Type 0
IsNewFolder root path earlier later =
    IsBelow root path × (node_at earlier path ≡ None) × (node_at later path ≡ Some (Else Folder))

-- If the nodes are known, nothing is changed except for new folders below the folder.
abbrev pub AddsFolders : List ℕ → Option Nodes → Option Nodes → Type 0
AddsFolders root None None = ⊤
AddsFolders root (Some earlier) (Some later) =
    (other : List ℕ) → (node_at later other ≡ node_at earlier other) ⊎ IsNewFolder root other earlier later
AddsFolders root None (Some later) = ⊥
AddsFolders root (Some earlier) None = ⊥

-- If the nodes are known, nothing is changed that is not below the folder.
abbrev pub KeepsOutside : List ℕ → Option Nodes → Option Nodes → Type 0
KeepsOutside root None None = ⊤
KeepsOutside root (Some earlier) (Some later) =
    (other : List ℕ) → (IsBelow root other → ⊥) → node_at later other ≡ node_at earlier other
KeepsOutside root None (Some later) = ⊥
KeepsOutside root (Some earlier) None = ⊥

-- only the path is changed, to a file of these bytes
abbrev pub SetsBytes : List ℕ → List ℕ → Option Nodes → Option Nodes → Type 0
SetsBytes path bytes earlier later = Sets path (Some (Bytes bytes)) earlier later

-- A new file is at the path; it replaces an earlier one, or nothing was there.
abbrev pub MakesNew : List ℕ → Option (List ℕ) → Option Nodes → Option Nodes → Type 0
MakesNew path contents earlier later =
    (middle : Option Nodes) × IsFileOrFree earlier path × Sets path None earlier middle × MakesFile path contents middle later

-- A new file has these bytes; it replaces an earlier one, or nothing was there.
abbrev pub PutsNew : List ℕ → List ℕ → Option Nodes → Option Nodes → Type 0
PutsNew path bytes earlier later = IsFileOrFree earlier path × SetsBytes path bytes earlier later

-- a new file that was made and now has these bytes
abbrev pub WritesNew : List ℕ → Option (List ℕ) → List ℕ → Option Nodes → Option Nodes → Type 0
WritesNew path contents bytes before after = (earlier : Option Nodes) → MakesNew path contents earlier before → PutsNew path bytes earlier after

-- If the nodes are known, folders were made below the folder, and then the file; nothing else is
-- changed.
abbrev pub PutsBelow : List ℕ → List ℕ → List ℕ → Option Nodes → Option Nodes → Type 0
PutsBelow root path bytes earlier later =
    (middle : Option Nodes) × AddsFolders root earlier middle × PutsNew (root ++ path) bytes middle later
