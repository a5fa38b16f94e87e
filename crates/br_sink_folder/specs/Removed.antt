-- What is removed again after a delivery has stopped.
use Rattle.std.specs.Prelude.{◌≡◌, ℕ, false, ◌≤◌, ◌⊎◌, List, ◌++◌, bytes_eq, map, Option, Some, None, ⊤}
use Rattle.std.specs.List.{AllByRecursion}
use Rattle.br_model.specs.Delivery.{Stop}
use Rattle.br_fs.specs.Making.{Nodes, Else, IsFileOrFree, node_at}
use Rattle.br_fs.specs.declared.kind.Kind.TheVariants.{Folder}
use Rattle.br_sink_folder.specs.Below.{AddsFolders, IsNewFolder}
use Rattle.br_sink_folder.specs.declared.window.Made.{Made}

-- nothing is at the path, or a folder
abbrev pub LacksFile : Nodes → List ℕ → Type 0
LacksFile nodes path = (node_at nodes path ≡ None) ⊎ (node_at nodes path ≡ Some (Else Folder))

-- If the nodes are known, this holds of them.
abbrev pub HasNoFile : List ℕ → Option Nodes → Type 0
HasNoFile path None = ⊤
HasNoFile path (Some nodes) = LacksFile nodes path

-- If the nodes are known, no file is now at a path that had none.
abbrev pub MakesNoFile : Option Nodes → Option Nodes → Type 0
MakesNoFile None None = ⊤
MakesNoFile (Some earlier) (Some later) = (path : List ℕ) → LacksFile earlier path → LacksFile later path
MakesNoFile None (Some later) = ⊥
MakesNoFile (Some earlier) None = ⊥

-- If the nodes are known, nothing is changed except for the path and for new folders below the
-- folder.
abbrev pub ChangesOne : List ℕ → List ℕ → Option Nodes → Option Nodes → Type 0
ChangesOne root path None None = ⊤
ChangesOne root path (Some earlier) (Some later) =
    (other : List ℕ) → bytes_eq path other ≡ false
    → (node_at later other ≡ node_at earlier other) ⊎ IsNewFolder root other earlier later
ChangesOne root path None (Some later) = ⊥
ChangesOne root path (Some earlier) None = ⊥

-- no file is at the path, or its removal was refused
abbrev pub IsRemoved : (List ℕ → Type 0) → Option Nodes → List ℕ → Type 0
IsRemoved refused nodes path = HasNoFile path nodes ⊎ refused path

-- the places and paths of files that were made
abbrev pub files_of : {W : Type 0} → List (Made W) → List (ℕ × List ℕ)
files_of made = map (λ (m : Made _). (m.place, m.item.now.path)) made

-- each of these files from a place on was removed, or its removal was refused
abbrev pub AreRemoved : (List ℕ → Type 0) → List ℕ → ℕ → List (ℕ × List ℕ) → Option Nodes → Type 0
AreRemoved refused root place files nodes =
    AllByRecursion (λ (file : ℕ × List ℕ). place ≤ file.0 → IsRemoved refused nodes (root ++ file.1)) files

-- so was each from a stop on: the file that stopped the delivery, and those after it
abbrev pub AreRemovedFrom : (List ℕ → Type 0) → List ℕ → List (ℕ × List ℕ) → Option Nodes → Stop → Type 0
AreRemovedFrom refused root files nodes stop = AreRemoved refused root stop.done files nodes

-- What a file that could not be made leaves at its path: what was there, or nothing instead of a
-- file.
abbrev pub MakesNone : List ℕ → Option Nodes → Option Nodes → Type 0
MakesNone path earlier later = (later ≡ earlier) ⊎ (IsFileOrFree earlier path × HasNoFile path later)

-- What a file that could not be put leaves at its path: only folders were made; or a file or
-- nothing was there, and now no file is there or its removal was refused.
abbrev pub GivesUp : (List ℕ → Type 0) → List ℕ → List ℕ → Option Nodes → Option Nodes → Type 0
GivesUp refused root path earlier later =
    AddsFolders root earlier later
    ⊎ ((middle : Option Nodes) × AddsFolders root earlier middle × IsFileOrFree middle (root ++ path) × IsRemoved refused later (root ++ path))
