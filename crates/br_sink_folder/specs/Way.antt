-- The folders that are put, and those on the way of a path.
use Rattle.std.specs.Prelude.{◌≡◌, ℕ, ◌<◌, ◌-◌, Bool, true, false, not, ◌&&◌, ◌==◌, if◌then◌else◌, List, [], ◌∷◌, ◌++◌, length, take, slice_index, Option}
use Rattle.std.specs.List.{AllByRecursion}
use Rattle.br_model.specs.File.{Item}
use Rattle.br_model.specs.Name.{is_directory}
use Rattle.br_fs.specs.Making.{Nodes, IsBelow, IsKindAt}
use Rattle.br_fs.specs.declared.kind.Kind.TheVariants.{Folder}

-- a path begins with a slash
abbrev pub begins_with_slash : List ℕ → Bool
begins_with_slash [] = false
begins_with_slash (c ∷ rest) = c == 47

-- the path with a slash at its begin
abbrev pub slashed : List ℕ → List ℕ
slashed path = if begins_with_slash path then path else 47 ∷ path

-- the path of a folder, with a slash after it
abbrev pub folder_path : List ℕ → List ℕ
folder_path path = slashed path ++ 47 ∷ []

-- a name ends before this place of the path: a slash follows, and none is before it
abbrev pub ends_name : List ℕ → ℕ → Bool
ends_name path at = slice_index path at == 47 && not (slice_index path (at - 1) == 47)

-- If the nodes are known, a folder is at each front of the path that a slash follows, is longer than
-- the folder's and does not end in a slash.
abbrev pub HasWay : List ℕ → List ℕ → Option Nodes → Type 0
HasWay root path nodes =
    (name : List ℕ) → IsBelow (root ++ name) path → 0 < length name → is_directory name ≡ false → IsKindAt nodes (root ++ name) Folder

-- this holds of the fronts that end before a place
abbrev pub HasWayTo : List ℕ → List ℕ → ℕ → Option Nodes → Type 0
HasWayTo root path end nodes = (at : ℕ) → length root < at → at < end → ends_name path at ≡ true → IsKindAt nodes (take at path) Folder

-- If the nodes are known, the folder is at its path, and folders are on its way. The slash at the
-- end of its path makes it one of these.
abbrev pub MakesFolder : List ℕ → Item → Option Nodes → Type 0
MakesFolder root item nodes = item.kind ≡ 5 → HasWay root (root ++ folder_path item.path) nodes

-- each folder among these items is made
abbrev pub MakesFolders : List ℕ → List Item → Option Nodes → Type 0
MakesFolders root items nodes = AllByRecursion (λ (item : Item). MakesFolder root item nodes) items
