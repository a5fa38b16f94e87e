-- Files that are in the folder before others are put.
use Rattle.std.specs.Prelude.{ℕ, List, ◌++◌, length, Option, ⊤}
use Rattle.md5.specs.Md5.{md5}
use Rattle.br_model.specs.File.{Item}
use Rattle.br_fs.specs.Making.{Nodes, IsNoFolder}
use Rattle.br_fs.specs.Alike.{IsAlikeAt, LacksAlikeAt}
use Rattle.br_sink_folder.specs.declared.fault.FolderFault.{FolderFault}
use Rattle.br_sink_folder.specs.declared.fault.FolderFault.TheVariants.{Memory, NotEmpty}

-- If the nodes are known, the path has a file with the length and the digest of the item's bytes.
abbrev pub IsThere : List ℕ → Item → Option Nodes → Type 0
IsThere root item nodes = IsAlikeAt nodes (root ++ item.path) (length item.bytes) (md5 item.bytes)

-- If the nodes are known, no such file is there.
abbrev pub IsMissing : List ℕ → Item → Option Nodes → Type 0
IsMissing root item nodes = LacksAlikeAt nodes (root ++ item.path) (length item.bytes) (md5 item.bytes)

-- why a folder is not taken as it is: if the maker of its files does not fail by itself, there is
-- none
abbrev pub IsNotThere : Type 0 → Option Nodes → List ℕ → FolderFault → Type 0
IsNotThere steady nodes path Memory = ⊤
IsNotThere steady nodes path NotEmpty = steady → IsNoFolder nodes path
