-- Files that are in the folder before they are put.
use Rattle.std.proofs.Common.{◌≡◌, ℕ, Bool, Option, Some, None, List, ◌++◌, ap, sym, subst, ◌∙◌}
use Rattle.std.specs.Prelude.{option_map}
use Rattle.br_fs.specs.Making.{Node, Nodes, Bytes, IsEmptyAt, IsFree, IsKindAt, IsNoFolder, kind_of, node_at}
use Rattle.br_fs.specs.declared.kind.Kind.{Kind}
use Rattle.br_fs.specs.declared.kind.Kind.TheVariants.{File, Folder}
use Rattle.br_fs.specs.Alike.{IsAlikeAt, LacksAlikeAt}
use Rattle.br_sink_folder.specs.Below.{AddsFolders}
use Rattle.br_sink_folder.specs.There.{IsNotThere}
use Rattle.br_sink_folder.specs.declared.fault.FolderFault.{FolderFault}
use Rattle.br_sink_folder.specs.declared.fault.FolderFault.TheVariants.{Memory, NotEmpty}

-- the folder itself

pub folder_there : (nodes : Option Nodes) (path : List ℕ) (empty : Bool) → IsEmptyAt nodes path empty → IsKindAt nodes path Folder
folder_there None path empty is = tt
folder_there (Some nodes) path empty is = is.0

pub missing_not_there : (steady : Type 0) (nodes : Option Nodes) (path : List ℕ) → (steady → IsNoFolder nodes path)
    → IsNotThere steady nodes path NotEmpty
missing_not_there steady nodes path missing = missing

pub memory_not_there : (steady : Type 0) (nodes : Option Nodes) (path : List ℕ) (fault : FolderFault) → fault ≡ Memory
    → IsNotThere steady nodes path fault
memory_not_there steady nodes path fault is = rw is tt

-- what is at a path

file_at : (node : Option Node) (bytes : List ℕ) (kind : Kind) → node ≡ Some (Bytes bytes) → option_map kind_of node ≡ Some kind → kind ≡ File
file_at node bytes kind is found = let same : Some File ≡ Some kind = sym (ap (option_map kind_of) is) ∙ found in cc

pub lacks_kind : (nodes : Option Nodes) (path digest : List ℕ) (kind : Kind) (count : ℕ) → IsKindAt nodes path kind → (kind ≡ File → ⊥)
    → LacksAlikeAt nodes path count digest
lacks_kind None path digest kind count found other = tt
lacks_kind (Some nodes) path digest kind count found other = λ bytes is alike. other (file_at (node_at nodes path) bytes kind is found)

pub lacks_free : (nodes : Option Nodes) (path digest : List ℕ) (count : ℕ) → IsFree nodes path → LacksAlikeAt nodes path count digest
lacks_free None path digest count free = tt
lacks_free (Some nodes) path digest count free = λ bytes is alike. let never : None ≡ Some (Bytes bytes) = sym free ∙ is in absurd cc

-- a path below the folder

pub there_at : (root path whole digest : List ℕ) (count : ℕ) (nodes : Option Nodes) → whole ≡ root ++ path → IsAlikeAt nodes whole count digest
    → IsAlikeAt nodes (root ++ path) count digest
there_at root path whole digest count nodes is there = rw is at there

pub missing_at : (root path whole digest : List ℕ) (count : ℕ) (nodes : Option Nodes) → whole ≡ root ++ path → LacksAlikeAt nodes whole count digest
    → LacksAlikeAt nodes (root ++ path) count digest
missing_at root path whole digest count nodes is missing = rw is at missing

-- folders were made, and then nothing
pub added_before : (root : List ℕ) (a b c : Option Nodes) → AddsFolders root a b → c ≡ b → AddsFolders root a c
added_before root a b c added same = subst (AddsFolders root a) (sym same) added
