-- Why there is no sink over a folder.
use Rattle.std.proofs.Common.{◌≡◌, ℕ, false, List, Option, inl, inr}
use Rattle.br_fs.specs.Making.{Nodes, IsEmptyAt, IsNoFolder}
use Rattle.br_sink_folder.specs.Fault.{IsRefused}
use Rattle.br_sink_folder.specs.declared.fault.FolderFault.{FolderFault}
use Rattle.br_sink_folder.specs.declared.fault.FolderFault.TheVariants.{Memory, NotEmpty}

pub full_is_refused : (steady : Type 0) (nodes : Option Nodes) (path : List ℕ) → IsEmptyAt nodes path false
    → IsRefused steady nodes path NotEmpty
full_is_refused steady nodes path full = λ s. inr full

pub missing_is_refused : (steady : Type 0) (nodes : Option Nodes) (path : List ℕ) → (steady → IsNoFolder nodes path)
    → IsRefused steady nodes path NotEmpty
missing_is_refused steady nodes path missing = λ s. inl (missing s)

pub memory_is_refused : (steady : Type 0) (nodes : Option Nodes) (path : List ℕ) (fault : FolderFault) → fault ≡ Memory
    → IsRefused steady nodes path fault
memory_is_refused steady nodes path fault is = rw is tt
