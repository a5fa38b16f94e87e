-- A maker over memory.
use Rattle.std.specs.Prelude.{ℕ, Bool, false, ◌==◌, ◌&&◌, List, [], ◌∷◌, length, take, drop, bytes_eq, is_some, map, Option, Some, None, option_map}
use Rattle.std.specs.List.{list_any}
use Rattle.br_fs.specs.Making.{Node, Nodes, Bytes, Opened, Else, kind_of, node_at}
use Rattle.br_fs.specs.declared.mem_maker.Left.{Left}
use Rattle.br_fs.specs.declared.mem_maker.Left.TheVariants as left

-- what is at each path, and the number of calls before it fails, if it is to fail
pub record Made : Type 0 where
  pub nodes : Nodes
  pub calls_left : Option ℕ

-- the maker, to fail after this number of calls
abbrev pub with_calls : ℕ → Made → Made
with_calls n maker = record { nodes = maker.nodes; calls_left = Some n }

-- the state that a change left at its path
abbrev pub node_of : Left → Option Node
node_of left.Nothing = None
node_of (left.Else kind) = Some (Else kind)
node_of (left.Opened n) = Some (Opened n)
node_of (left.Bytes bytes) = Some (Bytes bytes.items)

-- the changes, the last first
abbrev pub nodes_of : List (List ℕ × Left) → Nodes
nodes_of changes = map (λ (c : List ℕ × Left). (c.0, node_of c.1)) changes

-- the bytes of a file that is not being written
abbrev pub bytes_in : Option Node → Option (List ℕ)
bytes_in None = None
bytes_in (Some (Bytes bytes)) = Some bytes
bytes_in (Some (Opened n)) = None
bytes_in (Some (Else kind)) = None

-- whether a path is below a folder
abbrev pub begins_with_slash : List ℕ → Bool
begins_with_slash [] = false
begins_with_slash (byte ∷ bytes) = byte == 47

abbrev pub is_below : List ℕ → List ℕ → Bool
is_below folder path = begins_with_slash (drop (length folder) path) && bytes_eq (take (length folder) path) folder

-- whether something is at a path below the folder
abbrev pub is_filled_at : List ℕ → Nodes → List ℕ → Bool
is_filled_at folder nodes path = is_below folder path && is_some (option_map kind_of (node_at nodes path))

-- whether something is below the folder
abbrev pub is_filled : List ℕ → List (List ℕ × Left) → Bool
is_filled folder changes = list_any (λ (c : List ℕ × Left). is_filled_at folder (nodes_of changes) c.0) changes
