-- A sink over a folder.
use Rattle.std.specs.Prelude.{◌≡◌, ℕ, Bool, true, false, ◌||◌, ◌==◌, List, Option, None}
use Rattle.std.specs.Str.{IsUtf8}
use Rattle.br_model.specs.File.{Item, has_bytes}
use Rattle.br_model.specs.Name.{is_directory}
use Rattle.br_fs.specs.Making.{Nodes}
use Rattle.br_sink_folder.specs.Below.{PutsBelow}

-- what the maker of its files reports, the folder's path, and the number of failures of the sink
pub record InFolder : Type 0 where
  pub nodes : Option Nodes
  pub path : List ℕ
  pub failures : ℕ

-- it reports no files
abbrev pub told : Option (List Item)
told = None

-- files of type 2 and 3 and folders of type 5 are put on disk
abbrev pub is_on_disk : ℕ → Bool
is_on_disk kind = has_bytes kind || kind == 5

-- the path of what is put on disk is text
abbrev pub HasText : Item → Type 0
HasText item = is_on_disk item.kind ≡ true → IsUtf8 item.path

-- and the path of a file with bytes is not a folder's
abbrev pub HasName : Item → Type 0
HasName item = has_bytes item.kind ≡ true → is_directory item.path ≡ false

-- what putting a file with bytes changes: folders on its way, and a new file of these bytes
abbrev pub PutsItem : List ℕ → Item → Option Nodes → Option Nodes → Type 0
PutsItem root item earlier later = has_bytes item.kind ≡ true → PutsBelow root item.path item.bytes earlier later
