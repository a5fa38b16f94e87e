-- The paths in the attributes of files.
use Rattle.std.specs.Prelude.{ℕ, List, flat_map, Option, Some, None, Result, Ok, Err}
use Rattle.br_model.specs.Attribute.{Attributes, read_attributes}
use Rattle.br_model.specs.Meaning.{Hit}
use Rattle.br_model.specs.Name.{FileKey}

-- the bytes of some hits, one after the other
unfoldable pub bytes_in : List Hit → List ℕ
bytes_in hits = flat_map (λ (h : Hit). h.fragment.bytes) hits

-- the path of attributes that were read
abbrev pub path_read : Result Attributes ℕ → Option (List ℕ)
path_read (Ok attr) = Some attr.path
path_read (Err number) = None

-- the path in a file's attributes; nothing if they can't be read
abbrev pub path_in : FileKey → List ℕ → Option (List ℕ)
path_in key bytes = path_read (read_attributes bytes key.index)
