-- Drives over volumes that do not change.
use Rattle.std.specs.Prelude.{ℕ, List, [], ◌∷◌, ◌++◌, length}
use Rattle.br_model.specs.Volume.{Volume}

-- a list with its length before it, and then more
abbrev pub counted : List ℕ → List ℕ → List ℕ
counted xs more = length xs ∷ (xs ++ more)

-- the names and the bytes of all volumes, so that no other volumes have a list that begins with
-- this one
unfoldable pub inventory : List Volume → List ℕ
inventory [] = 0 ∷ []
inventory (v ∷ vs) = 1 ∷ counted v.name (counted v.bytes (inventory vs))

-- the volumes after one that has no name, with these bytes
abbrev pub beside_unnamed : List ℕ → List Volume → List Volume
beside_unnamed text volumes = record { name = []; bytes = text } ∷ volumes

-- the volumes after one that has no name and lists them
abbrev pub with_inventory : List Volume → List Volume
with_inventory volumes = beside_unnamed (inventory volumes) volumes
