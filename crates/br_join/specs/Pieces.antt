-- Pieces by number, in a tree of the code.
use Rattle.std.specs.Prelude.{ℕ, Bool, false, List, map}
use Rattle.std.specs.BTreeMap.{BTreeMap}
use Rattle.std.specs.Ordering.{nat_cmp}
use Rattle.std.specs.FinMap.{FinMap, from_entries}
use Rattle.br_model.specs.Meaning.{Piece}

-- what a tree has, as a finite map
abbrev pub as_map : BTreeMap ℕ Bool → FinMap nat_cmp Bool
as_map m = from_entries m.entries

-- the pieces by number, each open
abbrev pub opens : List Piece → List (ℕ × Bool)
opens pieces = map (λ (p : Piece). (p.number, false)) pieces
