-- Pieces to which groups are added one by one.
use Rattle.std.specs.Prelude.{ℕ, zero, suc, List, [], ◌∷◌, ◌++◌, length, bytes_eq, Option, Some, None, if◌then◌else◌, Vec}
use Rattle.std.specs.List.{position_from}
use Rattle.std.specs.Global.{Global}
use Rattle.std.specs.Option.{option_or}
use Rattle.std.specs.BTreeMap.{BTreeMap, get_by}
use Rattle.std.specs.Cmp.Lexicographic.{slice_cmp}
use Rattle.std.specs.Ordering.{nat_cmp}
use Rattle.br_model.specs.Bootstrap.{Group}
use Rattle.br_model.specs.Meaning.{Piece}

-- a piece of one group
abbrev pub first_piece : ℕ → ℕ × Group → Piece
first_piece number g = record { number = number; volume = g.1.volume; groups = g ∷ [] }

-- a piece with one more group after its own
abbrev pub with_one_more : Piece → ℕ × Group → Piece
with_one_more p g = record { number = p.number; volume = p.volume; groups = p.groups ++ g ∷ [] }

-- the place of the first piece of the volume
abbrev pub place_among : List Piece → List ℕ → Option ℕ
place_among pieces volume = position_from (λ (p : Piece). bytes_eq p.volume volume) 0 pieces

-- the pieces with one more group in the piece at a place
abbrev pub with_more_at : ℕ → List Piece → ℕ × Group → List Piece
with_more_at k [] g = []
with_more_at zero (p ∷ ps) g = with_one_more p g ∷ ps
with_more_at (suc k) (p ∷ ps) g = p ∷ with_more_at k ps g

-- the pieces with one more group, in the piece at its place, or in a new last piece
abbrev pub put_at : Option ℕ → List Piece → ℕ × Group → List Piece
put_at None pieces g = pieces ++ first_piece (length pieces) g ∷ []
put_at (Some k) pieces g = with_more_at k pieces g

-- the place of a volume in a map of names to places
abbrev pub place_in : BTreeMap (Vec ℕ Global) ℕ → List ℕ → Option ℕ
place_in places name = get_by (λ (k : Vec ℕ Global). slice_cmp nat_cmp name k.items) places

-- the place of a name after a place of a volume was noted, which counts only if it had none
abbrev pub noted_place : List ℕ → ℕ → List ℕ → Option ℕ → Option ℕ
noted_place volume next name before = option_or before (if bytes_eq volume name then Some next else None)
