-- The groups of a bootstrap that ask for a file, narrowed to its attributes.
use Rattle.std.specs.Prelude.{ℕ, Bool, ◌&&◌, ◌==◌, not, List, [], ◌∷◌, if◌then◌else◌}
use Rattle.br_piece.specs.FileCounts.{got}
use Rattle.br_model.specs.Name.{FileKey}
use Rattle.br_model.specs.Bootstrap.{Range, Group, admits}

-- whether the group asks for the file
abbrev pub asks_for : FileKey → Group → Bool
asks_for key g = admits g.session_ids key.session.id && admits g.session_times key.session.time && admits g.indexes key.index

-- whether the group asks for one of the files
abbrev pub asks_for_any : List FileKey → Group → Bool
asks_for_any keys g = not (got g keys == 0)

-- the range of one number
abbrev pub one : ℕ → List Range
one n = record { low = n; high = n } ∷ []

-- the group that asks only for the attributes of what this one asks for
abbrev pub narrow : Group → Group
narrow g = record g { streams = one 1 }

-- the group that asks only for the attributes, if this one asks for one of the files
abbrev pub narrow_to : List FileKey → Group → List Group
narrow_to keys g = if asks_for_any keys g then narrow g ∷ [] else []
