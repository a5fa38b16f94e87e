-- The hits of some files, and those of one file.
use Rattle.std.specs.Prelude.{Bool, List, [], ◌∷◌, filter, flat_map, if◌then◌else◌}
use Rattle.std.specs.List.{list_any}
use Rattle.br_model.specs.Meaning.{Hit}
use Rattle.br_model.specs.Name.{FileKey, same_key}

-- whether the hit belongs to the file
abbrev pub is_of : FileKey → Hit → Bool
is_of key h = same_key h.key key

-- the hits of the file, in their order
abbrev pub hits_of : FileKey → List Hit → List Hit
hits_of key hits = filter (is_of key) hits

-- whether the file is one of these
abbrev pub is_among : List FileKey → FileKey → Bool
is_among keys key = list_any (λ k. same_key k key) keys

-- the hit, if it belongs to one of these files
abbrev pub hit_among : List FileKey → Hit → List Hit
hit_among keys h = if is_among keys h.key then h ∷ [] else []

-- the hits of these files, in their order
unfoldable pub hits_among : List FileKey → List Hit → List Hit
hits_among keys hits = flat_map (hit_among keys) hits
