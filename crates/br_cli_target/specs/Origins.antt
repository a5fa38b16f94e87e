-- The origins of files.
use Rattle.std.specs.Prelude.{◌≡◌, ℕ, List, find, flat_map, map, slice_get, Option, Some, None, option_map, option_and_then}
use Rattle.br_model.specs.Bootstrap.{Group}
use Rattle.br_model.specs.Meaning.{Hit}
use Rattle.br_model.specs.Name.{FileKey}
use Rattle.br_cli_target.specs.AttributePaths.{bytes_in, path_in}
use Rattle.br_cli_target.specs.NarrowedGroups.{asks_for, narrow_to}
use Rattle.br_cli_target.specs.OwnHits.{hits_of}
use Rattle.br_cli_target.specs.declared.origin.Origin.{Origin}

-- the group with the first of some hits, among those by which the volumes were searched
abbrev pub group_hit : List Group → List Hit → Option Group
group_hit searched hits = option_and_then (λ (h : Hit). slice_get searched h.spot.group) (slice_get hits 0)

-- the volume of the first group that asks for the file
abbrev pub volume_asked : List Group → FileKey → Option (List ℕ)
volume_asked groups key = option_map (λ (g : Group). g.volume) (find (asks_for key) groups)

-- the volume of a group if there is one, else another volume
abbrev pub volume_or : Option (List ℕ) → Option Group → Option (List ℕ)
volume_or other (Some group) = Some group.volume
volume_or other None = other

-- the volume of the first of a file's hits, else that of the first group that asks for the file
abbrev pub volume_for : List Group → List Group → List Hit → FileKey → Option (List ℕ)
volume_for groups searched own key = volume_or (volume_asked groups key) (group_hit searched own)

-- the origin of the file, by its hits
abbrev pub origin_by : List Group → List Group → FileKey → List Hit → Origin
origin_by groups searched key own = record {
  key = key;
  vol = volume_for groups searched own key;
  path = path_in key (bytes_in own);
}

-- the origin of the file, by the hits of all files
abbrev pub origin_of : List Group → List Group → List Hit → FileKey → Origin
origin_of groups searched hits key = origin_by groups searched key (hits_of key hits)

-- the origin of each of the files
abbrev pub AreOrigins : List Group → List Group → List FileKey → List Hit → List Origin → Type 0
AreOrigins groups searched keys hits origins = origins ≡ map (origin_of groups searched hits) keys

-- the groups by which the volumes are searched: each that asks for one of the files, but only for
-- the attributes
abbrev pub searched_for : List FileKey → List Group → List Group
searched_for keys groups = flat_map (narrow_to keys) groups

-- for each of the files its volume is known, and a path that some hits of its attributes give
abbrev pub ComeFrom : List Group → List FileKey → List Origin → Type 0
ComeFrom groups keys origins = (hits : List Hit) × AreOrigins groups (searched_for keys groups) keys hits origins
