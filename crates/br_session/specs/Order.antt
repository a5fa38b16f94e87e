-- Hard links to earlier files, looked up by number.
use Rattle.std.specs.Prelude.{zero, suc, Bool, true, false, not, ◌&&◌, ◌||◌, ◌==◌, List, [], ◌∷◌, ◌++◌, slice_get, ℤ, pos, negsuc}
use Rattle.std.specs.Option.{option_map_or}
use Rattle.br_model.specs.File.{has_bytes}
use Rattle.br_model.specs.Session.{ToSave}

-- the number is that of an earlier file with bytes, numbered from 1
abbrev pub names_bytes : List ToSave → ℤ → Bool
names_bytes earlier (pos zero) = false
names_bytes earlier (pos (suc n)) = option_map_or (λ (f : ToSave). has_bytes f.file.kind) (slice_get earlier n) false
names_bytes earlier (negsuc n) = false

-- a hard link names an earlier file with bytes
abbrev pub link_back : List ToSave → ToSave → Bool
link_back earlier f = not (f.file.kind == 1) || names_bytes earlier f.file.stat.link_index

-- each hard link after the earlier files names one with bytes before it
abbrev pub are_linked_back : List ToSave → List ToSave → Bool
are_linked_back earlier [] = true
are_linked_back earlier (f ∷ fs) = link_back earlier f && are_linked_back (earlier ++ f ∷ []) fs
