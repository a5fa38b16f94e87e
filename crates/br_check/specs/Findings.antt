-- The lines of the findings of a check.
use Rattle.std.specs.Prelude.{ℕ, ◌+◌, ◌-◌, ◌*◌, ◌^◌, min, nat_lt, ◌==◌, ◌&&◌, ◌||◌, not, if◌then◌else◌, List, [], ◌∷◌, ◌++◌, length, filter, flat_map, sum_by, decimal, codes, Ok, Err, Bool}
use Rattle.std.specs.List.{list_any, slice_split}
use Rattle.std.specs.Str.{is_utf8}
use Rattle.br_model.specs.File.{Fault, has_bytes}
use Rattle.br_model.specs.Name.{FileKey, is_directory, is_slash}
use Rattle.br_model.specs.Text.{line, escaped}
use Rattle.br_match.specs.Fault.{cause_number}
use Rattle.br_match.specs.declared.fault.PieceFault.{PieceFault}
use Rattle.br_match.specs.declared.fault.PieceFault.TheVariants.{Memory, Block}
use Rattle.br_types.specs.Newest.{Copy, is_of, is_outdated}
use Rattle.br_records.specs.Outline.{Foreseen, Outline, Outlined}
use Rattle.br_check.specs.Search.{Searched}

-- ---- volumes

-- the line of a volume that can't be searched: the number of the refusal, the volume, and the address
abbrev pub fault_line : PieceFault → List ℕ
fault_line Memory = []
fault_line (Block why volume address) = line (codes "volume " ++ decimal (cause_number why) ++ 32 ∷ escaped volume ++ 32 ∷ decimal address)

-- the line of what was found for a piece, if its volume can't be searched
abbrev pub volume_line : Searched → List ℕ
volume_line (Ok found) = []
volume_line (Err why) = fault_line why

-- ---- the bootstrap

-- the line of a bootstrap that asks for nothing
abbrev pub empty_line : Bool → List ℕ
empty_line is_empty = if is_empty then line (codes "empty") else []

-- ---- files

-- session and index, each after a blank
abbrev pub key_text : FileKey → List ℕ
key_text key = 32 ∷ decimal key.session.id ++ 32 ∷ decimal key.session.time ++ 32 ∷ decimal key.index

-- the line of a file, which begins with a word and ends with the path
abbrev pub named_line : List ℕ → Copy → List ℕ
named_line word c = line (word ++ key_text c.key ++ 32 ∷ escaped c.path)

-- the stream of fault 65, after a blank
abbrev pub stream_text : Fault → List ℕ
stream_text f = if f.number == 65 then 32 ∷ decimal f.stream else []

-- the line of a file that can't be restored
abbrev pub refused_line : FileKey → Fault → List ℕ
refused_line key f = line (codes "file " ++ decimal f.number ++ key_text key ++ stream_text f)

-- the line of a file, if it can't be restored
abbrev pub file_line : Outlined → List ℕ
file_line o = line_of o.outline
  where
    line_of : Foreseen → List ℕ
    line_of (Ok outline) = []
    line_of (Err f) = refused_line o.key f

-- ---- names that a folder can't take

-- a restore into a folder writes files of this type
abbrev pub is_on_disk : ℕ → Bool
is_on_disk kind = has_bytes kind || kind == 5

-- a path under which a folder can't take a file of this type: it is not UTF-8, or it is that of a
-- folder and the file has bytes
abbrev pub is_no_name : ℕ → List ℕ → Bool
is_no_name kind path = is_on_disk kind && (not (is_utf8 path) || (has_bytes kind && is_directory path))

-- the line of a file with an outline, if a folder can't take it: it skips files of other types
abbrev pub name_by : FileKey → Outline → List ℕ
name_by key o =
    if not (is_on_disk o.kind) then named_line (codes "skipped") (record { key = key; path = o.path })
    else if is_no_name o.kind o.path then named_line (codes "name") (record { key = key; path = o.path })
    else []

-- the line of a file, if a folder can't take it; none for a fault
abbrev pub name_line : Outlined → List ℕ
name_line o = line_of o.outline
  where
    line_of : Foreseen → List ℕ
    line_of (Ok outline) = name_by o.key outline
    line_of (Err f) = []

-- ---- names that are longer than a folder allows

-- a name of more than 255 bytes
abbrev pub is_long_name : List ℕ → Bool
is_long_name name = nat_lt 255 (length name)

-- the number of bytes of a path without a slash at its end
abbrev pub bare_length : List ℕ → ℕ
bare_length path = if is_directory path then length path - 1 else length path

-- A name between two slashes is too long, or the path is: systems allow 4,095 bytes, and the
-- folder's own name comes first.
abbrev pub is_long : List ℕ → Bool
is_long path = list_any is_long_name (slice_split is_slash path) || nat_lt 4094 (bare_length path)

-- the line of a file with an outline, if its path is longer than a folder allows
abbrev pub long_by : FileKey → Outline → List ℕ
long_by key o = if is_on_disk o.kind && is_long o.path then named_line (codes "long") (record { key = key; path = o.path }) else []

-- the line of a file, if its path is longer than a folder allows; none for a fault
abbrev pub long_line : Outlined → List ℕ
long_line o = line_of o.outline
  where
    line_of : Foreseen → List ℕ
    line_of (Ok outline) = long_by o.key outline
    line_of (Err f) = []

-- ---- paths that come more than once

-- a file as a copy of its path; none for a fault
abbrev pub copies_at : Outlined → List Copy
copies_at o = of_outline o.outline
  where
    of_outline : Foreseen → List Copy
    of_outline (Ok outline) = record { key = o.key; path = outline.path } ∷ []
    of_outline (Err f) = []

-- the files as copies of their paths
abbrev pub copies_of : List Outlined → List Copy
copies_of os = flat_map copies_at os

-- the copies that have newer ones
abbrev pub outdated : List Copy → List Copy
outdated copies = filter (is_outdated copies) copies

-- the line of a copy by whether there is a newer one, and whether there is an older one
abbrev pub line_by : Bool → Bool → Copy → List ℕ
line_by is_old has_old c = if is_old then named_line (codes "older") c else if has_old then named_line (codes "newest") c else []

-- the line of a copy whose path comes more than once: it is older than another, or it is the newest
abbrev pub copy_line : List Copy → Copy → List ℕ
copy_line copies c = line_by (is_outdated copies c) (list_any (is_of c.path) (outdated copies)) c

-- the line of a file whose path comes more than once among the copies
abbrev pub lines_at : List Copy → Outlined → List ℕ
lines_at copies o = flat_map (copy_line copies) (copies_at o)

-- the lines of all files whose paths come more than once
abbrev pub copy_lines : List Outlined → List ℕ
copy_lines os = flat_map (lines_at (copies_of os)) os

-- ---- what would be restored

-- the number of bytes of a file; 0 if it can't be restored
abbrev pub bytes_of : Outlined → ℕ
bytes_of o = size_of o.outline
  where
    size_of : Foreseen → ℕ
    size_of (Ok outline) = outline.size
    size_of (Err f) = 0

-- 1 for a file; 0 if it can't be restored
abbrev pub files_at : Outlined → ℕ
files_at o = number_of o.outline
  where
    number_of : Foreseen → ℕ
    number_of (Ok outline) = 1
    number_of (Err f) = 0

-- the number of files
abbrev pub files_in : List Outlined → ℕ
files_in os = sum_by files_at os

-- the number of their bytes
abbrev pub bytes_in : List Outlined → ℕ
bytes_in os = sum_by bytes_of os

-- ---- the memory of a restore

-- the number of bytes that are held for a file besides its data: 400, and its path
abbrev pub held_of : Outlined → ℕ
held_of o = 400 + path_of o.outline
  where
    path_of : Foreseen → ℕ
    path_of (Ok outline) = length outline.path
    path_of (Err f) = 0

-- the number of bytes that are held besides the data: 64 MiB, 200 for each fragment, and those
-- of each file
abbrev pub held_beside : ℕ → List Outlined → ℕ
held_beside fragments os = 64 * 2 ^ 20 + 200 * fragments + sum_by held_of os

-- the greatest amount of memory that a restore needs, if it holds this number of bytes of data
abbrev pub memory_for : ℕ → ℕ → List Outlined → ℕ
memory_for budget fragments os = min budget (bytes_in os) + held_beside fragments os
