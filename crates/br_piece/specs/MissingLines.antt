-- The lines that report missing files, and groups that get fewer files than their counts.
use Rattle.std.specs.Prelude.{ℕ, nat_lt, List, [], ◌∷◌, ◌++◌, flat_map, slice_get, codes, decimal, Option, if◌then◌else◌}
use Rattle.std.specs.List.{enumerate_from}
use Rattle.std.specs.Option.{option_map_or}
use Rattle.br_model.specs.Text.{line, escaped}
use Rattle.br_model.specs.Name.{FileKey}
use Rattle.br_model.specs.Bootstrap.{Range, Group, range_text}
use Rattle.br_piece.specs.FileCounts.{got}
use Rattle.br_piece.specs.Missing.{missing}
use Rattle.br_piece.specs.declared.lacking.Gap.{Gap}

-- the greatest index that a file can have
abbrev pub greatest_index : ℕ
greatest_index = 2147483647

-- a range after a comma
abbrev pub next_text : Range → List ℕ
next_text r = 44 ∷ range_text r

-- ranges with commas between them, or * if there are none
abbrev pub ranges_text : List Range → List ℕ
ranges_text [] = codes "*"
ranges_text (r ∷ rs) = range_text r ++ flat_map next_text rs

-- number and time of the sessions that a group admits
abbrev pub sessions_text : Group → List ℕ
sessions_text g = ranges_text g.session_ids ++ 32 ∷ ranges_text g.session_times

-- the line of some indexes that a group asks for: number and time of the session, the indexes,
-- and the volume
abbrev pub gap_line : Group → Range → List ℕ
gap_line g run = line (codes "missing " ++ sessions_text g ++ 32 ∷ range_text run ++ 32 ∷ escaped g.volume)

-- the line of a run of indexes, with the group at its place
abbrev pub line_of : List Group → Gap → List ℕ
line_of groups gap = option_map_or (λ g. gap_line g gap.indexes) (slice_get groups gap.group) []

-- A run up to the greatest index has no line: a range that ends there asks for all files from its
-- first on, whatever their number.
abbrev pub gap_text : List Group → Gap → List ℕ
gap_text groups gap = if nat_lt gap.indexes.high greatest_index then line_of groups gap else []

-- two numbers with a blank between them
abbrev pub numbers_text : ℕ → ℕ → List ℕ
numbers_text n found = decimal n ++ 32 ∷ decimal found

-- the line of a group that asks for a number of files and gets fewer: number and time of the
-- session, the two numbers, and the volume
abbrev pub count_line : Group → ℕ → ℕ → List ℕ
count_line g n found = line (codes "count " ++ sessions_text g ++ 32 ∷ numbers_text n found ++ 32 ∷ escaped g.volume)

-- the line of a group that asks for a number of files, if it gets fewer
abbrev pub count_text : Group → ℕ → List FileKey → List ℕ
count_text g n keys = if nat_lt (got g keys) n then count_line g n (got g keys) else []

-- the line of the group at its place, if it has a count and gets fewer files
abbrev pub count_at : List Group → List FileKey → ℕ × Option ℕ → List ℕ
count_at groups keys c = option_map_or (λ n. option_map_or (λ g. count_text g n keys) (slice_get groups c.0) []) c.1 []

-- the lines of all groups that get fewer files than their counts
abbrev pub count_lines : List Group → List (Option ℕ) → List FileKey → List ℕ
count_lines groups counts keys = flat_map (count_at groups keys) (enumerate_from 0 counts)

-- the lines of the indexes that a bootstrap asks for and that none of the files has, and of the
-- groups that get fewer files than their counts
unfoldable pub report : List Group → List (Option ℕ) → List FileKey → List ℕ
report groups counts keys = flat_map (gap_text groups) (missing groups keys) ++ count_lines groups counts keys
