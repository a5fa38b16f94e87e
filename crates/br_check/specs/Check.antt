-- The result of a check.
use Rattle.std.specs.Prelude.{◌≡◌, ℕ, List, ◌∷◌, ◌++◌, length, flat_map, map, Option, codes, decimal}
use Rattle.std.specs.FinMap.{entries}
use Rattle.br_model.specs.Bootstrap.{Group}
use Rattle.br_model.specs.Meaning.{Hit, hits_of, pieces_of}
use Rattle.br_model.specs.Name.{FileKey}
use Rattle.br_model.specs.Text.{is_empty, line}
use Rattle.br_piece.specs.MissingLines.{report}
use Rattle.br_records.specs.Outline.{Outlined, outlines_found}
use Rattle.br_check.specs.Calls.{InTurn}
use Rattle.br_check.specs.Conflicts.{conflict_lines}
use Rattle.br_check.specs.Findings.{bytes_in, copy_lines, empty_line, file_line, files_in, long_line, memory_for, name_line, volume_line}
use Rattle.br_check.specs.Label.{TellsVolume}
use Rattle.br_check.specs.Search.{IsSearched, Searched, all_found}
use Rattle.br_check.specs.Shown.{Moment, Shown}
use Rattle.br_check.specs.declared.run.Checked.{Checked}

-- the outlines of the files with one of these hits, in order of key
abbrev pub outlines_in : List Hit → List Outlined
outlines_in hits = outlines_found (entries (hits_of hits))

-- the outlines of the files of which something was found, in order of key
abbrev pub outlines_of : List Searched → List Outlined
outlines_of results = outlines_in (all_found results)

-- the keys of files
abbrev pub keys_of : List Outlined → List FileKey
keys_of os = map (λ (o : Outlined). o.key) os

-- the lines of files that a folder can't take: their paths are no file names there, are too
-- long, or conflict
abbrev pub folder_lines : List Outlined → List ℕ
folder_lines os = flat_map name_line os ++ flat_map long_line os ++ conflict_lines os

-- the line of a bootstrap without a group, the lines of the files that a bootstrap asks for and does
-- not get, of groups that get fewer files than their counts, of files that can't be restored, of
-- those that a folder can't take, and of paths that come more than once
abbrev pub lines_of : List Group → List (Option ℕ) → List Outlined → List ℕ
lines_of groups counts os =
    empty_line (is_empty groups) ++ report groups counts (keys_of os) ++ flat_map file_line os ++ folder_lines os ++ copy_lines os

-- The findings of a check: the volumes that can't be searched, the lines about labels, and the
-- lines of the files. Also the number of files that would be restored, their bytes, and the memory
-- that a restore needs if it holds this number of bytes of data.
pub record IsChecked (groups : List Group) (counts : List (Option ℕ)) (budget : ℕ) (results : List Searched) (labels : List ℕ) (checked : Checked) : Type 0 where
  pub findings : checked.findings.items ≡ flat_map volume_line results ++ labels ++ lines_of groups counts (outlines_of results)
  pub files : checked.files ≡ files_in (outlines_of results)
  pub bytes : checked.bytes ≡ bytes_in (outlines_of results)
  pub memory : checked.memory ≡ memory_for budget (length (all_found results)) (outlines_of results)

-- First the pieces are searched, one after the other, then the label of each of their volumes is
-- read. What was found, and what is said of labels, is what is checked.
abbrev pub ChecksOver : Shown → List Group → List (Option ℕ) → ℕ → Checked → Type 0
ChecksOver s groups counts budget checked =
    (searched : Moment) × (results : List Searched) × (labels : List (List ℕ)) × InTurn IsSearched s.earlier searched (pieces_of groups) results
    × InTurn TellsVolume searched s.later (pieces_of groups) labels × IsChecked groups counts budget results (flat_map (λ line. line) labels) checked

-- the memory, and then the number of files and of their bytes
abbrev pub end_text : Checked → List ℕ
end_text c = line (codes "memory " ++ decimal c.memory) ++ line (codes "total " ++ decimal c.files ++ 32 ∷ decimal c.bytes)

-- the findings, and these
abbrev pub checked_text : Checked → List ℕ
checked_text c = c.findings.items ++ end_text c
