-- The advice on the outcomes of a restore.
use Rattle.std.specs.Prelude.{ℕ, ◌==◌, List, [], ◌++◌, Option, Some, None, codes, decimal, if◌then◌else◌}
use Rattle.br_model.specs.Text.{escaped, line}
use Rattle.br_cli_target.specs.declared.origin.Origin.{Origin}
use Rattle.br_cli_progress.specs.Telling.{key_text}

-- the texts before and after the number of indexes without an outcome
unfoldable pub absent_front : List ℕ
absent_front = codes "indexes that the bootstrap asks for and that gave no outcome: "

unfoldable pub absent_end : List ℕ
absent_end = line (codes ". Next: `--complete` names them.")

-- the number of indexes without an outcome
abbrev pub absent_text : ℕ → List ℕ
absent_text count = absent_front ++ decimal count ++ absent_end

-- the same; nothing if there are none
abbrev pub absent_line : ℕ → List ℕ
absent_line count = if count == 0 then [] else absent_text count

-- the texts before the number of older copies, between it and that of paths, and after that
unfoldable pub older_front : List ℕ
older_front = codes "older copies among the files: "

unfoldable pub older_middle : List ℕ
older_middle = codes ", paths at which one is put last: "

unfoldable pub older_end : List ℕ
older_end = line (codes ". Next: `check` names them, `--newest` leaves them out.")

-- the number of files that are older copies, and the number of paths whose last file is one
abbrev pub older_text : ℕ → ℕ → List ℕ
older_text files on_top = older_front ++ decimal files ++ older_middle ++ decimal on_top ++ older_end

-- the same; nothing if no file is one
abbrev pub older_line : ℕ → ℕ → List ℕ
older_line files on_top = if files == 0 then [] else older_text files on_top

-- the volume of a file, if it is known
abbrev pub volume_text : Option (List ℕ) → List ℕ
volume_text None = []
volume_text (Some vol) = codes " on " ++ escaped vol

-- the path of a file, or a text that it can't be read
abbrev pub path_text : Option (List ℕ) → List ℕ
path_text None = codes " has no path that can be read"
path_text (Some path) = codes " is " ++ escaped path

-- the origin of a file
abbrev pub origin_line : Origin → List ℕ
origin_line o = line (codes "  " ++ key_text o.key ++ volume_text o.vol ++ path_text o.path)
