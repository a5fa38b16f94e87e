-- What is reported of a restore besides the manifest.
use Rattle.std.specs.Prelude.{◌≡◌, ℕ, Bool, not, ◌==◌, ◌&&◌, ◌||◌, List, [], ◌++◌, ◌∷◌, None, codes, decimal, if◌then◌else◌}
use Rattle.br_model.specs.File.{has_bytes}
use Rattle.br_model.specs.Name.{FileKey}
use Rattle.br_model.specs.Text.{escaped, line}
use Rattle.br_cli_progress.specs.declared.gauge.Gauge.{Gauge}
use Rattle.br_cli_progress.specs.declared.progress_counts.ProgressCounts.{ProgressCounts}

-- there is no log
abbrev pub HasNoLog : Gauge → Type 0
HasNoLog gauge = gauge.log ≡ None

-- the line of a file, which begins with a word
abbrev pub path_line : List ℕ → List ℕ → List ℕ
path_line word path = line (word ++ escaped path)

-- a folder skips files of this type: it takes those that have bytes, and folders
abbrev pub is_skipped : ℕ → Bool
is_skipped kind = not (has_bytes kind || kind == 5)

-- the word before the path of a file that a folder or a stream was given
abbrev pub taken_word : Bool → ℕ → List ℕ
taken_word is_folder kind = if is_folder && is_skipped kind then codes "skipped " else codes "put "

-- a text and a number; nothing if the number is 0
abbrev pub noted_text : List ℕ → ℕ → List ℕ
noted_text front count = if count == 0 then [] else front ++ decimal count

-- the texts before the number of older copies that were left out, before that of files that a folder
-- skipped, and before that of outcomes that are no files
unfoldable pub older_front : List ℕ
older_front = codes ", older copies left out: "

unfoldable pub skipped_front : List ℕ
skipped_front = codes ", links and special files skipped: "

unfoldable pub lost_front : List ℕ
lost_front = codes ", not restored: "

-- the number of files that were put, of all
abbrev pub put_of : ℕ → ℕ → List ℕ
put_of put files = decimal put ++ codes " of " ++ decimal files ++ codes " files were put"

-- the line about what became of the files
abbrev pub count_line : ProgressCounts → List ℕ
count_line count =
    line (put_of count.put count.files ++ noted_text older_front count.older ++ noted_text skipped_front count.skipped ++ noted_text lost_front count.lost)

-- session and index of a file
abbrev pub key_text : FileKey → List ℕ
key_text key = decimal key.session.id ++ 32 ∷ decimal key.session.time ++ 32 ∷ decimal key.index
