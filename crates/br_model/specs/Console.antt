-- The console: a directory and marked paths; how each command changes them, and its answer.
use Rattle.std.specs.Prelude.{◌≡◌, ℕ, ◌+◌, ◌-◌, Bool, true, false, not, ◌&&◌, ◌||◌, nat_lt, ◌==◌, if◌then◌else◌, List, [], ◌∷◌, ◌++◌, length, map, take, drop, reverse, filter, flat_map, sum_by, bytes_eq, decimal, codes, Option, Some, None, Result, Ok, Err, ℤ, pos, negsuc}
use Rattle.std.specs.List.{AllPass, list_any, slice_split, prefix_len, starts_with, before_first, after_first}
use Rattle.br_model.specs.Answer.{◌>>=◌, refuse_if}
use Rattle.br_model.specs.Order.{in_order, is_among}
use Rattle.br_model.specs.Text.{is_empty, is_blank, trim_by, escaped, line, refused_line}
use Rattle.br_model.specs.Name.{dot, dot_dot, is_slash, is_directory}
use Rattle.br_model.specs.View.{Entry, view_paths}

-- ---- commands

-- the commands of the console
pub data Command : Type 0 where
  Cd : List ℕ → Command
  Pwd : Command
  Ls : Option (List ℕ) → Command
  Mark : List ℕ → Command
  Unmark : List ℕ → Command
  MarkDir : Option (List ℕ) → Command
  UnmarkDir : Option (List ℕ) → Command
  Count : Command
  LsMark : Command
  Find : List ℕ → Command
  Estimate : Command
  Done : Command
  Quit : Command

-- a word with nothing after it, else 55
abbrev pub alone : Command → List ℕ → Result Command ℕ
alone c text = if is_empty text then Ok c else Err 55

-- a word with a text after it, else 55
abbrev pub with_text : (List ℕ → Command) → List ℕ → Result Command ℕ
with_text c text = if is_empty text then Err 55 else Ok (c text)

-- a word with or without a text after it
abbrev pub maybe_text : (Option (List ℕ) → Command) → List ℕ → Result Command ℕ
maybe_text c text = Ok (c (if is_empty text then None else Some text))

-- the command of a word and the text after it; 55 for another word, or a missing or extra text
unfoldable pub read_words : List ℕ → List ℕ → Result Command ℕ
read_words word text =
    if bytes_eq word (codes "cd") then with_text Cd text
    else if bytes_eq word (codes "pwd") then alone Pwd text
    else if bytes_eq word (codes "ls") then maybe_text Ls text
    else if bytes_eq word (codes "mark") then with_text Mark text
    else if bytes_eq word (codes "unmark") then with_text Unmark text
    else if bytes_eq word (codes "markdir") then maybe_text MarkDir text
    else if bytes_eq word (codes "unmarkdir") then maybe_text UnmarkDir text
    else if bytes_eq word (codes "count") then alone Count text
    else if bytes_eq word (codes "lsmark") then alone LsMark text
    else if bytes_eq word (codes "find") then with_text Find text
    else if bytes_eq word (codes "estimate") then alone Estimate text
    else if bytes_eq word (codes "done") then alone Done text
    else if bytes_eq word (codes "quit") then alone Quit text
    else Err 55

-- the command of a line of at most 4096 bytes: a word, and the rest without outer blanks; else 55
unfoldable pub read_command : List ℕ → Result Command ℕ
read_command text = do
  _ ← refuse_if (nat_lt 4096 (length text)) 55
  read_words (before_first is_blank (trim_by is_blank text)) (trim_by is_blank (after_first is_blank (trim_by is_blank text)))

-- ---- paths and patterns

-- whether the first list begins with the second
abbrev pub begins_with : List ℕ → List ℕ → Bool
begins_with text front = starts_with (λ a b. a == b) text front

-- all suffixes of a list, from the list itself to the empty one
unfoldable pub tails : List ℕ → List (List ℕ)
tails [] = [] ∷ []
tails (x ∷ xs) = (x ∷ xs) ∷ tails xs

-- whether the pattern matches the whole name: * any bytes, ? one byte, any other byte itself
unfoldable pub matches : List ℕ → List ℕ → Bool
matches [] name = is_empty name
matches (p ∷ ps) [] = p == 42 && matches ps []
matches (p ∷ ps) (c ∷ cs) = if p == 42 then list_any (matches ps) (tails (c ∷ cs)) else (p == 63 || p == c) && matches ps cs

-- a name without the slash at its end
abbrev pub bare : List ℕ → List ℕ
bare name = if is_directory name then take (length name - 1) name else name

-- the rest of a path after a directory, up to and including its next slash
abbrev pub child_of : List ℕ → List ℕ → List ℕ
child_of directory path = take (prefix_len (λ c. not (is_slash c)) (drop (length directory) path) + 1) (drop (length directory) path)

-- the paths below a directory
abbrev pub is_below : List ℕ → List ℕ → Bool
is_below directory path = begins_with path directory && not (bytes_eq path directory)

-- the names in a directory, in byte order
unfoldable pub children : List (List ℕ) → List ℕ → List (List ℕ)
children paths directory = in_order (λ name. name) (map (child_of directory) (filter (is_below directory) paths))

-- the names in a directory that match the pattern, a slash at their end not counted
unfoldable pub matching : List (List ℕ) → List ℕ → List ℕ → List (List ℕ)
matching paths directory pattern = filter (λ name. matches pattern (bare name)) (children paths directory)

-- the root is a slash
abbrev pub root : List ℕ
root = 47 ∷ []

-- whether a path of a directory is the root, or the beginning of one of the paths
abbrev pub is_directory_of : List (List ℕ) → List ℕ → Bool
is_directory_of paths directory = bytes_eq directory root || list_any (λ path. begins_with path directory) paths

-- the name after the last slash, a slash at the end not counted; empty for the root
abbrev pub last_component : List ℕ → List ℕ
last_component path = reverse (take (prefix_len (λ c. not (is_slash c)) (reverse (bare path))) (reverse (bare path)))

-- ---- changing the directory

-- a directory without its last component; the root stays
abbrev pub parent : List ℕ → List ℕ
parent directory = if bytes_eq directory root then root else take (length directory - length (last_component directory) - 1) directory

-- the directory after one component of a way; 56 if the component is empty
abbrev pub step : List ℕ → List ℕ → Result (List ℕ) ℕ
step directory component =
    if is_empty component then Err 56
    else if bytes_eq component dot then Ok directory
    else if bytes_eq component dot_dot then Ok (parent directory)
    else Ok (directory ++ component ++ root)

-- the directory after some components, or the first refusal
unfoldable pub walk : List ℕ → List (List ℕ) → Result (List ℕ) ℕ
walk directory [] = Ok directory
walk directory (component ∷ more) = do
  next ← step directory component
  walk next more

-- the directory that a way leads to, from the root if it begins with a slash; it may end in a slash
unfoldable pub resolve : List ℕ → List ℕ → Result (List ℕ) ℕ
resolve directory way =
    if bytes_eq way root then Ok root
    else if begins_with way root then walk root (slice_split is_slash (drop 1 (bare way)))
    else walk directory (slice_split is_slash (bare way))

-- ---- the state and the answers

-- the current directory, and the marked paths in byte order
pub record Console : Type 0 where
  pub directory : List ℕ
  pub marked : List (List ℕ)

-- the marks are paths of the view, in byte order and each once
pub record IsConsole (view : List Entry) (c : Console) : Type 0 where
  pub ordered : in_order (λ path. path) c.marked ≡ c.marked
  pub in_view : AllPass (is_among (view_paths view)) c.marked

-- the current directory is the root, and nothing is marked
abbrev pub at_start : Console
at_start = record { directory = root; marked = [] }

-- the answer to a command that is not refused
pub data Answer : Type 0 where
  Text : List ℕ → Answer
  EndsDone : Answer
  EndsQuit : Answer

-- whether the path is that of one of the names, or below one that is a directory
abbrev pub is_meant : List ℕ → List (List ℕ) → List ℕ → Bool
is_meant directory names path =
    list_any (λ name. bytes_eq path (directory ++ name) || (is_directory name && begins_with path (directory ++ name))) names

-- the line with the current directory
abbrev pub cwd_line : List ℕ → List ℕ
cwd_line directory = line (codes "cwd is: " ++ escaped directory)

-- the line of a number and a word
abbrev pub count_line : ℕ → List ℕ → List ℕ
count_line n word = line (decimal n ++ 32 ∷ word)

-- * for a marked path, + for a directory with a marked path below it, a space for any other
abbrev pub sign : List (List ℕ) → List ℕ → ℕ
sign marked path =
    if is_among marked path then 42
    else if is_directory path && list_any (is_below path) marked then 43
    else 32

-- * for a marked path, a space for any other
abbrev pub mark_sign : List (List ℕ) → List ℕ → ℕ
mark_sign marked path = if is_among marked path then 42 else 32

-- the console with these paths marked, and the number of those that were not marked
abbrev pub with_marks : Console → List (List ℕ) → Console × Answer
with_marks c paths = (
  record c { marked = in_order (λ path. path) (paths ++ c.marked) },
  Text (count_line (length (filter (λ path. not (is_among c.marked path)) paths)) (codes "marked")),
)

-- the console with these paths unmarked, and the number of those that were marked
abbrev pub without_marks : Console → List (List ℕ) → Console × Answer
without_marks c paths = (
  record c { marked = filter (λ path. not (is_among paths path)) c.marked },
  Text (count_line (length (filter (λ path. is_among c.marked path) paths)) (codes "unmarked")),
)

-- the same console and an answer
abbrev pub says : Console → List ℕ → Console × Answer
says c text = (c, Text text)

-- the list, or 57 if it is empty
abbrev pub some_of : List (List ℕ) → Result (List (List ℕ)) ℕ
some_of xs = if is_empty xs then Err 57 else Ok xs

-- the view's paths that a pattern means, or 57 if no name matches
unfoldable pub meant : List (List ℕ) → List ℕ → List ℕ → Result (List (List ℕ)) ℕ
meant paths directory pattern = do
  names ← some_of (matching paths directory pattern)
  Ok (filter (is_meant directory names) paths)

-- the view's paths of the directories that match, or of this one if there is no pattern; or 57
unfoldable pub meant_directories : List (List ℕ) → List ℕ → Option (List ℕ) → Result (List (List ℕ)) ℕ
meant_directories paths directory None = some_of (filter (bytes_eq directory) paths)
meant_directories paths directory (Some pattern) =
    some_of (filter (is_among (map (λ name. directory ++ name) (filter is_directory (matching paths directory pattern)))) paths)

-- the line of a name in the directory, after its sign
abbrev pub child_line : Console → List ℕ → List ℕ
child_line c name = line (sign c.marked (c.directory ++ name) ∷ escaped name)

-- the line of a path that was found, after its sign
abbrev pub found_line : Console → List ℕ → List ℕ
found_line c path = line (mark_sign c.marked path ∷ escaped path)

-- a size in bytes; 0 if it is negative
abbrev pub size_of : ℤ → ℕ
size_of (pos n) = n
size_of (negsuc n) = 0

-- the sum of the sizes of the marked files
unfoldable pub marked_bytes : List Entry → List (List ℕ) → ℕ
marked_bytes view marked =
    sum_by (λ (e : Entry). size_of e.size) (filter (λ (e : Entry). is_among marked e.path && not (is_directory e.path)) view)

-- The console after a command, and its answer; or 56 for no such directory, 57 if nothing matches.
-- A refused command changes nothing.
unfoldable pub apply : List Entry → Console → Command → Result (Console × Answer) ℕ
apply view c (Cd way) = do
  directory ← resolve c.directory way
  _ ← refuse_if (not (is_directory_of (view_paths view) directory)) 56
  Ok (record c { directory = directory }, Text (cwd_line directory))
apply view c Pwd = Ok (says c (cwd_line c.directory))
apply view c (Ls None) = Ok (says c (flat_map (child_line c) (children (view_paths view) c.directory)))
apply view c (Ls (Some pattern)) = do
  names ← some_of (matching (view_paths view) c.directory pattern)
  Ok (says c (flat_map (child_line c) names))
apply view c (Mark pattern) = do
  paths ← meant (view_paths view) c.directory pattern
  Ok (with_marks c paths)
apply view c (Unmark pattern) = do
  paths ← meant (view_paths view) c.directory pattern
  Ok (without_marks c paths)
apply view c (MarkDir pattern) = do
  paths ← meant_directories (view_paths view) c.directory pattern
  Ok (with_marks c paths)
apply view c (UnmarkDir pattern) = do
  paths ← meant_directories (view_paths view) c.directory pattern
  Ok (without_marks c paths)
apply view c Count = Ok (says c (line (decimal (length view) ++ codes " paths, " ++ decimal (length c.marked) ++ codes " marked")))
apply view c LsMark = Ok (says c (flat_map (λ path. line (escaped path)) (filter (λ path. begins_with path c.directory) c.marked)))
apply view c (Find pattern) = do
  paths ← some_of (filter (λ path. matches pattern (last_component path)) (view_paths view))
  Ok (says c (flat_map (found_line c) paths))
apply view c Estimate =
    Ok (says c (line (decimal (length c.marked) ++ codes " marked, " ++ decimal (marked_bytes view c.marked) ++ codes " bytes")))
apply view c Done = Ok (c, EndsDone)
apply view c Quit = Ok (c, EndsQuit)

-- ---- a script of commands

-- a refused command leaves the console as it was
abbrev pub after_answer : Console → Result (Console × Answer) ℕ → Console
after_answer c (Ok r) = r.0
after_answer c (Err n) = c

-- the answer alone, or the refusal
abbrev pub answer_of : Result (Console × Answer) ℕ → Result Answer ℕ
answer_of (Ok r) = Ok r.1
answer_of (Err n) = Err n

-- the console after a script
unfoldable pub marks_after : List Entry → Console → List Command → Console
marks_after view c [] = c
marks_after view c (command ∷ more) = marks_after view (after_answer c (apply view c command)) more

-- the answer or the refusal for each command of a script
unfoldable pub answers : List Entry → Console → List Command → List (Result Answer ℕ)
answers view c [] = []
answers view c (command ∷ more) = answer_of (apply view c command) ∷ answers view (after_answer c (apply view c command)) more

-- ---- a dialogue of lines, up to done or quit

-- the parts without the last one if that is empty
abbrev pub without_empty_end : List (List ℕ) → List (List ℕ)
without_empty_end [] = []
without_empty_end (x ∷ []) = if is_empty x then [] else x ∷ []
without_empty_end (x ∷ y ∷ more) = x ∷ without_empty_end (y ∷ more)

-- the lines of a text, each up to a line feed; the last may lack it, and other bytes are contents
unfoldable pub console_lines : List ℕ → List (List ℕ)
console_lines text = without_empty_end (slice_split (λ c. c == 10) text)

-- the console after one line, and the answer
abbrev pub said : List Entry → Console → List ℕ → Result (Console × Answer) ℕ
said view c text = do
  command ← read_command text
  apply view c command

-- the text that is written for an answer or a refusal
abbrev pub written : Result Answer ℕ → List ℕ
written (Ok (Text text)) = text
written (Ok EndsDone) = []
written (Ok EndsQuit) = []
written (Err n) = refused_line n

-- done and quit end a dialogue
abbrev pub ends : Result Answer ℕ → Bool
ends (Ok (Text text)) = false
ends (Ok EndsDone) = true
ends (Ok EndsQuit) = true
ends (Err n) = false

-- only done ends it with the marks
abbrev pub ends_done : Result Answer ℕ → Bool
ends_done (Ok (Text text)) = false
ends_done (Ok EndsDone) = true
ends_done (Ok EndsQuit) = false
ends_done (Err n) = false

-- the text that is written for the lines
unfoldable pub dialogue : List Entry → Console → List (List ℕ) → List ℕ
dialogue view c [] = []
dialogue view c (text ∷ more) =
    written (answer_of (said view c text))
    ++ (if ends (answer_of (said view c text)) then [] else dialogue view (after_answer c (said view c text)) more)

-- the marked paths at done, if the lines reach it
unfoldable pub marks_at_done : List Entry → Console → List (List ℕ) → Option (List (List ℕ))
marks_at_done view c [] = None
marks_at_done view c (text ∷ more) =
    if ends_done (answer_of (said view c text)) then Some c.marked
    else if ends (answer_of (said view c text)) then None
    else marks_at_done view (after_answer c (said view c text)) more

-- ---- laws

-- after a command the marks are still in order, each once, and in the view
abbrev pub ConsoleStays : Type 0
ConsoleStays =
    (view : List Entry) (c : Console) (command : Command) (r : Console × Answer) → IsConsole view c
    → apply view c command ≡ Ok r → IsConsole view r.0

-- so they are at the start
abbrev pub StartIsConsole : Type 0
StartIsConsole = (view : List Entry) → IsConsole view at_start
