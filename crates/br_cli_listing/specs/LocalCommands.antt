-- The lines for the terminal, which the console does not get.
use Rattle.std.specs.Prelude.{ℕ, List, ◌||◌, bytes_eq, codes, if◌then◌else◌}
use Rattle.std.specs.Io.BufRead.{strip_last}
use Rattle.br_model.specs.Text.{is_blank, trim_by}
use Rattle.br_cli_listing.specs.declared.local_command.LocalCommand.{LocalCommand}
use Rattle.br_cli_listing.specs.declared.local_command.LocalCommand.TheVariants.{Dir, Exit, Folder, Help, LongList, Nothing, Other}

-- a line without its line feed and without blanks at its ends
abbrev pub word_of : List ℕ → List ℕ
word_of line = trim_by is_blank (strip_last 10 line)

-- only these words and an empty line are for the terminal
abbrev pub asked_by : List ℕ → LocalCommand
asked_by word =
    if bytes_eq word (codes "help") || bytes_eq word (codes "?") then Help
    else if bytes_eq word (codes "dir") then Dir
    else if bytes_eq word (codes "") then Nothing
    else if bytes_eq word (codes "exit") then Exit
    else if bytes_eq word (codes "ls -l") then LongList
    else if bytes_eq word (codes "cd") then Folder
    else Other

abbrev pub asked_of : List ℕ → LocalCommand
asked_of line = asked_by (word_of line)
