-- The command that the words of a command line ask for, by the definitions of clap.
use Rattle.std.specs.Prelude.{◌≡◌, if◌then◌else◌, ℕ, ◌^◌, not, ◌||◌, List, [], ◌∷◌, map, Bool, bytes_eq, codes, is_some, Option, Some, None, option_and_then, option_map, unwrap_or, false}
use Rattle.std.specs.Borrow.{Bor}
use Rattle.std.specs.Str.Parse.{digits_value, without_leading_plus}
use Rattle.clap.specs.Kinds.{Kinds, or_else}
use Rattle.clap.specs.Simple.{subcommand_of}
use Rattle.clap.specs.ValueTests.{is_unsigned_in}
use Rattle.clap.specs.Walk.{Row, Text, all_of, first_of, one_of}
use Rattle.clap.specs.Faults.{fault_of}
use Rattle.clap.specs.declared.error.kind.ErrorKind.{ErrorKind}
use Rattle.clap.specs.declared.error.kind.ErrorKind.TheVariants.{ArgumentConflict, MissingRequiredArgument, ValueValidation}
use Rattle.clap.specs.Simple.{subcommand_rows_of}
use Rattle.clap.specs.declared.parser.matches.ArgMatches.{ArgMatches}
use Rattle.br_cli_args.specs.ClapCommands.{program_app}
use Rattle.br_cli_args.specs.ByteSize.{size_spelled}
use Rattle.br_types.specs.declared.wanted.Copies.{Copies}
use Rattle.br_types.specs.declared.wanted.Copies.TheVariants as copies
use Rattle.br_types.specs.declared.wanted.Gaps.{Gaps}
use Rattle.br_types.specs.declared.wanted.Gaps.TheVariants as gaps
use Rattle.br_types.specs.declared.wanted.Wanted.{Wanted}
use Rattle.br_cli_common.specs.declared.options.Checksums.{Checksums}
use Rattle.br_cli_common.specs.declared.options.Checksums.TheVariants as checksums
use Rattle.br_cli_common.specs.declared.options.Clock.{Clock}
use Rattle.br_cli_common.specs.declared.options.Clock.TheVariants as clocks
use Rattle.br_types.specs.declared.wanted.Start.{Start}
use Rattle.br_types.specs.declared.wanted.Start.TheVariants as starts
use Rattle.br_types.specs.declared.wanted.Stops.{Stops}
use Rattle.br_types.specs.declared.wanted.Stops.TheVariants as stops
use Rattle.br_cli_common.specs.declared.options.Progress.{Progress}
use Rattle.br_cli_common.specs.declared.options.Progress.TheVariants as progress
use Rattle.br_cli_common.specs.declared.options.FileRows.{FileRows}
use Rattle.br_cli_common.specs.declared.options.FileRows.TheVariants as file_rows
use Rattle.br_cli_common.specs.declared.options.Syncs.{Syncs}
use Rattle.br_cli_common.specs.declared.options.Syncs.TheVariants as syncs
use Rattle.br_cli_common.specs.declared.options.Invocation.{Invocation}
use Rattle.br_cli_common.specs.declared.options.Invocation.TheVariants as commands
use Rattle.br_cli_common.specs.declared.options.Marks.{Marks}
use Rattle.br_cli_common.specs.declared.options.Marks.TheVariants as marks
use Rattle.br_cli_common.specs.declared.options.Printed.{Printed}
use Rattle.br_cli_common.specs.declared.options.Printed.TheVariants as prints
use Rattle.br_cli_common.specs.declared.options.Target.{Target}
use Rattle.br_cli_common.specs.declared.options.Target.TheVariants as targets

-- the target of the restored files: none, a folder, a tar stream in a file or on standard output
pub data Goal : Type 0 where
  Nowhere : Goal
  Folder : Text → Goal
  TarFile : Text → Goal
  TarOutput : Goal

-- what a restore by a bootstrap prints: its manifest; or words, with the manifest in this file, if there
-- is one
pub data Printing : Type 0 where
  Manifest : Printing
  Words : Option Text → Printing

-- how the paths to restore are marked: by the lines of a session, or by these patterns
pub data Marking : Type 0 where
  Lines : Marking
  Patterns : List Text → Marking

-- A command of the program. A script, and the memory for data. A script, a catalogue's file, the
-- folder of the volumes and the memory. A bootstrap's file, the folder of the volumes, the target
-- of the files, the number of drives, the memory, the further wishes, what the folder may hold,
-- whether files are synced, whether progress is shown, the file of a log, if there is one, and what is
-- printed. A catalogue's file, the folder of the volumes, client, file set and moment, the rows of files
-- that are looked at, how paths are marked, the target of the files, the number of drives, the memory,
-- the further wishes, what the folder may hold, whether files are synced, whether progress is shown, and
-- the files of a log and of a manifest, if there are any. A bootstrap's file, the folder of the volumes,
-- what is done with checksums, and the memory. A catalogue's file; client, file set
-- and moment of jobs, each if it is given; the rows of files that are looked at; and the zones in
-- which moments are shown. A catalogue's file. A number. All numbers.
pub data CommandAsked : Type 0 where
  Serve : ℕ → CommandAsked
  ServeFiles : Text → Text → ℕ → CommandAsked
  Extract : Text → Text → Goal → ℕ → ℕ → Wanted → Start → Syncs → Progress → Option Text → Printing → CommandAsked
  Console : Text → Text → Text → Text → Text → FileRows → Marking → Goal → ℕ → ℕ → Wanted → Start → Syncs → Progress → Option Text → Option Text → CommandAsked
  Check : Text → Text → Checksums → ℕ → CommandAsked
  Jobs : Text → Option Text → Option Text → Option Text → FileRows → Clock → CommandAsked
  Migrate : Text → CommandAsked
  Explain : ℕ → CommandAsked
  ExplainAll : CommandAsked

-- the program's target of the restored files
abbrev pub target : Target → Goal
target targets.Nowhere = Nowhere
target (targets.Folder folder) = Folder folder.now
target (targets.TarFile file) = TarFile file.now
target targets.TarOutput = TarOutput

-- the text of an option's value, if it is given
abbrev pub text_of : Option (Bor Text) → Option Text
text_of value = option_map (λ s. s.now) value

-- what the program prints
abbrev pub printing : Printed → Printing
printing prints.Manifest = Manifest
printing (prints.Words file) = Words (text_of file)

-- how the program marks paths
abbrev pub marking : Marks → Marking
marking marks.Lines = Lines
marking (marks.Patterns patterns) = Patterns (map (λ p. p.now) patterns.items)

-- the program's command for a command line
abbrev pub asked : Invocation → CommandAsked
asked (commands.Serve memory) = Serve memory
asked (commands.ServeFiles o) = ServeFiles o.db.now o.volumes.now o.memory
asked (commands.Extract o) =
    Extract o.bsr.now o.volumes.now (target o.target) o.drives o.memory o.wanted o.start o.syncs o.progress (text_of o.log)
    (printing o.printed)
asked (commands.Console o) =
    Console o.db.now o.volumes.now o.client.now o.fileset.now o.before.now o.file_rows (marking o.marks) (target o.target) o.drives o.memory o.wanted o.start o.syncs
    o.progress (text_of o.log) (text_of o.manifest)
asked (commands.Check o) = Check o.bsr.now o.volumes.now o.checksums o.memory
asked (commands.Jobs o) = Jobs o.db.now (text_of o.client) (text_of o.fileset) (text_of o.before) o.file_rows o.clock
asked (commands.Migrate db) = Migrate db.now
asked (commands.Explain number) = Explain number
asked commands.ExplainAll = ExplainAll

-- the number in a text, if it is from `low` to `high`
abbrev pub number_in : ℕ → ℕ → Text → Option ℕ
number_in low high text = if is_unsigned_in low high text then Some (digits_value 10 (without_leading_plus text)) else None

-- the number of drives, by the values that were found for the options
unfoldable pub drives_asked : List Row → Option ℕ
drives_asked rows = option_and_then (number_in 1 16) (one_of (codes "drives") rows)

-- the memory for data, by the values that were found for the options
unfoldable pub memory_asked : List Row → Option ℕ
memory_asked rows = option_and_then size_spelled (first_of (codes "memory") rows)

-- the memory for data, if none is given
abbrev pub default_memory : ℕ
default_memory = 2 ^ 30

-- the number to explain
unfoldable pub number_asked : List Row → Option ℕ
number_asked rows = option_and_then (number_in 0 4294967295) (one_of (codes "number") rows)

-- the target of a tar stream: - is standard output
abbrev pub tar_target : Text → Goal
tar_target file = if bytes_eq file (codes "-") then TarOutput else TarFile file

-- the target of the restored files by the values of `--into` and `--tar`; only one may be given
abbrev pub target_by : Option Text → Option Text → Option Goal
target_by None None = Some Nowhere
target_by (Some folder) None = Some (Folder folder)
target_by None (Some file) = Some (tar_target file)
target_by (Some folder) (Some file) = None

-- the same by the values that were found for the options
unfoldable pub target_asked : List Row → Option Goal
target_asked rows = target_by (first_of (codes "into") rows) (first_of (codes "tar") rows)

-- whether a value is that of a given option
abbrev pub is_true : Option Text → Bool
is_true None = false
is_true (Some value) = bytes_eq value (codes "true")

-- whether an option without a value was given
abbrev pub is_given : Text → List Row → Bool
is_given name rows = is_true (first_of name rows)

-- which files are delivered: with `--newest` the newest copies
abbrev pub copies_by : Bool → Copies
copies_by is_newest = if is_newest then copies.Newest else copies.All

-- the same by the values that were found for the options
unfoldable pub copies_asked : List Row → Copies
copies_asked rows = copies_by (is_given (codes "newest") rows)

-- whether missing indexes are reported: with `--complete`
abbrev pub gaps_by : Bool → Gaps
gaps_by is_complete = if is_complete then gaps.Reported else gaps.Unreported

-- the same by the values that were found for the options
unfoldable pub gaps_asked : List Row → Gaps
gaps_asked rows = gaps_by (is_given (codes "complete") rows)

-- what the delivery does at a file that can't be put: it goes on with `--keep-going`
abbrev pub stops_by : Bool → Stops
stops_by goes_on = if goes_on then stops.Never else stops.AtFirst

-- the same by the values that were found for the options
unfoldable pub stops_asked : List Row → Stops
stops_asked rows = stops_by (is_given (codes "keep-going") rows)

-- the further wishes of `extract`
abbrev pub wanted_asked : List Row → Wanted
wanted_asked rows = record { copies = copies_asked rows; gaps = gaps_asked rows; stops = stops_asked rows }

-- those of `console`: all copies are wanted, since a session has one of each path
abbrev pub session_wanted : List Row → Wanted
session_wanted rows = record { copies = copies.All; gaps = gaps_asked rows; stops = stops_asked rows }

-- whether the files of a delivery are synced: with `--sync`
abbrev pub syncs_by : Bool → Syncs
syncs_by is_synced = if is_synced then syncs.Each else syncs.Never

-- the same by the values that were found for the options
unfoldable pub syncs_asked : List Row → Syncs
syncs_asked rows = syncs_by (is_given (codes "sync") rows)

-- which rows of files are looked at: all with `--verify-catalogue`
abbrev pub file_rows_by : Bool → FileRows
file_rows_by is_verified = if is_verified then file_rows.All else file_rows.Needed

-- the same by the values that were found for the options
unfoldable pub file_rows_asked : List Row → FileRows
file_rows_asked rows = file_rows_by (is_given (codes "verify-catalogue") rows)

-- whether a terminal shows the progress of a restore: unless `--quiet` is given
abbrev pub progress_by : Bool → Progress
progress_by is_quiet = if is_quiet then progress.Quiet else progress.Shown

-- the same by the values that were found for the options
unfoldable pub progress_asked : List Row → Progress
progress_asked rows = progress_by (is_given (codes "quiet") rows)

-- the file of a log, if there is one
abbrev pub log_asked : List Row → Option Text
log_asked rows = first_of (codes "log") rows

-- the file of a manifest, if there is one
abbrev pub manifest_asked : List Row → Option Text
manifest_asked rows = first_of (codes "manifest") rows

-- what `check` does with checksums: it compares them with `--checksums`
abbrev pub checksums_by : Bool → Checksums
checksums_by is_compared = if is_compared then checksums.Compared else checksums.Passed

-- the same by the values that were found for the options
unfoldable pub checksums_asked : List Row → Checksums
checksums_asked rows = checksums_by (is_given (codes "checksums") rows)

-- the command `explain` by the value that was found, if there is one
unfoldable pub explain_asked : List Row → Option CommandAsked
explain_asked rows =
    if is_some (first_of (codes "number") rows) then option_map Explain (number_asked rows)
    else Some ExplainAll

-- what the folder of a restore may hold: with `--resume`, what an interrupted restore has put there
abbrev pub start_by : Bool → Start
start_by is_resumed = if is_resumed then starts.Resumed else starts.Empty

-- the same by the values that were found for the options
unfoldable pub start_asked : List Row → Start
start_asked rows = start_by (is_given (codes "resume") rows)

-- the same by the target: only a folder may hold something
abbrev pub start_for : Goal → Start → Option Start
start_for (Folder folder) start = Some start
start_for Nowhere starts.Empty = Some starts.Empty
start_for Nowhere starts.Resumed = None
start_for (TarFile file) starts.Empty = Some starts.Empty
start_for (TarFile file) starts.Resumed = None
start_for TarOutput starts.Empty = Some starts.Empty
start_for TarOutput starts.Resumed = None

-- the command `extract` by the values that were found for its options
unfoldable pub extract_asked : List Row → Option CommandAsked
extract_asked rows =
    option_and_then (λ bsr.
    option_and_then (λ volumes.
    option_and_then (λ goal.
    option_and_then (λ drives.
    option_and_then (λ memory.
    option_map (λ start. Extract bsr volumes goal drives memory (wanted_asked rows) start (syncs_asked rows) (progress_asked rows) (log_asked rows) Manifest)
    (start_for goal (start_asked rows)))
    (memory_asked rows))
    (drives_asked rows))
    (target_asked rows))
    (first_of (codes "volumes") rows))
    (first_of (codes "bsr") rows)

-- the command `console` by the values that were found for its options
unfoldable pub console_asked : List Row → Option CommandAsked
console_asked rows =
    option_and_then (λ db.
    option_and_then (λ volumes.
    option_and_then (λ client.
    option_and_then (λ fileset.
    option_and_then (λ before.
    option_and_then (λ goal.
    option_and_then (λ drives.
    option_and_then (λ memory.
    option_map (λ start. Console db volumes client fileset before (file_rows_asked rows) Lines goal drives memory (session_wanted rows) start (syncs_asked rows)
    (progress_asked rows) (log_asked rows) (manifest_asked rows))
    (start_for goal (start_asked rows)))
    (memory_asked rows))
    (drives_asked rows))
    (target_asked rows))
    (first_of (codes "before") rows))
    (first_of (codes "fileset") rows))
    (first_of (codes "client") rows))
    (first_of (codes "volumes") rows))
    (first_of (codes "db") rows)

-- the target of `restore`, which needs one
abbrev pub given_goal : Goal → Option Goal
given_goal Nowhere = None
given_goal (Folder folder) = Some (Folder folder)
given_goal (TarFile file) = Some (TarFile file)
given_goal TarOutput = Some TarOutput

-- what the target of `restore` may hold: a folder may hold files of an earlier restore
abbrev pub careful_start : Goal → Start
careful_start (Folder folder) = starts.Resumed
careful_start Nowhere = starts.Empty
careful_start (TarFile file) = starts.Empty
careful_start TarOutput = starts.Empty

-- the wishes of `restore` by a bootstrap: of each path the newest copy, with what is missing reported,
-- and files that can't be written left out
abbrev pub careful : Wanted
careful = record { copies = copies.Newest; gaps = gaps.Reported; stops = stops.Never }

-- those of `restore` by a catalogue, which has one copy of each path
abbrev pub careful_session : Wanted
careful_session = record { copies = copies.All; gaps = gaps.Reported; stops = stops.Never }

-- the command `restore` by a bootstrap, by the values that were found for its options
unfoldable pub restore_bootstrap : List Row → Option CommandAsked
restore_bootstrap rows =
    option_and_then (λ bsr.
    option_and_then (λ volumes.
    option_and_then (λ goal.
    option_and_then (λ drives.
    option_map (λ memory. Extract bsr volumes goal drives memory careful (careful_start goal) (syncs_asked rows) (progress_asked rows) (log_asked rows)
    (Words (manifest_asked rows)))
    (memory_asked rows))
    (drives_asked rows))
    (option_and_then given_goal (target_asked rows)))
    (first_of (codes "volumes") rows))
    (first_of (codes "bsr") rows)

-- the moment of `restore`: the last one if none is given
abbrev pub before_asked : List Row → Text
before_asked rows = unwrap_or (first_of (codes "before") rows) (codes "9999-12-31 23:59:59")

-- the patterns of `restore`: that of all paths if none is given
abbrev pub patterns_or_all : Option (List Text) → List Text
patterns_or_all None = codes "/" ∷ []
patterns_or_all (Some []) = codes "/" ∷ []
patterns_or_all (Some (pattern ∷ more)) = pattern ∷ more

-- the same by the values that were found
unfoldable pub patterns_asked : List Row → List Text
patterns_asked rows = patterns_or_all (all_of (codes "pattern") rows)

-- the command `restore` by a catalogue, by the values that were found for its options
unfoldable pub restore_paths : List Row → Option CommandAsked
restore_paths rows =
    option_and_then (λ db.
    option_and_then (λ volumes.
    option_and_then (λ client.
    option_and_then (λ fileset.
    option_and_then (λ goal.
    option_and_then (λ drives.
    option_map (λ memory. Console db volumes client fileset (before_asked rows) file_rows.Needed (Patterns (patterns_asked rows)) goal drives memory
    careful_session (careful_start goal) (syncs_asked rows) (progress_asked rows) (log_asked rows) (manifest_asked rows))
    (memory_asked rows))
    (drives_asked rows))
    (option_and_then given_goal (target_asked rows)))
    (first_of (codes "fileset") rows))
    (first_of (codes "client") rows))
    (first_of (codes "volumes") rows))
    (first_of (codes "db") rows)

-- whether something was given that goes with a catalogue alone
abbrev pub has_choice : List Row → Bool
has_choice rows =
    is_some (first_of (codes "db") rows) || is_some (first_of (codes "client") rows) || is_some (first_of (codes "fileset") rows)
    || is_some (first_of (codes "before") rows) || is_some (first_of (codes "pattern") rows)

-- the command `restore` by the values that were found for its options
unfoldable pub restore_asked : List Row → Option CommandAsked
restore_asked rows =
    if not (is_some (first_of (codes "bsr") rows)) then restore_paths rows
    else if has_choice rows then None
    else restore_bootstrap rows

-- the command `check` by the values that were found for its options
unfoldable pub check_asked : List Row → Option CommandAsked
check_asked rows =
    option_and_then (λ bsr.
    option_and_then (λ volumes. option_map (λ memory. Check bsr volumes (checksums_asked rows) memory) (memory_asked rows))
    (first_of (codes "volumes") rows))
    (first_of (codes "bsr") rows)

-- the zones in which moments are shown: with `--local` also that of the system
abbrev pub clock_by : Bool → Clock
clock_by is_local = if is_local then clocks.UtcAndLocal else clocks.Utc

-- the same by the values that were found for the options
unfoldable pub clock_asked : List Row → Clock
clock_asked rows = clock_by (is_given (codes "local") rows)

-- the command `jobs` by the values that were found for its options
unfoldable pub jobs_asked : List Row → Option CommandAsked
jobs_asked rows =
    option_map
    (λ db. Jobs db (first_of (codes "client") rows) (first_of (codes "fileset") rows) (first_of (codes "before") rows) (file_rows_asked rows) (clock_asked rows))
    (first_of (codes "db") rows)

-- the command `serve` by the values of `--db` and `--volumes`, which have to be given together, and
-- the memory
abbrev pub serve_by : Option Text → Option Text → ℕ → Option CommandAsked
serve_by None None memory = Some (Serve memory)
serve_by (Some db) (Some volumes) memory = Some (ServeFiles db volumes memory)
serve_by (Some db) None memory = None
serve_by None (Some volumes) memory = None

-- the same by the values that were found for the options
unfoldable pub serve_asked : List Row → Option CommandAsked
serve_asked rows = option_and_then (serve_by (first_of (codes "db") rows) (first_of (codes "volumes") rows)) (memory_asked rows)

-- the command `migrate` by the value that was found for its option
unfoldable pub migrate_asked : List Row → Option CommandAsked
migrate_asked rows = option_map Migrate (first_of (codes "db") rows)

-- the command by the name of the subcommand and what was found for its options; with no subcommand it is a script
unfoldable pub asked_by : Option (Text × List Row) → Option CommandAsked
asked_by None = Some (Serve default_memory)
asked_by (Some (name, rows)) =
    if bytes_eq name (codes "restore") then restore_asked rows
    else if bytes_eq name (codes "extract") then extract_asked rows
    else if bytes_eq name (codes "console") then console_asked rows
    else if bytes_eq name (codes "check") then check_asked rows
    else if bytes_eq name (codes "jobs") then jobs_asked rows
    else if bytes_eq name (codes "explain") then explain_asked rows
    else if bytes_eq name (codes "serve") then serve_asked rows
    else if bytes_eq name (codes "migrate") then migrate_asked rows
    else None

-- the command that words ask for; the first word is the program's name
unfoldable pub words_asked : List Text → Option CommandAsked
words_asked words = asked_by (subcommand_of program_app words)

-- the words ask for the command that was found in them
abbrev pub AsksFor : List Text → ArgMatches → Type 0
AsksFor words found = words_asked words ≡ asked_by (subcommand_rows_of found)

-- whether a value is not a size
abbrev pub is_no_size : Option Text → Bool
is_no_size None = false
is_no_size (Some value) = not (is_some (size_spelled value))

-- the kind of fault of options that ask for no command: two that exclude each other, a value that
-- is not a size, or a missing one
abbrev pub kind_in : List Row → ErrorKind
kind_in rows =
    if not (is_some (target_asked rows)) then ArgumentConflict
    else if is_no_size (first_of (codes "memory") rows) then ValueValidation
    else MissingRequiredArgument

-- the same by the subcommand that was found, if there is one
unfoldable pub kind_by : Option (Text × List Row) → ErrorKind
kind_by None = MissingRequiredArgument
kind_by (Some (name, rows)) = kind_in rows

-- the kind of fault of words that ask for no command
unfoldable pub words_kind : List Text → ErrorKind
words_kind words = kind_by (subcommand_of program_app words)

-- this is the kind of fault, by what was found in the words
abbrev pub MissesBy : List Text → ArgMatches → Type 0
MissesBy words found = words_kind words ≡ kind_by (subcommand_rows_of found)

-- the kinds of fault of words; none if they are accepted
unfoldable pub words_fault : List Text → Kinds
words_fault words =
    or_else (fault_of program_app words)
    (if is_some (words_asked words) then [] else words_kind words ∷ [])
