-- What options ask for, by the values that were found for them.
use Rattle.std.proofs.Common.{◌≡◌, List, [], ◌∷◌, None, Some, refl}
use Rattle.std.specs.Prelude.{codes}
use Rattle.clap.specs.Walk.{Row, Text}
use Rattle.clap.specs.declared.builder.value_parser.Reading.TheVariants.{AsWritten}
use Rattle.br_types.specs.declared.wanted.Copies.TheVariants as copies
use Rattle.br_types.specs.declared.wanted.Gaps.TheVariants as gaps
use Rattle.br_types.specs.declared.wanted.Start.TheVariants as starts
use Rattle.br_types.specs.declared.wanted.Stops.TheVariants as stops
use Rattle.br_cli_common.specs.declared.options.Checksums.TheVariants as checksums
use Rattle.br_cli_common.specs.declared.options.Clock.TheVariants as clocks
use Rattle.br_cli_common.specs.declared.options.FileRows.TheVariants as file_rows
use Rattle.br_cli_common.specs.declared.options.Progress.TheVariants as progress
use Rattle.br_cli_common.specs.declared.options.Syncs.TheVariants as syncs
use Rattle.br_types.specs.DecimalField.{number_spelled}
use Rattle.br_model.specs.Text.{decimal_value}
use Rattle.br_cli_args.specs.ByteSize.{last_sized, size_spelled}
use Rattle.br_cli_args.specs.Words.CommandAsked.{Check, Console, Explain, ExplainAll, Extract, Jobs, Migrate, Serve, ServeFiles}
use Rattle.br_cli_args.specs.Words.Goal.{Folder, Nowhere, TarFile, TarOutput}
use Rattle.br_cli_args.specs.Words.Marking.{Lines, Patterns}
use Rattle.br_cli_args.specs.Words.Printing.{Manifest, Words}
use Rattle.br_cli_args.specs.Words.{asked_by, check_asked, checksums_asked, clock_asked, console_asked, copies_asked, drives_asked, explain_asked, extract_asked, file_rows_asked, gaps_asked, jobs_asked, log_asked, manifest_asked, memory_asked, migrate_asked, number_asked, patterns_asked, progress_asked, restore_asked, restore_bootstrap, restore_paths, serve_asked, start_asked, stops_asked, syncs_asked, target_asked, wanted_asked}

-- this value was found for an option
abbrev found : Text → Text → Row
found id value = record { id = id; values = value ∷ []; count = None; source = None; reading = AsWritten }

-- an option without a value was given
abbrev flag : Text → Row
flag id = found id (codes "true")

-- ---- numbers

drives_from_1_to_16 : drives_asked (found (codes "drives") (codes "16") ∷ []) ≡ Some 16
unfolding drives_asked
drives_from_1_to_16 = refl

no_drives_above_16 : drives_asked (found (codes "drives") (codes "17") ∷ []) ≡ None
unfolding drives_asked
no_drives_above_16 = refl

no_drives_of_0 : drives_asked (found (codes "drives") (codes "0") ∷ []) ≡ None
unfolding drives_asked
no_drives_of_0 = refl

memory_is_a_size : memory_asked (found (codes "drives") (codes "2") ∷ found (codes "memory") (codes "3M") ∷ []) ≡ Some 3145728
unfolding memory_asked size_spelled last_sized number_spelled decimal_value
memory_is_a_size = refl

number_below_2_32 : number_asked (found (codes "number") (codes "4294967295") ∷ []) ≡ Some 4294967295
unfolding number_asked
number_below_2_32 = refl

number_of_2_32 : number_asked (found (codes "number") (codes "4294967296") ∷ []) ≡ None
unfolding number_asked
number_of_2_32 = refl

-- ---- targets

no_target : target_asked [] ≡ Some Nowhere
unfolding target_asked
no_target = refl

folder_as_a_target : target_asked (found (codes "into") (codes "-") ∷ []) ≡ Some (Folder (codes "-"))
unfolding target_asked
folder_as_a_target = refl

file_as_a_target : target_asked (found (codes "tar") (codes "out.tar") ∷ []) ≡ Some (TarFile (codes "out.tar"))
unfolding target_asked
file_as_a_target = refl

output_as_a_target : target_asked (found (codes "tar") (codes "-") ∷ []) ≡ Some TarOutput
unfolding target_asked
output_as_a_target = refl

two_targets : target_asked (found (codes "into") (codes "out") ∷ found (codes "tar") (codes "-") ∷ []) ≡ None
unfolding target_asked
two_targets = refl

-- ---- flags: without one, and with it

copies_of_a_path : copies_asked [] ∷ copies_asked (flag (codes "newest") ∷ []) ∷ [] ≡ copies.All ∷ copies.Newest ∷ []
unfolding copies_asked
copies_of_a_path = refl

gaps_of_a_bootstrap : gaps_asked [] ∷ gaps_asked (flag (codes "complete") ∷ []) ∷ [] ≡ gaps.Unreported ∷ gaps.Reported ∷ []
unfolding gaps_asked
gaps_of_a_bootstrap = refl

stops_of_a_delivery : stops_asked [] ∷ stops_asked (flag (codes "keep-going") ∷ []) ∷ [] ≡ stops.AtFirst ∷ stops.Never ∷ []
unfolding stops_asked
stops_of_a_delivery = refl

wishes_one_by_one : wanted_asked (flag (codes "complete") ∷ []) ≡ record { copies = copies.All; gaps = gaps.Reported; stops = stops.AtFirst }
unfolding copies_asked gaps_asked stops_asked
wishes_one_by_one = refl

syncs_of_files : syncs_asked [] ∷ syncs_asked (flag (codes "sync") ∷ []) ∷ [] ≡ syncs.Never ∷ syncs.Each ∷ []
unfolding syncs_asked
syncs_of_files = refl

rows_of_files : file_rows_asked [] ∷ file_rows_asked (flag (codes "verify-catalogue") ∷ []) ∷ [] ≡ file_rows.Needed ∷ file_rows.All ∷ []
unfolding file_rows_asked
rows_of_files = refl

progress_at_a_terminal : progress_asked [] ∷ progress_asked (flag (codes "quiet") ∷ []) ∷ [] ≡ progress.Shown ∷ progress.Quiet ∷ []
unfolding progress_asked
progress_at_a_terminal = refl

checksums_of_blocks : checksums_asked [] ∷ checksums_asked (flag (codes "checksums") ∷ []) ∷ [] ≡ checksums.Passed ∷ checksums.Compared ∷ []
unfolding checksums_asked
checksums_of_blocks = refl

start_of_a_restore : start_asked [] ∷ start_asked (flag (codes "resume") ∷ []) ∷ [] ≡ starts.Empty ∷ starts.Resumed ∷ []
unfolding start_asked
start_of_a_restore = refl

zones_of_a_list : clock_asked [] ∷ clock_asked (flag (codes "local") ∷ []) ∷ [] ≡ clocks.Utc ∷ clocks.UtcAndLocal ∷ []
unfolding clock_asked
zones_of_a_list = refl

file_of_a_log : log_asked [] ∷ log_asked (found (codes "log") (codes "l") ∷ []) ∷ [] ≡ None ∷ Some (codes "l") ∷ []
file_of_a_log = refl

file_of_a_manifest : manifest_asked [] ∷ manifest_asked (found (codes "manifest") (codes "m") ∷ []) ∷ [] ≡ None ∷ Some (codes "m") ∷ []
file_of_a_manifest = refl

-- ---- commands

-- the options that have a value without being given
abbrev defaults : List Row
defaults = found (codes "drives") (codes "1") ∷ found (codes "memory") (codes "7") ∷ []

extract_of_its_files : extract_asked (found (codes "bsr") (codes "b") ∷ found (codes "volumes") (codes "v") ∷ flag (codes "resume") ∷ found (codes "into") (codes "i") ∷ found (codes "log") (codes "l") ∷ defaults)
    ≡ Some (Extract (codes "b") (codes "v") (Folder (codes "i")) 1 7 (record { copies = copies.All; gaps = gaps.Unreported; stops = stops.AtFirst }) starts.Resumed syncs.Never progress.Shown (Some (codes "l")) Manifest)
unfolding extract_asked drives_asked memory_asked size_spelled last_sized number_spelled decimal_value target_asked copies_asked gaps_asked stops_asked start_asked syncs_asked progress_asked
extract_of_its_files = refl

extract_without_a_bootstrap : extract_asked (found (codes "volumes") (codes "v") ∷ defaults) ≡ None
unfolding extract_asked
extract_without_a_bootstrap = refl

extract_that_resumes_nothing : extract_asked (found (codes "bsr") (codes "b") ∷ found (codes "volumes") (codes "v") ∷ flag (codes "resume") ∷ defaults) ≡ None
unfolding extract_asked drives_asked memory_asked size_spelled last_sized number_spelled decimal_value target_asked start_asked
extract_that_resumes_nothing = refl

console_without_a_moment : console_asked (found (codes "db") (codes "d") ∷ found (codes "volumes") (codes "v") ∷ found (codes "client") (codes "c") ∷ found (codes "fileset") (codes "f") ∷ defaults) ≡ None
unfolding console_asked
console_without_a_moment = refl

-- the options that every session has
abbrev session : List Row → List Row
session more =
    found (codes "db") (codes "d") ∷ found (codes "volumes") (codes "v") ∷ found (codes "client") (codes "c") ∷ found (codes "fileset") (codes "f") ∷ found (codes "before") (codes "t") ∷ more

console_of_its_files : console_asked (session (flag (codes "complete") ∷ flag (codes "resume") ∷ found (codes "into") (codes "i") ∷ found (codes "manifest") (codes "m") ∷ defaults))
    ≡ Some (Console (codes "d") (codes "v") (codes "c") (codes "f") (codes "t") file_rows.Needed Lines (Folder (codes "i")) 1 7 (record { copies = copies.All; gaps = gaps.Reported; stops = stops.AtFirst }) starts.Resumed syncs.Never progress.Shown None (Some (codes "m")))
unfolding console_asked drives_asked memory_asked size_spelled last_sized number_spelled decimal_value target_asked gaps_asked stops_asked start_asked syncs_asked progress_asked file_rows_asked
console_of_its_files = refl

console_that_resumes_nothing : console_asked (session (flag (codes "resume") ∷ defaults)) ≡ None
unfolding console_asked drives_asked memory_asked size_spelled last_sized number_spelled decimal_value target_asked start_asked
console_that_resumes_nothing = refl

-- a restore of this bootstrap
abbrev by_bootstrap : List Row → List Row
by_bootstrap more = found (codes "bsr") (codes "b") ∷ found (codes "volumes") (codes "v") ∷ more

restore_of_a_bootstrap : restore_asked (by_bootstrap (found (codes "into") (codes "i") ∷ found (codes "manifest") (codes "m") ∷ defaults))
    ≡ Some (Extract (codes "b") (codes "v") (Folder (codes "i")) 1 7 (record { copies = copies.Newest; gaps = gaps.Reported; stops = stops.Never }) starts.Resumed syncs.Never progress.Shown None (Words (Some (codes "m"))))
unfolding restore_asked restore_bootstrap drives_asked memory_asked size_spelled last_sized number_spelled decimal_value target_asked syncs_asked progress_asked
restore_of_a_bootstrap = refl

restore_into_a_new_file : restore_asked (by_bootstrap (found (codes "tar") (codes "t") ∷ defaults))
    ≡ Some (Extract (codes "b") (codes "v") (TarFile (codes "t")) 1 7 (record { copies = copies.Newest; gaps = gaps.Reported; stops = stops.Never }) starts.Empty syncs.Never progress.Shown None (Words None))
unfolding restore_asked restore_bootstrap drives_asked memory_asked size_spelled last_sized number_spelled decimal_value target_asked syncs_asked progress_asked
restore_into_a_new_file = refl

restore_to_nowhere : restore_asked (by_bootstrap defaults) ≡ None
unfolding restore_asked restore_bootstrap target_asked
restore_to_nowhere = refl

restore_of_a_bootstrap_and_a_path : restore_asked (by_bootstrap (found (codes "pattern") (codes "/etc") ∷ found (codes "into") (codes "i") ∷ defaults)) ≡ None
unfolding restore_asked
restore_of_a_bootstrap_and_a_path = refl

-- a restore of this catalogue
abbrev by_catalogue : List Row → List Row
by_catalogue more =
    found (codes "db") (codes "d") ∷ found (codes "volumes") (codes "v") ∷ found (codes "client") (codes "c") ∷ found (codes "fileset") (codes "f") ∷ more

restore_of_all_paths : restore_asked (by_catalogue (found (codes "into") (codes "i") ∷ defaults))
    ≡ Some (Console (codes "d") (codes "v") (codes "c") (codes "f") (codes "9999-12-31 23:59:59") file_rows.Needed (Patterns (codes "/" ∷ [])) (Folder (codes "i")) 1 7 (record { copies = copies.All; gaps = gaps.Reported; stops = stops.Never }) starts.Resumed syncs.Never progress.Shown None None)
unfolding restore_asked restore_paths patterns_asked drives_asked memory_asked size_spelled last_sized number_spelled decimal_value target_asked syncs_asked progress_asked
restore_of_all_paths = refl

-- these patterns were found
abbrev patterns : Row
patterns = record { id = codes "pattern"; values = codes "/etc" ∷ codes "/home/*" ∷ []; count = None; source = None; reading = AsWritten }

restore_of_two_patterns : restore_asked (by_catalogue (patterns ∷ found (codes "before") (codes "t") ∷ found (codes "tar") (codes "-") ∷ defaults))
    ≡ Some (Console (codes "d") (codes "v") (codes "c") (codes "f") (codes "t") file_rows.Needed (Patterns (codes "/etc" ∷ codes "/home/*" ∷ [])) TarOutput 1 7 (record { copies = copies.All; gaps = gaps.Reported; stops = stops.Never }) starts.Empty syncs.Never progress.Shown None None)
unfolding restore_asked restore_paths patterns_asked drives_asked memory_asked size_spelled last_sized number_spelled decimal_value target_asked syncs_asked progress_asked
restore_of_two_patterns = refl

restore_without_a_file_set : restore_asked (found (codes "db") (codes "d") ∷ found (codes "volumes") (codes "v") ∷ found (codes "client") (codes "c") ∷ defaults) ≡ None
unfolding restore_asked restore_paths
restore_without_a_file_set = refl

check_of_its_files : check_asked (found (codes "bsr") (codes "b") ∷ found (codes "volumes") (codes "v") ∷ defaults) ≡ Some (Check (codes "b") (codes "v") checksums.Passed 7)
unfolding check_asked memory_asked size_spelled last_sized number_spelled decimal_value checksums_asked
check_of_its_files = refl

jobs_of_a_client : jobs_asked (found (codes "db") (codes "d") ∷ found (codes "client") (codes "c") ∷ flag (codes "local") ∷ [])
    ≡ Some (Jobs (codes "d") (Some (codes "c")) None None file_rows.Needed clocks.UtcAndLocal)
unfolding jobs_asked file_rows_asked clock_asked
jobs_of_a_client = refl

jobs_without_a_catalogue : jobs_asked [] ≡ None
unfolding jobs_asked
jobs_without_a_catalogue = refl

serve_in_memory : serve_asked defaults ≡ Some (Serve 7)
unfolding serve_asked memory_asked size_spelled last_sized number_spelled decimal_value
serve_in_memory = refl

serve_over_files : serve_asked (found (codes "volumes") (codes "v") ∷ found (codes "db") (codes "d") ∷ defaults) ≡ Some (ServeFiles (codes "d") (codes "v") 7)
unfolding serve_asked memory_asked size_spelled last_sized number_spelled decimal_value
serve_over_files = refl

serve_without_volumes : serve_asked (found (codes "db") (codes "d") ∷ defaults) ≡ None
unfolding serve_asked memory_asked size_spelled last_sized number_spelled decimal_value
serve_without_volumes = refl

migrate_of_a_file : migrate_asked (found (codes "db") (codes "d") ∷ []) ≡ Some (Migrate (codes "d"))
unfolding migrate_asked
migrate_of_a_file = refl

explain_a_number : explain_asked (found (codes "number") (codes "81") ∷ []) ≡ Some (Explain 81)
unfolding explain_asked number_asked
explain_a_number = refl

explain_all_numbers : explain_asked [] ≡ Some ExplainAll
unfolding explain_asked
explain_all_numbers = refl

script_without_a_command : asked_by None ≡ Some (Serve 1073741824)
unfolding asked_by
script_without_a_command = refl

command_by_its_name : asked_by (Some (codes "migrate", found (codes "db") (codes "d") ∷ [])) ≡ Some (Migrate (codes "d"))
unfolding asked_by migrate_asked
command_by_its_name = refl

no_command_of_this_name : asked_by (Some (codes "extracts", [])) ≡ None
unfolding asked_by
no_command_of_this_name = refl
