-- The end of a run that extracts files.
use Rattle.std.specs.Prelude.{ℕ, max, Bool, true, false, not, ◌&&◌, ◌||◌, is_some, List, ◌++◌, Option, Some, None, Result, Ok, Err, if◌then◌else◌}
use Rattle.br_check.specs.Findings.{empty_line}
use Rattle.std.specs.Borrow.{Bor}
use Rattle.br_model.specs.Bootstrap.{Group}
use Rattle.br_model.specs.Text.{is_empty}
use Rattle.br_cli_common.specs.declared.options.ExtractOptions.{ExtractOptions}
use Rattle.br_cli_common.specs.declared.options.Printed.{Printed}
use Rattle.br_cli_common.specs.declared.options.Printed.TheVariants.{Manifest, Words}
use Rattle.br_engine.specs.Fault.{fault_text}
use Rattle.br_engine.specs.declared.restore_end.RestoreEnd.{RestoreEnd}
use Rattle.br_engine.specs.declared.restore_end.RestoreEnd.TheVariants.{AllFiles, SomeFaults, Stopped}
use Rattle.br_engine.specs.declared.fault.ExtractFault.{ExtractFault}
use Rattle.br_engine.specs.declared.fault.ExtractFault.TheVariants.{Io, NoEnd}
use Rattle.br_engine.specs.Restores.{done_lines}
use Rattle.br_engine.specs.declared.extracted.Extracted.{Extracted}
use Rattle.br_cli_target.specs.WholeRestore.{is_whole}
use Rattle.br_cli_target.specs.declared.target_tar.PutExtent.{PutExtent}
use Rattle.br_cli_target.specs.declared.target_tar.PutExtent.TheVariants.{All, Part}
use Rattle.br_cli_target.specs.declared.target_tar.TarEnd.{TarEnd}
use Rattle.br_cli_target.specs.Nothing.{asks_nothing}
use Rattle.br_cli_target.specs.TarEnding.{tar_status}
use Rattle.br_cli.specs.declared.extract_command.LeftOut.{LeftOut}
use Rattle.br_types.specs.declared.wanted.Gaps.{Gaps}
use Rattle.br_types.specs.declared.wanted.Gaps.TheVariants.{Reported, Unreported}

abbrev pub fault_status : ExtractFault → ℕ
fault_status (Io e) = 3
fault_status (NoEnd turns) = 3
fault_status _ = 1

-- 0 if each outcome is a file, 1 if some outcome is not or the delivery stopped
abbrev pub end_status : RestoreEnd → ℕ
end_status AllFiles = 0
end_status SomeFaults = 1
end_status (Stopped stop) = 1

-- 1 also if something is reported as missing or left out, or if all is to be reported and nothing is
-- asked for
abbrev pub done_status : Bool → Extracted → List (List ℕ) → ℕ
done_status true done failed = 1
done_status false done failed = if is_whole done failed then end_status done.end else 1

-- 3 if reading or writing failed or the input has no end, 1 for any other fault
abbrev pub run_status : Bool → Result Extracted ExtractFault → List (List ℕ) → ℕ
run_status asks_nothing (Ok done) failed = done_status asks_nothing done failed
run_status asks_nothing (Err fault) failed = fault_status fault

-- whether missing files are to be reported, and the bootstrap has no group
abbrev pub asks_in : Gaps → Option (Bor (List Group)) → Bool
asks_in Reported bootstrap = asks_nothing bootstrap
asks_in Unreported bootstrap = false

-- whether a run gave no file, and none is reported as missing
abbrev pub gives_nothing : Result Extracted ExtractFault → Bool
gives_nothing (Ok done) = is_empty done.outcomes.items && is_empty done.missing.items
gives_nothing (Err fault) = false

-- the same of `restore` alone, which prints words
abbrev pub found_none : Printed → Result Extracted ExtractFault → Bool
found_none Manifest run = false
found_none (Words file) run = gives_nothing run

-- whether there is nothing to show: no volume is lost, and nothing was asked for, or `restore` gave
-- no file and none is missing
abbrev pub shows_nothing : ExtractOptions → Option (Bor (List Group)) → Result Extracted ExtractFault → Bool → Bool
shows_nothing given bootstrap run is_lost = not is_lost && (asks_in given.wanted.gaps bootstrap || found_none given.printed run)

-- at least 1 if a volume is lost
abbrev pub lost_status : Bool → ℕ → ℕ
lost_status true status = max status 1
lost_status false status = status

-- the same with the end of the tar stream, if there is one: 1 if it could not be written
abbrev pub stream_status : Option TarEnd → ℕ → ℕ
stream_status None status = status
stream_status (Some end) status = tar_status status end

-- the status of a run, of what is lost, and of the stream
abbrev pub told_status : Bool → Result Extracted ExtractFault → LeftOut → ℕ
told_status asks_nothing run left = stream_status left.end (lost_status (is_some left.lost) (run_status asks_nothing run left.failed.now))

-- the same, if there may be nothing to show
abbrev pub report_status : ExtractOptions → Option (Bor (List Group)) → Result Extracted ExtractFault → LeftOut → ℕ
report_status given bootstrap run left = told_status (shows_nothing given bootstrap run (is_some left.lost)) run left

-- the number of files that a restore with this end put into its sink
abbrev pub extent_by : RestoreEnd → PutExtent
extent_by AllFiles = All
extent_by SomeFaults = All
extent_by (Stopped stop) = Part

-- the number of wanted files that a run put into its sink
abbrev pub extent : Result Extracted ExtractFault → PutExtent
extent (Ok done) = extent_by done.end
extent (Err fault) = Part

-- the line that nothing is asked for, and those of what is missing and of what is left out, or the
-- line of the refusal
abbrev pub run_refusal : Bool → Result Extracted ExtractFault → List (List ℕ) → List ℕ
run_refusal asks_nothing (Ok done) failed = empty_line asks_nothing ++ done_lines done failed
run_refusal asks_nothing (Err fault) failed = fault_text fault
