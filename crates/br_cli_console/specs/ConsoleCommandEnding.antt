-- The end of a run of the console.
use Rattle.std.specs.Prelude.{ℕ, Bool, true, false, List, [], Result, Ok, Err, if◌then◌else◌}
use Rattle.br_engine.specs.Restores.{done_lines}
use Rattle.br_engine.specs.declared.restore_end.RestoreEnd.{RestoreEnd}
use Rattle.br_engine.specs.declared.restore_end.RestoreEnd.TheVariants.{AllFiles, SomeFaults, Stopped}
use Rattle.br_console.specs.ConsoleFault.{fault_text}
use Rattle.br_console.specs.declared.ending.LineVerdict.{LineVerdict}
use Rattle.br_console.specs.declared.ending.LineVerdict.TheVariants.{AllAccepted, SomeRefused}
use Rattle.br_console.specs.declared.ending.End.{End}
use Rattle.br_console.specs.declared.ending.End.TheVariants.{Done, Quit}
use Rattle.br_console.specs.declared.ending.ConsoleRun.{ConsoleRun}
use Rattle.br_console.specs.declared.console_fault.ConsoleFault.{ConsoleFault}
use Rattle.br_console.specs.declared.console_fault.ConsoleFault.TheVariants.{Io, NoEnd}
use Rattle.br_cli_target.specs.WholeRestore.{is_whole}
use Rattle.br_cli_target.specs.declared.target_tar.PutExtent.{PutExtent}
use Rattle.br_cli_target.specs.declared.target_tar.PutExtent.TheVariants.{All, Part}

abbrev pub fault_status : ConsoleFault → ℕ
fault_status (Io e) = 3
fault_status (NoEnd turns) = 3
fault_status _ = 1

-- 0 if no line was refused
abbrev pub lines_status : LineVerdict → ℕ
lines_status AllAccepted = 0
lines_status SomeRefused = 1

-- 1 if some outcome is not a file or the delivery stopped; otherwise the status of the lines
abbrev pub end_status : LineVerdict → RestoreEnd → ℕ
end_status lines AllFiles = lines_status lines
end_status lines SomeFaults = 1
end_status lines (Stopped stop) = 1

-- 1 also if something is reported as missing or left out, also since the sink failed at the files
-- with these paths
abbrev pub status_by : LineVerdict → End → List (List ℕ) → ℕ
status_by lines Quit failed = lines_status lines
status_by lines (Done done) failed = if is_whole done failed then end_status lines done.end else 1

-- the number of wanted files that a restore with this end put into its sink
abbrev pub put_extent : RestoreEnd → PutExtent
put_extent AllFiles = All
put_extent SomeFaults = All
put_extent (Stopped stop) = Part

-- the same of a session; if it was quit, there are none
abbrev pub extent_by : End → PutExtent
extent_by Quit = All
extent_by (Done done) = put_extent done.end

abbrev pub extent : Result ConsoleRun ConsoleFault → PutExtent
extent (Ok run) = extent_by run.end
extent (Err fault) = Part

-- the lines of what is missing, of what is left out, and of a delivery that stopped
abbrev pub end_line : End → List (List ℕ) → List ℕ
end_line Quit failed = []
end_line (Done done) failed = done_lines done failed

-- that of the run; 1 after a warning, if nothing else was wrong
abbrev pub done_status : Bool → ConsoleRun → List (List ℕ) → ℕ
done_status true run failed = 1
done_status false run failed = status_by run.lines run.end failed

-- 3 if reading or writing failed or the lines have no end, 1 for any other fault
abbrev pub run_status : Bool → Result ConsoleRun ConsoleFault → List (List ℕ) → ℕ
run_status warned (Ok run) failed = done_status warned run failed
run_status warned (Err fault) failed = fault_status fault

-- the lines of the end, or the line of the refusal, if there are any
abbrev pub run_refusal : Result ConsoleRun ConsoleFault → List (List ℕ) → List ℕ
run_refusal (Ok run) failed = end_line run.end failed
run_refusal (Err fault) failed = fault_text fault
