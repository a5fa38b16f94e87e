use Rattle.std.proofs.Common.{◌≡◌, take}
use Rattle.br_reread_files.proofs.file_run.with_fronts.Given as goal

-- the runs so far
abbrev pub invariant-loop-run : goal.invariant-loop-run
invariant-loop-run l = l.files.items ≡ take l.run-index l.runs
