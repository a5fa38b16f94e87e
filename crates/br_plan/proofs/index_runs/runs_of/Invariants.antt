use Rattle.std.proofs.Common.{◌≡◌, ◌++◌, List}
use Rattle.std.specs.Prelude.{reverse}
use Rattle.std.specs.Slice.Iter.{iter_rest}
use Rattle.br_plan.specs.Selected.{FileOf}
use Rattle.br_plan.proofs.RunLaws.{RunsSoFar}
use Rattle.br_plan.proofs.index_runs.runs_of.Given as goal

-- the runs of the files after those that are left, the last file's first
abbrev pub invariant-loop-file : goal.invariant-loop-file
invariant-loop-file l = (done : List FileOf) × RunsSoFar done l.next l.len (reverse l.runs.items) × (iter_rest l.file-iterator.iter ++ done ≡ l.files)
