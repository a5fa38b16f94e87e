use Rattle.std.proofs.Common.{◌≡◌, ◌++◌, map}
use Rattle.std.specs.FinMap.{entries}
use Rattle.std.specs.List.{AllByRecursion}
use Rattle.br_records.specs.Runs.{listed}
use Rattle.br_join.proofs.FilesLaws.{planned_of}
use Rattle.br_join.specs.Runs.{IsPart, IsWholeRun, file_of}
use Rattle.br_join.proofs.runs.planned_runs.Given as goal

-- the files so far, and the planned ones that are left
abbrev pub invariant-loop-key : goal.invariant-loop-key
invariant-loop-key l = record {
  parts : AllByRecursion (IsPart l.hits) l.runs.items;
  whole : AllByRecursion (IsWholeRun l.hits) l.runs.items;
  files : map file_of l.runs.items ++ map (planned_of (listed l.hits)) l.key-iterator ≡ map (planned_of (listed l.hits)) (entries l.names);
}
