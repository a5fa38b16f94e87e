use Rattle.std.proofs.Common.{◌≡◌, ◌++◌, length, map}
use Rattle.std.specs.List.{AllByRecursion}
use Rattle.br_model.specs.Restored.{files_found}
use Rattle.br_records.specs.Runs.{AreListed, listed}
use Rattle.br_join.specs.Runs.{IsPart, IsWholeRun, file_of}
use Rattle.br_join.proofs.FilesLaws.{AreBehind}
use Rattle.br_join.proofs.WholeLaws.{IsWholeIn}
use Rattle.br_join.proofs.runs.found_runs.Given as goal

-- the files so far, and those of the hits that are left
abbrev pub invariant-loop-first : goal.invariant-loop-first
invariant-loop-first l = record {
  sorted : AreListed l.rest;
  behind : AreBehind l.hits l.rest;
  parts : AllByRecursion (IsPart l.hits) l.runs.items;
  whole : AllByRecursion (IsWholeRun l.hits) l.runs.items;
  left : AllByRecursion (IsWholeIn l.hits l.rest) l.rest;
  files : map file_of l.runs.items ++ files_found (listed l.rest) ≡ files_found (listed l.hits);
}

abbrev pub decreases-loop-first : goal.decreases-loop-first
decreases-loop-first l = length l.rest
