use Rattle.std.proofs.Common.{◌≡◌, map, take}
use Rattle.std.specs.List.{AllByRecursion, enumerate_from}
use Rattle.br_model.specs.Session.{file_row}
use Rattle.br_model.specs.SessionHolds.{IsToSave}
use Rattle.br_history.proofs.saved_job.saved_rows.Given as goal

-- the rows of the files so far, each of which can be saved
abbrev pub invariant-loop-file : goal.invariant-loop-file
invariant-loop-file l = record {
  number : l.index ≡ l.file-index;
  rows : l.rows.items ≡ map file_row (take l.file-index (enumerate_from 1 l.files));
  valid : AllByRecursion IsToSave (take l.file-index l.files);
}
