use Rattle.std.proofs.Common.{◌≡◌, ◌+◌, ◌≤◌, ◌++◌, [], drop, length, vec_len, vec_capacity}
use Rattle.std.specs.List.{AllByRecursion}
use Rattle.br_reread_files.specs.Sharing.{runs_in}
use Rattle.br_reread_files.specs.declared.file_work.Work.{Work}
use Rattle.br_reread_files.proofs.sharing.works_for.Given as goal

-- the files of the works and those that are left are all
abbrev pub invariant-loop-place : goal.invariant-loop-place
invariant-loop-place l = record {
  many : vec_len l.works + 1 ≡ l._place;
  room : l.count ≤ vec_capacity l.works;
  within : l.from ≤ length l.runs;
  none : AllByRecursion (λ (w : Work). w.made.items ≡ []) l.works.items;
  runs : runs_in l.works.items ++ drop l.from l.runs ≡ l.runs;
}
