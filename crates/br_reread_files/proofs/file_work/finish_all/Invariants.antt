use Rattle.std.proofs.Common.{◌≡◌, ◌++◌, map, reverse, vec_len}
use Rattle.std.specs.List.{AllByRecursion}
use Rattle.br_join.specs.Outcome.{restored}
use Rattle.br_data.specs.ManyDrives.{GoOn}
use Rattle.br_join.specs.Runs.{file_of}
use Rattle.br_reread_files.specs.Runs.{GivesRuns}
use Rattle.br_reread_files.specs.Sharing.{IsBegun, runs_in}
use Rattle.br_reread_files.proofs.file_work.finish_all.Given as goal

-- the files so far and those of the works that are left are all
abbrev pub invariant-loop-alloc : goal.invariant-loop-alloc
invariant-loop-alloc g l = record {
  on : GoOn l.fn.many l.many;
  begun : AllByRecursion IsBegun l.fn.works.items → AllByRecursion IsBegun l.works.items;
  given : GivesRuns l.fn.many (runs_in (reverse l.fn.works.items)) → GivesRuns l.fn.many (runs_in (reverse l.works.items));
  files : GivesRuns l.fn.many (runs_in (reverse l.fn.works.items)) → AllByRecursion IsBegun l.fn.works.items
      → map restored l.made.items ++ map file_of (runs_in (reverse l.works.items)) ≡ map file_of (runs_in (reverse l.fn.works.items));
}

abbrev pub decreases-loop-alloc : goal.decreases-loop-alloc
decreases-loop-alloc g l = vec_len l.works
