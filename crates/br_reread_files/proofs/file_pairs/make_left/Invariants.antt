use Rattle.std.proofs.Common.{◌-◌, length}
use Rattle.br_data.specs.ManyDrives.{GoOn}
use Rattle.br_reread_files.specs.Runs.{StayFirst}
use Rattle.br_reread_files.proofs.file_pairs.make_left.Given as goal

-- those that are made are the first ones, if they were before and all hits are given
abbrev pub invariant-loop-alloc : goal.invariant-loop-alloc
invariant-loop-alloc g l = record {
  on : GoOn l.fn.many l.many;
  first : StayFirst l.fn.many l.runs l.fn.made.items l.made.items;
}

abbrev pub decreases-loop-alloc : goal.decreases-loop-alloc
decreases-loop-alloc g l = length l.runs - length l.made.items
