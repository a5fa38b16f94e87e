use Rattle.std.proofs.Common.{◌≡◌, drop, length}
use Rattle.std.specs.List.{slice_split}
use Rattle.br_model.specs.Name.{is_slash}
use Rattle.br_model.specs.Console.{walk}
use Rattle.br_mark.proofs.working_folder.follow.Given as goal

-- what is left of the way leads to where the whole way leads
abbrev pub invariant-loop-component : goal.invariant-loop-component
invariant-loop-component l = walk l.directory.items (drop (length l.yielded) (slice_split is_slash l.way)) ≡ walk l.initial.directory.items (slice_split is_slash l.way)
