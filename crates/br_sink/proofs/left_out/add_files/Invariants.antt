use Rattle.std.proofs.Common.{◌≡◌, ◌++◌, take}
use Rattle.br_sink.specs.Delivery.{items_in}
use Rattle.br_sink.proofs.left_out.add_files.Given as goal

-- the files of the outcomes so far are added
abbrev pub invariant-loop-outcome : goal.invariant-loop-outcome
invariant-loop-outcome l = l.files.items ≡ l.initial.files.items ++ items_in (take l.outcome-index l.outcomes)
