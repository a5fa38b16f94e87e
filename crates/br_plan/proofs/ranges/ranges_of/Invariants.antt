use Rattle.std.proofs.Common.{◌≡◌, ◌≤◌, ◌-◌, true, length, take}
use Rattle.std.specs.List.{list_all}
use Rattle.br_model.specs.Bootstrap.{FileIndex}
use Rattle.br_model.specs.BootstrapText.{is_range}
use Rattle.br_model.specs.Plan.{ranges_of}
use Rattle.br_plan.specs.Parts.{indexes_of}
use Rattle.br_plan.proofs.ranges.ranges_of.Given as goal

-- the ranges of the files so far, which an index may be given
abbrev pub invariant-loop-place : goal.invariant-loop-place
invariant-loop-place l =
    (l.ranges.items ≡ ranges_of (indexes_of (take l.place l.files))) × (list_all (is_range FileIndex) l.ranges.items ≡ true) × (l.place ≤ length l.files)

abbrev pub decreases-loop-place : goal.decreases-loop-place
decreases-loop-place l = length l.files - l.place
