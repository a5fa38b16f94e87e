use Rattle.std.proofs.Common.{rules, tests, arith}
use Rattle.std.proofs.lemmas.List.Sorted.{IsPartitionPoint-from_clause}
use Rattle.br_plan.specs.Parts.{is_up_to}
use Rattle.br_plan.proofs.PartLaws.{parted, parts_at, up_to_down}
use Rattle.br_plan.proofs.RunLaws.{runs_taken}
use Rattle.br_plan.proofs.part.up_to_last.Goals as goal

pub returns-clause-files : goal.returns-clause-files
returns-clause-files c =
    let files = c.args.all.files.now in
    let i = c.partition_point-place.result in
    let test = is_up_to c.args.job c.args.last in
    let at =
    IsPartitionPoint-from_clause test files i c.partition_point-place.ensures.partitioned (parted test (up_to_down c.args.job c.args.last) files c.requires.rise) (λ a r f k. search (rules, tests)) in
    (parts_at test files i (λ k d lt. at.0 k d (omega arith) lt) (λ k d ge lt. at.1 k d ge lt) c.partition_point-place.ensures.bound).0

pub returns-clause-runs : goal.returns-clause-runs
returns-clause-runs c = rw c.first_of.ensures (runs_taken c.partition_point-place.result c.args.all.files.now c.args.all.runs.now c.requires.runs)
