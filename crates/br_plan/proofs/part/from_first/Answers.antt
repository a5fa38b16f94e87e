use Rattle.std.proofs.Common.{◌≡◌, ℕ, List, ◌∙◌, sym, subst, rules, tests, ◌-◌, length, take, drop, length-drop, arith}
use Rattle.std.proofs.lemmas.List.{take_all}
use Rattle.std.proofs.lemmas.List.Sorted.{IsPartitionPoint-from_clause}
use Rattle.br_plan.specs.Selected.{FileOf}
use Rattle.br_plan.specs.Parts.{is_before}
use Rattle.br_plan.specs.Runs.{AreRuns}
use Rattle.br_plan.proofs.PartLaws.{parted, parts_at, before_down}
use Rattle.br_plan.proofs.RunLaws.{runs_dropped}
use Rattle.br_plan.proofs.part.from_first.Goals as goal

whole : {X : Type 0} (files : List X) (i : ℕ) → take (length files - i) (drop i files) ≡ drop i files
whole files i = take_all (length files - i) (drop i files) (omega (arith, length-drop i files))

pub returns-clause-files : goal.returns-clause-files
returns-clause-files c =
    let files = c.args.all.files.now in
    let i = c.partition_point-place.result in
    let test = is_before c.args.job c.args.first in
    let at =
    IsPartitionPoint-from_clause test files i c.partition_point-place.ensures.partitioned (parted test (before_down c.args.job c.args.first) files c.requires.rise) (λ a r f k. search (rules, tests)) in
    whole files i ∙ (parts_at test files i (λ k d lt. at.0 k d (omega arith) lt) (λ k d ge lt. at.1 k d ge lt) c.partition_point-place.ensures.bound).1

pub returns-clause-runs : goal.returns-clause-runs
returns-clause-runs c =
    let i = c.partition_point-place.result in
    let files = c.args.all.files.now in
    let runs = c.args.all.runs.now in
    rw c.without_first.ensures (subst (λ fs. AreRuns fs (drop i runs)) (sym (whole files i)) (runs_dropped i files runs c.requires.runs))
