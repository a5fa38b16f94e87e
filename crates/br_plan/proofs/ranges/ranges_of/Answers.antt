use Rattle.std.proofs.Common.{◌≡◌, ap, sym, ◌∙◌, take, arith}
use Rattle.std.proofs.lemmas.List.{take_all}
use Rattle.std.specs.List.{list_all}
use Rattle.br_model.specs.Bootstrap.{FileIndex}
use Rattle.br_model.specs.BootstrapText.{is_range}
use Rattle.br_model.specs.Plan.{ranges_of}
use Rattle.br_plan.specs.Parts.{indexes_of}
use Rattle.br_plan.proofs.RunLaws.{ranges_on}
use Rattle.br_plan.proofs.ValidLaws.{with_run_valid}
use Rattle.br_plan.proofs.ranges.ranges_of.Goals as goal

pub loop-place-init : goal.loop-place-init
unfolding ranges_of
loop-place-init c = (c.new-ranges.ensures.items, ap (list_all (is_range FileIndex)) c.new-ranges.ensures.items, omega arith)

pub loop-place-preserved : goal.loop-place-preserved
loop-place-preserved c =
    let at = c.run_at-run.result in
    let is = c.run_at-run.ensures in
    let l = c.loop-place in (
      ranges_on c.args.files.now l.place at.low at.high at.end l.ranges.items c.push_run.new.ranges.items is.first is.after l.invariant.0 c.in_ok-push_run.ensures,
      ap (list_all (is_range FileIndex)) c.in_ok-push_run.ensures
          ∙ with_run_valid l.ranges.items at.low at.high is.from_one (omega (arith, is.first.last, is.first.some)) is.to_greatest l.invariant.1,
      is.bound,
    )

pub returns-clause-same : goal.returns-clause-same
returns-clause-same c =
    let l = c.loop-place in
    l.invariant.0 ∙ ap (λ fs. ranges_of (indexes_of fs)) (take_all l.place c.args.files.now (omega (arith, c.loop-place-test.false)))
