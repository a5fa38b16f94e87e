use Rattle.br_plan.proofs.ValidLaws.{span_of_job}
use Rattle.br_plan.proofs.plan_group.add_job.Goals as goal

pub add_span-requires-clause-span : goal.add_span-requires-clause-span
add_span-requires-clause-span c =
    span_of_job c.args.job.now c.spans-span-items.result.now c.loop-span.span-index c.span-item.result c.spans-span-items.ensures.same c.spans-span-items.ensures.valid c.loop-span-test.true c.span-item.is
