use Rattle.std.proofs.Common.{ap, ◌∙◌}
use Rattle.br_model.specs.Job.{Span}
use Rattle.br_jobs.proofs.VolumeLaws.{later_more, later_done}
use Rattle.br_jobs.proofs.job_volumes.push_later.Goals as goal

pub loop-span-preserved : goal.loop-span-preserved
loop-span-preserved c =
    let named = ap (λ (s : Span). s.volume) c.span.view_is in
    later_more c.args.spans.now c.loop-span.span-index c.span-item.result c.loop-span.last.now c.bytes.result.now c.bytes-last.result.now c.loop-span.text.items _ _
    c.loop-span-test.true c.span-item.is (c.bytes.ensures.same ∙ named) (c.bytes-last.ensures.same ∙ named) c.in_ok-push_next.ensures c.loop-span.invariant

pub returns : goal.returns
returns c = later_done c.args.spans.now c.loop-span.span-index c.loop-span.last.now c.loop-span.text.items _ c.loop-span-test.false c.loop-span.invariant
