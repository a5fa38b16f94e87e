use Rattle.std.proofs.Common.{refl, sym, ap, ◌∙◌}
use Rattle.br_model.specs.Job.{Span, no_pair, overlaps}
use Rattle.br_history.proofs.ClashLaws.{no_pair_more, pair_found}
use Rattle.br_history.proofs.RowLaws.{in_order_at, met_by_map, ends_more}
use Rattle.br_history.proofs.rows.spans_ascend.Goals as goal

pub loop-span-init : goal.loop-span-init
unfolding no_pair
loop-span-init c = (refl, λ volume address. rw c.new-ends.ensures.empty refl)

pub returns-then-reaches_to : goal.returns-then-reaches_to
returns-then-reaches_to c =
    let s = c.span-item.result in
    let met = met_by_map c.loop-span.ends c.args.spans.now c.loop-span.span-index s _ _ _ _ c.loop-span.invariant.1 c.reaches_to.ensures (c.copied.ensures ∙ c.get.ensures.value)
    (c.bytes-volume.ensures.same ∙ ap (λ (t : Span). t.volume) c.span.view_is) (ap (λ (t : Span). t.start) c.span.view_is) in
    sym (pair_found overlaps c.args.spans.now c.loop-span.span-index s c.loop-span-test.true c.span-item.is
    (c.loop-span.invariant.1 s.volume s.start ∙ sym met ∙ c.if-reaches_to.true))

pub loop-span-preserved : goal.loop-span-preserved
loop-span-preserved c =
    let s = c.span-item.result in
    let met = met_by_map c.loop-span.ends c.args.spans.now c.loop-span.span-index s _ _ _ _ c.loop-span.invariant.1 c.reaches_to.ensures (c.copied.ensures ∙ c.get.ensures.value)
    (c.bytes-volume.ensures.same ∙ ap (λ (t : Span). t.volume) c.span.view_is) (ap (λ (t : Span). t.start) c.span.view_is) in
    let ahead = sym met ∙ c.if-reaches_to.false in (
      no_pair_more overlaps c.args.spans.now c.loop-span.span-index s c.loop-span-test.true c.span-item.is c.loop-span.invariant.0 (c.loop-span.invariant.1 s.volume s.start ∙ ahead),
      ends_more c.loop-span.ends c.insert.new.self c.args.spans.now c.loop-span.span-index s _ _ c.loop-span-test.true c.span-item.is c.loop-span.invariant.1 ahead
          (in_order_at c.args.spans.now c.loop-span.span-index s c.loop-span-test.true c.span-item.is c.requires)
          (c.bytes-volume.ensures.same ∙ ap (λ (t : Span). t.volume) c.span.view_is) (ap (λ (t : Span). t.end) c.span.view_is) c.in_ok-insert.ensures.updates,
    )
