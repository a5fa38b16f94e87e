use Rattle.std.proofs.Common.{◌≡◌, ◌<◌, ◌+◌, ◌^◌, ap, arith}
use Rattle.std.proofs.lemmas.Result.{err_from_is_err_and}
use Rattle.br_model.specs.Job.{Span}
use Rattle.br_model.specs.Session.{Place}
use Rattle.br_session.proofs.SpanLaws.{takes_parts, so_far_start, so_far_none, so_far_span, so_far_refused, so_far_reads, so_far_all, end_fits, some_parts, no_parts}
use Rattle.br_session.proofs.spans.spans_of.Goals as goal

pub loop-place-init : goal.loop-place-init
loop-place-init c = rw c.new-spans.ensures.items (so_far_start _ _ _ _ c.in_ok-lengths.ensures c.requires)

pub span_of-requires : goal.span_of-requires
span_of-requires c =
    let takes =
    takes_parts (λ b. b.items) _ _ _ _ _ _ _ c.in-Some.ensures.cases.0 c.split_at.ensures.front c.split_at.ensures.back c.split_at.ensures.front_len c.share.ensures.same in
    so_far_reads _ _ _ _ _ _ _ _ _ _ _ c.loop-place.invariant takes

pub returns-in_err-span : goal.returns-in_err-span
returns-in_err-span c =
    let takes =
    takes_parts (λ b. b.items) _ _ _ _ _ _ _ c.in-Some.ensures.cases.0 c.split_at.ensures.front c.split_at.ensures.back c.split_at.ensures.front_len c.share.ensures.same in
    let named = ap (λ (p : Place). p.volume) c.place.view_is in
    let some = some_parts (λ b. b.items) _ _ c.is_empty.ensures c.if-not-is_empty.true in
    let p = err_from_is_err_and c.from_residual-in_err-span.result c.from_residual-in_err-span.ensures.1 in
    rw (p.1, p.2)
    (so_far_refused _ _ _ _ _ _ _ _ _ _ _ _ c.loop-place.invariant takes some c.place.inside.vol c.len.result c.length_of-start.result (omega (arith, c.len.ensures)) named c.length_of-start.ensures c.in_err-span.ensures)

pub overflow_add-span-inside : goal.overflow_add-span-inside
overflow_add-span-inside c =
    let fits : c.in_ok-span.span.end + 1 < 2 ^ 64 = end_fits _ _ c.in_ok-span.ensures in
    let end_is : c.span.inside.end ≡ c.in_ok-span.span.end = ap (λ (s : Span). s.end) c.span.view_is in
    omega (arith, fits, end_is)

pub loop-place-preserved-in_ok-push_span : goal.loop-place-preserved-in_ok-push_span
loop-place-preserved-in_ok-push_span c =
    let takes =
    takes_parts (λ b. b.items) _ _ _ _ _ _ _ c.in-Some.ensures.cases.0 c.split_at.ensures.front c.split_at.ensures.back c.split_at.ensures.front_len c.share.ensures.same in
    let named = ap (λ (p : Place). p.volume) c.place.view_is in
    let end_is = ap (λ (s : Span). s.end) c.span.view_is in
    let some = some_parts (λ b. b.items) _ _ c.is_empty.ensures c.if-not-is_empty.true in
    rw c.in_ok-push_span.ensures
    (so_far_span _ _ _ _ _ _ _ _ _ _ _ _ _ c.loop-place.invariant takes some c.place.inside.vol c.len.result c.length_of-start.result c.span.inside.end (omega (arith, c.len.ensures)) named c.length_of-start.ensures
    c.in_ok-span.ensures end_is c.in_ok-set_length.ensures)

pub loop-place-preserved : goal.loop-place-preserved
loop-place-preserved c =
    let takes =
    takes_parts (λ b. b.items) _ _ _ _ _ _ _ c.in-Some.ensures.cases.0 c.split_at.ensures.front c.split_at.ensures.back c.split_at.ensures.front_len c.share.ensures.same in
    so_far_none _ _ _ _ _ _ _ _ _ _ _ c.loop-place.invariant takes (no_parts (λ b. b.items) _ _ c.is_empty.ensures c.if-not-is_empty.false)

pub returns : goal.returns
returns c = so_far_all _ _ _ _ _ _ _ c.loop-place.invariant c.in_default.ensures.cases
