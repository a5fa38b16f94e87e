use Rattle.std.proofs.Common.{◌≡◌, ap, sym, ◌∙◌, get_or, arith}
use Rattle.br_model.specs.Bootstrap.{Range}
use Rattle.br_match.proofs.RangeLaws.{widened_more, widened_all}
use Rattle.br_match.proofs.admitted.widened.Goals as goal

pub loop-range-preserved : goal.loop-range-preserved
loop-range-preserved c =
    let l = c.loop-range in
    let r : Range = record { low = c.range.inside.low; high = c.range.inside.high } in
    let is : r ≡ get_or c.args.sorted.now l.range-index r = c.range.view_is ∙ c.range-item.is ∙ ap (λ (d : Range). get_or c.args.sorted.now l.range-index d) (sym c.range.view_is) in
    rw (c.in_ok-push.ensures.items) (rw (c.max-greatest.ensures) (widened_more c.args.sorted.now l.widened.items l.range-index l.greatest r c.requires c.loop-range-test.true is l.invariant))

pub returns-clause-same : goal.returns-clause-same
returns-clause-same c = λ n.
    widened_all c.args.sorted.now c.loop-range.widened.items c.loop-range.range-index c.loop-range.greatest n (omega arith) c.loop-range-test.false c.loop-range.invariant
