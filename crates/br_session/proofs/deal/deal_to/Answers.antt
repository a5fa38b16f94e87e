use Rattle.std.proofs.Common.{sym, ◌∙◌}
use Rattle.br_session.proofs.DealLaws.{next_taken, placed_more}
use Rattle.br_session.proofs.deal.deal_to.Goals as goal

pub loop-preserved : goal.loop-preserved
loop-preserved c =
    let next = sym c.loop.invariant.left ∙ c.in-Some.ensures.items in
    record {
      placed = placed_more _ _ _ _ _ c.args.vol.now c.in_ok-copy.field-0 c.in-Some.block c.loop.counter c.loop.invariant.placed next c.in_ok-copy.ensures c.in_ok-push.ensures.items;
      left = sym (next_taken _ _ c.loop.counter c.in-Some.block next).1;
    }
