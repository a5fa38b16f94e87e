use Rattle.std.proofs.Common.{ap, arith}
use Rattle.br_model.specs.Session.{Place}
use Rattle.br_session.proofs.DealLaws.{dealt_more, dealt_all}
use Rattle.br_session.proofs.deal.deal.Goals as goal

pub loop-place-preserved : goal.loop-place-preserved
loop-place-preserved c =
    let next = c.in-Some.ensures.cases in
    let counted = c.share-count.ensures.same in
    let named = ap (λ (p : Place). p.volume) c.place.view_is in
    dealt_more (λ b. b.items) _ _ _ _ c.in-Some.place.now c.place.inside.vol _ _ c.share-count.result c.len.result _ c.loop-place.invariant next.0 named counted (omega arith) c.in_ok-deal_to.ensures.placed c.in_ok-deal_to.ensures.left

pub returns : goal.returns
returns c = dealt_all (λ b. b.items) _ _ _ _ c.loop-place.invariant c.in_default.ensures.cases
