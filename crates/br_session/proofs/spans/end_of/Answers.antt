use Rattle.std.proofs.Common.{◌≤◌, ◌^◌, ◌+◌, List, ℕ, length, ap, ◌∙◌, arith}
use Rattle.br_session.proofs.RangeLaws.{front_within, too_great}
use Rattle.br_session.proofs.spans.end_of.Goals as goal

pub returns-in_err-end : goal.returns-in_err-end
returns-in_err-end c =
    let within = front_within (λ (b : List ℕ). length b) (λ b. b.items) c.args.blocks.now c.loop-block.block-index c.block-item.result c.loop-block-test.true in
    let same = ap (λ b. length b.items) c.block-item.is in
    let over = c.in_err-end.ensures in
    let great : 2 ^ 64 ≤ c.loop-block.end + c.len.result = omega (arith, over) in
    c.from_residual.ensures ∙ too_great (c.loop-block.end + c.len.result) _ (omega (arith, within, same, c.len.ensures, c.block-item.result.ok.0, c.loop-block.invariant.1)) great
