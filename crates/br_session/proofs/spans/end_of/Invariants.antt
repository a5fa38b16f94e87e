use Rattle.std.proofs.Common.{◌≡◌, ◌+◌, ◌<◌, ◌^◌, map, length, take, sum_by}
use Rattle.br_session.proofs.spans.end_of.Given as goal

-- the address after the blocks so far
abbrev pub invariant-loop-block : goal.invariant-loop-block
invariant-loop-block l = (l.end < 2 ^ 64) × (l.end ≡ l.start + sum_by (λ b. length b) (map (λ b. b.items) (take l.block-index l.blocks)))
