use Rattle.std.proofs.Common.{map, length}
use Rattle.br_session.proofs.SpanLaws.{SoFar}
use Rattle.br_session.proofs.spans.spans_of.Given as goal

-- the spans of the blocks that are dealt out
abbrev pub invariant-loop-place : goal.invariant-loop-place
invariant-loop-place l = SoFar l.starts l.places l.left (map (λ b. b.items) l.blocks) (map (λ b. b.items) l.rest) l.lengths l.spans.items

abbrev pub decreases-loop-place : goal.decreases-loop-place
decreases-loop-place l = length l.left
