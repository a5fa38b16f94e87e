use Rattle.std.proofs.Common.{◌≡◌, ◌++◌, map, length}
use Rattle.std.specs.Vec.Iter.{into_iter_items}
use Rattle.br_model.specs.Session.{visits}
use Rattle.br_session.specs.Spans.{with_volumes}
use Rattle.br_session.proofs.deal.deal.Given as goal

-- the blocks that are left go to the places that are left
abbrev pub invariant-loop-place : goal.invariant-loop-place
invariant-loop-place l =
    map (λ b. (b.0, b.1.items)) l.placed.items ++ with_volumes (visits l.left (map (λ b. b.items) (into_iter_items l.blocks)))
    ≡ with_volumes (visits l.places (map (λ b. b.items) l.fn.blocks.items))

abbrev pub decreases-loop-place : goal.decreases-loop-place
decreases-loop-place l = length l.left
