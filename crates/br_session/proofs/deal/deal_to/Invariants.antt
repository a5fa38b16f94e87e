use Rattle.std.proofs.Common.{◌≡◌, ◌++◌, map, take, drop}
use Rattle.std.specs.Vec.Iter.{into_iter_items}
use Rattle.br_session.proofs.deal.deal_to.Given as goal

-- the blocks so far, and those that are left
abbrev pub invariant-loop : goal.invariant-loop
invariant-loop l = record {
  placed : l.placed.items ≡ l.initial.placed.items ++ map (λ b. (l.vol, b)) (take l.counter (into_iter_items l.initial.blocks));
  left : into_iter_items l.blocks ≡ drop l.counter (into_iter_items l.initial.blocks);
}
