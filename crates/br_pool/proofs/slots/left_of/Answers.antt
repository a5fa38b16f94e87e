use Rattle.std.proofs.Common.{Bool, ◌++◌, ◌∷◌, [], ap, ◌∙◌, arith}
use Rattle.std.specs.Prelude.{if◌then◌else◌}
use Rattle.br_pool.specs.Slots.{empties}
use Rattle.br_pool.proofs.EmptyLaws.{empties_more}
use Rattle.br_pool.proofs.slots.left_of.Goals as goal

pub loop-number-preserved : goal.loop-number-preserved
loop-number-preserved c =
    let k = c.loop-number.number in
    let left = c.loop-number.left.items in
    let low = c.in-Ok.ensures.1 in
    empties_more left c.note_if.new.left.items c.args.slots.now k c.index-slots-number.result (empties 0 c.args.slots.now) (let a = low in let b = c.loop-number-test.true in omega (arith, a, b))
    c.index-slots-number.is c.loop-number.invariant
    (c.in_ok-note_if.ensures ∙ ap (λ (b : Bool). left ++ (if b then k ∷ [] else [])) c.is_empty-wanted.ensures)
