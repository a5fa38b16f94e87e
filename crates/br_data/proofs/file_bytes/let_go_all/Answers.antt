use Rattle.std.proofs.Common.{◌≡◌, ◌<◌, ◌∙◌, ap, arith, get_or, length, length-set}
use Rattle.br_data.specs.declared.body_part.Part.{Part}
use Rattle.br_data.proofs.BodyPartLaws.{joined_set}
use Rattle.br_data.proofs.file_bytes.let_go_all.Goals as goal

pub loop-i-preserved : goal.loop-i-preserved
loop-i-preserved c =
    let l = c.loop-i.invariant in
    let parts = c.loop-i.parts in
    let was = get_or parts c.loop-i.i c.index-parts-i.result in
    let new = c.let_go.new.self in
    let is : was ≡ get_or parts c.loop-i.i was = ap (λ (o : Part). get_or parts c.loop-i.i o) c.index-parts-i.is in
    let low : c.loop-i.i < length parts = omega (arith, c.loop-i-test.true, l.long) in
    record { same = joined_set parts c.loop-i.i was new low is c.let_go.ensures ∙ l.same; long = length-set parts c.loop-i.i new ∙ l.long }
