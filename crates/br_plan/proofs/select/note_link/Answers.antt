use Rattle.std.proofs.Common.{FitsSigned, w64}
use Rattle.std.proofs.lemmas.Int.{to_z-of_z}
use Rattle.br_plan.proofs.SetLaws.{link_put}
use Rattle.br_plan.proofs.select.note_link.Goals as goal

pub returns-in_ok-insert : goal.returns-in_ok-insert
returns-in_ok-insert c =
    let fits : FitsSigned w64 c.args.link_index = c.ranges.link_index in
    link_put c.args.files.now c.insert.new.self c.args.job c.args.link_index c.unsigned_abs.result (simp to_z-of_z at c.if-link_index-gt0.true) (simp to_z-of_z at c.unsigned_abs.ensures.value) c.in_ok-insert.ensures.updates.0
