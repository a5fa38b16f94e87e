use Rattle.std.proofs.Common.{◌++◌, sym, ◌∙◌}
use Rattle.br_data.proofs.BodyPartLaws.{joined_more}
use Rattle.br_data.proofs.file_bytes.shared.Goals as goal

pub loop-part-preserved : goal.loop-part-preserved
loop-part-preserved c =
    c.in_ok-push_part.ensures ∙ (λ i. c.loop-part.invariant i ++ c.in_ok-share.ensures i)
    ∙ sym (joined_more c.args.parts.now c.loop-part.part-index c.part-item.result c.loop-part-test.true c.part-item.is)
