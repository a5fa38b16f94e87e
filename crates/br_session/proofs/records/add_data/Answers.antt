use Rattle.std.proofs.Common.{◌∙◌}
use Rattle.br_session.proofs.RecordLaws.{adds_step, adds_all, data_more, data_end}
use Rattle.br_session.proofs.records.add_data.Goals as goal

pub loop-part-preserved : goal.loop-part-preserved
loop-part-preserved c =
    let step = c.in-Some.ensures.steps in
    let size = c.loop-part.invariant.size in
    let next = data_more c.args.index _ _ _ step.1.0 (rw size at step.1.1) step.1.2 in
    record {
      adds = adds_step _ _ _ _ _ _ _ c.loop-part.invariant.adds next c.in_ok-add.ensures;
      size = step.0 ∙ size;
    }

pub returns : goal.returns
returns c = adds_all _ _ _ _ c.loop-part.invariant.adds (data_end _ _ c.in-None.ensures.steps.1.0)
