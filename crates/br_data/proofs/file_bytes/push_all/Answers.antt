use Rattle.std.proofs.Common.{List, ◌++◌, ap, ◌∙◌}
use Rattle.std.proofs.lemmas.List.{take_all}
use Rattle.br_data.specs.declared.body_part.Part.{Part}
use Rattle.br_data.specs.BodyParts.{joined}
use Rattle.br_data.proofs.BodyPartLaws.{pushed_one}
use Rattle.br_data.proofs.file_bytes.push_all.Goals as goal

pub loop-part-preserved : goal.loop-part-preserved
loop-part-preserved c =
    pushed_one c.args.parts.now c.loop-part.part-index c.part-item.result c.args.bytes.now.items _ _ c.loop-part-test.true c.part-item.is
    c.loop-part.invariant c.in_ok-push_to.ensures

pub returns : goal.returns
returns c =
    c.loop-part.invariant
    ∙ ap (λ (parts : List Part). c.args.bytes.now.items ++ joined parts) (take_all c.loop-part.part-index c.args.parts.now c.loop-part-test.false)
