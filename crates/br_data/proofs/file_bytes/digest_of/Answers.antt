use Rattle.std.proofs.Common.{List, sym, subst}
use Rattle.std.proofs.lemmas.List.{take_all}
use Rattle.md5.specs.Md5.{Holds}
use Rattle.br_data.specs.declared.body_part.Part.{Part}
use Rattle.br_data.specs.BodyParts.{joined}
use Rattle.br_data.proofs.BodyPartLaws.{joined_more}
use Rattle.br_data.proofs.file_bytes.digest_of.Goals as goal

pub loop-part-preserved : goal.loop-part-preserved
loop-part-preserved c =
    subst (Holds c.digest.new.hasher) (sym (joined_more c.args.parts.now c.loop-part.part-index c.part-item.result c.loop-part-test.true c.part-item.is))
    (c.in_ok-digest.ensures _ c.loop-part.invariant)

pub returns : goal.returns
returns c =
    c.finalize.ensures _
    (subst (λ (parts : List Part). Holds c.loop-part.hasher (joined parts)) (take_all c.loop-part.part-index c.args.parts.now c.loop-part-test.false) c.loop-part.invariant)
