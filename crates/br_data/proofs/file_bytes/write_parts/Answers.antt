use Rattle.std.proofs.Common.{List, ℕ, sym, subst}
use Rattle.std.proofs.KnownBytes.{Appends-nil, Appends-trans}
use Rattle.std.proofs.lemmas.List.{take_all}
use Rattle.std.specs.Io.KnownBytes.{Appends}
use Rattle.br_data.specs.declared.body_part.Part.{Part}
use Rattle.br_data.specs.BodyParts.{joined}
use Rattle.br_data.specs.BodyWritten.{AppendsFront}
use Rattle.br_data.proofs.BodyPartLaws.{joined_around, joined_more}
use Rattle.br_data.proofs.WrittenLaws.{front_more, on_err}
use Rattle.br_data.proofs.file_bytes.write_parts.Goals as goal

pub loop-part-init : goal.loop-part-init
loop-part-init g c = Appends-nil (g.W.Write.contents c.args.writer.now)

pub returns-in_err-write_to-clause-front : goal.returns-in_err-write_to-clause-front
returns-in_err-write_to-clause-front g c =
    let front : AppendsFront (g.W.Write.contents c.args.writer.now) (g.W.Write.contents c.write_to.new.writer) (joined c.args.parts.now) =
    front_more _ _ _ _ _ _ _ (joined_around c.args.parts.now c.loop-part.part-index c.part-item.result c.loop-part-test.true c.part-item.is)
    c.loop-part.invariant c.in_err-write_to.ensures.front in
    on_err _ front

pub loop-part-preserved : goal.loop-part-preserved
loop-part-preserved g c =
    subst (λ (bytes : List ℕ). Appends (g.W.Write.contents c.args.writer.now) (g.W.Write.contents c.write_to.new.writer) bytes)
    (sym (joined_more c.args.parts.now c.loop-part.part-index c.part-item.result c.loop-part-test.true c.part-item.is))
    (Appends-trans _ _ _ _ _ c.loop-part.invariant c.in_ok-write_to.ensures.all)

pub returns-clause-all : goal.returns-clause-all
returns-clause-all g c =
    subst (λ (parts : List Part). Appends (g.W.Write.contents c.args.writer.now) (g.W.Write.contents c.loop-part.writer) (joined parts))
    (take_all c.loop-part.part-index c.args.parts.now c.loop-part-test.false) c.loop-part.invariant
