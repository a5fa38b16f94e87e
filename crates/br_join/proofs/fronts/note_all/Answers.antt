use Rattle.std.proofs.Common.{List, take, subst}
use Rattle.std.proofs.lemmas.List.{take_all}
use Rattle.br_model.specs.Meaning.{Hit, with_hits}
use Rattle.br_join.specs.Front.{AreKnown}
use Rattle.br_join.proofs.FrontLaws.{noted_more, noted_none}
use Rattle.br_join.proofs.fronts.note_all.Goals as goal

pub loop-hit-init : goal.loop-hit-init
loop-hit-init c = λ held known. noted_none held c.args.tree.now known

pub loop-hit-preserved : goal.loop-hit-preserved
loop-hit-preserved c =
    let hits = c.args.hits.now in
    let i = c.loop-hit.hit-index in
    λ held known.
    noted_more held hits i c.hit-item.result c.note.new.tree c.loop-hit-test.true c.hit-item.is
    (c.in_ok-note.ensures (with_hits held (take i hits)) (c.loop-hit.invariant held known))

pub returns : goal.returns
returns c = λ held known.
    subst (λ (hs : List Hit). AreKnown (with_hits held hs) c.loop-hit.tree) (take_all c.loop-hit.hit-index c.args.hits.now c.loop-hit-test.false) (c.loop-hit.invariant held known)
