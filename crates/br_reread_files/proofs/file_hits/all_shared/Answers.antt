use Rattle.std.proofs.Common.{◌++◌, ◌∷◌, [], take, sym, ap, ◌∙◌}
use Rattle.std.proofs.lemmas.List.{take_all, take_more}
use Rattle.br_model.specs.Meaning.{Hit}
use Rattle.br_reread_files.proofs.file_hits.all_shared.Goals as goal

pub loop-hit-preserved : goal.loop-hit-preserved
loop-hit-preserved c =
    let hits = c.args.hits.now in
    let i = c.loop-hit.hit-index in
    let x = c.hit-item.result in
    c.in_ok-push_hit.ensures
    ∙ (λ k. c.loop-hit.invariant k ++ c.in_ok-one.ensures k ∷ [])
    ∙ ap (λ (h : Hit). take i hits ++ h ∷ []) c.hit-item.is
    ∙ sym (take_more hits i x c.loop-hit-test.true)

pub returns : goal.returns
returns c = c.loop-hit.invariant ∙ take_all c.loop-hit.hit-index c.args.hits.now c.loop-hit-test.false
