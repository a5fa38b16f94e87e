use Rattle.std.proofs.Common.{◌≡◌, ◌++◌, ◌∷◌, [], List, map, sym, ap, ◌∙◌, append-nil}
use Rattle.std.specs.Option.{option_copied}
use Rattle.br_model.specs.Meaning.{Hit}
use Rattle.br_records.specs.Outline.{Foreseen, Outlined, outlines_found}
use Rattle.br_records.specs.Runs.{listed}
use Rattle.br_records.specs.ShownRecords.{outlined}
use Rattle.br_records.proofs.FilesLaws.{none_left, listed_behind, more_files}
use Rattle.br_records.proofs.OutlineLaws.{outlines_turn, no_outlines}
use Rattle.br_records.proofs.outline.sketches_of.Goals as goal

pub loop-first-init : goal.loop-first-init
loop-first-init c = (c.requires, ap (λ xs. map outlined xs ++ outlines_found (listed c.args.hits.now)) c.new-sketches.ensures.items)

pub loop-first-smaller : goal.loop-first-smaller
loop-first-smaller c =
    (outlines_turn c.loop-first.rest.now c.around.result.0.now c.around.result.1.now c.around.result.2.now c.in-Some.first.now c.first-in-Some.inside.key
    (sym c.first.ensures.value ∙ ap option_copied c.in-Some.is) (ap (λ (h : Hit). h.key) (sym c.first-in-Some.view_is))
    c.around.ensures.joined c.around.ensures.before c.around.ensures.of_key c.around.ensures.after).1

pub loop-first-preserved : goal.loop-first-preserved
loop-first-preserved c =
    let key = c.first-in-Some.inside.key in
    let run = c.around.result.1.now in
    let behind = c.around.result.2.now in
    let joined = c.around.ensures.joined in
    let turn = outlines_turn c.loop-first.rest.now c.around.result.0.now run behind c.in-Some.first.now key
    (sym c.first.ensures.value ∙ ap option_copied c.in-Some.is) (ap (λ (h : Hit). h.key) (sym c.first-in-Some.view_is))
    joined c.around.ensures.before c.around.ensures.of_key c.around.ensures.after in
    let made = c.in_ok-sketch.ensures in (
      listed_behind c.loop-first.rest.now c.around.result.0.now run behind joined c.loop-first.invariant.0,
      more_files _ _ _ (outlines_found (listed c.loop-first.rest.now)) (outlines_found (listed behind)) (outlines_found (listed c.args.hits.now))
          c.in_ok-push_sketch.ensures c.loop-first.invariant.1 (turn.0 ∙ ap (λ (f : Foreseen). record { key = key; outline = f } ∷ outlines_found (listed behind)) (sym made)),
    )

pub returns : goal.returns
returns c =
    let e : c.loop-first.rest.now ≡ [] = none_left c.loop-first.rest.now (sym c.first.ensures.value ∙ ap option_copied c.in_default.is) in
    sym (append-nil (map outlined c.loop-first.sketches.items))
    ∙ ap (λ (xs : List Outlined). map outlined c.loop-first.sketches.items ++ xs) (sym no_outlines ∙ ap (λ (hs : List Hit). outlines_found (listed hs)) (sym e))
    ∙ c.loop-first.invariant.1
