use Rattle.std.proofs.Common.{◌≡◌, false, [], ◌∷◌, ◌++◌, length, get_or, sym, ap, ap₂, subst₂, ◌∙◌, arith}
use Rattle.sqlite.specs.Opening.{shape_of, Suits}
use Rattle.std.proofs.lemmas.List.{map_more, length_push, get_or_default}
use Rattle.br_catalog_files.proofs.raw_store.shapes_for.Goals as goal

pub loop-at-preserved : goal.loop-at-preserved
loop-at-preserved c =
    let rows = c.args.rows.now in
    let at = c.loop-at.at in
    let row = c.index-rows-at.result in
    let pushed = c.in_ok-push.ensures.items in (
      omega (arith, ap length pushed, length_push c.loop-at.all.items c.in_ok-shape_for.field-0, c.loop-at.invariant.0),
      λ v all.
          let here : c.in_ok-shape_for.field-0 ≡ shape_of v (get_or rows at row) = c.in_ok-shape_for.ensures _
          (subst₂ (λ r b. Suits rows r b (shape_of v (get_or rows at row))) (sym c.index-rows-at.is) (get_or_default c.args.roots.now at false _ (omega arith)) (all at row c.loop-at-test.true)) in
          pushed ∙ ap₂ (λ xs x. xs ++ x ∷ []) (c.loop-at.invariant.1 v all) here ∙ sym (map_more (shape_of v) rows at row c.loop-at-test.true),
    )
