use Rattle.sqlite.proofs.OpenLemmas.{unsorted_code}
use Rattle.sqlite.specs.Opening.{layout_of, shape_of}
use Rattle.std.proofs.Common.{◌≡◌, [], ◌∷◌, ◌++◌, get_or, sym, ap, ap₂, ◌∙◌, arith}
use Rattle.std.proofs.lemmas.List.{map_more, get_or-map, get_or_default}
use Rattle.sqlite_trees.specs.declared.store.Shape.TheVariants.{Absent}
use Rattle.sqlite_catalog.specs.Reading.{coded, coded_by}
use Rattle.br_catalog_files.proofs.raw_store.with_codes.Goals as goal

pub loop-at-preserved : goal.loop-at-preserved
loop-at-preserved c =
    let rows = c.args.rows.now in
    let at = c.loop-at.at in
    let row = c.index-rows-at.result in
    let pushed = c.in_ok-push.ensures.items in
    λ v shapes.
    let here : c.in_ok-with_code.field-0 ≡ coded_by v.shape (get_or rows at row) = c.in_ok-with_code.ensures
    ∙ ap₂ coded c.index-rows-at.is (get_or_default c.args.shapes.now at _ Absent (omega arith) ∙ ap (λ xs. get_or xs at Absent) shapes ∙ get_or-map (shape_of v) rows at row Absent c.loop-at-test.true)
    ∙ rw (unsorted_code (layout_of v (get_or rows at row)).0) in
    pushed ∙ ap₂ (λ xs x. xs ++ x ∷ []) (c.loop-at.invariant v shapes) here ∙ sym (map_more (coded_by v.shape) rows at row c.loop-at-test.true)
