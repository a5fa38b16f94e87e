use Rattle.sqlite.specs.Opening.{unsorted, shape_of, layout_at, layout_of, IsListedIn, HasTree, Knows}
use Rattle.std.proofs.Common.{◌≡◌, ◌-◌, [], ◌∷◌, ◌++◌, length, get_or, sym, ap, ap₂, subst, ◌∙◌, arith, map, All}
use Rattle.sqlite_value.specs.declared.value.Value.TheVariants.{Null}
use Rattle.sqlite_trees.specs.View.{View}
use Rattle.sqlite_trees.specs.Objects.{number_in}
use Rattle.std.proofs.lemmas.List.{get_or_default, get_or-map, map_more, length_push}
use Rattle.sqlite_trees.specs.declared.store.Shape.TheVariants.{Absent}
use Rattle.br_catalog_files.proofs.raw_store.layouts.Goals as goal

pub returns-in_default-clause-value : goal.returns-in_default-clause-value
returns-in_default-clause-value c =
    let rows = c.args.rows.now in
    let at = c.loop-at.at in
    let row = c.index-rows-at.result in
    let named = λ (all : All (HasTree c.args.schema.now) rows). subst (HasTree c.args.schema.now) (sym c.index-rows-at.is) (all at row c.loop-at-test.true) in
    λ v knows all shapes. let r = named all in let x = sym c.in_default.is ∙ c.tree_of.ensures r.0 r.1 r.2 in cc

pub returns-in_default-layout_or_view-clause-value : goal.returns-in_default-layout_or_view-clause-value
returns-in_default-layout_or_view-clause-value c =
    let rows = c.args.rows.now in
    let at = c.loop-at.at in
    let row = c.index-rows-at.result in
    let named = λ (all : All (HasTree c.args.schema.now) rows). subst (HasTree c.args.schema.now) (sym c.index-rows-at.is) (all at row c.loop-at-test.true) in
    let tree = λ (all : All (HasTree c.args.schema.now) rows).
    let r = named all in let both = sym c.in-Some.is ∙ c.tree_of.ensures r.0 r.1 r.2 in let same : r.0 ≡ c.in-Some.tree = cc in same in
    let asked = λ (v : View) (knows : Knows v c.args.schema.now) (all : All (HasTree c.args.schema.now) rows) (shapes : c.args.shapes.now ≡ map (shape_of v) rows).
    let place : number_in (get_or (get_or rows at row) 0 Null) - 1 ≡ c.in-Some.tree =
    omega (arith, tree all, ap number_in (sym (ap (λ r. get_or r 0 Null) c.index-rows-at.is) ∙ (named all).2)) in
    c.layout_or_view.ensures v knows (subst (IsListedIn c.args.schema.now) (tree all) (named all).3)
    (get_or_default c.args.shapes.now at _ Absent (omega arith) ∙ ap (λ xs. get_or xs at Absent) shapes ∙ get_or-map (shape_of v) rows at row Absent c.loop-at-test.true ∙ ap (λ t. unsorted (v.shape t)) place) in
    λ v knows all shapes. let x = sym c.in_default-layout_or_view.is ∙ asked v knows all shapes in cc

pub loop-at-preserved : goal.loop-at-preserved
loop-at-preserved c =
    let rows = c.args.rows.now in
    let at = c.loop-at.at in
    let row = c.index-rows-at.result in
    let named = λ (all : All (HasTree c.args.schema.now) rows). subst (HasTree c.args.schema.now) (sym c.index-rows-at.is) (all at row c.loop-at-test.true) in
    let tree = λ (all : All (HasTree c.args.schema.now) rows).
    let r = named all in let both = sym c.in-Some.is ∙ c.tree_of.ensures r.0 r.1 r.2 in let same : r.0 ≡ c.in-Some.tree = cc in same in
    let asked = λ (v : View) (knows : Knows v c.args.schema.now) (all : All (HasTree c.args.schema.now) rows) (shapes : c.args.shapes.now ≡ map (shape_of v) rows).
    let place : number_in (get_or (get_or rows at row) 0 Null) - 1 ≡ c.in-Some.tree =
    omega (arith, tree all, ap number_in (sym (ap (λ r. get_or r 0 Null) c.index-rows-at.is) ∙ (named all).2)) in
    c.layout_or_view.ensures v knows (subst (IsListedIn c.args.schema.now) (tree all) (named all).3)
    (get_or_default c.args.shapes.now at _ Absent (omega arith) ∙ ap (λ xs. get_or xs at Absent) shapes ∙ get_or-map (shape_of v) rows at row Absent c.loop-at-test.true ∙ ap (λ t. unsorted (v.shape t)) place) in
    let pushed = c.in_ok-push.ensures.items in (
      omega (arith, ap length pushed, length_push c.loop-at.all.items c.in-Some-layout_or_view.found, c.loop-at.invariant.0),
      λ v knows all shapes.
          let both = sym c.in-Some-layout_or_view.is ∙ asked v knows all shapes in
          let found : c.in-Some-layout_or_view.found ≡ layout_at v c.in-Some.tree = cc in
          let place : c.in-Some.tree ≡ number_in (get_or (get_or rows at row) 0 Null) - 1 =
          omega (arith, tree all, ap number_in (sym (ap (λ r. get_or r 0 Null) c.index-rows-at.is) ∙ (named all).2)) in
          pushed ∙ ap₂ (λ xs x. xs ++ x ∷ []) (c.loop-at.invariant.1 v knows all shapes) (found ∙ ap (layout_at v) place) ∙ sym (map_more (layout_of v) rows at row c.loop-at-test.true),
    )
