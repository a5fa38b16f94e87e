use Rattle.sqlite.proofs.OpenLemmas.{unsorted_plain}
use Rattle.std.proofs.Common.{sym, ◌∙◌, eqb, eqb-true, eq-eqb, inl, inr, true≢false}
use Rattle.sqlite_schema.specs.declared.schema.View.{View as Stored}
use Rattle.sqlite_rules.proofs.ListLemmas.{all_has, some_has, some_from}
use Rattle.sqlite_catalog.specs.Reading.{IsViewShaped}
use Rattle.br_catalog_files.proofs.raw_store.layout_or_view.Goals as goal

pub returns-then-is_view : goal.returns-then-is_view
returns-then-is_view c v knows named shape =
    let views = c.args.schema.now.views in
    let found = some_has (λ (w : Stored). eqb w.tree c.args.tree) views (rw c.as_slice.ensures at (sym c.is_view.ensures ∙ c.if-is_view.true)) in
    let facts = all_has (IsViewShaped v) views found.0 knows.views found.1 in
    rw (shape, ← eqb-true _ _ found.2, facts.0, unsorted_plain _ facts.1)

pub returns : goal.returns
returns c v knows named shape =
    elim named [
      | inl tree ↦ c.layout.ensures v knows tree
      | inr w ↦ absurd (true≢false (sym (some_from (λ (u : Stored). eqb u.tree c.args.tree) c.args.schema.now.views w.0 w.1 (eq-eqb _ _ w.2))
          ∙ (rw c.as_slice.ensures at (sym c.is_view.ensures ∙ c.if-is_view.false))))
    ]
