use Rattle.std.proofs.Common.{◌≡◌, map, Some, None, sym, ap, subst, ◌∙◌}
use Rattle.sqlite.specs.Opening.{layout_of, HasTree, Knows}
use Rattle.std.proofs.Common.{All}
use Rattle.std.proofs.lemmas.Result.{IfOk-weaker}
use Rattle.sqlite_catalog.specs.Reading.{AreRead}
use Rattle.std.proofs.Common.{IsSomeAnd}
use Rattle.sqlite_store.specs.Listing.{listed_from}
use Rattle.sqlite_catalog.proofs.ReadLemmas.{read_once}
use Rattle.sqlite_store.specs.Joined.{joined}
use Rattle.br_catalog_files.proofs.raw_store.lay_out.Goals as goal

pub returns-in_default-clause-value : goal.returns-in_default-clause-value
returns-in_default-clause-value c =
    λ schema wanted m.
    let rows = c.args.rows.now in
    let shapes = c.in_ok-shapes.ensures.value m.shown m.suit in
    let coded_rows = c.as_slice-2.ensures.value ∙ c.in_ok-coded.ensures m.shown (c.as_slice.ensures.value ∙ shapes) in
    (rw c.in_default.is at c.in_ok-schema.ensures) schema (subst (λ xs. AreRead xs schema) (sym coded_rows) m.read)

pub returns-clause-value : goal.returns-clause-value
returns-clause-value c =
    λ schema wanted m.
    let rows = c.args.rows.now in
    let shapes = c.in_ok-shapes.ensures.value m.shown m.suit in
    let coded_rows = c.as_slice-2.ensures.value ∙ c.in_ok-coded.ensures m.shown (c.as_slice.ensures.value ∙ shapes) in
    let read = subst (λ xs. AreRead xs c.in-Some.schema) coded_rows (rw c.in-Some.is at c.in_ok-schema.ensures) in
    let same = read_once _ c.in-Some.schema schema read.tables read.indexes read.views m.read in
    IfOk-weaker c.layouts.result _ _ (λ found. elim found as (λ o. IsSomeAnd o (λ all. all.items ≡ map (layout_of m.shown) rows) → IsSomeAnd o (λ all. joined rows all.items ≡ listed_from 0 wanted))
    [ None ↦ λ h. h | Some all ↦ λ h. ap (joined rows) h ∙ m.whole ])
    (c.layouts.ensures.value m.shown (subst (Knows m.shown) (sym same) m.knows) (subst (λ s. All (HasTree s) rows) (sym same) m.named) (c.as_slice-3.ensures.value ∙ shapes))
