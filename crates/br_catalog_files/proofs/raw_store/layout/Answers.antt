use Rattle.std.proofs.Common.{◌≡◌, Bool, true, List, [], ◌∷◌, Some, None, sym, ap, ◌∙◌, inl, inr, arith}
use Rattle.std.proofs.Common.{eqb}
use Rattle.std.proofs.lemmas.Bool.{cases_Bool}
use Rattle.sqlite_schema.specs.declared.schema.Table.{Table as TableOf}
use Rattle.sqlite_schema.specs.declared.schema.Index.{Index as IndexOf}
use Rattle.sqlite_rules.proofs.ListLemmas.{all_has, has_found}
use Rattle.sqlite_rules.specs.Lists.{Has}
use Rattle.sqlite_catalog.specs.Reading.{IsTableShaped, IsIndexShaped}
use Rattle.std.proofs.Common.{find, eqb-true, eq-eqb}
use Rattle.br_catalog_files.proofs.raw_store.layout.Goals as goal

missing : {X : Type 0} (p : X → Bool) (xs : List X) (x : X) → Has xs x → p x ≡ true → find p xs ≡ None → ⊥
missing p [] x h passes none = h
missing p (y ∷ ys) x h passes none = elim (cases_Bool (p y))
    [ inl here ↦ (let e = rw here at none in cc) | inr not_here ↦ elim h [ inl e ↦ (let f = rw e at passes in cc) | inr later ↦ missing p ys x later passes (rw not_here at none) ] ]

pub returns-in_err-reals : goal.returns-in_err-reals
returns-in_err-reals c =
    λ v knows named.
    let schema = c.args.schema.now in
    let tree = c.args.tree in
    let tables = sym c.table_at.ensures in
    let table = c.in-Some.table.now in
    let found = has_found (λ (t : TableOf). eqb t.tree tree) schema.tables table (sym (ap (find (λ (t : TableOf). eqb t.tree tree)) c.as_slice-tables.ensures) ∙ sym c.in-Some.ensures) in
    let facts = all_has (IsTableShaped v) schema.tables table knows.tables found.0 in
    let same : table.tree ≡ tree = eqb-true _ _ found.1 in
    absurd (omega (arith, c.in_err-reals.ensures, facts.2))

pub returns-in-Some : goal.returns-in-Some
returns-in-Some c =
    λ v knows named.
    let schema = c.args.schema.now in
    let tree = c.args.tree in
    let tables = sym c.table_at.ensures in
    let table = c.in-Some.table.now in
    let found = has_found (λ (t : TableOf). eqb t.tree tree) schema.tables table (sym (ap (find (λ (t : TableOf). eqb t.tree tree)) c.as_slice-tables.ensures) ∙ sym c.in-Some.ensures) in
    let facts = all_has (IsTableShaped v) schema.tables table knows.tables found.0 in
    let same : table.tree ≡ tree = eqb-true _ _ found.1 in
    rw (← same, facts.0, facts.1, c.in_ok-reals.ensures)

pub returns-in_err-index : goal.returns-in_err-index
returns-in_err-index c =
    λ v knows named.
    let schema = c.args.schema.now in
    let tree = c.args.tree in
    let tables = sym c.table_at.ensures in
    absurd (elim named [
      | inl t ↦ missing (λ (t : TableOf). eqb t.tree tree) schema.tables t.0 t.1 (eq-eqb _ _ t.2) (sym (ap (find (λ (t : TableOf). eqb t.tree tree)) c.as_slice-tables.ensures) ∙ sym c.in_default.ensures)
      | inr i ↦ missing (λ (i : IndexOf). eqb i.tree tree) schema.indexes i.0 i.1 (eq-eqb _ _ i.2) (sym (ap (find (λ (i : IndexOf). eqb i.tree tree)) c.as_slice.ensures) ∙ sym c.in_err-index.ensures)
    ])

pub returns-in_err-reals-2 : goal.returns-in_err-reals-2
returns-in_err-reals-2 c =
    λ v knows named.
    let schema = c.args.schema.now in
    let tree = c.args.tree in
    let tables = sym c.table_at.ensures in
    let index = c.in_ok-index.index.now in
    let found = has_found (λ (i : IndexOf). eqb i.tree tree) schema.indexes index (sym (ap (find (λ (i : IndexOf). eqb i.tree tree)) c.as_slice.ensures) ∙ sym c.in_ok-index.ensures) in
    let facts = all_has (IsIndexShaped v schema.tables) schema.indexes index knows.indexes found.0 in
    let same : index.tree ≡ tree = eqb-true _ _ found.1 in
    let owner = facts.1.0 in
    let at : find (λ (t : TableOf). eqb t.tree index.table) c.as_slice-tables.result.now ≡ Some owner = ap (find (λ (t : TableOf). eqb t.tree index.table)) c.as_slice-tables.ensures ∙ facts.1.1 in
    let listed = (has_found (λ (t : TableOf). eqb t.tree index.table) schema.tables owner facts.1.1).0 in
    absurd (omega (arith, c.in_err-reals-2.ensures owner at (all_has (IsTableShaped v) schema.tables owner knows.tables listed).2, facts.1.2, facts.2))

pub returns : goal.returns
returns c =
    λ v knows named.
    let schema = c.args.schema.now in
    let tree = c.args.tree in
    let tables = sym c.table_at.ensures in
    let index = c.in_ok-index.index.now in
    let found = has_found (λ (i : IndexOf). eqb i.tree tree) schema.indexes index (sym (ap (find (λ (i : IndexOf). eqb i.tree tree)) c.as_slice.ensures) ∙ sym c.in_ok-index.ensures) in
    let facts = all_has (IsIndexShaped v schema.tables) schema.indexes index knows.indexes found.0 in
    let same : index.tree ≡ tree = eqb-true _ _ found.1 in
    let owner = facts.1.0 in
    let at : find (λ (t : TableOf). eqb t.tree index.table) c.as_slice-tables.result.now ≡ Some owner = ap (find (λ (t : TableOf). eqb t.tree index.table)) c.as_slice-tables.ensures ∙ facts.1.1 in
    let made = c.in_ok-reals-2.ensures in
    let one : made.0 ≡ owner = (let e = sym made.1 ∙ at in cc) in
    rw (← same, facts.0, facts.1.2, made.2, one)
