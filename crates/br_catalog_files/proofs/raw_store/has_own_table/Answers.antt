use Rattle.std.proofs.Common.{refl, sym, ap, subst, ◌∙◌, inl, inr, arith}
use Rattle.sqlite.specs.Opening.{IsOwnTable}
use Rattle.std.proofs.lemmas.List.{drop_more}
use Rattle.std.proofs.Common.{true≢false}
use Rattle.sqlite_value.specs.Order.{column}
use Rattle.sqlite_rules.specs.Lists.{Has}
use Rattle.sqlite_rules.proofs.ListLemmas.{has_at}
use Rattle.br_catalog_files.proofs.raw_store.has_own_table.Goals.{else-is_same-via-then-is_same+in_ok-is_own_table+else-branch, else-is_same-via-else-is_same}
use Rattle.std.proofs.lemmas.List.{drop_all}
use Rattle.br_catalog_files.proofs.raw_store.has_own_table.Goals as goal

pub returns-then-branch : goal.returns-then-branch
returns-then-branch c = (
  λ _. (
    c.other-item.result,
    has_at c.args.rows.now c.loop-other.other-index _ c.loop-other-test.true c.other-item.is,
    sym c.get.ensures ∙ c.is_same.ensures.0 c.if-is_same.true ∙ c.get-in-loop-other.ensures,
    c.in_ok-is_own_table.ensures.0 c.if-branch.true,
  ),
  λ _. refl,
)

pub loop-other-preserved : goal.loop-other-preserved
loop-other-preserved c =
    let rows = c.args.rows.now in
    let item = c.other-item.result in
    λ r h same can. elim (subst (λ xs. Has xs r) (drop_more rows c.loop-other.other-index item c.loop-other-test.true) (c.loop-other.invariant r h same can)) [
      | inr later ↦ later
      | inl e ↦ let is = e ∙ sym c.other-item.is in absurd (elim c.else-is_same.branch [
        | else-is_same-via-then-is_same+in_ok-is_own_table+else-branch w ↦ true≢false (sym (w.in_ok-is_own_table.ensures.1 (subst (IsOwnTable rows) is can)) ∙ w.if-branch.false)
        | else-is_same-via-else-is_same w ↦
            true≢false (sym (c.is_same.ensures.1 (c.get.ensures ∙ sym (ap (λ x. column x 2) is) ∙ same ∙ sym c.get-in-loop-other.ensures)) ∙ w.if-is_same.false)
      ])
    ]

pub returns : goal.returns
returns c =
    (λ x. absurd (cc), λ x. absurd (subst (λ xs. Has xs x.0) (drop_all c.loop-other.other-index c.args.rows.now (omega arith)) (c.loop-other.invariant x.0 x.1 x.2 x.3)))
