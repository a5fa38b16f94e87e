use Rattle.std.proofs.Common.{refl, sym, subst, ◌∙◌, inl, inr, arith}
use Rattle.sqlite_rules.proofs.ListLemmas.{has_at}
use Rattle.sqlite_rules.specs.Lists.{Has}
use Rattle.std.proofs.lemmas.List.{drop_more, drop_all}
use Rattle.std.proofs.Common.{true≢false}
use Rattle.sqlite.specs.Opening.{Binds}
use Rattle.br_catalog_files.proofs.raw_store.is_bound.Goals.{else-is_about-via-then-is_about+in_ok-binds+else-branch, else-is_about-via-else-is_about}
use Rattle.br_catalog_files.proofs.raw_store.is_bound.Goals as goal

pub returns-then-branch : goal.returns-then-branch
returns-then-branch c = (
  λ _. (
    c.other-item.result,
    has_at c.args.rows.now c.loop-other.other-index _ c.loop-other-test.true c.other-item.is,
    c.in_ok-binds.ensures.0 c.if-branch.true,
    sym c.is_about.ensures ∙ c.if-is_about.true,
  ),
  λ _. refl,
)

pub loop-other-preserved : goal.loop-other-preserved
loop-other-preserved c =
    λ r h kind named. elim (subst (λ xs. Has xs r) (drop_more c.args.rows.now c.loop-other.other-index c.other-item.result c.loop-other-test.true) (c.loop-other.invariant r h kind named)) [
      | inr later ↦ later
      | inl e ↦ let is = e ∙ sym c.other-item.is in absurd (elim c.else-is_about.branch [
        | else-is_about-via-then-is_about+in_ok-binds+else-branch w ↦ true≢false (sym (w.in_ok-binds.ensures.1 (subst Binds is kind)) ∙ w.if-branch.false)
        | else-is_about-via-else-is_about w ↦ true≢false (sym (c.is_about.ensures ∙ rw (← is) named) ∙ w.if-is_about.false)
      ])
    ]

pub returns : goal.returns
returns c =
    (λ x. absurd (cc), λ x. absurd (subst (λ xs. Has xs x.0) (drop_all c.loop-other.other-index c.args.rows.now (omega arith)) (c.loop-other.invariant x.0 x.1 x.2 x.3)))
