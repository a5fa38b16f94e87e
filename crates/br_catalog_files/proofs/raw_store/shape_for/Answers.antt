use Rattle.std.proofs.Common.{get_or, sym, ap, ◌∙◌, inl, inr, arith}
use Rattle.std.proofs.Common.{true≢false}
use Rattle.sqlite_value.specs.Order.{bytes}
use Rattle.br_catalog_files.proofs.raw_store.shape_for.Goals as goal

pub returns-then-is_word : goal.returns-then-is_word
returns-then-is_word c =
    λ shape suits. elim suits [
      | inl a ↦ sym a.1
      | inr rest ↦ elim rest [
        | inl b ↦ absurd (omega (arith, ap (λ x. get_or (bytes x) 0 0) (sym (sym c.get.ensures ∙ c.is_word.ensures.0 c.if-is_word.true) ∙ b.0)))
        | inr d ↦ absurd (omega (arith, ap (λ x. get_or (bytes x) 0 0) (sym (sym c.get.ensures ∙ c.is_word.ensures.0 c.if-is_word.true) ∙ d.0)))
      ]
    ]

pub returns-then-is_word-2 : goal.returns-then-is_word-2
returns-then-is_word-2 c =
    λ shape suits. elim suits [
      | inl a ↦ sym a.1
      | inr rest ↦ elim rest [
        | inl b ↦ absurd (omega (arith, ap (λ x. get_or (bytes x) 0 0) (sym (sym c.get-2.ensures ∙ c.is_word-2.ensures.0 c.if-is_word-2.true) ∙ b.0)))
        | inr d ↦ absurd (omega (arith, ap (λ x. get_or (bytes x) 1 0) (sym (sym c.get-2.ensures ∙ c.is_word-2.ensures.0 c.if-is_word-2.true) ∙ d.0)))
      ]
    ]

pub returns-then-is_ours : goal.returns-then-is_ours
returns-then-is_ours c =
    λ shape suits. elim suits [
      | inl a ↦ absurd (elim a.0 [ inl view ↦ true≢false (sym (c.is_word.ensures.1 (c.get.ensures ∙ view)) ∙ c.if-is_word.false) | inr trigger ↦ true≢false (sym (c.is_word-2.ensures.1 (c.get-2.ensures ∙ trigger)) ∙ c.if-is_word-2.false) ])
      | inr rest ↦ elim rest [
        | inl b ↦ elim b.1 [ inl x ↦ sym x.1 | inr y ↦ absurd (y.0 (c.in_ok-is_ours.ensures.0 c.if-is_ours.true)) ]
        | inr d ↦ absurd (omega (arith, ap (λ x. get_or (bytes x) 0 0) (sym (sym c.get-3.ensures ∙ c.is_word-3.ensures.0 c.if-is_word-3.true) ∙ d.0)))
      ]
    ]

pub returns-else-is_ours : goal.returns-else-is_ours
returns-else-is_ours c =
    λ shape suits. elim suits [
      | inl a ↦ absurd (elim a.0 [ inl view ↦ true≢false (sym (c.is_word.ensures.1 (c.get.ensures ∙ view)) ∙ c.if-is_word.false) | inr trigger ↦ true≢false (sym (c.is_word-2.ensures.1 (c.get-2.ensures ∙ trigger)) ∙ c.if-is_word-2.false) ])
      | inr rest ↦ elim rest [
        | inl b ↦ elim b.1 [ inl x ↦ absurd (true≢false (sym (c.in_ok-is_ours.ensures.1 x.0) ∙ c.if-is_ours.false)) | inr y ↦ sym y.1 ]
        | inr d ↦ absurd (omega (arith, ap (λ x. get_or (bytes x) 0 0) (sym (sym c.get-3.ensures ∙ c.is_word-3.ensures.0 c.if-is_word-3.true) ∙ d.0)))
      ]
    ]

pub returns-then-branch : goal.returns-then-branch
returns-then-branch c =
    λ shape suits. elim suits [
      | inl a ↦ absurd (elim a.0 [ inl view ↦ true≢false (sym (c.is_word.ensures.1 (c.get.ensures ∙ view)) ∙ c.if-is_word.false) | inr trigger ↦ true≢false (sym (c.is_word-2.ensures.1 (c.get-2.ensures ∙ trigger)) ∙ c.if-is_word-2.false) ])
      | inr rest ↦ elim rest [
        | inl b ↦ absurd (true≢false (sym (c.is_word-3.ensures.1 (c.get-3.ensures ∙ b.0)) ∙ c.if-is_word-3.false))
        | inr d ↦ elim d.1 [ inl x ↦ sym x.1 | inr y ↦ absurd (y.0 (c.in_ok-is_own_table.ensures.0 c.if-branch.true)) ]
      ]
    ]

pub returns-then-has_index_root : goal.returns-then-has_index_root
returns-then-has_index_root c =
    λ shape suits. elim suits [
      | inl a ↦ absurd (elim a.0 [ inl view ↦ true≢false (sym (c.is_word.ensures.1 (c.get.ensures ∙ view)) ∙ c.if-is_word.false) | inr trigger ↦ true≢false (sym (c.is_word-2.ensures.1 (c.get-2.ensures ∙ trigger)) ∙ c.if-is_word-2.false) ])
      | inr rest ↦ elim rest [
        | inl b ↦ absurd (true≢false (sym (c.is_word-3.ensures.1 (c.get-3.ensures ∙ b.0)) ∙ c.if-is_word-3.false))
        | inr d ↦ elim d.1 [ inl x ↦ absurd (true≢false (sym (c.in_ok-is_own_table.ensures.1 x.0) ∙ c.if-branch.false)) | inr y ↦ sym (rw c.if-has_index_root.true at y.1) ]
      ]
    ]

pub returns-else-has_index_root : goal.returns-else-has_index_root
returns-else-has_index_root c =
    λ shape suits. elim suits [
      | inl a ↦ absurd (elim a.0 [ inl view ↦ true≢false (sym (c.is_word.ensures.1 (c.get.ensures ∙ view)) ∙ c.if-is_word.false) | inr trigger ↦ true≢false (sym (c.is_word-2.ensures.1 (c.get-2.ensures ∙ trigger)) ∙ c.if-is_word-2.false) ])
      | inr rest ↦ elim rest [
        | inl b ↦ absurd (true≢false (sym (c.is_word-3.ensures.1 (c.get-3.ensures ∙ b.0)) ∙ c.if-is_word-3.false))
        | inr d ↦ elim d.1 [ inl x ↦ absurd (true≢false (sym (c.in_ok-is_own_table.ensures.1 x.0) ∙ c.if-branch.false)) | inr y ↦ sym (rw c.if-has_index_root.false at y.1) ]
      ]
    ]
