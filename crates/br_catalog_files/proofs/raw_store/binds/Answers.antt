use Rattle.std.proofs.Common.{refl, sym, ap, ◌∙◌, inl, inr}
use Rattle.std.proofs.Common.{true≢false}
use Rattle.sqlite_catalog.specs.Listing.{is_unread}
use Rattle.std.proofs.lemmas.Result.{IfOk-weaker}
use Rattle.br_catalog_files.proofs.raw_store.binds.Goals as goal

pub returns-then-is_word : goal.returns-then-is_word
returns-then-is_word c =
    (λ _. inl (sym c.get.ensures ∙ c.is_word.ensures.0 c.if-is_word.true), λ _. refl)

pub returns-then-not-is_word : goal.returns-then-not-is_word
returns-then-not-is_word c = (
  λ x. absurd (cc),
  λ x. absurd (elim x [
    | inl a ↦ true≢false (sym (c.is_word.ensures.1 (c.get.ensures ∙ a)) ∙ c.if-is_word.false)
    | inr b ↦ true≢false (sym (c.is_word-2.ensures.1 (c.get-2.ensures ∙ b.0)) ∙ c.if-not-is_word.true)
  ]),
)

pub returns : goal.returns
returns c =
    IfOk-weaker c.is_unread.result _ _ (λ found is. let same = is ∙ ap is_unread c.get-3.ensures in
    (λ h. inr (sym c.get-2.ensures ∙ c.is_word-2.ensures.0 c.if-not-is_word.false, sym same ∙ h), λ x. elim x [ inl a ↦ absurd (true≢false (sym (c.is_word.ensures.1 (c.get.ensures ∙ a)) ∙ c.if-is_word.false)) | inr b ↦ same ∙ b.1 ])) c.is_unread.ensures
