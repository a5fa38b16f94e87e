use Rattle.std.proofs.Common.{true, false, sym, ◌∙◌}
use Rattle.br_bsr.proofs.KeywordLaws.{volume_word, criterion_word, passed_word, other_word}
use Rattle.br_bsr.proofs.keyword.Keyword.from_word.Goals as goal

pub returns-then-is_word : goal.returns-then-is_word
returns-then-is_word c = sym (volume_word c.args.word.now (sym c.is_word.ensures ∙ c.if-is_word.true))

pub returns-in-Some : goal.returns-in-Some
returns-in-Some c =
    sym (criterion_word c.args.word.now c.in-Some.criterion (sym c.is_word.ensures ∙ c.if-is_word.false) (sym c.criterion_from.ensures ∙ c.in-Some.is))

pub returns-then-is_passed_over : goal.returns-then-is_passed_over
returns-then-is_passed_over c =
    sym (passed_word c.args.word.now (sym c.is_word.ensures ∙ c.if-is_word.false) (sym c.criterion_from.ensures ∙ c.in_default.is)
    (sym c.is_passed_over.ensures ∙ c.if-is_passed_over.true))

pub returns-then-is_unsupported_word : goal.returns-then-is_unsupported_word
returns-then-is_unsupported_word c =
    sym (other_word c.args.word.now true (sym c.is_word.ensures ∙ c.if-is_word.false) (sym c.criterion_from.ensures ∙ c.in_default.is)
    (sym c.is_passed_over.ensures ∙ c.if-is_passed_over.false) (sym c.is_unsupported_word.ensures ∙ c.if-is_unsupported_word.true))

pub returns-else-is_unsupported_word : goal.returns-else-is_unsupported_word
returns-else-is_unsupported_word c =
    sym (other_word c.args.word.now false (sym c.is_word.ensures ∙ c.if-is_word.false) (sym c.criterion_from.ensures ∙ c.in_default.is)
    (sym c.is_passed_over.ensures ∙ c.if-is_passed_over.false) (sym c.is_unsupported_word.ensures ∙ c.if-is_unsupported_word.false))
