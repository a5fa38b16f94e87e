use Rattle.std.proofs.Common.{ap, sym, ◌∙◌}
use Rattle.br_types.specs.Trim.{trimmed_end}
use Rattle.br_types.proofs.TrimLaws.{end_more, end_stays, end_of_nothing, nothing}
use Rattle.br_types.proofs.blanks.without_end.Goals as goal

pub returns-then-not-is_blank_byte : goal.returns-then-not-is_blank_byte
returns-then-not-is_blank_byte c =
    let parts = c.in-Some.ensures.cases.0 in
    parts ∙ sym (end_stays c.in-Some.last.now c.in-Some.front.now (sym c.is_blank_byte.ensures ∙ c.if-not-is_blank_byte.true)) ∙ ap trimmed_end (sym parts) ∙ c.loop-last.invariant

pub loop-last-preserved : goal.loop-last-preserved
loop-last-preserved c =
    let parts = c.in-Some.ensures.cases.0 in
    sym (end_more c.in-Some.last.now c.in-Some.front.now (sym c.is_blank_byte.ensures ∙ c.if-not-is_blank_byte.false)) ∙ ap trimmed_end (sym parts) ∙ c.loop-last.invariant

pub returns : goal.returns
returns c =
    let none = nothing c.loop-last.left.now c.in_default.ensures.cases in
    none ∙ sym end_of_nothing ∙ ap trimmed_end (sym none) ∙ c.loop-last.invariant
