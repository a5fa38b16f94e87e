use Rattle.std.proofs.Common.{◌∙◌, inl}
use Rattle.br_reread_parts.proofs.TwoLaws.{fails_none, put_of_none}
use Rattle.br_reread_parts.proofs.two_parts.after_first.Goals as goal

pub returns-in-Some-clause-reason : goal.returns-in-Some-clause-reason
returns-in-Some-clause-reason c = inl c.in-Some.is

pub returns-in-None-clause-reason : goal.returns-in-None-clause-reason
returns-in-None-clause-reason c = fails_none c.after_both.result c.args.fault c.in-None.is c.after_both.ensures.reason

pub returns-in-Some-clause-changed : goal.returns-in-Some-clause-changed
returns-in-Some-clause-changed c = λ put is. c.in-Some.is ∙ is

pub returns-in-Some-clause-lost : goal.returns-in-Some-clause-lost
returns-in-Some-clause-lost c = λ is. c.in-Some.is ∙ is

pub returns-in-None-clause-changed : goal.returns-in-None-clause-changed
returns-in-None-clause-changed c = λ put is. absurd (c.after_both.ensures.changed (put_of_none c.args.fault c.in-None.is put) is)

pub returns-in-None-clause-lost : goal.returns-in-None-clause-lost
returns-in-None-clause-lost c = λ is. absurd (c.after_both.ensures.lost is)
