use Rattle.std.proofs.Common.{inr}
use Rattle.br_reread_parts.proofs.PutLaws.{err_of_some}
use Rattle.br_reread_parts.proofs.TwoLaws.{comes_of, first_same, second_same}
use Rattle.br_reread_parts.proofs.two_parts.after_reading.Goals as goal

pub returns-in-Ok-clause-comes : goal.returns-in-Ok-clause-comes
returns-in-Ok-clause-comes c = comes_of c.after_first.result c.args.fault c.in-Ok.bytes _ _ _ _ c.in-Ok.ensures.bytes c.in-Ok.ensures.alike c.after_first.ensures.ends

pub returns-in-Ok-clause-reason : goal.returns-in-Ok-clause-reason
returns-in-Ok-clause-reason c = c.after_first.ensures.reason

pub returns-in-Err-clause-reason : goal.returns-in-Err-clause-reason
returns-in-Err-clause-reason c = inr c.in-Err.ensures.only

pub returns-in-Ok-clause-changed : goal.returns-in-Ok-clause-changed
returns-in-Ok-clause-changed c = λ same. c.after_first.ensures.changed (second_same c.args.fault _ _ _ _ same)

pub returns-in-Err-clause-changed : goal.returns-in-Err-clause-changed
returns-in-Err-clause-changed c = λ same is. absurd (c.in-Err.ensures.changed (err_of_some _ _ is) (first_same c.args.fault _ _ _ _ same))

pub returns-in-Err-clause-lost : goal.returns-in-Err-clause-lost
returns-in-Err-clause-lost c = λ is. absurd (c.in-Err.ensures.lost (err_of_some _ _ is))
