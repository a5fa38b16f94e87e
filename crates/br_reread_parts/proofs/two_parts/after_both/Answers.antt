use Rattle.std.proofs.Common.{inr}
use Rattle.br_reread_parts.proofs.PutLaws.{err_of_some}
use Rattle.br_reread_parts.proofs.two_parts.after_both.Goals as goal

pub returns-in-Err-clause-reason : goal.returns-in-Err-clause-reason
returns-in-Err-clause-reason c = inr c.in-Err.ensures.only

pub returns-in-Err-clause-changed : goal.returns-in-Err-clause-changed
returns-in-Err-clause-changed c = λ same is. c.in-Err.ensures.changed (err_of_some _ _ is) same

pub returns-in-Err-clause-lost : goal.returns-in-Err-clause-lost
returns-in-Err-clause-lost c = λ is. c.in-Err.ensures.lost (err_of_some _ _ is)
