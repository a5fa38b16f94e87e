use Rattle.std.proofs.Common.{subst}
use Rattle.br_reread_files.specs.TwoFiles.{ChangesAny, FailsAny, LosesAny}
use Rattle.br_reread_files.proofs.TwoLaws.{changes_done, fails_done, loses_done, outcome_done}
use Rattle.br_reread_files.proofs.two_files.put_two.Goals as goal

pub returns-clause-put : goal.returns-clause-put
returns-clause-put g c =
    let put = c.put_two_plain-put.ensures in
    outcome_done _ c.put_two_plain-put.result c.done_if_any.result _ _ _ _ c.done_if_any.ensures put.put put.alike put.same

pub returns-clause-failed : goal.returns-clause-failed
returns-clause-failed g c =
    λ failed. c.put_two_plain-put.ensures.failed (fails_done c.put_two_plain-put.result (subst FailsAny c.done_if_any.ensures failed))

pub returns-clause-changed : goal.returns-clause-changed
returns-clause-changed g c =
    λ changed given. changes_done c.put_two_plain-put.result (subst ChangesAny c.done_if_any.ensures changed) (c.put_two_plain-put.ensures.changed given)

pub returns-clause-lost : goal.returns-clause-lost
returns-clause-lost g c = λ lost. c.put_two_plain-put.ensures.lost (loses_done c.put_two_plain-put.result (subst LosesAny c.done_if_any.ensures lost))
