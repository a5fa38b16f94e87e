use Rattle.std.proofs.Common.{◌++◌, ap, sym, subst, ◌∙◌}
use Rattle.std.proofs.lemmas.Result.{err_from_is_err_and}
use Rattle.std.specs.Vec.Iter.{into_iter_items}
use Rattle.br_model.specs.Answer.{IsRefusal}
use Rattle.br_model.specs.Job.{pushed}
use Rattle.br_history.specs.Fault.{cause as history_cause}
use Rattle.br_catalog_rows.specs.Fault.{rows_cause, of_history_fault}
use Rattle.br_catalog_rows.specs.Load.{if_apart}
use Rattle.br_catalog_rows.proofs.LoadLaws.{apart_fails}
use Rattle.br_catalog_rows.proofs.load.joined.Goals as goal

pub returns-in_err-push : goal.returns-in_err-push
returns-in_err-push c =
    let p = err_from_is_err_and c.from_residual.result c.from_residual.ensures.1 in
    let fault = c.in_err-push.field-0.0 in
    let rest = into_iter_items c.next.new.self in
    let whole = ap (λ l. c.loop-job.yielded ++ l) (sym c.in-Some.ensures.steps.0) ∙ c.loop-job.invariant.1 in
    let refused = subst (λ h. IsRefusal (history_cause fault) (pushed h c.in-Some.job)) c.loop-job.invariant.0 c.in_err-push.ensures.answers in
    rw (p.1, p.2) (subst (λ l. IsRefusal (rows_cause (of_history_fault fault)) (if_apart l)) whole (apart_fails fault c.loop-job.yielded rest c.in-Some.job refused))
