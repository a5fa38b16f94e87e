use Rattle.std.proofs.Common.{[]}
use Rattle.std.proofs.lemmas.Result.{err_from_is_err_and}
use Rattle.br_reread_parts.proofs.GivenLaws.{fail_after}
use Rattle.br_reread_parts.specs.Steps.{step_of}
use Rattle.br_reread_parts.proofs.PutLaws.{err_of_some}
use Rattle.br_reread_parts.proofs.StepLaws.{fits_kept, writes_later}
use Rattle.br_reread_parts.proofs.both.write_both_ahead.Goals as goal

pub returns-in-Ok-clause-other : goal.returns-in-Ok-clause-other
returns-in-Ok-clause-other g c = writes_later c.standing_stays.ensures _ _ _ _ _ _ c.write_ahead.ensures.on c.in-Ok.ensures.written

pub returns-in_err-write_ahead-clause-changed : goal.returns-in_err-write_ahead-clause-changed
returns-in_err-write_ahead-clause-changed g c =
    let p = err_from_is_err_and c.from_residual.result c.from_residual.ensures.1 in
    rw (p.1, p.2) (λ is fit. c.in_err-write_ahead.ensures.changed (err_of_some _ _ is) fit.0)

pub returns-in_err-write_ahead-clause-lost : goal.returns-in_err-write_ahead-clause-lost
returns-in_err-write_ahead-clause-lost g c =
    let p = err_from_is_err_and c.from_residual.result c.from_residual.ensures.1 in rw (p.1, p.2) (λ is. c.in_err-write_ahead.ensures.lost (err_of_some _ _ is))

pub returns-in-Err-clause-changed : goal.returns-in-Err-clause-changed
returns-in-Err-clause-changed g c = λ is fit.
    c.in-Err.ensures.changed (err_of_some _ _ is) (fits_kept c.standing_stays.ensures _ _ (step_of [] c.args.next.now.other) c.write_ahead.ensures.on fit.1)

pub returns-in-Err-clause-lost : goal.returns-in-Err-clause-lost
returns-in-Err-clause-lost g c = λ is. fail_after _ _ _ c.write_ahead.ensures.on.1 (c.in-Err.ensures.lost (err_of_some _ _ is))
