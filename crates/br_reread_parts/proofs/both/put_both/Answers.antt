use Rattle.std.proofs.lemmas.Result.{err_from_is_err_and}
use Rattle.br_data.proofs.GoOnLaws.{go_more}
use Rattle.br_reread_parts.proofs.GivenLaws.{fail_after, fail_then}
use Rattle.br_reread_parts.proofs.PutLaws.{err_of_some}
use Rattle.br_reread_parts.proofs.StepLaws.{few_on, fits_on, more_put, put_later}
use Rattle.br_reread_parts.proofs.TwoLaws.{both_of, both_then, none_of_both}
use Rattle.br_reread_parts.proofs.both.put_both.Goals as goal

pub returns-in_err-put_rest-clause-on : goal.returns-in_err-put_rest-clause-on
returns-in_err-put_rest-clause-on g c = go_more _ _ _ c.put_while_both.ensures.on c.put_rest.ensures.on

pub returns-in_err-put_rest-clause-front_one : goal.returns-in_err-put_rest-clause-front_one
returns-in_err-put_rest-clause-front_one g c = few_on _ _ _ _ _ _ c.in_ok-fault.ensures.one c.put_rest.ensures.front

pub returns-in_err-fault-clause-changed : goal.returns-in_err-fault-clause-changed
returns-in_err-fault-clause-changed g c =
    let p = err_from_is_err_and c.from_residual.result c.from_residual.ensures.1 in rw (p.1, p.2) (λ is fit. c.in_err-fault.ensures.changed is fit)

pub returns-in_err-fault-clause-lost : goal.returns-in_err-fault-clause-lost
returns-in_err-fault-clause-lost g c =
    let p = err_from_is_err_and c.from_residual.result c.from_residual.ensures.1 in rw (p.1, p.2) (λ is. c.in_err-fault.ensures.lost is)

pub returns-in_err-put_rest-clause-changed : goal.returns-in_err-put_rest-clause-changed
returns-in_err-put_rest-clause-changed g c =
    let p = err_from_is_err_and c.from_residual-in_err-put_rest.result c.from_residual-in_err-put_rest.ensures.1 in
    rw (p.1, p.2)
    (λ is fit.
    c.in_err-put_rest.ensures.changed (err_of_some _ _ is)
    (fits_on c.standing_stays.ensures _ _ _ _ _ _ c.put_while_both.ensures.on c.in_ok-fault.ensures.one fit.0))

pub returns-in_err-put_rest-clause-lost : goal.returns-in_err-put_rest-clause-lost
returns-in_err-put_rest-clause-lost g c =
    let p = err_from_is_err_and c.from_residual-in_err-put_rest.result c.from_residual-in_err-put_rest.ensures.1 in
    rw (p.1, p.2) (λ is. fail_after _ _ _ c.put_while_both.ensures.on.1 (c.in_err-put_rest.ensures.lost (err_of_some _ _ is)))

pub returns-then-is_some-clause-changed : goal.returns-then-is_some-clause-changed
returns-then-is_some-clause-changed g c = λ is fit. c.in_ok-fault.ensures.changed is fit

pub returns-then-is_some-clause-lost : goal.returns-then-is_some-clause-lost
returns-then-is_some-clause-lost g c = λ is. fail_then _ _ _ (c.in_ok-fault.ensures.lost is) c.put_rest.ensures.on.1

pub returns-then-is_some-clause-on : goal.returns-then-is_some-clause-on
returns-then-is_some-clause-on g c = go_more _ _ _ c.put_while_both.ensures.on c.put_rest.ensures.on

pub returns-then-is_some-clause-one : goal.returns-then-is_some-clause-one
returns-then-is_some-clause-one g c =
    more_put _ _ _ _ _ _ _ c.in_ok-fault.ensures.one (put_later c.standing_stays.ensures _ _ _ _ _ _ c.put_while_both.ensures.on c.in_ok-put_rest.ensures.put)

pub returns-then-is_some-clause-other : goal.returns-then-is_some-clause-other
returns-then-is_some-clause-other g c = none_of_both _ c.in_ok-fault.fault c.if-is_some.ensures

pub returns-then-is_some-clause-front_one : goal.returns-then-is_some-clause-front_one
returns-then-is_some-clause-front_one g c = few_on _ _ _ _ _ _ c.in_ok-fault.ensures.one c.put_rest.ensures.front

pub returns-clause-on : goal.returns-clause-on
returns-clause-on g c = go_more _ _ _ (go_more _ _ _ c.put_while_both.ensures.on c.put_rest.ensures.on) c.put_other_rest.ensures.on

pub returns-clause-one : goal.returns-clause-one
returns-clause-one g c =
    more_put _ _ _ _ _ _ _ c.in_ok-fault.ensures.one (put_later c.standing_stays.ensures _ _ _ _ _ _ c.put_while_both.ensures.on c.in_ok-put_rest.ensures.put)

pub returns-clause-other : goal.returns-clause-other
returns-clause-other g c =
    both_then c.put_other_rest.result
    (λ puts. more_put _ _ _ _ _ _ _ (both_of c.in_ok-fault.fault c.if-is_some.ensures c.in_ok-fault.ensures.other)
    (put_later c.standing_stays.ensures _ _ _ _ _ _ (go_more _ _ _ c.put_while_both.ensures.on c.put_rest.ensures.on) puts))
    c.put_other_rest.ensures.other

pub returns-clause-changed : goal.returns-clause-changed
returns-clause-changed g c = λ is fit.
    c.put_other_rest.ensures.changed is
    (fits_on c.standing_stays.ensures _ _ _ _ _ _ (go_more _ _ _ c.put_while_both.ensures.on c.put_rest.ensures.on)
    (both_of c.in_ok-fault.fault c.if-is_some.ensures c.in_ok-fault.ensures.other) fit.1)

pub returns-clause-lost : goal.returns-clause-lost
returns-clause-lost g c = λ is. fail_after _ _ _ (go_more _ _ _ c.put_while_both.ensures.on c.put_rest.ensures.on).1 (c.put_other_rest.ensures.lost is)

pub returns-clause-front_one : goal.returns-clause-front_one
returns-clause-front_one g c = few_on _ _ _ _ _ _ c.in_ok-fault.ensures.one c.put_rest.ensures.front

pub returns-clause-front_other : goal.returns-clause-front_other
returns-clause-front_other g c = few_on _ _ _ _ _ _ (both_of c.in_ok-fault.fault c.if-is_some.ensures c.in_ok-fault.ensures.other) c.put_other_rest.ensures.front
