use Rattle.std.proofs.Common.{Some, Ok, ap, sym, ◌∙◌}
use Rattle.std.proofs.lemmas.Result.{err_from_is_err_and}
use Rattle.br_data.proofs.GoOnLaws.{go_itself, go_more}
use Rattle.br_reread_parts.proofs.GivenLaws.{fail_after}
use Rattle.br_reread_parts.proofs.StepLaws.{few_on, few_put, fits_on, none_put, step_put}
use Rattle.br_reread_parts.proofs.TwoLaws.{none_failed}
use Rattle.br_reread_parts.proofs.both.put_while_both.Goals as goal

pub loop-many-init : goal.loop-many-init
loop-many-init g c = record { on = go_itself c.args.many.now; one = none_put _ _ _; other = none_put _ _ _ }

pub returns-in_err-fault-clause-on : goal.returns-in_err-fault-clause-on
returns-in_err-fault-clause-on g c = go_more _ _ _ c.loop-many.invariant.on c.put_both_beside.ensures.on

pub returns-in_err-fault-clause-front_one : goal.returns-in_err-fault-clause-front_one
returns-in_err-fault-clause-front_one g c = few_on _ _ _ _ _ _ c.loop-many.invariant.one c.put_both_beside.ensures.front_one

pub returns-in_err-fault-clause-front_other : goal.returns-in_err-fault-clause-front_other
returns-in_err-fault-clause-front_other g c = few_on _ _ _ _ _ _ c.loop-many.invariant.other c.put_both_beside.ensures.front_other

pub returns-in_err-fault-clause-changed : goal.returns-in_err-fault-clause-changed
returns-in_err-fault-clause-changed g c =
    let before = c.loop-many.invariant in
    let p = err_from_is_err_and c.from_residual.result c.from_residual.ensures.1 in
    rw (p.1, p.2)
    (λ is fit.
    c.in_err-fault.ensures.changed is
    (fits_on c.standing_stays.ensures _ _ _ _ _ _ before.on before.one fit.0, fits_on c.standing_stays.ensures _ _ _ _ _ _ before.on before.other fit.1))

pub returns-in_err-fault-clause-lost : goal.returns-in_err-fault-clause-lost
returns-in_err-fault-clause-lost g c =
    let p = err_from_is_err_and c.from_residual.result c.from_residual.ensures.1 in
    rw (p.1, p.2) (λ is. fail_after _ _ _ c.loop-many.invariant.on.1 (c.in_err-fault.ensures.lost is))

pub returns-in-Some-clause-changed : goal.returns-in-Some-clause-changed
returns-in-Some-clause-changed g c = λ is fit.
    let before = c.loop-many.invariant in
    c.in_ok-fault.ensures.changed (c.in-Some.is ∙ is)
    (fits_on c.standing_stays.ensures _ _ _ _ _ _ before.on before.one fit.0, fits_on c.standing_stays.ensures _ _ _ _ _ _ before.on before.other fit.1)

pub returns-in-Some-clause-lost : goal.returns-in-Some-clause-lost
returns-in-Some-clause-lost g c = λ is. fail_after _ _ _ c.loop-many.invariant.on.1 (c.in_ok-fault.ensures.lost (c.in-Some.is ∙ is))

pub returns-in-Some-clause-on : goal.returns-in-Some-clause-on
returns-in-Some-clause-on g c = go_more _ _ _ c.loop-many.invariant.on c.put_both_beside.ensures.on

pub returns-in-Some-clause-one : goal.returns-in-Some-clause-one
returns-in-Some-clause-one g c =
    let before = c.loop-many.invariant in
    let done = c.in_ok-fault.ensures in
    step_put c.standing_stays.ensures _ _ _ _ _ _ _ _ _ _ before.on before.one done.one done.digested_one

pub returns-in-Some-clause-front_one : goal.returns-in-Some-clause-front_one
returns-in-Some-clause-front_one g c = few_on _ _ _ _ _ _ c.loop-many.invariant.one c.put_both_beside.ensures.front_one

pub returns-in-Some-clause-front_other : goal.returns-in-Some-clause-front_other
returns-in-Some-clause-front_other g c = few_on _ _ _ _ _ _ c.loop-many.invariant.other c.put_both_beside.ensures.front_other

pub loop-many-preserved : goal.loop-many-preserved
loop-many-preserved g c =
    let before = c.loop-many.invariant in
    let done = c.in_ok-fault.ensures in
    record {
      on = go_more _ _ _ before.on c.put_both_beside.ensures.on;
      one = step_put c.standing_stays.ensures _ _ _ _ _ _ _ _ _ _ before.on before.one done.one done.digested_one;
      other = step_put c.standing_stays.ensures _ _ _ _ _ _ _ _ _ _ before.on before.other (none_failed _ c.in_default.is done.other) done.digested_other;
    }

pub returns-after-loop-many-clause-on : goal.returns-after-loop-many-clause-on
returns-after-loop-many-clause-on g c = c.loop-many.invariant.on

pub returns-after-loop-many-clause-one : goal.returns-after-loop-many-clause-one
returns-after-loop-many-clause-one g c = c.loop-many.invariant.one

pub returns-after-loop-many-clause-other : goal.returns-after-loop-many-clause-other
returns-after-loop-many-clause-other g c = c.loop-many.invariant.other

pub returns-after-loop-many-clause-front_one : goal.returns-after-loop-many-clause-front_one
returns-after-loop-many-clause-front_one g c = few_put _ _ _ _ _ c.loop-many.invariant.one

pub returns-after-loop-many-clause-front_other : goal.returns-after-loop-many-clause-front_other
returns-after-loop-many-clause-front_other g c = few_put _ _ _ _ _ c.loop-many.invariant.other

pub returns-else-not-is_empty-clause-on : goal.returns-else-not-is_empty-clause-on
returns-else-not-is_empty-clause-on g c = c.loop-many.invariant.on

pub returns-else-not-is_empty-clause-one : goal.returns-else-not-is_empty-clause-one
returns-else-not-is_empty-clause-one g c = c.loop-many.invariant.one

pub returns-else-not-is_empty-clause-other : goal.returns-else-not-is_empty-clause-other
returns-else-not-is_empty-clause-other g c = c.loop-many.invariant.other

pub returns-else-not-is_empty-clause-front_one : goal.returns-else-not-is_empty-clause-front_one
returns-else-not-is_empty-clause-front_one g c = few_put _ _ _ _ _ c.loop-many.invariant.one

pub returns-else-not-is_empty-clause-front_other : goal.returns-else-not-is_empty-clause-front_other
returns-else-not-is_empty-clause-front_other g c = few_put _ _ _ _ _ c.loop-many.invariant.other
