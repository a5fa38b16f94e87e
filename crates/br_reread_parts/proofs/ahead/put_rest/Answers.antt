use Rattle.std.proofs.Common.{[], length, sym, ◌∙◌, eqb-true}
use Rattle.std.proofs.lemmas.Result.{err_from_is_err_and}
use Rattle.br_data.proofs.GoOnLaws.{go_itself, go_more}
use Rattle.br_reread_parts.specs.Steps.{step_of}
use Rattle.br_reread_parts.proofs.PutLaws.{err_again, ok_weaker}
use Rattle.br_reread_parts.proofs.StepLaws.{few_on, fits_on, more_put, next_fits, none_put, step_put}
use Rattle.br_reread_parts.proofs.WindowLaws.{none_left}
use Rattle.br_reread_parts.proofs.ahead.put_rest.Goals as goal

pub loop-many-init : goal.loop-many-init
loop-many-init g c = record { on = go_itself c.args.many.now; puts = none_put _ _ _ }

pub returns-in_err-put_ahead_beside-clause-on : goal.returns-in_err-put_ahead_beside-clause-on
returns-in_err-put_ahead_beside-clause-on g c = go_more _ _ _ c.loop-many.invariant.on c.put_ahead_beside.ensures.on

pub returns-in_err-put_ahead_beside-clause-front : goal.returns-in_err-put_ahead_beside-clause-front
returns-in_err-put_ahead_beside-clause-front g c = few_on _ _ _ _ _ _ c.loop-many.invariant.puts c.put_ahead_beside.ensures.front

pub returns-in_err-put_ahead_beside-clause-changed : goal.returns-in_err-put_ahead_beside-clause-changed
returns-in_err-put_ahead_beside-clause-changed g c =
    let p = err_from_is_err_and c.from_residual.result c.from_residual.ensures.1 in
    rw (p.1, p.2)
    (λ is fits.
    c.in_err-put_ahead_beside.ensures.changed (err_again _ _ is)
    (fits_on c.standing_stays.ensures _ _ _ _ _ _ c.loop-many.invariant.on c.loop-many.invariant.puts fits))

pub loop-many-preserved : goal.loop-many-preserved
loop-many-preserved g c =
    let before = c.loop-many.invariant in
    let done = c.in_ok-put_ahead_beside.ensures in
    record {
      on = go_more _ _ _ before.on c.put_ahead_beside.ensures.on;
      puts = step_put c.standing_stays.ensures _ _ _ _ _ _ _ _ _ _ before.on before.puts done.written done.digested;
    }

pub returns-clause-on : goal.returns-clause-on
returns-clause-on g c = c.loop-many.invariant.on

pub returns-clause-front : goal.returns-clause-front
returns-clause-front g c = few_on _ _ _ _ _ _ c.loop-many.invariant.puts c.put_last_ahead.ensures.front

pub returns-clause-changed : goal.returns-clause-changed
returns-clause-changed g c = λ is fits.
    next_fits c.loop-many.many (step_of [] c.loop-many.ahead)
    (fits_on c.standing_stays.ensures _ _ _ _ _ _ c.loop-many.invariant.on c.loop-many.invariant.puts fits) (c.put_last_ahead.ensures.changed is)

pub returns-clause-lost : goal.returns-clause-lost
returns-clause-lost g c = λ is. absurd (c.put_last_ahead.ensures.lost is)

pub returns-clause-put : goal.returns-clause-put
returns-clause-put g c =
    let ahead = c.loop-many.ahead in
    ok_weaker c.put_last_ahead.result
    (λ ends. more_put _ _ _ _ _ _ _ c.loop-many.invariant.puts
    (ends _ (none_left ahead.rest.now (eqb-true (length ahead.rest.now) 0 (sym c.is_empty.ensures ∙ c.loop-many-test.false)))))
    c.put_last_ahead.ensures.put
