use Rattle.std.proofs.Common.{◌∙◌}
use Rattle.std.proofs.lemmas.Result.{IfOk-weaker, err_from_is_err_and}
use Rattle.br_data.proofs.GoOnLaws.{go_more}
use Rattle.br_reread_parts.proofs.GivenLaws.{fail_after}
use Rattle.br_reread_parts.proofs.PartLaws.{some_of_few}
use Rattle.br_reread_parts.proofs.PutLaws.{err_again, err_anyway}
use Rattle.br_reread_parts.proofs.StepLaws.{none_of, opened_fits, whole_same, whole_written}
use Rattle.br_reread_parts.proofs.file_parts.write_file.Goals as goal

pub returns-in_err-ahead-clause-front : goal.returns-in_err-ahead-clause-front
returns-in_err-ahead-clause-front g c = err_anyway c.from_residual.result (none_of _ _)

pub returns-in_err-ahead-clause-changed : goal.returns-in_err-ahead-clause-changed
returns-in_err-ahead-clause-changed g c =
    let p = err_from_is_err_and c.from_residual.result c.from_residual.ensures.1 in
    rw (p.1, p.2) (λ is given. c.in_err-ahead.ensures.changed (err_again _ _ is) given.0)

pub returns-in_err-put_rest-clause-changed : goal.returns-in_err-put_rest-clause-changed
returns-in_err-put_rest-clause-changed g c =
    let p = err_from_is_err_and c.from_residual-in_err-put_rest.result c.from_residual-in_err-put_rest.ensures.1 in
    rw (p.1, p.2)
    (λ is given.
    c.in_err-put_rest.ensures.changed (err_again _ _ is)
    (opened_fits c.standing_stays.ensures _ _ c.args.hits.now c.args.item.now _ c.open_file.ensures.on c.in_ok-ahead.ensures.opened given))

pub returns-in_err-put_rest-clause-lost : goal.returns-in_err-put_rest-clause-lost
returns-in_err-put_rest-clause-lost g c =
    let p = err_from_is_err_and c.from_residual-in_err-put_rest.result c.from_residual-in_err-put_rest.ensures.1 in
    rw (p.1, p.2) (λ is. fail_after _ _ _ c.open_file.ensures.on.1 (c.in_err-put_rest.ensures.lost (err_again _ _ is)))

pub returns-in_err-put_rest-clause-front : goal.returns-in_err-put_rest-clause-front
returns-in_err-put_rest-clause-front g c =
    err_anyway c.from_residual-in_err-put_rest.result (some_of_few _ _ _ _ c.in_ok-ahead.ensures.opened.left c.put_rest.ensures.front)

pub returns-in_err-put_rest-clause-on : goal.returns-in_err-put_rest-clause-on
returns-in_err-put_rest-clause-on g c = go_more _ _ _ c.open_file.ensures.on c.put_rest.ensures.on

pub returns-clause-all : goal.returns-clause-all
returns-clause-all g c =
    IfOk-weaker c.finish.result _ _ (λ bytes is. whole_written _ _ _ _ _ _ _ c.new-reading.ensures c.in_ok-put_rest.ensures.put is) c.finish.ensures.bytes

pub returns-clause-same : goal.returns-clause-same
returns-clause-same g c =
    IfOk-weaker c.finish.result _ _
    (λ bytes is given.
    is ∙ whole_same c.standing_stays.ensures _ _ c.args.hits.now c.args.item.now _ _ _ _ _ _ c.open_file.ensures.on c.new-reading.ensures c.in_ok-ahead.ensures.opened
    c.in_ok-put_rest.ensures.put given)
    c.finish.ensures.bytes

pub returns-clause-changed : goal.returns-clause-changed
returns-clause-changed g c = λ is given.
    c.finish.ensures.changed is
    (whole_same c.standing_stays.ensures _ _ c.args.hits.now c.args.item.now _ _ _ _ _ _ c.open_file.ensures.on c.new-reading.ensures c.in_ok-ahead.ensures.opened
    c.in_ok-put_rest.ensures.put given)

pub returns-clause-lost : goal.returns-clause-lost
returns-clause-lost g c = λ is. absurd (c.finish.ensures.lost is)

pub returns-clause-front : goal.returns-clause-front
returns-clause-front g c = err_anyway c.finish.result (some_of_few _ _ _ _ c.in_ok-ahead.ensures.opened.left c.put_rest.ensures.front)

pub returns-clause-on : goal.returns-clause-on
returns-clause-on g c = go_more _ _ _ c.open_file.ensures.on c.put_rest.ensures.on
