use Rattle.std.proofs.lemmas.Result.{err_from_is_err_and}
use Rattle.br_reread_parts.proofs.GivenLaws.{hits_kept}
use Rattle.br_reread_parts.proofs.PutLaws.{err_again}
use Rattle.br_reread_parts.proofs.StepLaws.{opens_later}
use Rattle.br_reread_parts.proofs.both.open_two.Goals as goal

pub returns-in_err-first-clause-changed : goal.returns-in_err-first-clause-changed
returns-in_err-first-clause-changed g c =
    let p = err_from_is_err_and c.from_residual.result c.from_residual.ensures.1 in
    rw (p.1, p.2) (λ is given more. c.in_err-first.ensures.changed (err_again _ _ is) given)

pub returns-in_err-second-clause-changed : goal.returns-in_err-second-clause-changed
returns-in_err-second-clause-changed g c =
    let p = err_from_is_err_and c.from_residual-in_err-second.result c.from_residual-in_err-second.ensures.1 in
    rw (p.1, p.2)
    (λ is given more.
    c.in_err-second.ensures.changed (err_again _ _ is) (hits_kept c.standing_stays.ensures _ _ c.args.other.now.hits.now c.open_file.ensures.on more))

pub returns-clause-other : goal.returns-clause-other
returns-clause-other g c = opens_later c.standing_stays.ensures _ _ _ _ _ c.open_file.ensures.on c.in_ok-second.ensures.opened
