use Rattle.std.proofs.lemmas.Result.{err_from_is_err_and}
use Rattle.br_reread_parts.proofs.GivenLaws.{hits_kept}
use Rattle.br_reread_files.proofs.DigestingLaws.{read_later}
use Rattle.br_reread_files.proofs.GivenLaws.{fault_again}
use Rattle.br_reread_files.proofs.both_digested.read_both.Goals as goal

pub returns-clause-other : goal.returns-clause-other
returns-clause-other g c = read_later c.standing_stays.ensures _ _ _ _ c.read_ahead.ensures.on c.in_ok-other.ensures.read

pub returns-in_err-other-clause-changed : goal.returns-in_err-other-clause-changed
returns-in_err-other-clause-changed g c =
    let p = err_from_is_err_and c.from_residual-in_err-other.result c.from_residual-in_err-other.ensures.1 in
    rw (p.1, p.2)
    (λ is one other.
    c.in_err-other.ensures.changed (fault_again _ _ is) (hits_kept c.standing_stays.ensures c.args.many.now _ c.args.next.now.other.now c.read_ahead.ensures.on other))
