use Rattle.std.proofs.lemmas.Result.{err_from_is_err_and}
use Rattle.br_data.proofs.GoOnLaws.{go_more}
use Rattle.br_reread_parts.proofs.GivenLaws.{hits_kept}
use Rattle.br_reread_files.proofs.DigestingLaws.{whole_read}
use Rattle.br_reread_files.proofs.GivenLaws.{fault_again}
use Rattle.br_reread_files.proofs.both_digested.digest_both.Goals as goal

pub digest_rest-requires : goal.digest_rest-requires
digest_rest-requires g c = c.in_ok-left.ensures.one.read

pub digest_rest-requires-2 : goal.digest_rest-requires-2
digest_rest-requires-2 g c = c.in_ok-left.ensures.other.read

pub returns-clause-one : goal.returns-clause-one
returns-clause-one g c =
    whole_read c.standing_stays.ensures c.args.many.now _ c.args.one.now.hits.items c.args.rest.one.now _ _ _ c.digest_while_both.ensures.on
    c.in_ok-left.ensures.one c.in_ok-digest_rest.ensures.digested

pub returns-clause-other : goal.returns-clause-other
returns-clause-other g c =
    whole_read c.standing_stays.ensures c.args.many.now _ c.args.other.now.hits.items c.args.rest.other.now _ _ _
    (go_more _ _ _ c.digest_while_both.ensures.on c.digest_rest.ensures.on) c.in_ok-left.ensures.other c.in_ok-digest_rest-2.ensures.digested

pub returns-in_err-digest_rest-clause-changed : goal.returns-in_err-digest_rest-clause-changed
returns-in_err-digest_rest-clause-changed g c =
    let first = c.args.many.now in
    let p = err_from_is_err_and c.from_residual-in_err-digest_rest.result c.from_residual-in_err-digest_rest.ensures.1 in
    rw (p.1, p.2)
    (λ is one other.
    c.in_err-digest_rest.ensures.changed (fault_again _ _ is)
    (hits_kept c.standing_stays.ensures first _ _ c.digest_while_both.ensures.on (c.in_ok-left.ensures.one.given first one)))

pub returns-in_err-digest_rest-2-clause-changed : goal.returns-in_err-digest_rest-2-clause-changed
returns-in_err-digest_rest-2-clause-changed g c =
    let first = c.args.many.now in
    let p = err_from_is_err_and c.from_residual-in_err-digest_rest-2.result c.from_residual-in_err-digest_rest-2.ensures.1 in
    rw (p.1, p.2)
    (λ is one other.
    c.in_err-digest_rest-2.ensures.changed (fault_again _ _ is)
    (hits_kept c.standing_stays.ensures first _ _ (go_more _ _ _ c.digest_while_both.ensures.on c.digest_rest.ensures.on) (c.in_ok-left.ensures.other.given first other)))
