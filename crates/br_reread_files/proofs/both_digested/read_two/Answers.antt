use Rattle.std.proofs.lemmas.Result.{err_from_is_err_and}
use Rattle.br_data.proofs.GoOnLaws.{go_more}
use Rattle.br_reread_parts.proofs.GivenLaws.{hits_kept}
use Rattle.br_reread_files.specs.FileHits.{digested, unread}
use Rattle.br_reread_files.proofs.DigestingLaws.{whole_later, whole_read}
use Rattle.br_reread_files.proofs.GivenLaws.{fault_again}
use Rattle.br_reread_files.proofs.both_digested.read_two.Goals as goal

pub digest_both-requires-clause-one : goal.digest_both-requires-clause-one
digest_both-requires-clause-one g c = c.in_ok-one.ensures.read.read

pub digest_both-requires-clause-other : goal.digest_both-requires-clause-other
digest_both-requires-clause-other g c = c.in_ok-other.ensures.read.read

pub returns-clause-one : goal.returns-clause-one
returns-clause-one g c =
    let file = c.args.first.now in
    whole_read c.standing_stays.ensures c.args.many.now _ (digested file) (unread file) _ _ _ (go_more _ _ _ c.open.ensures.on c.open-2.ensures.on)
    c.in_ok-one.ensures.read c.in_ok-digest_both.ensures.one

pub returns-clause-other : goal.returns-clause-other
returns-clause-other g c =
    let file = c.args.second.now in
    whole_later c.standing_stays.ensures c.args.many.now _ (digested file) (unread file) _ c.open.ensures.on
    (whole_read c.standing_stays.ensures _ _ (digested file) (unread file) _ _ _ c.open-2.ensures.on c.in_ok-other.ensures.read c.in_ok-digest_both.ensures.other)

pub returns-in_err-other-clause-changed : goal.returns-in_err-other-clause-changed
returns-in_err-other-clause-changed g c =
    let p = err_from_is_err_and c.from_residual-in_err-other.result c.from_residual-in_err-other.ensures.1 in
    rw (p.1, p.2)
    (λ is one other.
    c.in_err-other.ensures.changed (fault_again _ _ is) (hits_kept c.standing_stays.ensures c.args.many.now _ (unread c.args.second.now) c.open.ensures.on other))

pub returns-in_err-digest_both-clause-changed : goal.returns-in_err-digest_both-clause-changed
returns-in_err-digest_both-clause-changed g c =
    let first = c.args.many.now in
    let on = go_more _ _ _ c.open.ensures.on c.open-2.ensures.on in
    let p = err_from_is_err_and c.from_residual-in_err-digest_both.result c.from_residual-in_err-digest_both.ensures.1 in
    rw (p.1, p.2)
    (λ is one other.
    c.in_err-digest_both.ensures.changed (fault_again _ _ is)
    (hits_kept c.standing_stays.ensures first _ _ on (c.in_ok-one.ensures.read.given first one))
    (hits_kept c.standing_stays.ensures first _ _ on (c.in_ok-other.ensures.read.given first other)))
