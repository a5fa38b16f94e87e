use Rattle.std.proofs.Common.{◌∙◌, sym}
use Rattle.br_store.proofs.LookMoments.{log_read}
use Rattle.br_store.proofs.look_file.read_log.Goals as goal

pub returns-then-may_be-clause-read : goal.returns-then-may_be-clause-read
returns-then-may_be-clause-read g c =
    log_read _ _ _ _ _ _ _ _ _ _ _ _ c.in_ok-check_mark.ensures.same c.in_ok-len.ensures.same c.in_ok-log.ensures.same
    c.in_ok-check_mark.ensures.later c.in_ok-len.ensures.later c.in_ok-log.ensures.later c.in_ok-check_mark-2.ensures.later
    c.in_ok-check_mark.ensures.marked c.in_ok-log.ensures.read c.in_ok-check_mark-2.ensures.marked
    (λ short. sym c.deref.ensures.value ∙ c.may_be.ensures c.if-may_be.true short)
