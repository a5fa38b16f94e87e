use Rattle.br_store.proofs.LookMoments.{both_read}
use Rattle.br_store.proofs.look_file.read_both.Goals as goal

pub returns-clause-copied : goal.returns-clause-copied
returns-clause-copied g c =
    both_read _ _ _ _ _ _ _ _ _ _ _ _ _ c.in_ok-mark.ensures.same c.in_ok-bytes.ensures.same c.in_ok-check_journal.ensures.same
    c.in_ok-mark.ensures.later c.in_ok-bytes.ensures.later c.in_ok-check_journal.ensures.later c.in_ok-log.ensures.later
    c.in_ok-mark.ensures.marked c.in_ok-bytes.ensures.read c.in_ok-check_journal.ensures.settled c.in_ok-log.ensures.read
