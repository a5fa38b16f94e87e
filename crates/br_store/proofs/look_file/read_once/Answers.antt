use Rattle.std.proofs.Common.{◌∙◌, arith}
use Rattle.br_store.proofs.LookMoments.{held_since}
use Rattle.br_store.proofs.look_file.read_once.Goals as goal

pub returns-clause-copied : goal.returns-clause-copied
returns-clause-copied g c =
    held_since _ _ _ _ _ _ _ (c.in_ok-check_journal.ensures.same ∙ c.in_ok-files.ensures.same)
    (omega (arith, c.in_ok-files.ensures.later, c.in_ok-check_journal.ensures.later)) c.in_ok-copied.ensures.copied
