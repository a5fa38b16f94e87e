use Rattle.br_store.proofs.LookCopies.{shown}
use Rattle.br_store.proofs.look_file.look.Goals as goal

pub returns-clause-shows : goal.returns-clause-shows
returns-clause-shows g c = shown _ _ _ _ _ _ c.in_ok-copied.ensures.copied c.in_ok-copied.ensures.present c.open_copies.ensures.shows
