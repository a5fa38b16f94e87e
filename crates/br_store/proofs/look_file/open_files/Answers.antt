use Rattle.std.proofs.Common.{refl}
use Rattle.br_store.proofs.LookCopies.{found_in}
use Rattle.br_store.proofs.look_file.open_files.Goals as goal

pub returns-in-Ok-clause-shows : goal.returns-in-Ok-clause-shows
returns-in-Ok-clause-shows c = λ clean. found_in _ _ _ _ refl refl (c.in-Ok.ensures.found clean)
