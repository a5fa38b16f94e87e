use Rattle.br_volume.proofs.SyncLaws.{lasts_more}
use Rattle.br_volume.proofs.folder_store.append_at_path.Goals as goal

pub returns-in-Ok-clause-lasts : goal.returns-in-Ok-clause-lasts
returns-in-Ok-clause-lasts g c = lasts_more _ _ _ c.in_ok-file.ensures.lasts c.append-done.ensures.lasts

pub returns-in-Err-clause-lasts : goal.returns-in-Err-clause-lasts
returns-in-Err-clause-lasts g c = lasts_more _ _ _ c.in_ok-file.ensures.lasts c.append-done.ensures.lasts
