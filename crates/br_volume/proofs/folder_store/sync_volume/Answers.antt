use Rattle.br_volume.proofs.SyncLaws.{lasts_more}
use Rattle.br_volume.proofs.folder_store.sync_volume.Goals as goal

pub returns-clause-lasts : goal.returns-clause-lasts
returns-clause-lasts g c = lasts_more _ _ _ c.sync_names.ensures.lasts c.sync_at_path.ensures.lasts
