use Rattle.br_store.proofs.Opened.{just_opened}
use Rattle.br_catalog_files.proofs.catalogue_files.look_at.Goals as goal

pub returns-in-Ok : goal.returns-in-Ok
returns-in-Ok c = just_opened c.in-Ok.conn c.in-Ok.ensures.fresh c.in-Ok.ensures.opened
