use Rattle.br_store.proofs.Opened.{just_opened}
use Rattle.br_catalog_files.proofs.catalogue_files.open_file.Goals as goal

pub returns : goal.returns
returns c = just_opened c.in_ok-open.field-0 c.in_ok-open.ensures.fresh c.in_ok-open.ensures.opened
