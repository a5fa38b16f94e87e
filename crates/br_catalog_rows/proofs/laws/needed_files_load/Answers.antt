use Rattle.br_catalog_rows.proofs.SomeFilesLaws.{needed_loads}
use Rattle.br_catalog_rows.proofs.laws.needed_files_load.Goals as goal

pub returns : goal.returns
returns c = needed_loads
