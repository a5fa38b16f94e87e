use Rattle.br_catalog_files.proofs.catalogue_files.close.Goals as goal

pub returns-in-Ok : goal.returns-in-Ok
returns-in-Ok c = (c.in-Ok.files, c.in-Ok.ensures.folded)
