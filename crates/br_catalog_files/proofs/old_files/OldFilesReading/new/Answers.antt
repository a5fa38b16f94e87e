use Rattle.br_catalog_files.proofs.WholeLaws.{none_whole}
use Rattle.br_catalog_files.proofs.old_files.OldFilesReading.new.Goals as goal

pub returns-clause-whole : goal.returns-clause-whole
returns-clause-whole c = none_whole c.args.jobs.now c.in_ok-no_indexes.field-0 c.in_ok-no_indexes.ensures.jobs c.in_ok-no_indexes.ensures.empty
