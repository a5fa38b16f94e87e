use Rattle.br_catalog_rows.proofs.InsertedLaws.{reached, tried_load}
use Rattle.br_catalog_rows.proofs.laws.inserted_jobs_load.Goals as goal

pub returns-clause-loads : goal.returns-clause-loads
returns-clause-loads c tries rows h = tried_load tries rows h

pub returns-clause-apart : goal.returns-clause-apart
returns-clause-apart c tries rows h = (reached tries rows h).2
