use Rattle.br_catalog_rows.proofs.ReadLaws.{job_ok, span_ok, file_ok}
use Rattle.br_catalog_rows.proofs.laws.rows_read_back.Goals as goal

pub returns-clause-job : goal.returns-clause-job
returns-clause-job c j is = job_ok j is

pub returns-clause-span : goal.returns-clause-span
returns-clause-span c job s volume first last start end vol_index =
    span_ok job s (record { volume = volume; first = first; last = last; start = start; end = end; vol_index = vol_index })

pub returns-clause-file : goal.returns-clause-file
returns-clause-file c job f index path lstat digest = file_ok job f index path lstat digest
