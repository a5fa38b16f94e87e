-- What is wrong with the rows of a catalogue, in words.
use Rattle.std.specs.Prelude.{ℕ, List, ◌++◌, codes, decimal}
use Rattle.br_catalog_rows.specs.declared.wrong_rows.Table.{Table}
use Rattle.br_catalog_rows.specs.declared.wrong_rows.Table.TheVariants as table
use Rattle.br_catalog_rows.specs.declared.wrong_rows.WrongRows.{WrongRows}
use Rattle.br_catalog_rows.specs.declared.wrong_rows.WrongRows.TheVariants as wrong

-- the name of a table
abbrev pub table_name : Table → List ℕ
table_name table.Job = codes "Job"
table_name table.JobMedia = codes "JobMedia"
table_name table.File = codes "File"

-- the place of a row
abbrev pub row_text : Table → ℕ → List ℕ
row_text t row = codes "row " ++ decimal row ++ codes " of " ++ table_name t ++ codes ", in order of " ++ table_name t ++ codes "Id: "

-- the words before the number of a job, and after it
unfoldable pub job_words : List ℕ
job_words = codes "rows of job "

unfoldable pub clash_words : List ℕ
clash_words = codes " contradict each other"

-- a job whose rows do not fit together
abbrev pub job_text : ℕ → List ℕ
job_text id = job_words ++ decimal id ++ clash_words

-- what is wrong
unfoldable pub wrong_text : WrongRows → List ℕ
wrong_text (wrong.Column t row name) = row_text t row ++ name.now ++ codes " cannot be read"
wrong_text (wrong.Jobless t row) = row_text t row ++ codes "JobId is that of no job"
wrong_text (wrong.Job id) = job_text id
wrong_text wrong.Contradiction = codes "the rows contradict each other"
