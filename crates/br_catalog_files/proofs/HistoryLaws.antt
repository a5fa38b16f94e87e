-- The history of jobs without files.
use Rattle.std.proofs.Common.{◌≡◌, pos, List, [], ◌∷◌, Result, Ok, Err, IfOk, refl, sym, ap, ap₂, ◌∙◌}
use Rattle.sqlite.specs.declared.types.Value.TheVariants.{Int}
use Rattle.sqlite.specs.Order.{Row}
use Rattle.br_model.specs.Answer.{Answers}
use Rattle.br_model.specs.Job.{JobRows}
use Rattle.br_catalog_rows.specs.Fault.{rows_cause}
use Rattle.br_catalog_rows.specs.Load.{check_first, read_history, read_loaded}
use Rattle.br_catalog_rows.specs.Rows.{Rows}
use Rattle.br_catalog_rows.specs.declared.fault.RowsFault.{RowsFault}

-- rows with version 2 and no file
abbrev bare : List Row → List Row → Rows
bare jobs spans = record { versions = (Int (pos 2) ∷ []) ∷ []; jobs = jobs; spans = spans; files = [] }

first_is : (jobs spans : List Row) → read_history (bare jobs spans) ≡ read_loaded jobs spans []
unfolding read_history check_first
first_is jobs spans = refl

-- rows with version 2 and no file are read as those of jobs and spans
pub read_without : (rows : Rows) → rows.versions ≡ (Int (pos 2) ∷ []) ∷ [] → rows.files ≡ [] → read_history rows ≡ read_loaded rows.jobs rows.spans []
read_without rows version none =
    let is : rows ≡ bare rows.jobs rows.spans = ap₂ (λ (v f : List Row). record rows { versions = v; files = f }) version none in
    ap read_history is ∙ first_is rows.jobs rows.spans

-- a history is made of rows with version 2 and no file
pub loaded_of : (result : Result (List JobRows) RowsFault) (rows : Rows) → rows.versions ≡ (Int (pos 2) ∷ []) ∷ [] → rows.files ≡ [] → Answers (λ h. h) rows_cause result (read_history rows)
    → IfOk result (λ h. read_loaded rows.jobs rows.spans [] ≡ Ok h)
loaded_of (Err e) rows version none a = tt
loaded_of (Ok h) rows version none a = sym (read_without rows version none) ∙ a
