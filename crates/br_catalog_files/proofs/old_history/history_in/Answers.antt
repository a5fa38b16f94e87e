use Rattle.std.proofs.Common.{rules, Ok}
use Rattle.std.proofs.lemmas.Result.{err_from_is_err_and}
use Rattle.br_catalog_files.proofs.HistoryLaws.{loaded_of}
use Rattle.br_catalog_files.proofs.RefusedLaws.{not_refused}
use Rattle.br_catalog_files.proofs.old_history.history_in.Goals as goal

pub returns-clause-jobs : goal.returns-clause-jobs
returns-clause-jobs c = loaded_of (Ok c.in_ok-history_of.field-0) _ (search rules) (search rules) c.in_ok-history_of.ensures

pub returns-in_err-history_of-clause-other : goal.returns-in_err-history_of-clause-other
returns-in_err-history_of-clause-other c = λ all read.
    let p = err_from_is_err_and c.from_residual-in_err-history_of.result c.from_residual-in_err-history_of.ensures.1 in
    rw (p.1, p.2) (not_refused c.in_err-history_of.field-0.0 _ all (search rules) (search rules) c.in_err-history_of.ensures read)
