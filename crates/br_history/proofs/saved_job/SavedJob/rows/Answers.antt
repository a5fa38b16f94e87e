use Rattle.std.proofs.Common.{ℕ, ◌<◌, ◌++◌, ◌^◌, List, length, map, ap, sym, subst, ◌∙◌}
use Rattle.std.specs.List.{AllByRecursion, enumerate_from}
use Rattle.br_model.specs.Session.{ToSave, deletion_row, file_row}
use Rattle.br_model.specs.SessionHolds.{IsToSave}
use Rattle.br_history.specs.Saving.{ToCommit}
use Rattle.br_history.proofs.JobOfRowsLaws.{answers_rows, job_if_ok, or_all}
use Rattle.br_history.proofs.SavingLaws.{few_in_order}
use Rattle.br_history.proofs.saved_job.SavedJob.rows.Goals as goal

pub file_rows-requires : goal.file_rows-requires
file_rows-requires c = record {
  few = subst (λ (fs : List ToSave). length fs < 2 ^ 31) (sym c.deref.ensures.value) (few_in_order c.self.inside.files.items c.self.invariant.in_order);
}

pub returns-clause-answers : goal.returns-clause-answers
returns-clause-answers c =
    let files = c.in_ok-files.ensures.same
    ∙ ap (λ (fs : List ToSave). map file_row (enumerate_from 1 fs) ++ map deletion_row c.deref-2.result.now) c.deref.ensures.value
    ∙ ap (λ (ds : List (List ℕ)). map file_row (enumerate_from 1 c.self.inside.files.items) ++ map deletion_row ds) c.deref-2.ensures.value in
    answers_rows c.new.result c.args.self.now _ _ c.in_ok-row.row _ c.args.spans.now _ c.self.view_is c.row.view_is c.in_ok-row.ensures files c.in_ok-copied_spans.ensures c.new.ensures

pub returns-clause-job : goal.returns-clause-job
returns-clause-job c =
    let files = c.deref.ensures.value ∙ ap (λ (j : ToCommit). j.files) c.self.view_is in
    job_if_ok c.args.self.now.row c.args.self.now.files c.args.self.now.deleted c.args.spans.now c.new.result
    (subst (AllByRecursion IsToSave) files c.in_ok-files.ensures.valid) (returns-clause-answers c)

pub returns-clause-refused : goal.returns-clause-refused
returns-clause-refused c =
    let files = c.deref.ensures.value ∙ ap (λ (j : ToCommit). j.files) c.self.view_is in
    or_all c.args.self.now.files c.new.result (subst (AllByRecursion IsToSave) files c.in_ok-files.ensures.valid)
