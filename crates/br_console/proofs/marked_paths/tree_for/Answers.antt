use Rattle.std.proofs.Common.{List, ap, map, ◌∙◌}
use Rattle.std.proofs.lemmas.Result.{err_from_is_err_and}
use Rattle.std.specs.Borrow.{Bor}
use Rattle.br_model.specs.Job.{JobRows}
use Rattle.br_model.specs.View.{view_of}
use Rattle.br_console.proofs.PathsLaws.{view_is, view_refused}
use Rattle.br_console.proofs.marked_paths.tree_for.Goals as goal

pub returns-in_err-jobs : goal.returns-in_err-jobs
returns-in_err-jobs c =
    let p = err_from_is_err_and c.from_residual.result c.from_residual.ensures.1 in
    rw (p.1, p.2) (view_refused c.args.asked.now c.in_err-jobs.field-0.0 c.in_err-jobs.ensures.answers)

pub returns : goal.returns
returns c =
    let jobs : List JobRows = map (λ (j : Bor JobRows). j.now) c.in_ok-jobs.jobs.items in
    view_is c.args.asked.now jobs c.in_ok-view.view c.in_ok-build.field-0
    c.in_ok-jobs.ensures.answers
    (c.in_ok-view.ensures ∙ ap (λ (bs : List (Bor JobRows)). view_of (map (λ (j : Bor JobRows). j.now) bs)) c.deref.ensures.value)
    c.in_ok-build.ensures
