use Rattle.std.proofs.lemmas.List.{append_assoc}
use Rattle.std.proofs.Common.{◌≡◌, [], ◌∷◌, ◌++◌, Err, ap, sym, subst, ◌∙◌, rules}
use Rattle.std.proofs.lemmas.Result.{err_from_is_err_and}
use Rattle.std.specs.Vec.Iter.{into_iter_items}
use Rattle.br_catalog_rows.specs.Load.{group_of, read_all, read_rows}
use Rattle.br_catalog_rows.proofs.LoadLaws.{same_refusal, read_push, read_stops}
use Rattle.br_catalog_rows.proofs.load.whole_jobs.Goals as goal

pub returns-in_err-rows_of : goal.returns-in_err-rows_of
returns-in_err-rows_of c =
    let p = err_from_is_err_and c.from_residual.result c.from_residual.ensures.1 in
    let read = read_rows (group_of c.args.spans.now) (group_of c.args.files.now) in
    let whole = ap (λ l. c.loop-job.yielded ++ l) (sym c.in-Some.ensures.steps.0) ∙ c.loop-job.invariant.1 in
    let stops = read_stops read c.loop-job.yielded (into_iter_items c.next.new.self) c.loop-job.whole.items c.in-Some.job c.loop-job.invariant.0 in
    rw (p.1, p.2)
    (same_refusal c.in_err-rows_of.field-0.0 (read c.in-Some.job) (read_all read c.args.jobs.items) (λ e. subst (λ l. read_all read l ≡ Err 47) whole (stops e)) c.in_err-rows_of.ensures)

pub loop-job-preserved : goal.loop-job-preserved
loop-job-preserved c =
    let read = read_rows (group_of c.args.spans.now) (group_of c.args.files.now) in
    let whole = ap (λ l. c.loop-job.yielded ++ l) (sym c.in-Some.ensures.steps.0) ∙ c.loop-job.invariant.1 in
    let more = read_push read c.loop-job.yielded c.loop-job.whole.items c.in-Some.job c.in_ok-rows_of.field-0 c.loop-job.invariant.0 c.in_ok-rows_of.ensures in
    (search (rules, more), append_assoc c.loop-job.yielded (c.in-Some.job ∷ []) (into_iter_items c.next.new.self) ∙ whole)
