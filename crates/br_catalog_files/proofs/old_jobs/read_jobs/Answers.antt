use Rattle.std.proofs.Common.{List, ◌++◌, ◌∷◌, [], map, sym, ap, ap₂, subst, ◌∙◌}
use Rattle.sqlite.specs.Order.{Row}
use Rattle.br_store.specs.Held.{job_shown}
use Rattle.br_catalog_files.specs.MigrationSteps.{GoesOn}
use Rattle.br_catalog_files.proofs.NameLaws.{map_push}
use Rattle.br_catalog_files.proofs.StepLaws.{clean_before, kept_then, row_has, take_all, take_next}
use Rattle.br_catalog_files.proofs.old_jobs.read_jobs.Goals as goal
use Rattle.std.proofs.lemmas.Result.{err_from_is_err_and}
use Rattle.sqlite_rules.proofs.ListLemmas.{all_has}
use Rattle.br_catalog_files.specs.Refusals.{CanShowJob}

pub rows-preserved : goal.rows-preserved
rows-preserved g c = (
  c.in_ok-step.ensures.live,
  kept_then c.rows.invariant.1 c.step.ensures.kept,
  λ clean.
      let old = g.S.Store.view c.rows.store in
      let new = g.S.Store.view c.step.new.store in
      let row = c.step.new.row in
      let so = c.rows.invariant.2 (clean_before c.step.ensures.kept clean) in
      let on = subst (GoesOn old new row) c.if-not-branch.false (c.in_ok-step.ensures.goes_on clean) in (
        so.0 ++ row ∷ [],
        take_next (g.S.Store.view c.args.store.now) old new c.args.tree so.0 row so.1 on,
        λ cs fs clients filesets up_clients up_filesets.
            c.in_ok-keep.ensures.kept ∙ ap₂ (λ (l : List Row) (x : Row). l ++ x ∷ []) (so.2 cs fs clients filesets up_clients up_filesets) (c.in_ok-shown.ensures.shows cs fs clients filesets up_clients up_filesets) ∙ sym (map_push (job_shown cs fs) so.0 row),
      ),
)

pub returns-then-not-branch-clause-jobs : goal.returns-then-not-branch-clause-jobs
returns-then-not-branch-clause-jobs g c = λ clean cs fs clients filesets up_clients up_filesets.
    let old = g.S.Store.view c.rows.store in
    let new = g.S.Store.view c.step.new.store in
    let so = c.rows.invariant.2 (clean_before c.step.ensures.kept clean) in
    let on = subst (GoesOn old new c.step.new.row) c.if-not-branch.true (c.in_ok-step.ensures.goes_on clean) in
    let all = take_all (g.S.Store.view c.args.store.now) old new c.args.tree so.0 c.step.new.row so.1 on in
    so.2 cs fs clients filesets up_clients up_filesets ∙ ap (map (job_shown cs fs)) all.1

pub returns-in_err-shown-clause-other : goal.returns-in_err-shown-clause-other
returns-in_err-shown-clause-other g c = λ clean all.
    let start = g.S.Store.view c.args.store.now in
    let old = g.S.Store.view c.rows.store in
    let new = g.S.Store.view c.step.new.store in
    let row = c.step.new.row in
    let so = c.rows.invariant.2 (clean_before c.step.ensures.kept clean) in
    let on = subst (GoesOn old new row) c.if-not-branch.false (c.in_ok-step.ensures.goes_on clean) in
    let one = all_has (CanShowJob c.args.clients.now c.args.filesets.now) (start.trees c.args.tree) row all (row_has start old new c.args.tree so.0 row so.1 on) in
    let p = err_from_is_err_and c.from_residual-in_err-shown.result c.from_residual-in_err-shown.ensures.1 in
    rw (p.1, p.2) (c.in_err-shown.ensures.other one)
