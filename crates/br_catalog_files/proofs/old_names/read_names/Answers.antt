use Rattle.std.proofs.Common.{◌++◌, ◌∷◌, [], IsTrue, subst}
use Rattle.br_catalog_files.specs.MigrationSteps.{GoesOn}
use Rattle.br_catalog_files.proofs.StepLaws.{clean_before, kept_then, row_has, take_next}
use Rattle.br_catalog_files.proofs.old_names.read_names.Goals as goal
use Rattle.std.proofs.lemmas.Result.{err_from_is_err_and}
use Rattle.sqlite_rules.proofs.ListLemmas.{all_has}
use Rattle.sqlite.specs.Order.{Row}
use Rattle.sqlite_trees.specs.Tree.{rowid}
use Rattle.sqlite_trees.specs.View.{is_int}

pub rows-preserved : goal.rows-preserved
rows-preserved g c = (
  c.in_ok-step.ensures.live,
  kept_then c.rows.invariant.1 c.step.ensures.kept,
  λ clean.
      let old = g.S.Store.view c.rows.store in
      let new = g.S.Store.view c.step.new.store in
      let row = c.step.new.row in
      let so = c.rows.invariant.2 (clean_before c.step.ensures.kept clean) in
      let on = subst (GoesOn old new row) c.if-not-branch.false (c.in_ok-step.ensures.goes_on clean) in
      (so.0 ++ row ∷ [], take_next (g.S.Store.view c.args.store.now) old new c.args.tree so.0 row so.1 on, c.in_ok-add.ensures.names so.0 so.2),
)

pub returns-in_err-add-clause-other : goal.returns-in_err-add-clause-other
returns-in_err-add-clause-other g c = λ clean all.
    let start = g.S.Store.view c.args.store.now in
    let old = g.S.Store.view c.rows.store in
    let new = g.S.Store.view c.step.new.store in
    let row = c.step.new.row in
    let so = c.rows.invariant.2 (clean_before c.step.ensures.kept clean) in
    let on = subst (GoesOn old new row) c.if-not-branch.false (c.in_ok-step.ensures.goes_on clean) in
    let one = all_has (λ (r : Row). IsTrue (is_int (rowid r))) (start.trees c.args.tree) row all (row_has start old new c.args.tree so.0 row so.1 on) in
    let p = err_from_is_err_and c.from_residual-in_err-add.result c.from_residual-in_err-add.ensures.1 in
    rw (p.1, p.2) (c.in_err-add.ensures.other one)
