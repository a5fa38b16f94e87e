use Rattle.std.proofs.Common.{List, ◌++◌, ◌∷◌, [], map, subst}
use Rattle.sqlite.specs.Order.{Row}
use Rattle.br_model.specs.Job.{JobRows as Job}
use Rattle.br_catalog_files.specs.OldFiles.{moved_row, shown_row}
use Rattle.br_catalog_files.specs.Sound.{AreMovedRows}
use Rattle.br_catalog_files.specs.MigrationSteps.{GoesOn}
use Rattle.br_catalog_files.specs.WholeMigration.{AreWhole}
use Rattle.br_catalog_files.proofs.MovedLaws.{moved_more}
use Rattle.br_catalog_files.proofs.StepLaws.{AreTaken, clean_before, kept_then, row_around, take_all, take_next}
use Rattle.br_catalog_files.proofs.old_files.read_files.Goals as goal
use Rattle.std.proofs.lemmas.Result.{err_from_is_err_and}
use Rattle.br_catalog_files.proofs.TakeLaws.{can_take}
use Rattle.sqlite_exec.specs.Loops.{left_of}

pub rows-init : goal.rows-init
rows-init g c = (
  c.in_ok-start.ensures.live,
  c.start.ensures.kept,
  λ clean.
      let starts = c.in_ok-start.ensures.starts clean in
      let taken : AreTaken (g.S.Store.view c.args.store.now) (g.S.Store.view c.start.new.store) c.args.tree [] = record { reads = starts.reads; left = starts.left } in
      ([], taken, c.in_ok-reading.ensures.files, λ ns names up. tt, λ ps ns paths names up_paths up_names. c.in_ok-reading.ensures.whole),
)

pub rows-preserved : goal.rows-preserved
rows-preserved g c = (
  c.in_ok-step.ensures.live,
  kept_then c.rows.invariant.1 c.step.ensures.kept,
  λ clean.
      let old = g.S.Store.view c.rows.store in
      let new = g.S.Store.view c.step.new.store in
      let row = c.step.new.row in
      let so = c.rows.invariant.2 (clean_before c.step.ensures.kept clean) in
      let on = subst (GoesOn old new row) c.if-not-branch.false (c.in_ok-step.ensures.goes_on clean) in (
        so.0 ++ row ∷ [],
        take_next (g.S.Store.view c.args.store.now) old new c.args.tree so.0 row so.1 on,
        c.in_ok-take.ensures.files so.0 so.2,
        λ ns names up. moved_more ns so.0 row (so.3 ns names up) (c.in_ok-take.ensures.moved ns names up),
        λ ps ns paths names up_paths up_names. c.in_ok-take.ensures.whole _ ps ns so.0 paths names up_paths up_names (so.4 ps ns paths names up_paths up_names),
      ),
)

pub returns-then-not-branch-clause-whole : goal.returns-then-not-branch-clause-whole
returns-then-not-branch-clause-whole g c = λ clean ps ns paths names up_paths up_names.
    let old = g.S.Store.view c.rows.store in
    let new = g.S.Store.view c.step.new.store in
    let so = c.rows.invariant.2 (clean_before c.step.ensures.kept clean) in
    let on = subst (GoesOn old new c.step.new.row) c.if-not-branch.true (c.in_ok-step.ensures.goes_on clean) in
    let all = take_all (g.S.Store.view c.args.store.now) old new c.args.tree so.0 c.step.new.row so.1 on in
    let jobs = map (λ (j : Job). j.row) c.args.jobs.now in
    (c.rows.reading.seen, subst (λ (l : List Row). AreWhole jobs c.rows.reading.seen (map (shown_row ps ns) l)) all.1 (so.4 ps ns paths names up_paths up_names))

pub returns-then-not-branch-clause-moved : goal.returns-then-not-branch-clause-moved
returns-then-not-branch-clause-moved g c = λ clean ns names up.
    let old = g.S.Store.view c.rows.store in
    let new = g.S.Store.view c.step.new.store in
    let so = c.rows.invariant.2 (clean_before c.step.ensures.kept clean) in
    let on = subst (GoesOn old new c.step.new.row) c.if-not-branch.true (c.in_ok-step.ensures.goes_on clean) in
    let all = take_all (g.S.Store.view c.args.store.now) old new c.args.tree so.0 c.step.new.row so.1 on in
    subst (λ (l : List Row). AreMovedRows l (map (moved_row ns) l)) all.1 (so.3 ns names up)

pub returns-in_err-take-clause-other : goal.returns-in_err-take-clause-other
returns-in_err-take-clause-other g c = λ clean all.
    let start = g.S.Store.view c.args.store.now in
    let old = g.S.Store.view c.rows.store in
    let new = g.S.Store.view c.step.new.store in
    let row = c.step.new.row in
    let so = c.rows.invariant.2 (clean_before c.step.ensures.kept clean) in
    let on = subst (GoesOn old new row) c.if-not-branch.false (c.in_ok-step.ensures.goes_on clean) in
    let jobs = map (λ (j : Job). j.row) c.args.jobs.now in
    let whole = so.4 all.ps all.ns all.paths_are all.names_are all.paths_sorted all.names_sorted in
    let can = can_take jobs c.args.paths.now c.args.names.now c.rows.reading.seen (start.trees c.args.tree) so.0 (left_of new 0) row all (row_around start old new c.args.tree so.0 row so.1 on) whole in
    let p = err_from_is_err_and c.from_residual-in_err-take.result c.from_residual-in_err-take.ensures.1 in
    rw (p.1, p.2) (c.in_err-take.ensures.other can)
