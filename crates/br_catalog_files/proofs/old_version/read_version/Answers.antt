use Rattle.std.proofs.Common.{rules, ◌≡◌, ℤ, pos, SFits, w64, List, [], ◌∷◌, sym, ap, subst, ◌∙◌}
use Rattle.std.proofs.lemmas.Int.{to_z-of_z}
use Rattle.sqlite.specs.declared.types.Value.TheVariants.{Int}
use Rattle.sqlite.specs.Order.{Row}
use Rattle.br_catalog_files.specs.MigrationSteps.{GoesOn}
use Rattle.br_catalog_files.proofs.StepLaws.{clean_before, no_row, only_row, some_row}
use Rattle.br_catalog_files.proofs.old_version.read_version.Goals as goal
use Rattle.std.proofs.lemmas.Result.{err_from_is_err_and}
use Rattle.br_catalog_files.specs.Moved.{version_rows}
use Rattle.sqlite_exec.specs.Loops.{left_of}

pub returns-clause-version : goal.returns-clause-version
returns-clause-version g c = λ clean.
    let v1 = g.S.Store.view c.start.new.store in
    let v2 = g.S.Store.view c.step.new.store in
    let v3 = g.S.Store.view c.step-2.new.store in
    let clean2 = clean_before c.step-2.ensures.kept clean in
    let clean1 = clean_before c.step.ensures.kept clean2 in
    let fits : SFits w64 c.in_ok-id.id = search rules in
    let one = subst (GoesOn v1 v2 c.step.new.row) c.if-not-branch.false (c.in_ok-step.ensures.goes_on clean2) in
    let two = subst (GoesOn v2 v3 c.step-2.new.row) c.if-branch.false (c.in_ok-step-2.ensures.goes_on clean) in
    (only_row (g.S.Store.view c.args.store.now) v1 v2 v3 c.args.tree c.step.new.row c.step-2.new.row (c.in_ok-start.ensures.starts clean1) one two).1
    ∙ ap (λ (r : Row). r ∷ []) c.in_ok-id.ensures.version ∙ ap (λ (z : ℤ). (Int z ∷ Int (pos 1) ∷ []) ∷ []) (sym (to_z-of_z w64 c.in_ok-id.id fits))

pub returns-in_err-id-clause-other : goal.returns-in_err-id-clause-other
returns-in_err-id-clause-other g c = λ clean id is.
    let v1 = g.S.Store.view c.start.new.store in
    let v2 = g.S.Store.view c.step.new.store in
    let clean2 = clean_before c.step-2.ensures.kept clean in
    let clean1 = clean_before c.step.ensures.kept clean2 in
    let row = c.step.new.row in
    let one = subst (GoesOn v1 v2 row) c.if-not-branch.false (c.in_ok-step.ensures.goes_on clean2) in
    let rows : version_rows id 1 ≡ row ∷ left_of v2 0 = sym is ∙ some_row (g.S.Store.view c.args.store.now) v1 v2 c.args.tree row (c.in_ok-start.ensures.starts clean1) one in
    let same : row ≡ Int id ∷ Int (pos 1) ∷ [] = cc in
    let p = err_from_is_err_and c.from_residual-in_err-id.result c.from_residual-in_err-id.ensures.1 in
    rw (p.1, p.2) (c.in_err-id.ensures.other id same)

pub returns-then-not-branch-clause-other : goal.returns-then-not-branch-clause-other
returns-then-not-branch-clause-other g c = λ clean id is.
    let v1 = g.S.Store.view c.start.new.store in
    let v2 = g.S.Store.view c.step.new.store in
    let clean1 = clean_before c.step.ensures.kept clean in
    let one = subst (GoesOn v1 v2 c.step.new.row) c.if-not-branch.true (c.in_ok-step.ensures.goes_on clean) in
    absurd (let none : version_rows id 1 ≡ [] = sym is ∙ no_row (g.S.Store.view c.args.store.now) v1 v2 c.args.tree c.step.new.row (c.in_ok-start.ensures.starts clean1) one in cc)

pub returns-then-branch-clause-other : goal.returns-then-branch-clause-other
returns-then-branch-clause-other g c = λ clean id is.
    let v1 = g.S.Store.view c.start.new.store in
    let v2 = g.S.Store.view c.step.new.store in
    let v3 = g.S.Store.view c.step-2.new.store in
    let clean2 = clean_before c.step-2.ensures.kept clean in
    let clean1 = clean_before c.step.ensures.kept clean2 in
    let row = c.step.new.row in
    let one = subst (GoesOn v1 v2 row) c.if-not-branch.false (c.in_ok-step.ensures.goes_on clean2) in
    let two = subst (GoesOn v2 v3 c.step-2.new.row) c.if-branch.true (c.in_ok-step-2.ensures.goes_on clean) in
    absurd (let rows : version_rows id 1 ≡ row ∷ c.step-2.new.row ∷ left_of v3 0 = sym is ∙ some_row (g.S.Store.view c.args.store.now) v1 v2 c.args.tree row (c.in_ok-start.ensures.starts clean1) one ∙ ap (λ (l : List Row). row ∷ l) two.gives in cc)
