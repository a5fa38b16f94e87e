use Rattle.std.proofs.Common.{◌≡◌, Vec, Err, Some, map, sym, ap, subst, ◌∙◌}
use Rattle.std.specs.Global.{Global}
use Rattle.std.proofs.lemmas.Result.{err_from_is_err_and}
use Rattle.br_join.specs.Outcome.{restored}
use Rattle.br_records.specs.Runs.{AreListed}
use Rattle.br_pool.proofs.WorkedLaws.{all_kept}
use Rattle.br_data.specs.ManyDrives.{driven_by}
use Rattle.br_reread_files.specs.Gathered.{Gathered}
use Rattle.br_engine.specs.DeliveredAgain.{CanGive}
use Rattle.br_engine.proofs.AgainLaws.{can_give, fail_driven, files_made, made_again, only_changed, only_failed, stay_driven}
use Rattle.br_engine.proofs.made.made_of.Goals as goal

pub returns-in_err-gathered-clause-places : goal.returns-in_err-gathered-clause-places
returns-in_err-gathered-clause-places g c = all_kept g.D.Drive.shows g.D.Drive.failures c.args.drives.now.items

-- ---- the files were not made

pub returns-in_err-outcomes-clause-places : goal.returns-in_err-outcomes-clause-places
returns-in_err-outcomes-clause-places g c =
    let shows = g.D.Drive.shows in
    let failures = g.D.Drive.failures in
    let m = c.new-many.result in
    let n = c.files-files.new.many in
    let e : m.drives ≡ driven_by shows failures c.args.drives.now.items =
    c.new-many.ensures.drives ∙ ap (λ (v : Vec g.row.D.Denot Global). driven_by shows failures v.items) c.replace-taken.ensures.value in
    let f : driven_by shows failures c.replace-none.new.dest.items ≡ n.drives =
    ap (λ (v : Vec g.row.D.Denot Global). driven_by shows failures v.items) c.replace-none.ensures.after ∙ c.into_drives.ensures in
    stay_driven shows failures m n c.args.drives.now.items c.replace-none.new.dest.items e f c.files-files.ensures.on

pub returns-in_err-outcomes-clause-failed : goal.returns-in_err-outcomes-clause-failed
returns-in_err-outcomes-clause-failed g c =
    let shows = g.D.Drive.shows in
    let failures = g.D.Drive.failures in
    let m = c.new-many.result in
    let n = c.files-files.new.many in
    let e : m.drives ≡ driven_by shows failures c.args.drives.now.items =
    c.new-many.ensures.drives ∙ ap (λ (v : Vec g.row.D.Denot Global). driven_by shows failures v.items) c.replace-taken.ensures.value in
    let f : driven_by shows failures c.replace-none.new.dest.items ≡ n.drives =
    ap (λ (v : Vec g.row.D.Denot Global). driven_by shows failures v.items) c.replace-none.ensures.after ∙ c.into_drives.ensures in
    let p = err_from_is_err_and c.from_residual-in_err-outcomes.result c.from_residual-in_err-outcomes.ensures.1 in
    rw p.1
    (λ is. fail_driven shows failures m n c.args.drives.now.items c.replace-none.new.dest.items e f
    (c.in_err-outcomes.ensures.failed (ap Err (only_failed c.in_err-outcomes.field-0.0 p.0 p.2 is))))

pub returns-in_err-outcomes-clause-changed : goal.returns-in_err-outcomes-clause-changed
returns-in_err-outcomes-clause-changed g c =
    let shows = g.D.Drive.shows in
    let failures = g.D.Drive.failures in
    let m = c.new-many.result in
    let gathered = c.in_ok-gathered.gathered in
    let ds = driven_by shows failures c.args.drives.now.items in
    let e : m.drives ≡ ds = c.new-many.ensures.drives ∙ ap (λ (v : Vec g.row.D.Denot Global). driven_by shows failures v.items) c.replace-taken.ensures.value in
    let listed : AreListed gathered.hits = subst (λ (v : Gathered). AreListed v.hits) c.gathered.view_is c.gathered.invariant.0 in
    let p = err_from_is_err_and c.from_residual-in_err-outcomes.result c.from_residual-in_err-outcomes.ensures.1 in
    rw p.1
    (λ is can.
    c.in_err-outcomes.ensures.changed (ap Err (only_changed c.in_err-outcomes.field-0.0 p.0 p.2 is))
    (can_give m gathered c.args.joiner.hits ds c.args.groups.now c.in_ok-gathered.ensures.hits listed e c.new-many.ensures.groups can))

-- ---- they were made

pub returns-clause-made : goal.returns-clause-made
returns-clause-made g c = λ given.
    let shows = g.D.Drive.shows in
    let failures = g.D.Drive.failures in
    let m = c.new-many.result in
    let n = c.files-files.new.many in
    let e : m.drives ≡ driven_by shows failures c.args.drives.now.items =
    c.new-many.ensures.drives ∙ ap (λ (v : Vec g.row.D.Denot Global). driven_by shows failures v.items) c.replace-taken.ensures.value in
    let f : driven_by shows failures c.replace-none.new.dest.items ≡ n.drives =
    ap (λ (v : Vec g.row.D.Denot Global). driven_by shows failures v.items) c.replace-none.ensures.after ∙ c.into_drives.ensures in
    let listed : AreListed c.in_ok-gathered.gathered.hits = subst (λ (v : Gathered). AreListed v.hits) c.gathered.view_is c.gathered.invariant.0 in
    files_made m c.in_ok-gathered.gathered c.args.joiner.hits c.args.joiner.names (map restored c.in_ok-outcomes.outcomes.items) (driven_by shows failures c.args.drives.now.items)
    c.args.groups.now c.in_ok-gathered.ensures.hits c.in_ok-gathered.ensures.names listed e c.new-many.ensures.groups c.in_ok-outcomes.ensures.files given

pub returns-clause-again : goal.returns-clause-again
returns-clause-again g c = λ given.
    let shows = g.D.Drive.shows in
    let failures = g.D.Drive.failures in
    let m = c.new-many.result in
    let n = c.files-files.new.many in
    let e : m.drives ≡ driven_by shows failures c.args.drives.now.items =
    c.new-many.ensures.drives ∙ ap (λ (v : Vec g.row.D.Denot Global). driven_by shows failures v.items) c.replace-taken.ensures.value in
    let f : driven_by shows failures c.replace-none.new.dest.items ≡ n.drives =
    ap (λ (v : Vec g.row.D.Denot Global). driven_by shows failures v.items) c.replace-none.ensures.after ∙ c.into_drives.ensures in
    let listed : AreListed c.in_ok-gathered.gathered.hits = subst (λ (v : Gathered). AreListed v.hits) c.gathered.view_is c.gathered.invariant.0 in
    subst (λ (v : Gathered). CanGive shows failures c.replace-none.new.dest.items c.args.groups.now (Some v) (map restored c.in_ok-outcomes.outcomes.items)) (sym c.lighter.ensures)
    (made_again m c.in_ok-gathered.gathered c.args.joiner.hits c.args.joiner.names (map restored c.in_ok-outcomes.outcomes.items) (driven_by shows failures c.args.drives.now.items)
    c.args.groups.now c.in_ok-gathered.ensures.hits c.in_ok-gathered.ensures.names listed e c.new-many.ensures.groups c.in_ok-outcomes.ensures.files given
    c.standing_stays.ensures n (driven_by shows failures c.replace-none.new.dest.items) c.files-files.ensures.on f)

pub returns-clause-places : goal.returns-clause-places
returns-clause-places g c =
    let shows = g.D.Drive.shows in
    let failures = g.D.Drive.failures in
    let m = c.new-many.result in
    let n = c.files-files.new.many in
    let e : m.drives ≡ driven_by shows failures c.args.drives.now.items =
    c.new-many.ensures.drives ∙ ap (λ (v : Vec g.row.D.Denot Global). driven_by shows failures v.items) c.replace-taken.ensures.value in
    let f : driven_by shows failures c.replace-none.new.dest.items ≡ n.drives =
    ap (λ (v : Vec g.row.D.Denot Global). driven_by shows failures v.items) c.replace-none.ensures.after ∙ c.into_drives.ensures in
    stay_driven shows failures m n c.args.drives.now.items c.replace-none.new.dest.items e f c.files-files.ensures.on
