use Rattle.std.proofs.Common.{◌≡◌, List, Ok, Option, map, subst}
use Rattle.std.specs.Prelude.{IfErr, IfOk, option_map}
use Rattle.std.proofs.lemmas.Result.{err_from_is_err_and}
use Rattle.br_model.specs.Bootstrap.{Group}
use Rattle.br_model.specs.Restored.{Names, files, planned_in}
use Rattle.br_join.specs.Outcome.{restored}
use Rattle.br_engine.specs.DeliveredAgain.{CanGive, CanReread, ChangedJoined, MadeOver}
use Rattle.br_engine.specs.declared.made.MadeFiles.{MadeFiles}
use Rattle.br_engine.proofs.AgainLaws.{fails_later, made_changed, made_files, made_gives, stay_on}
use Rattle.br_engine.proofs.ExtractLaws.{gives_files, gives_refused}
use Rattle.br_engine.proofs.JoinLaws.{files_of_hits, no_files_of}
use Rattle.br_engine.proofs.made.restore_within.Goals as goal

pub returns-in_err-joiner-clause-files : goal.returns-in_err-joiner-clause-files
returns-in_err-joiner-clause-files g c =
    let p = err_from_is_err_and c.from_residual.result c.from_residual.ensures.1 in
    let earlier = map g.D.Drive.shows c.args.drives.now.items in
    let later = map g.D.Drive.shows c.join_all.new.drives.items in
    let groups = c.args.bootstrap.now in
    let names = option_map planned_in c.args.names in
    rw (p.1, p.2) (gives_refused earlier later groups names c.in_err-joiner.field-0.0 (no_files_of earlier later groups names c.in_err-joiner.field-0.0 c.in_err-joiner.ensures.hits))

-- ---- all data are held

pub returns-then-holds_all-clause-files : goal.returns-then-holds_all-clause-files
returns-then-holds_all-clause-files g c =
    let earlier = map g.D.Drive.shows c.args.drives.now.items in
    let later = map g.D.Drive.shows c.join_all.new.drives.items in
    let groups = c.args.bootstrap.now in
    let names = option_map planned_in c.args.names in
    let os = c.in_ok-outcomes.outcomes in
    let hits = c.in_ok-joiner.joiner.hits in
    gives_files earlier later groups names os
    (files_of_hits earlier later groups names hits (Ok os) c.in_ok-joiner.ensures.hits
    (subst (λ (n : Option Names). map restored os.items ≡ files hits (option_map planned_in n)) c.in_ok-joiner.ensures.names c.in_ok-outcomes.ensures.files) tt)

-- ---- data are read again

pub returns-clause-files : goal.returns-clause-files
returns-clause-files g c =
    let shows = g.D.Drive.shows in
    let failures = g.D.Drive.failures in
    let second = c.join_all.new.drives.items in
    let joining = c.in_ok-joiner.joiner in
    made_files shows failures c.hits_stand.ensures c.standing_stays.ensures c.args.bootstrap.now c.args.drives.now.items second c.made_of.new.drives.items
    c.in_ok-joiner.ensures.places c.made_of.ensures.places joining c.in_ok-joiner.ensures.hits c.args.names c.made_of.result c.in_ok-joiner.ensures.names
    (subst (λ (gs : List Group). IfOk c.made_of.result (MadeOver (CanReread shows failures second gs joining.hits) joining)) c.groups.ensures.same c.made_of.ensures.made)
    c.made_of.ensures.free

pub returns-clause-again : goal.returns-clause-again
returns-clause-again g c =
    let shows = g.D.Drive.shows in
    let failures = g.D.Drive.failures in
    let second = c.join_all.new.drives.items in
    let third = c.made_of.new.drives.items in
    let joining = c.in_ok-joiner.joiner in
    made_gives shows failures c.hits_stand.ensures c.standing_stays.ensures c.args.bootstrap.now c.args.drives.now.items second third
    c.in_ok-joiner.ensures.places c.made_of.ensures.places joining c.in_ok-joiner.ensures.hits c.made_of.result
    (subst
    (λ (gs : List Group). IfOk c.made_of.result
    (λ (m : MadeFiles). CanReread shows failures second gs joining.hits → CanGive shows failures third gs m.gathered (map restored m.outcomes.items)))
    c.groups.ensures.same c.made_of.ensures.again)

pub returns-clause-places : goal.returns-clause-places
returns-clause-places g c =
    stay_on g.D.Drive.shows g.D.Drive.failures c.args.drives.now.items c.join_all.new.drives.items c.made_of.new.drives.items c.in_ok-joiner.ensures.places
    c.made_of.ensures.places

pub returns-clause-failed : goal.returns-clause-failed
returns-clause-failed g c =
    fails_later g.D.Drive.shows g.D.Drive.failures c.args.drives.now.items c.join_all.new.drives.items c.made_of.new.drives.items c.made_of.result
    c.in_ok-joiner.ensures.places c.made_of.ensures.failed

pub returns-clause-changed : goal.returns-clause-changed
returns-clause-changed g c =
    let shows = g.D.Drive.shows in
    let failures = g.D.Drive.failures in
    let second = c.join_all.new.drives.items in
    let joining = c.in_ok-joiner.joiner in
    made_changed shows failures c.hits_stand.ensures c.standing_stays.ensures c.args.bootstrap.now c.args.drives.now.items second c.made_of.new.drives.items
    c.in_ok-joiner.ensures.places c.made_of.ensures.places joining c.in_ok-joiner.ensures.hits c.made_of.result
    (subst (λ (gs : List Group). IfErr c.made_of.result (ChangedJoined shows failures second gs joining)) c.groups.ensures.same c.made_of.ensures.changed)
