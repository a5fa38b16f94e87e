use Rattle.std.proofs.Common.{◌≡◌, map, sym, ap, subst, ◌∙◌}
use Rattle.std.proofs.lemmas.Result.{IfOk-weaker}
use Rattle.br_data.proofs.GoOnLaws.{go_more, failed_on}
use Rattle.br_join.specs.Runs.{file_of}
use Rattle.br_reread_files.specs.Runs.{GivesRuns}
use Rattle.br_reread_files.proofs.RunLaws.{runs_kept}
use Rattle.br_reread_files.proofs.sharing.made_side_by_side.Goals as goal

pub returns-clause-files : goal.returns-clause-files
returns-clause-files g c =
    let runs = c.args.runs.now in
    let same : _ ≡ runs = c.in_ok-done.ensures.runs ∙ c.in_ok-works.ensures.runs in
    IfOk-weaker c.finish_all.result _ _
    (λ made files given.
    files
    (subst (GivesRuns c.run_works.new.many) (sym same) (runs_kept c.standing_stays.ensures c.args.many.now c.run_works.new.many runs c.run_works.ensures.on given))
    (c.in_ok-done.ensures.begun (subst (GivesRuns c.args.many.now) (sym c.in_ok-works.ensures.runs) given))
    ∙ ap (map file_of) same)
    c.finish_all.ensures.files

pub returns-clause-on : goal.returns-clause-on
returns-clause-on g c = go_more c.args.many.now c.run_works.new.many c.finish_all.new.many c.run_works.ensures.on c.finish_all.ensures.on

pub returns-clause-failed : goal.returns-clause-failed
returns-clause-failed g c = λ is. failed_on c.args.many.now c.run_works.new.many c.finish_all.new.many c.run_works.ensures.on (c.finish_all.ensures.failed is)

pub returns-clause-changed : goal.returns-clause-changed
returns-clause-changed g c = λ is given.
    let runs = c.args.runs.now in
    let same : _ ≡ runs = c.in_ok-done.ensures.runs ∙ c.in_ok-works.ensures.runs in
    c.finish_all.ensures.changed is (
      subst (GivesRuns c.run_works.new.many) (sym same) (runs_kept c.standing_stays.ensures c.args.many.now c.run_works.new.many runs c.run_works.ensures.on given),
      c.in_ok-done.ensures.begun (subst (GivesRuns c.args.many.now) (sym c.in_ok-works.ensures.runs) given),
    )
