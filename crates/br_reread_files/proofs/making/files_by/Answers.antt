use Rattle.std.proofs.Common.{◌≡◌, map, sym, ap, subst, ◌∙◌}
use Rattle.std.proofs.lemmas.Result.{IfOk-weaker}
use Rattle.br_join.specs.Runs.{file_of}
use Rattle.br_reread_files.specs.FileHits.{FitFronts}
use Rattle.br_reread_files.specs.Runs.{GivesRuns}
use Rattle.br_reread_files.proofs.FileHitsLaws.{fit_fronts}
use Rattle.br_reread_files.proofs.RunLaws.{given_runs}
use Rattle.br_reread_files.proofs.making.files_by.Goals as goal

pub with_fronts-requires : goal.with_fronts-requires
with_fronts-requires g c =
    subst (FitFronts c.args.fronts.now) (sym c.deref.ensures.value)
    (fit_fronts c.args.fronts.now c.args.hits.now c.in_ok-runs.runs.items c.requires.fronts c.in_ok-runs.ensures.whole)

pub returns-clause-files : goal.returns-clause-files
returns-clause-files g c =
    let runs = c.in_ok-runs.runs.items in
    let same : c.deref-2.result.now ≡ runs = c.deref-2.ensures.value ∙ c.in_ok-files.ensures ∙ c.deref.ensures.value in
    IfOk-weaker c.made_of.result _ _
    (λ made files given.
    files (subst (GivesRuns c.args.many.now) (sym same) (given_runs c.args.many.now c.args.hits.now runs c.in_ok-runs.ensures.parts given))
    ∙ ap (map file_of) same ∙ c.in_ok-runs.ensures.files)
    c.made_of.ensures.files

pub returns-clause-changed : goal.returns-clause-changed
returns-clause-changed g c = λ is given.
    let same : c.deref-2.result.now ≡ c.in_ok-runs.runs.items = c.deref-2.ensures.value ∙ c.in_ok-files.ensures ∙ c.deref.ensures.value in
    c.made_of.ensures.changed is
    (subst (GivesRuns c.args.many.now) (sym same) (given_runs c.args.many.now c.args.hits.now c.in_ok-runs.runs.items c.in_ok-runs.ensures.parts given))
