use Rattle.std.proofs.Common.{◌≡◌, List, Ok, ap, sym, ◌∙◌}
use Rattle.std.proofs.lemmas.Result.{IfOk-weaker, err_from_is_err_and}
use Rattle.br_model.specs.Block.{Fragment}
use Rattle.br_model.specs.Restored.{fragments_for, outcome_of}
use Rattle.br_join.specs.Outcome.{shown}
use Rattle.br_records.specs.Runs.{listed}
use Rattle.br_records.proofs.FilesLaws.{fragments_in_run}
use Rattle.br_reread_files.proofs.AgainLaws.{changed_on_err, same_file}
use Rattle.br_reread_files.proofs.GivenLaws.{fault_again, given_run}
use Rattle.br_reread_files.proofs.files_once_more.item_once_more.Goals as goal

pub returns-in_err-outcome-clause-changed : goal.returns-in_err-outcome-clause-changed
returns-in_err-outcome-clause-changed g c =
    let p = err_from_is_err_and c.from_residual.result c.from_residual.ensures.1 in
    rw (p.1, p.2)
    (λ is given makes.
    c.in_err-outcome.ensures.changed (fault_again _ _ is)
    (given_run _ c.args.hits.now c.around.result.0.now c.around.result.1.now c.around.result.2.now c.around.ensures.joined given))

pub returns-clause-same : goal.returns-clause-same
returns-clause-same g c =
    let key = c.args.key in
    let hits = c.args.hits.now in
    let before = c.around.result.0.now in
    let run = c.around.result.1.now in
    let behind = c.around.result.2.now in
    let around = c.around.ensures in
    let of_run : fragments_for key (listed hits) ≡ _ = fragments_in_run key hits before run behind around.joined around.before around.of_key around.after in
    IfOk-weaker c.file_like.result _ _
    (λ made shows given is.
    same_file made c.args.item.now
    (sym shows ∙ c.in_ok-outcome.ensures.made (given_run _ hits before run behind around.joined given)
    ∙ ap (λ (fs : List Fragment). outcome_of key fs) (sym of_run) ∙ is))
    c.file_like.ensures.same

pub returns-clause-changed : goal.returns-clause-changed
returns-clause-changed g c = λ fails given is.
    let key = c.args.key in
    let hits = c.args.hits.now in
    let before = c.around.result.0.now in
    let run = c.around.result.1.now in
    let behind = c.around.result.2.now in
    let around = c.around.ensures in
    let of_run : fragments_for key (listed hits) ≡ _ = fragments_in_run key hits before run behind around.joined around.before around.of_key around.after in
    changed_on_err c.file_like.result _ _ fails c.file_like.ensures.changed
    (c.in_ok-outcome.ensures.made (given_run _ hits before run behind around.joined given) ∙ ap (λ (fs : List Fragment). outcome_of key fs) (sym of_run) ∙ is)

pub returns-clause-failed : goal.returns-clause-failed
returns-clause-failed g c = λ is. absurd (c.file_like.ensures.never is)
