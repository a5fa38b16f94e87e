use Rattle.std.proofs.Common.{ℕ, List, Err, ap, sym, subst, ◌∙◌}
use Rattle.std.proofs.lemmas.Result.{err_from_is_err_and}
use Rattle.br_model.specs.Job.{JobRows}
use Rattle.br_history.specs.Preparing.{HasSession, MakesSession, seen}
use Rattle.br_history.specs.Taken.{admitted}
use Rattle.br_keeper.specs.Vouching.{starts_of}
use Rattle.br_keeper.proofs.PreparingLaws.{refused_row, refused_session}
use Rattle.br_keeper.proofs.prepared.prepare.Goals as goal

pub returns-in_err-check : goal.returns-in_err-check
returns-in_err-check c =
    let p = err_from_is_err_and c.from_residual.result c.from_residual.ensures.1 in
    rw (p.1, p.2)
    (refused_row c.args.vouches.now c.args.history.now c.args.job.now c.in_err-check.field-0.0
    (ap (admitted c.args.history.now) (sym c.row.ensures.same) ∙ c.in_err-check.ensures))

pub returns-in_err-rows : goal.returns-in_err-rows
returns-in_err-rows c =
    let p = err_from_is_err_and c.from_residual-in_err-rows.result c.from_residual-in_err-rows.ensures.1 in
    let v = c.args.vouches.now in
    let history = c.args.history.now in
    let job = c.args.job.now in
    let starts =
    c.deref.ensures.value ∙ c.in_ok-starts.ensures ∙ ap (λ (js : List JobRows). starts_of v js c.places.result.now) c.jobs.ensures.same ∙ ap (starts_of v history) c.places.ensures.same in
    rw (p.1, p.2)
    (refused_session v history job c.in_err-rows.field-0.0 (ap (admitted history) (sym c.row.ensures.same) ∙ c.in_ok-check.ensures)
    (subst (λ (s : List (List ℕ × ℕ)). MakesSession job s (Err c.in_err-rows.field-0.0)) starts c.in_err-rows.ensures))

pub returns : goal.returns
returns c =
    let v = c.args.vouches.now in
    let history = c.args.history.now in
    let job = c.args.job.now in
    let are = c.in_ok-starts.ensures ∙ ap (λ (js : List JobRows). starts_of v js c.places.result.now) c.jobs.ensures.same ∙ ap (starts_of v history) c.places.ensures.same in
    record {
      admits = ap (admitted history) (sym c.row.ensures.same) ∙ c.in_ok-check.ensures;
      starts_are = are;
      session = subst (λ (s : List (List ℕ × ℕ)). HasSession job s c.in_ok-rows.rows (seen c.in_ok-rows.blocks.items)) (c.deref.ensures.value ∙ are) c.in_ok-rows.ensures;
    }
