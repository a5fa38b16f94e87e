use Rattle.std.proofs.Common.{List, ap, sym, subst, ◌∙◌}
use Rattle.std.proofs.lemmas.Result.{err_from_is_err_and}
use Rattle.br_model.specs.Answer.{IsRefusal}
use Rattle.br_model.specs.Job.{JobRow, Span, checked_rows}
use Rattle.br_model.specs.Session.{Written}
use Rattle.br_history.specs.Fault.{cause}
use Rattle.br_history.specs.Preparing.{job_rows}
use Rattle.br_history.proofs.PreparingLaws.{has_session, in_range, refused_rows}
use Rattle.br_history.proofs.session.session_of.Goals as goal

pub returns-in_err-rows : goal.returns-in_err-rows
returns-in_err-rows c =
    let p = err_from_is_err_and c.from_residual-in_err-rows.result c.from_residual-in_err-rows.ensures.1 in
    let job = c.args.job.now in
    let why = c.in_err-rows.field-0.0 in
    let key = ap (λ (r : JobRow). r.session) (c.behind-job.view_is ∙ c.row.ensures.same) in
    let is = in_range job c.behind-job.inside.session key c.row.ensures.valid c.are_32_bits.ensures.id c.are_32_bits.ensures.time in
    let spans = c.deref.ensures.value ∙ ap (λ (w : Written). w.spans) c.blocks-2.view_is in
    let refused = subst (λ (ss : List Span). IsRefusal (cause why) (checked_rows (job_rows job ss))) spans c.in_err-rows.ensures.answers in
    rw (p.1, p.2) (refused_rows job c.args.starts.now c.in_ok-blocks.field-0 why is c.in_ok-blocks.ensures refused c.in_err-rows.ensures.refused)

pub returns : goal.returns
returns c =
    let job = c.args.job.now in
    let key = ap (λ (r : JobRow). r.session) (c.behind-job.view_is ∙ c.row.ensures.same) in
    let is = in_range job c.behind-job.inside.session key c.row.ensures.valid c.are_32_bits.ensures.id c.are_32_bits.ensures.time in
    let spans = c.deref.ensures.value ∙ ap (λ (w : Written). w.spans) c.blocks-2.view_is in
    let made = ap (λ (ss : List Span). checked_rows (job_rows job ss)) (sym spans) ∙ c.in_ok-rows.ensures.answers in
    has_session job c.args.starts.now c.in_ok-blocks.field-0 c.in_ok-rows.rows _ is c.in_ok-blocks.ensures made c.in_ok-rows.ensures.job (ap (λ (w : Written). w.blocks) c.blocks-2.view_is)
