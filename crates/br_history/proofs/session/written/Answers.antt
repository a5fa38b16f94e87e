use Rattle.std.proofs.Common.{Ok, ap, sym, subst, ◌∙◌}
use Rattle.br_model.specs.Job.{JobRow}
use Rattle.br_block.specs.Building.{IsBlockLimit}
use Rattle.br_session.specs.Outcome.{ArePlaces}
use Rattle.br_history.proofs.PreparingLaws.{comes_of}
use Rattle.br_history.proofs.session.written.Goals as goal

pub write_session-requires : goal.write_session-requires
write_session-requires c = record {
  bounds = subst IsBlockLimit (sym c.limit.ensures.same) c.limit.ensures.valid.bounds;
  places = subst ArePlaces (sym c.places.ensures.same) c.places.ensures.valid.places_are;
  some_place = λ e. c.files.ensures.same ∙ c.files.ensures.valid.some_place (sym c.places.ensures.same ∙ e);
}

pub returns-in-Ok : goal.returns-in-Ok
returns-in-Ok c =
    let key = ap (λ (r : JobRow). r.session) (c.behind-job.view_is ∙ c.row.ensures.same) in
    let is =
    comes_of c.args.job.now c.args.starts.now (Ok c.in-Ok.written) _ _ _ _ c.files.ensures.same key c.limit.ensures.same c.places.ensures.same c.in-Ok.ensures.outcome c.in-Ok.ensures.holds in
    record { is_written = is.outcome.1; holds = is.holds }
