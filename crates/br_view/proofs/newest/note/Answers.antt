use Rattle.std.proofs.Common.{ap, sym, ◌∙◌}
use Rattle.br_model.specs.Job.{FileRow}
use Rattle.br_view.proofs.NewestLaws.{noted}
use Rattle.br_view.proofs.newest.note.Goals as goal

pub returns-in_ok-insert : goal.returns-in_ok-insert
returns-in_ok-insert c =
    noted c.args.kept.now c.insert.new.self c.args.job c.args.row c.bytes-path.result.now c.copied.result
    (c.bytes-path.ensures.same ∙ ap (λ (f : FileRow). f.path) c.row.view_is) (c.copied.ensures ∙ c.get.ensures.value)
    (sym c.is_news.ensures ∙ c.if-is_news.true) c.in_ok-insert.ensures.updates
