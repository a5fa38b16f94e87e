use Rattle.std.proofs.Common.{ap, ◌∙◌}
use Rattle.br_model.specs.Job.{FileRow}
use Rattle.br_view.proofs.RowLaws.{no_size, no_link}
use Rattle.br_view.proofs.entry.numbers_of.Goals as goal

pub returns-in-Err-clause-size : goal.returns-in-Err-clause-size
returns-in-Err-clause-size c = no_size c.args.row.now _ _ (c.as_bytes.ensures.value ∙ ap (λ (f : FileRow). f.lstat) c.row.view_is) c.in-Err.ensures

pub returns-in-Err-clause-link : goal.returns-in-Err-clause-link
returns-in-Err-clause-link c = no_link c.args.row.now _ _ (c.as_bytes.ensures.value ∙ ap (λ (f : FileRow). f.lstat) c.row.view_is) c.in-Err.ensures
