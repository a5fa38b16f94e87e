use Rattle.std.proofs.Common.{sym, ◌∙◌}
use Rattle.br_catalog_rows.proofs.SomeFilesLaws.{any_numbered, none_numbered}
use Rattle.br_catalog_rows.proofs.load.is_of_any.Goals as goal

pub returns-in-Some : goal.returns-in-Some
returns-in-Some c = c.has_number.ensures ∙ sym (any_numbered c.args.jobs.now c.args.row.now c.in-Some.number (sym c.number_at.ensures ∙ c.in-Some.is))

pub returns-in-None : goal.returns-in-None
returns-in-None c = sym (none_numbered c.args.jobs.now c.args.row.now (sym c.number_at.ensures ∙ c.in-None.is))
