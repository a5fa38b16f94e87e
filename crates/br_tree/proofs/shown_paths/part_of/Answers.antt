use Rattle.std.proofs.Common.{sym, ◌∙◌}
use Rattle.br_tree.proofs.PartLaws.{part_at, part_without}
use Rattle.br_tree.proofs.shown_paths.part_of.Goals as goal

pub returns-in-Some : goal.returns-in-Some
returns-in-Some c = part_at c.args.text.now c.in-Some.place (sym c.slash_in.ensures.place ∙ c.in-Some.is)

pub returns-in-None : goal.returns-in-None
returns-in-None c = part_without c.args.text.now (sym c.slash_in.ensures.place ∙ c.in-None.is)
