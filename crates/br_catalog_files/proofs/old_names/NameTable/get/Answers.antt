use Rattle.std.proofs.Common.{w64, ◌∙◌}
use Rattle.std.proofs.lemmas.Int.{to_z-of_z}
use Rattle.br_catalog_files.proofs.NameLaws.{named_at}
use Rattle.br_catalog_files.proofs.old_names.NameTable.get.Goals as goal

pub returns-clause-name : goal.returns-clause-name
returns-clause-name c = λ rows are up.
    c.get.ensures ∙ named_at rows c.args.self.now.ids.items c.args.self.now.names c.in_ok-at.at c.args.id are.ids are.names up (λ d. c.in_ok-at.ensures.found d ∙ to_z-of_z w64 c.args.id c.ranges.id)
