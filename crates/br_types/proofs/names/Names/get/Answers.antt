use Rattle.std.proofs.Common.{ap, sym, ◌∙◌}
use Rattle.std.specs.FinMap as map
use Rattle.br_types.proofs.KeyLaws.{get_key}
use Rattle.br_types.proofs.names.Names.get.Goals as goal

pub returns : goal.returns
returns c = c.get.ensures.value ∙ sym (get_key c.self.inside.paths.entries c.args.key) ∙ ap (λ m. map.get m c.args.key) c.self.view_is
