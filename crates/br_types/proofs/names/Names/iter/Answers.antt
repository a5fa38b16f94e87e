use Rattle.std.proofs.Common.{ap, sym, ◌∙◌}
use Rattle.std.specs.FinMap as map
use Rattle.br_types.proofs.KeyLaws.{key_total, entries_of_sorted}
use Rattle.br_types.proofs.names.Names.iter.Goals as goal

pub returns : goal.returns
returns c =
    c.iter.ensures.rest ∙ sym (entries_of_sorted key_total c.self.inside.paths.entries c.iter.ensures.ordered) ∙ ap map.entries c.self.view_is
