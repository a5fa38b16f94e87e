use Rattle.std.proofs.Common.{ap, ◌∙◌}
use Rattle.br_tree.specs.Marking.{Marking, flags_of}
use Rattle.br_tree.proofs.ListsLaws.{flags_are}
use Rattle.br_tree.proofs.tree.Tree.flags.Goals as goal

pub returns : goal.returns
returns c =
    c.as_slice.ensures ∙ flags_are c.self.inside.shown c.self.inside.is_marked c.self.invariant.0 c.self.invariant.1
    ∙ ap (λ (m : Marking). flags_of m) c.self.view_is
