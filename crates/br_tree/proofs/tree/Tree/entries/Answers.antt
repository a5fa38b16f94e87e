use Rattle.std.proofs.Common.{subst}
use Rattle.br_tree.specs.Marking.{IsMarking}
use Rattle.br_tree.proofs.FlagLaws.{flagged_are_marks}
use Rattle.br_tree.proofs.tree.Tree.entries.Goals as goal

pub returns-clause-valid : goal.returns-clause-valid
returns-clause-valid c = subst IsMarking c.self.view_is (flagged_are_marks c.self.inside.shown c.self.inside.is_marked c.self.invariant.0)
