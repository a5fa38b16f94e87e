use Rattle.std.proofs.Common.{sym, ap, subst, ◌∙◌}
use Rattle.br_model.specs.View.{view_paths, IsView}
use Rattle.br_tree.proofs.RunLaws.{same_paths, seen_rise}
use Rattle.br_tree.proofs.tree.rows.Goals as goal

pub returns-clause-paths : goal.returns-clause-paths
returns-clause-paths c = sym (same_paths c.entries.result.now) ∙ ap view_paths c.entries.ensures.same

pub returns-clause-rising : goal.returns-clause-rising
returns-clause-rising c = seen_rise c.entries.result.now (subst IsView (sym c.entries.ensures.same) c.entries.ensures.ordered)
