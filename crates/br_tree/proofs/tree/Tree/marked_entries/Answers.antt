use Rattle.std.proofs.Common.{map, ap, ◌∙◌}
use Rattle.br_view.specs.Shown.{shown_pair}
use Rattle.br_tree.specs.Marking.{Marking, marked_entries}
use Rattle.br_tree.specs.Walk.{Pair}
use Rattle.br_tree.specs.Lists.{kept}
use Rattle.br_tree.proofs.ListsLaws.{ok_to, pairs_are_paths, pairs_are_entries}
use Rattle.br_tree.proofs.tree.Tree.marked_entries.Goals as goal

pub returns-clause-entries : goal.returns-clause-entries
returns-clause-entries c =
    let view = c.self.inside.shown in
    let xs = c.rows.result.now in
    let fs = c.self.inside.is_marked in
    ok_to _ _ c.flagged_pairs.result
    (λ pairs h. ap (map shown_pair) (h ∙ ap (kept xs) c.as_slice.ensures)
    ∙ pairs_are_entries view xs fs c.rows.ensures.same c.rows.ensures.paths c.rows.ensures.rising c.self.invariant.1 ∙ ap (λ (m : Marking). marked_entries m) c.self.view_is)
    c.flagged_pairs.ensures

pub returns-clause-paths : goal.returns-clause-paths
returns-clause-paths c =
    let view = c.self.inside.shown in
    let xs = c.rows.result.now in
    let fs = c.self.inside.is_marked in
    ok_to _ _ c.flagged_pairs.result
    (λ pairs h. ap (map (λ (p : Pair). p.0.now)) (h ∙ ap (kept xs) c.as_slice.ensures)
    ∙ pairs_are_paths view xs fs c.rows.ensures.same c.rows.ensures.paths c.rows.ensures.rising c.self.invariant.1 ∙ ap (λ (m : Marking). m.marked) c.self.view_is)
    c.flagged_pairs.ensures
