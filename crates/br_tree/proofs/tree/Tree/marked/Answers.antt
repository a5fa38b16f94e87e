use Rattle.std.proofs.Common.{map, ap, ◌∙◌}
use Rattle.br_tree.specs.Marking.{Marking}
use Rattle.br_tree.specs.Walk.{Pair}
use Rattle.br_tree.specs.Lists.{kept}
use Rattle.br_tree.proofs.ListsLaws.{ok_to, pairs_are_paths}
use Rattle.br_tree.proofs.tree.Tree.marked.Goals as goal

pub returns : goal.returns
returns c =
    let view = c.self.inside.shown in
    let xs = c.rows.result.now in
    let fs = c.self.inside.is_marked in
    ok_to _ _ c.paths_of.result
    (λ paths h. h ∙ ap (map (λ (p : Pair). p.0.now)) (c.deref.ensures.value ∙ c.in_ok-pairs.ensures ∙ ap (kept xs) c.as_slice.ensures)
    ∙ pairs_are_paths view xs fs c.rows.ensures.same c.rows.ensures.paths c.rows.ensures.rising c.self.invariant.1 ∙ ap (λ (m : Marking). m.marked) c.self.view_is)
    c.paths_of.ensures
