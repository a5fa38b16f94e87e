use Rattle.std.proofs.Common.{ap, ◌∙◌}
use Rattle.br_tree.specs.Marking.{Marking, found_paths}
use Rattle.br_tree.specs.Lists.{found_in}
use Rattle.br_tree.proofs.ListsLaws.{ok_to, found_are_paths}
use Rattle.br_tree.proofs.tree.Tree.find.Goals as goal

pub returns : goal.returns
returns c =
    let view = c.self.inside.shown in
    let xs = c.rows.result.now in
    let fs = c.self.inside.is_marked in
    ok_to _ _ c.found_pairs.result
    (λ found h. h ∙ ap (found_in c.args.pattern.now xs) c.as_slice.ensures
    ∙ found_are_paths view xs fs c.rows.ensures.same c.rows.ensures.paths c.rows.ensures.rising c.self.invariant.1 c.args.pattern.now ∙ ap (λ (m : Marking). found_paths m c.args.pattern.now) c.self.view_is)
    c.found_pairs.ensures
