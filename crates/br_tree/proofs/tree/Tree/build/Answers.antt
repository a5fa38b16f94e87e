use Rattle.std.proofs.Common.{rules, ℕ, false, List, length, ap, ◌∙◌}
use Rattle.std.proofs.lemmas.List.{length-replicate}
use Rattle.br_model.specs.View.{view_paths}
use Rattle.br_tree.specs.Marking.{Marking}
use Rattle.br_tree.proofs.SetLaws.{no_marks}
use Rattle.br_tree.proofs.MarkLaws.{seen}
use Rattle.br_tree.proofs.tree.Tree.build.Goals as goal

pub returns : goal.returns
returns c =
    let marking : List (List ℕ) → Marking = λ zs. record { view = c.args.view; marked = zs } in
    ap (λ fs. seen c.args.view fs) c.in_ok-is_marked.ensures ∙ ap marking (no_marks (view_paths c.args.view) c.len.result)

pub invariant_of-result : goal.invariant_of-result
invariant_of-result c = (search rules, ap length c.in_ok-is_marked.ensures ∙ length-replicate c.len.result false ∙ c.len.ensures)
