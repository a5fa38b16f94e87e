use Rattle.std.proofs.Common.{◌≡◌, ◌∷◌, ap, sym, subst, ◌∙◌}
use Rattle.br_tree.specs.Walk.{seen_paths, NonePassing}
use Rattle.br_tree.specs.Cut.{passes, IsFalling}
use Rattle.br_tree.proofs.CutLaws.{first_none, false_from_not}
use Rattle.br_tree.proofs.cut.first_fails.Goals as goal

pub returns-in-Some : goal.returns-in-Some
returns-in-Some c =
    let test = passes c.args.test in
    let rest = c.in-Some.field-0-1.now in
    let path = c.in-Some.first.now.0.now in
    let shape : seen_paths c.args.entries.now ≡ path ∷ seen_paths rest = ap seen_paths c.in-Some.ensures.cases.0 in
    λ failed. subst (NonePassing test) (sym shape) (first_none test path (seen_paths rest) (subst (IsFalling test) shape c.requires) (sym c.does_pass.ensures ∙ false_from_not c.does_pass.result failed))
