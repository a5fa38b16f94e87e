use Rattle.std.proofs.Common.{◌≡◌, ◌++◌, [], ◌∷◌, ap, sym, subst, ◌∙◌}
use Rattle.br_tree.specs.Walk.{seen_paths, AllPassing}
use Rattle.br_tree.specs.Cut.{passes, IsFalling}
use Rattle.br_tree.proofs.RunLaws.{seen_push}
use Rattle.br_tree.proofs.CutLaws.{last_all}
use Rattle.br_tree.proofs.cut.last_passes.Goals as goal

pub returns-in-Some : goal.returns-in-Some
returns-in-Some c =
    let test = passes c.args.test in
    let rest = c.in-Some.field-0-1.now in
    let path = c.in-Some.last.now.0.now in
    let shape : seen_paths c.args.entries.now ≡ seen_paths rest ++ path ∷ [] = ap seen_paths c.in-Some.ensures.cases.0 ∙ seen_push rest c.in-Some.last.now in
    λ passed. subst (AllPassing test) (sym shape) (last_all test (seen_paths rest) path (subst (IsFalling test) shape c.requires) (sym c.does_pass.ensures ∙ passed))
