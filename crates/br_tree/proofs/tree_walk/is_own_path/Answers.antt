use Rattle.std.proofs.Common.{◌&&◌, ◌++◌, sym, ap, ◌∙◌, length, drop}
use Rattle.std.specs.Prelude.{bytes_eq}
use Rattle.br_model.specs.Console.{child_of}
use Rattle.br_tree.proofs.PickLaws.{own_is}
use Rattle.br_tree.proofs.tree_walk.is_own_path.Goals as goal

pub returns-then-is_directory_path : goal.returns-then-is_directory_path
returns-then-is_directory_path c =
    let d = c.args.directory.now in
    let p = c.args.path.now in
    c.eq.ensures ∙ ap (λ r. bytes_eq r c.args.name.now) c.rest_of.ensures ∙ ap (bytes_eq (drop (length d) p)) c.requires.named ∙ own_is d p c.requires.begins
    ∙ ap (λ b. b && bytes_eq p (d ++ child_of d p)) (sym c.if-is_directory_path.true ∙ c.is_directory_path.ensures)
