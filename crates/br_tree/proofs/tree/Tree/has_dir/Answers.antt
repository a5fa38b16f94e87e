use Rattle.std.proofs.Common.{sym, ap, ◌∙◌, ◌||◌}
use Rattle.std.specs.Prelude.{bytes_eq}
use Rattle.std.specs.List.{list_any}
use Rattle.br_model.specs.View.{view_paths}
use Rattle.br_model.specs.Console as model
use Rattle.br_tree.specs.Marking.{Marking, paths_of}
use Rattle.br_tree.proofs.tree.Tree.has_dir.Goals as goal

pub returns-else-eq : goal.returns-else-eq
returns-else-eq c =
    let d = c.args.directory.now in
    let any = list_any (λ path. model.begins_with path d) (view_paths c.self.inside.shown) in
    c.begin_so.ensures ∙ ap (list_any (λ path. model.begins_with path d)) c.rows.ensures.paths
    ∙ sym (ap (λ b. b || any) (ap (bytes_eq d) (sym c.as_slice.ensures) ∙ sym c.eq.ensures ∙ c.if-eq.false))
    ∙ ap (λ (m : Marking). model.is_directory_of (paths_of m) d) c.self.view_is
