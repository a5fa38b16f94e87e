use Rattle.std.proofs.Common.{sym, ap, ◌∙◌, ◌≡◌, ◌&&◌, false, cond}
use Rattle.std.specs.List.{list_any}
use Rattle.br_model.specs.Name.{is_directory}
use Rattle.br_model.specs.Console.{begins_with}
use Rattle.br_tree.specs.Seen.{flagged}
use Rattle.br_tree.specs.Walk.{seen_paths}
use Rattle.br_tree.proofs.ChildLaws.{sign_other}
use Rattle.br_tree.proofs.sign.sign_of.Goals as goal
use Rattle.br_tree.proofs.sign.sign_of.Goals.{else-is_directory_path-via-then-is_directory_path+else-begins_a_mark, else-is_directory_path-via-else-is_directory_path}

pub returns-then-begins_a_mark : goal.returns-then-begins_a_mark
returns-then-begins_a_mark c =
    let p = c.args.path.now in
    let marked = flagged (seen_paths c.args.entries.now) c.args.flags.now in
    let any = list_any (λ z. begins_with z p) marked in
    let dir = sym c.is_directory_path.ensures ∙ c.if-is_directory_path.true in
    let some = sym c.begins_a_mark.ensures ∙ c.if-begins_a_mark.true in
    sym (ap (λ b. cond (b && any) 43 32) dir ∙ ap (λ b. cond b 43 32) some) ∙ sign_other marked p (sym c.is_marked.ensures ∙ c.if-is_marked.false)

pub returns-else-is_directory_path : goal.returns-else-is_directory_path
returns-else-is_directory_path c =
    let p = c.args.path.now in
    let marked = flagged (seen_paths c.args.entries.now) c.args.flags.now in
    let any = list_any (λ z. begins_with z p) marked in
    let none : (is_directory p && any) ≡ false =
    elim c.else-is_directory_path.branch [
      | else-is_directory_path-via-then-is_directory_path+else-begins_a_mark w ↦
          ap (λ b. b && any) (sym c.is_directory_path.ensures ∙ w.if-is_directory_path.true) ∙ sym w.begins_a_mark.ensures ∙ w.if-begins_a_mark.false
      | else-is_directory_path-via-else-is_directory_path w ↦ ap (λ b. b && any) (sym c.is_directory_path.ensures ∙ w.if-is_directory_path.false)
    ] in
    sym (ap (λ b. cond b 43 32) none) ∙ sign_other marked p (sym c.is_marked.ensures ∙ c.if-is_marked.false)
