use Rattle.std.proofs.Common.{◌≡◌, length, eqb, filter, map, ap, sym, ◌∙◌, rules, vec_len}
use Rattle.br_model.specs.Console.{apply, found_line, matches, last_component}
use Rattle.br_tree.specs.Marking.{console_at, paths_of}
use Rattle.br_tree.specs.Seen.{seen_path}
use Rattle.br_mark.proofs.ShowLaws.{found_are, found_empty, shown_some}
use Rattle.br_mark.proofs.console.Console.find.Goals as goal

pub returns : goal.returns
unfolding apply
returns c =
    let m = c.self.inside.tree in
    let directory = c.self.inside.directory.items in
    let pattern = c.args.pattern.now in
    let found = c.in_ok-found.found in
    let paths = filter (λ path. matches pattern (last_component path)) (paths_of m) in
    let are = ap (map seen_path) c.deref.ensures.value ∙ c.in_ok-found.ensures in
    let text = c.in_ok-found_lines.field-0.items in
    let n : vec_len found ≡ length found.items = search rules in
    let some = ap (λ n. eqb n 0) (sym n) ∙ sym c.is_empty.ensures ∙ c.if-is_empty.false in
    rw (← c.self.view_is) (shown_some (console_at directory m) (found_line (console_at directory m)) paths text (found_are m directory pattern c.deref.result.now text are c.in_ok-found_lines.ensures) (found_empty m pattern found.items _ c.in_ok-found.ensures some))
