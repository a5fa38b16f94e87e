use Rattle.std.proofs.Common.{◌≡◌, length, eqb, map, ap, sym, ◌∙◌, rules, vec_len}
use Rattle.br_model.specs.Console.{apply, child_line, matching}
use Rattle.br_tree.specs.Marking.{console_at, paths_of}
use Rattle.br_tree.specs.Seen.{seen_child}
use Rattle.br_mark.proofs.ShowLaws.{listed_matching, names_empty, shown_some, shown_none}
use Rattle.br_mark.proofs.shows.list_matching.Goals as goal

pub returns-then-is_empty : goal.returns-then-is_empty
unfolding apply
returns-then-is_empty c =
    let m = c.args.tree.now in
    let directory = c.args.directory.now in
    let text = c.in_ok-text.text in
    let names = matching (paths_of m) directory c.args.pattern.now in
    let are = ap (map seen_child) c.deref.ensures.value ∙ c.in_ok-children.ensures in
    let is = listed_matching m directory c.args.pattern.now c.deref.result.now text.items are c.in_ok-text.ensures in
    let n : vec_len text ≡ length text.items = search rules in
    let empty = ap (λ n. eqb n 0) (sym n) ∙ sym c.is_empty.ensures ∙ c.if-is_empty.true in
    shown_none (console_at directory m) (child_line (console_at directory m)) names (names_empty (console_at directory m) names text.items _ is empty)

pub returns : goal.returns
unfolding apply
returns c =
    let m = c.args.tree.now in
    let directory = c.args.directory.now in
    let text = c.in_ok-text.text in
    let names = matching (paths_of m) directory c.args.pattern.now in
    let are = ap (map seen_child) c.deref.ensures.value ∙ c.in_ok-children.ensures in
    let is = listed_matching m directory c.args.pattern.now c.deref.result.now text.items are c.in_ok-text.ensures in
    let n : vec_len text ≡ length text.items = search rules in
    let some = ap (λ n. eqb n 0) (sym n) ∙ sym c.is_empty.ensures ∙ c.if-is_empty.false in
    shown_some (console_at directory m) (child_line (console_at directory m)) names text.items is (names_empty (console_at directory m) names text.items _ is some)
