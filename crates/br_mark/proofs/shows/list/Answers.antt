use Rattle.std.proofs.Common.{Ok, map, ap, sym, ◌∙◌}
use Rattle.std.proofs.lemmas.Result.{IfOk-weaker}
use Rattle.br_model.specs.Console.{apply, says}
use Rattle.br_tree.specs.Marking.{console_at}
use Rattle.br_tree.specs.Seen.{seen_child}
use Rattle.br_mark.proofs.ShowLaws.{listed}
use Rattle.br_mark.proofs.shows.list.Goals as goal

pub returns : goal.returns
unfolding apply
returns c =
    let m = c.args.tree.now in
    let directory = c.args.directory.now in
    let are = ap (map seen_child) c.deref.ensures.value ∙ c.in_ok-children.ensures in
    IfOk-weaker c.child_lines.result _ _ (λ t is. ap (λ text. Ok (says (console_at directory m) text)) (sym (listed m directory c.deref.result.now t.items are is))) c.child_lines.ensures
