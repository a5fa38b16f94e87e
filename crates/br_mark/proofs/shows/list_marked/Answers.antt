use Rattle.std.proofs.Common.{Ok, map, ap, sym, ◌∙◌}
use Rattle.std.proofs.lemmas.Result.{IfOk-weaker}
use Rattle.br_model.specs.Console.{apply, says}
use Rattle.br_tree.specs.Marking.{console_at}
use Rattle.br_mark.proofs.ShowLaws.{Pair, marked_below}
use Rattle.br_mark.proofs.shows.list_marked.Goals as goal

pub returns : goal.returns
unfolding apply
returns c =
    let m = c.args.tree.now in
    let directory = c.args.directory.now in
    let are = ap (map (λ (e : Pair). e.0.now)) c.deref.ensures.value ∙ c.in_ok-entries.ensures.paths in
    IfOk-weaker c.lines_below.result _ _ (λ t is. ap (λ text. Ok (says (console_at directory m) text)) (sym (marked_below m directory c.deref.result.now t.items are is))) c.lines_below.ensures
