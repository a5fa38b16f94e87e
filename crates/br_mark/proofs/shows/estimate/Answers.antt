use Rattle.std.proofs.Common.{◌≡◌, length, map, ap, sym, ◌∙◌, rules}
use Rattle.std.proofs.lemmas.Result.{IfOk-weaker}
use Rattle.std.proofs.lemmas.List.{length-map}
use Rattle.br_model.specs.Console.{marked_bytes}
use Rattle.br_view.specs.Shown.{shown_pair}
use Rattle.br_mark.proofs.ShowLaws.{Pair, marked_total, estimate_line}
use Rattle.br_mark.proofs.shows.estimate.Goals as goal

pub returns : goal.returns
returns c =
    let m = c.args.tree.now in
    let entries = c.in_ok-entries.entries.items in
    let n : c.len.result ≡ length entries = search rules in
    let count : c.len.result ≡ length m.marked = n ∙ sym (length-map entries (λ (e : Pair). e.0.now)) ∙ ap length c.in_ok-entries.ensures.paths in
    let are = ap (map shown_pair) c.deref.ensures.value ∙ c.in_ok-entries.ensures.entries in
    let total : c.bytes_in-total.result ≡ marked_bytes m.view m.marked = c.bytes_in-total.ensures ∙ marked_total m c.deref.result.now are in
    IfOk-weaker c.totals_line.result _ _ (λ t is. is ∙ estimate_line m c.len.result c.bytes_in-total.result count total) c.totals_line.ensures
