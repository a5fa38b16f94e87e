use Rattle.std.proofs.Common.{ℕ, List, ◌++◌, take, sym, ap, ◌∙◌, append_assoc, append-nil}
use Rattle.std.proofs.lemmas.List.{take_all}
use Rattle.br_reread_parts.specs.Windows.{data_bytes}
use Rattle.br_reread_parts.proofs.WindowLaws.{one_more}
use Rattle.br_reread_parts.proofs.windows.digest_window.Goals as goal

pub loop-found-init : goal.loop-found-init
loop-found-init c = sym (append-nil c.args.reading.now)

pub loop-found-preserved : goal.loop-found-preserved
loop-found-preserved c =
    let window = c.args.window.now in
    let i = c.loop-found.found-index in
    let x = c.found-item.result in
    c.in_ok-digest_data.ensures
    ∙ ap (λ (bytes : List ℕ). bytes ++ x.bytes) c.loop-found.invariant
    ∙ append_assoc c.args.reading.now (data_bytes (take i window)) x.bytes
    ∙ ap (λ (bytes : List ℕ). c.args.reading.now ++ bytes) (one_more window i x c.loop-found-test.true c.found-item.is)

pub returns : goal.returns
returns c =
    c.loop-found.invariant ∙ ap (λ ds. c.args.reading.now ++ data_bytes ds) (take_all c.loop-found.found-index c.args.window.now c.loop-found-test.false)
