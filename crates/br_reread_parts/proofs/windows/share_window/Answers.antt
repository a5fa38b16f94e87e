use Rattle.std.proofs.Common.{◌++◌, ap, ◌∙◌}
use Rattle.std.proofs.lemmas.List.{take_all}
use Rattle.br_reread_parts.specs.Windows.{data_bytes}
use Rattle.br_reread_parts.proofs.WindowLaws.{one_more}
use Rattle.br_reread_parts.proofs.windows.share_window.Goals as goal

pub loop-found-init : goal.loop-found-init
loop-found-init c = ap data_bytes c.in_ok-shared.ensures.items

pub loop-found-preserved : goal.loop-found-preserved
loop-found-preserved c =
    let window = c.args.window.now in
    let i = c.loop-found.found-index in
    let x = c.found-item.result in
    c.in_ok-push_data.ensures
    ∙ (λ k. c.loop-found.invariant k ++ (c.in_ok-share.ensures k).bytes)
    ∙ one_more window i x c.loop-found-test.true c.found-item.is

pub returns : goal.returns
returns c = c.loop-found.invariant ∙ ap data_bytes (take_all c.loop-found.found-index c.args.window.now c.loop-found-test.false)
