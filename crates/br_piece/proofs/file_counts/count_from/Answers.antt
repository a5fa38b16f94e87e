use Rattle.std.proofs.Common.{◌≡◌, ◌<◌, ap, sym, arith}
use Rattle.std.specs.Prelude.{max}
use Rattle.br_model.specs.Bootstrap.{Range}
use Rattle.br_piece.proofs.CountLaws.{none_in}
use Rattle.br_piece.proofs.file_counts.count_from.Goals as goal

pub returns-else-low-from : goal.returns-else-low-from
returns-else-low-from c =
    let low : c.range.inside.low ≡ c.args.range.low = ap (λ (r : Range). r.low) c.range.view_is in
    let high : c.range.inside.high ≡ c.args.range.high = ap (λ (r : Range). r.high) c.range.view_is in
    let above : c.args.range.high < max c.args.range.low c.args.next = omega (arith, low, high, c.from.ensures, c.max-low.ensures, c.from-2.ensures, c.if-low-from.false) in
    sym (none_in c.args.group.now c.args.keys.now (max c.args.range.low c.args.next) c.args.range.high above)
