use Rattle.std.proofs.Common.{◌≡◌, ◌∙◌, ap, subst}
use Rattle.std.specs.Result.{IfOk}
use Rattle.std.specs.List.Sorted.{IsPermutation}
use Rattle.br_piece.specs.Gaps.{gaps}
use Rattle.br_piece.proofs.MissingLaws.{gaps_are_missing}
use Rattle.br_piece.proofs.lacking.missing_in.Goals as goal

pub returns : goal.returns
returns c =
    let g = c.args.group.now in
    let r = c.args.range in
    let sorted = c.sort_unstable.new.self.items in
    let moved = subst (λ asked. IsPermutation asked sorted) c.in_ok-indexes.ensures c.sort_unstable.ensures.permutation in
    subst (λ runs. IfOk c.gaps_of.result (λ found. found.items ≡ runs))
    (ap (gaps r.low r.high) c.deref.ensures.value ∙ gaps_are_missing g r c.args.keys.now c.near.result.now sorted c.near.ensures moved c.sort_unstable.ensures.sorted)
    c.gaps_of.ensures
