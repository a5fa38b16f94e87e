use Rattle.std.proofs.Common.{leb, ap, sym, ◌∙◌, arith}
use Rattle.std.specs.List.Sorted.{IsPartitionPoint}
use Rattle.std.proofs.Common.{◌≤◌, ◌<◌}
use Rattle.br_model.specs.Bootstrap.{Range}
use Rattle.br_match.proofs.RangeLaws.{none_begun, last_decides}
use Rattle.br_match.proofs.admitted.admits_number.Goals as goal

pub returns-then-count-eq0 : goal.returns-then-count-eq0
returns-then-count-eq0 c =
    let n = c.args.number in
    let point : IsPartitionPoint (λ (r : Range). r.low ≤ n) (λ (r : Range). n < r.low) c.args.ranges.now 0 = rw (c.if-count-eq0.true) at c.begun-count.ensures.point in
    sym (none_begun c.args.ranges.now n (sym c.is_empty.ensures ∙ c.if-is_empty.false) point)

pub returns : goal.returns
returns c =
    let last = c.index-ranges-count.result in
    ap (λ (r : Range). leb c.args.number r.high) c.last.view_is
    ∙ sym (last_decides c.args.ranges.now c.args.number c.begun-count.result last (sym c.is_empty.ensures ∙ c.if-is_empty.false) c.requires c.begun-count.ensures.point
    (omega arith) c.begun-count.ensures.bound c.index-ranges-count.is)
