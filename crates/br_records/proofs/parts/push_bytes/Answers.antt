use Rattle.std.proofs.Common.{◌+◌, List, ℕ, drop, sym, ap, ◌∙◌, ◌++◌}
use Rattle.br_records.specs.Records.{bytes_in}
use Rattle.br_records.proofs.PartLaws.{bytes_more, pushed_more}
use Rattle.br_records.proofs.parts.push_bytes.Goals as goal

pub loop-part-preserved : goal.loop-part-preserved
loop-part-preserved c =
    let before = c.loop-part.bytes.items in
    let front = c.part-item.result.fragment.bytes in
    let rest = bytes_in (drop (c.loop-part.part-index + 1) c.args.parts.now) in
    let more = bytes_more c.args.parts.now c.loop-part.part-index c.part-item.result c.loop-part-test.true c.part-item.is in
    let pushed = c.in_ok-extend_from_slice.ensures.items ∙ ap (λ (xs : List ℕ). before ++ xs) c.split_at.ensures.back in
    pushed_more before front rest _ _ c.loop-part.left _ c.in_ok-held.ensures c.min-skipped.ensures pushed
    ∙ sym (ap (λ (xs : List ℕ). before ++ drop c.loop-part.left xs) more) ∙ c.loop-part.invariant
