use Rattle.std.proofs.Common.{◌+◌, List, ℕ, drop, min, refl, sym, ap, ◌∙◌, ◌++◌}
use Rattle.br_data.specs.BodyParts.{joined}
use Rattle.br_records.specs.Records.{bytes_in}
use Rattle.br_records.proofs.PartLaws.{bytes_more, pushed_more}
use Rattle.br_records.proofs.parts.share_bytes.Goals as goal

pub loop-part-preserved : goal.loop-part-preserved
loop-part-preserved c =
    let before = joined c.loop-part.file.items in
    let front = c.part-item.result.fragment.bytes in
    let skipped = c.min-skipped.result in
    let rest = bytes_in (drop (c.loop-part.part-index + 1) c.args.parts.now) in
    let more = bytes_more c.args.parts.now c.loop-part.part-index c.part-item.result c.loop-part-test.true c.part-item.is in
    let pushed = c.in_ok-share_one.ensures in
    pushed_more before front rest front _ c.loop-part.left _ refl (c.min-skipped.ensures ∙ ap (min c.loop-part.left) c.len_of.ensures) pushed
    ∙ sym (ap (λ (xs : List ℕ). before ++ drop c.loop-part.left xs) more) ∙ c.loop-part.invariant
