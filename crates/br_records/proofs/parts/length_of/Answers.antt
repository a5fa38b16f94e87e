use Rattle.std.proofs.Common.{◌+◌, length, drop, ap, ◌∙◌, arith}
use Rattle.std.proofs.lemmas.List.{length-append}
use Rattle.br_records.specs.Records.{bytes_in}
use Rattle.br_records.proofs.PartLaws.{bytes_more, bytes_done}
use Rattle.br_records.proofs.parts.length_of.Goals as goal

pub returns : goal.returns
returns c =
    let none = ap length (bytes_done c.args.parts.now c.loop-part.part-index c.loop-part-test.false) in
    omega (arith, none, c.loop-part.invariant.adds)

pub loop-part-preserved : goal.loop-part-preserved
loop-part-preserved c =
    let front = c.part-item.result.fragment.bytes in
    let rest = bytes_in (drop (c.loop-part.part-index + 1) c.args.parts.now) in
    let more = ap length (bytes_more c.args.parts.now c.loop-part.part-index c.part-item.result c.loop-part-test.true c.part-item.is) ∙ length-append front rest in
    let same = c.len_of.ensures in
    record { fits = omega arith; adds = omega (arith, more, same, c.loop-part.invariant.adds) }
