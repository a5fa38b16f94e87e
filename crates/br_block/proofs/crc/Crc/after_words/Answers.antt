use Rattle.std.proofs.Common.{◌∙◌, ◌*◌, ap, take, drop}
use Rattle.br_block.specs.Crc.{after}
use Rattle.br_block.proofs.ShiftLaws.{word_more}
use Rattle.br_block.proofs.crc.Crc.after_words.Goals as goal

pub loop-place-preserved : goal.loop-place-preserved
loop-place-preserved c =
    let l = c.loop-place in
    let bytes = c.args.bytes.now in
    c.next_word-taken.ensures ∙ ap (λ r. after r (take 8 (drop (l.place * 8) bytes))) l.invariant ∙ word_more c.args.register l.place bytes
