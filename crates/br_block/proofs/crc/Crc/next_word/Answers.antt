use Rattle.std.proofs.Common.{◌∙◌, ap}
use Rattle.std.specs.Prelude.{bit_xor}
use Rattle.br_block.specs.Crc.{shifted_by}
use Rattle.br_block.proofs.ShiftLaws.{word_taken_in}
use Rattle.br_block.proofs.crc.Crc.next_word.Goals as goal

pub returns : goal.returns
returns c =
    let bytes = c.args.bytes.now in
    let at = c.args.at in
    c.shifted_word.ensures ∙ ap (λ r. shifted_by 64 (bit_xor r c.word_at.result)) c.from.ensures
    ∙ ap (λ n. shifted_by 64 (bit_xor c.args.register n)) c.word_at.ensures ∙ word_taken_in c.args.register at bytes c.requires (λ i. (c.type_inv.bytes i).fits)
