use Rattle.std.proofs.Common.{◌∙◌, ◌-◌, ◌+◌, ap, arith, sym}
use Rattle.br_block.specs.Crc as model
use Rattle.br_block.proofs.ShiftLaws.{bit_more, none_left}
use Rattle.br_block.proofs.crc_shift.shifted_by.Goals as goal

pub loop-preserved : goal.loop-preserved
loop-preserved c =
    let bits = c.args.bits in
    let count = c.loop.counter in
    ap (model.shifted_by (bits - (count + 1))) c.shifted-left.ensures ∙ bit_more bits count c.loop.left c.args.register c.loop-test.true c.loop.invariant

pub returns : goal.returns
returns c = sym (none_left (c.args.bits - c.loop.counter) c.loop.left (omega (arith, c.loop-test.false))) ∙ c.loop.invariant
