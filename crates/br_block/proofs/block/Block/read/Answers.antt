use Rattle.std.proofs.Common.{arith}
use Rattle.br_block.proofs.HeaderLaws.{block_is_whole}
use Rattle.br_block.proofs.block.Block.read.Goals as goal

pub invariant_of-result : goal.invariant_of-result
invariant_of-result c =
    block_is_whole c.args.bytes.now c.in_ok-head.head _ c.in_ok-head.ensures.exact c.head.view_is c.if-bytes-size.false (λ i. omega (arith, c.type_inv.bytes i))
