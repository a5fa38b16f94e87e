use Rattle.br_block.proofs.HeaderLaws.{header_is}
use Rattle.br_block.proofs.block.Block.head.Goals as goal

pub returns-clause-least : goal.returns-clause-least
returns-clause-least c = (header_is c.self.inside.bytes.now c.self.inside.head c.self.invariant.0).1

pub returns-clause-most : goal.returns-clause-most
returns-clause-most c = (header_is c.self.inside.bytes.now c.self.inside.head c.self.invariant.0).2
