use Rattle.br_core.proofs.NextLaws.{block_refused}
use Rattle.br_core.proofs.reading.read_fault.Goals as goal

pub returns-in-Block : goal.returns-in-Block
returns-in-Block c = block_refused c.args.fault.now _ _ _ c.in-Block.is c.requires
