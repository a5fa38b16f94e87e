use Rattle.std.proofs.Common.{rules}
use Rattle.br_volume.proofs.AppendLaws.{failed_in_part}
use Rattle.br_volume.proofs.mem_store.MemStore.fail.Goals as goal

pub returns-clause-part : goal.returns-clause-part
returns-clause-part c = search rules

pub returns-clause-refused : goal.returns-clause-refused
returns-clause-refused c = failed_in_part c.args.vol.now c.args.bytes.now c.args.self.now _ (returns-clause-part c)
