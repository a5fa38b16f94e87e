use Rattle.std.proofs.Common.{rules}
use Rattle.br_volume.proofs.GrowingLaws.{grown_extends}
use Rattle.br_volume.proofs.mem.MemDriveDrive.block_at.Goals as goal

pub returns-clause-grows : goal.returns-clause-grows
returns-clause-grows c = grown_extends c.args.self.now _ (search rules)
