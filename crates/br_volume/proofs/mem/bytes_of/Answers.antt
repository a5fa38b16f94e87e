use Rattle.std.proofs.Common.{Some, None}
use Rattle.br_fs.proofs.KeptLaws.{found_kept}
use Rattle.br_volume.proofs.mem.bytes_of.Goals as goal

pub returns-in-None : goal.returns-in-None
returns-in-None c = found_kept c.args.volumes.now c.args.vol.now None c.in-None.ensures

pub returns-in-Some : goal.returns-in-Some
returns-in-Some c = found_kept c.args.volumes.now c.args.vol.now (Some c.in-Some.volume.now) c.in-Some.ensures
