use Rattle.std.proofs.Common.{rules}
use Rattle.br_fs.proofs.AppendLaws.{appended_is}
use Rattle.br_volume.specs.Memory.{volumes_of}
use Rattle.br_volume.proofs.SyncLaws.{appended_lasts}
use Rattle.br_volume.proofs.mem_store.MemStoreVolumeStore.append.Goals as goal

pub returns-in-Ok-clause-appended : goal.returns-in-Ok-clause-appended
returns-in-Ok-clause-appended c = appended_is c.args.vol.now c.args.bytes.now c.args.self.now.volumes _ (search rules)

pub returns-in-Ok-clause-lasts : goal.returns-in-Ok-clause-lasts
returns-in-Ok-clause-lasts c =
    appended_lasts c.args.vol.now c.args.bytes.now c.args.self.now.volumes (volumes_of c.append_to.new.volumes.items) (search rules)
