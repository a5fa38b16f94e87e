use Rattle.std.proofs.Common.{rules}
use Rattle.br_fs.specs.Memory.{kept_files}
use Rattle.br_fs.proofs.DurableLaws.{synced_durable, synced_last}
use Rattle.br_fs.proofs.mem.MemDiskDisk.sync.Goals as goal

pub returns-clause-synced : goal.returns-clause-synced
returns-clause-synced c =
    synced_durable (kept_files c.self.inside.files.items) c.args.file.now c.args.self.now.tree c.args.self.now.synced c.note_synced.new.synced.items (search rules) (search rules)

pub returns-clause-lasts : goal.returns-clause-lasts
returns-clause-lasts c =
    synced_last (kept_files c.self.inside.files.items) c.args.file.now c.args.self.now.tree.files c.args.self.now.synced c.note_synced.new.synced.items (search rules) (search rules)
