use Rattle.std.proofs.Common.{rules}
use Rattle.br_fs.specs.Memory.{kept_files}
use Rattle.br_fs.proofs.DurableLaws.{entries_last, entries_named}
use Rattle.br_fs.proofs.mem.MemDiskDisk.sync_folder.Goals as goal

pub returns-clause-named : goal.returns-clause-named
returns-clause-named c =
    entries_named (kept_files c.self.inside.files.items) c.args.path.now c.args.self.now.tree c.args.self.now.synced c.in_ok-entries.entries.items c.append.new.self.items
    (search rules) (search rules) (search rules)

pub returns-clause-lasts : goal.returns-clause-lasts
returns-clause-lasts c =
    entries_last (kept_files c.self.inside.files.items) c.args.self.now.tree.files c.args.self.now.synced c.in_ok-entries.entries.items c.append.new.self.items (search rules)
    (search rules)
