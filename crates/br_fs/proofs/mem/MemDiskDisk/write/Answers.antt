use Rattle.std.proofs.Common.{rules, take}
use Rattle.br_fs.specs.Memory.{kept_files}
use Rattle.br_fs.proofs.AppendLaws.{appended_is}
use Rattle.br_fs.proofs.DurableLaws.{appended_lasts}
use Rattle.br_fs.proofs.mem.MemDiskDisk.write.Goals as goal

pub returns-clause-written : goal.returns-clause-written
returns-clause-written c = record {
  files = appended_is c.args.file.now (take c.match-self.n c.args.bytes.now) c.args.self.now.tree.files _ (search rules);
  others = search rules;
}

pub returns-clause-lasts : goal.returns-clause-lasts
returns-clause-lasts c =
    appended_lasts c.args.file.now (take c.match-self.n c.args.bytes.now) c.args.self.now.tree.files (kept_files c.append_to.new.files.items) c.args.self.now.synced c.match-self.self-inside.synced.items (search rules) (search rules)
