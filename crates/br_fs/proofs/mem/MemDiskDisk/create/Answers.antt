use Rattle.std.proofs.Common.{rules, []}
use Rattle.br_fs.specs.Memory.{kept_files}
use Rattle.br_fs.proofs.AppendLaws.{appended_is}
use Rattle.br_fs.proofs.DurableLaws.{appended_lasts}
use Rattle.br_fs.proofs.mem.MemDiskDisk.create.Goals as goal

pub returns-clause-made : goal.returns-clause-made
returns-clause-made c = record {
  files = appended_is c.args.path.now [] c.args.self.now.tree.files _ (search rules);
  others = search rules;
}

pub returns-clause-lasts : goal.returns-clause-lasts
returns-clause-lasts c =
    appended_lasts c.args.path.now [] c.args.self.now.tree.files (kept_files c.append_to.new.files.items) c.args.self.now.synced c.self.inside.synced.items (search rules) (search rules)
