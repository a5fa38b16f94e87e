use Rattle.std.proofs.Common.{rules}
use Rattle.br_fs.proofs.EmptyLaws.{empty_is}
use Rattle.br_fs.proofs.mem_maker.MemMakerFileMaker.is_empty.Goals as goal

pub returns-in-Some-Folder-clause-empty : goal.returns-in-Some-Folder-clause-empty
returns-in-Some-Folder-clause-empty c =
    rw (← c.self.view_is)
    (empty_is c.args.path.now c.self.inside.changes.items c.is_filled.result (search rules) (search rules))
