use Rattle.std.proofs.Common.{refl}
use Rattle.br_fs.proofs.mem_maker.MemMakerFileMaker.finish.Goals as goal

pub returns-clause-put : goal.returns-clause-put
returns-clause-put c = λ opened.
    (c.args.file.number, c.args.file.bytes.items, refl, rw c.answers.ensures at c.in_ok-leave.ensures.set)
