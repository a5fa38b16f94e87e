use Rattle.std.proofs.Common.{rules}
use Rattle.br_fs.proofs.mem_maker.MemMakerFileMaker.make_file.Goals as goal

pub returns-clause-made : goal.returns-clause-made
returns-clause-made c =
    (c.next_number-number.result, search rules, rw c.answers.ensures at c.in_ok-leave.ensures.set)
