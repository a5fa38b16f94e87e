use Rattle.br_fs.proofs.mem_maker.MemMakerFileMaker.remove.Goals as goal

pub returns-clause-removed : goal.returns-clause-removed
returns-clause-removed c = rw c.answers.ensures at c.in_ok-leave.ensures.set
