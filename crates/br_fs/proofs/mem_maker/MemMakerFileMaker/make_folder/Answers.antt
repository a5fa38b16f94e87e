use Rattle.br_fs.proofs.mem_maker.MemMakerFileMaker.make_folder.Goals as goal

pub returns-clause-made : goal.returns-clause-made
returns-clause-made c = rw c.answers.ensures at c.in_ok-leave.ensures.set
