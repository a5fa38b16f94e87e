use Rattle.br_sink_folder.proofs.two_files.close_pair.Goals as goal

pub returns-in-One-clause-closed : goal.returns-in-One-clause-closed
returns-in-One-clause-closed g c = c.close_one.ensures.closed _
