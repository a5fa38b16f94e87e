use Rattle.br_test_catalog.proofs.serving.serve_sessions.Given as goal

-- the list of the keeper
abbrev pub ghosts-serve_both : goal.ghosts-serve_both
ghosts-serve_both g a = record { book = a.keeper.list.book }
