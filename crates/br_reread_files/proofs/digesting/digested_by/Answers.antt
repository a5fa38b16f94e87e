use Rattle.std.proofs.lemmas.Result.{IfOk-weaker}
use Rattle.br_reread_files.proofs.FileHitsLaws.{given_unread}
use Rattle.br_reread_files.proofs.digesting.digested_by.Goals as goal

pub returns-then-not-has_sparse_data-clause-made : goal.returns-then-not-has_sparse_data-clause-made
returns-then-not-has_sparse_data-clause-made g c =
    IfOk-weaker c.plain_outcome_by.result _ _ (λ outcome made given. made (given_unread c.args.many.now c.args.file.now given)) c.plain_outcome_by.ensures.made

pub returns-then-not-has_sparse_data-clause-changed : goal.returns-then-not-has_sparse_data-clause-changed
returns-then-not-has_sparse_data-clause-changed g c = λ is given. c.plain_outcome_by.ensures.changed is (given_unread c.args.many.now c.args.file.now given)
