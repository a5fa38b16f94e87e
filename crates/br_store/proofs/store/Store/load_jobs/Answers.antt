use Rattle.std.proofs.Common.{subst}
use Rattle.br_model.specs.Answer.{Answers}
use Rattle.br_catalog_rows.specs.Fault.{cause}
use Rattle.br_catalog_rows.specs.Load.{read_history}
use Rattle.br_catalog_rows.specs.Rows.{Rows}
use Rattle.br_catalog_rows.proofs.SomeFilesLaws.{of_none}
use Rattle.br_store.specs.Held.{rows_of}
use Rattle.br_store.proofs.store.Store.load_jobs.Goals as goal

pub returns-clause-answers : goal.returns-clause-answers
returns-clause-answers g c clean =
    subst (λ (rows : Rows). Answers (λ h. h) cause c.load.result (read_history rows)) (of_none (rows_of g.S.Store c.args.self.now)) (c.load.ensures.answers clean)
