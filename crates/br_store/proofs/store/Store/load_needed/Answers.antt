use Rattle.std.proofs.Common.{rules, ◌≡◌, ℕ, List, arith, ap, sym, subst, ◌∙◌}
use Rattle.std.proofs.lemmas.Result.{err_from_is_err_and}
use Rattle.sqlite.specs.Effect.{Database}
use Rattle.sqlite.specs.State.{HasCleanDisk}
use Rattle.sqlite.specs.Held.{state}
use Rattle.br_model.specs.Answer.{Answers}
use Rattle.br_catalog_rows.specs.Fault.{cause}
use Rattle.br_catalog_rows.specs.Load.{read_history, with_files_of}
use Rattle.br_store.specs.Held.{rows_in, rows_of}
use Rattle.br_store.proofs.Appends.{survives_both}
use Rattle.br_store.proofs.NeededFiles.{files_after, jobs_refused}
use Rattle.br_store.proofs.store.Store.load_needed.Goals as goal

pub returns-in_err-jobs-clause-answers : goal.returns-in_err-jobs-clause-answers
returns-in_err-jobs-clause-answers g c clean =
    let p = err_from_is_err_and c.from_residual.result c.from_residual.ensures.1 in
    rw (p.1, p.2)
    (jobs_refused (g.N.Needs.needed c.args.needs.now) (rows_of g.S.Store c.args.self.now) (cause c.in_err-jobs.field-0.0) (c.in_err-jobs.ensures.answers clean))

pub returns-clause-answers : goal.returns-clause-answers
returns-clause-answers g c clean =
    let b = state g.S.Store c.load_jobs.new.self in
    let clean_b : HasCleanDisk b = omega (arith, clean, c.load.ensures.survives.clean) in
    let same = c.load_jobs.ensures.same clean_b (c.in_ok-jobs.ensures.open clean_b) in
    let needed = g.N.Needs.needed c.args.needs.now in
    let rows = rows_of g.S.Store c.args.self.now in
    let same_ids : c.deref.result.now ≡ c.in_ok-numbers.numbers.items = search rules in
    let read = ap (λ (db : Database). read_history (with_files_of c.deref.result.now (rows_in db.trees))) same.0
    ∙ ap (λ (ids : List ℕ). read_history (with_files_of ids rows)) (same_ids ∙ c.in_ok-numbers.ensures.numbers)
    ∙ sym (files_after needed rows c.in_ok-jobs.jobs (c.in_ok-jobs.ensures.answers clean_b)) in
    subst (Answers (λ h. h) cause c.load.result) read (c.load.ensures.answers clean)

pub returns-clause-same : goal.returns-clause-same
returns-clause-same g c clean up =
    let b = state g.S.Store c.load_jobs.new.self in
    let clean_b : HasCleanDisk b = omega (arith, clean, c.load.ensures.survives.clean) in
    let first = c.load_jobs.ensures.same clean_b (c.in_ok-jobs.ensures.open clean_b) in
    let later = c.load.ensures.same clean up in
    (later.0 ∙ first.0, later.1 ∙ first.1)

pub returns-clause-survives : goal.returns-clause-survives
returns-clause-survives g c =
    survives_both (state g.S.Store c.args.self.now) (state g.S.Store c.load_jobs.new.self) (state g.S.Store c.load.new.self) c.load_jobs.ensures.survives c.load.ensures.survives
