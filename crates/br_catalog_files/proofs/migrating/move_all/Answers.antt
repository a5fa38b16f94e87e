use Rattle.std.proofs.Common.{arith}
use Rattle.sqlite_trees.specs.View.{IsClean}
use Rattle.br_store.proofs.Opens.{is_up}
use Rattle.br_catalog_files.specs.Moved.{KeepsUnlessFailed}
use Rattle.br_catalog_files.proofs.KeptLaws.{commits_move, if_refused, kept_of, nothing_moved, rolled_last}
use Rattle.br_catalog_files.proofs.StepLaws.{clean_before, last_then}
use Rattle.br_catalog_files.proofs.migrating.move_all.Goals as goal
use Rattle.std.proofs.lemmas.Result.{err_from_is_err_and}

pub returns-in-Ok-clause-moved : goal.returns-in-Ok-clause-moved
returns-in-Ok-clause-moved g c = λ clean.
    let v0 = g.S.Store.view c.args.store.now in
    let v1 = g.S.Store.view c.rewrite.new.store in
    let v2 = g.S.Store.view c.commit.new.self in
    let clean1 : IsClean v1 = omega (arith, clean, c.commit.ensures.clean) in
    let fresh = c.requires (clean_before c.rewrite.ensures.kept clean1) in
    let up = is_up v0.is_open v0.is_broken (g.met.S.Store.broken_if_shut c.args.store.now) fresh.sound in
    kept_of v0 v1 v2 c.in_ok-jobs.jobs fresh up (c.in_ok-jobs.ensures.moved clean1) (c.in-Ok.ensures.ok clean)

pub returns-in-Ok-clause-crash : goal.returns-in-Ok-clause-crash
returns-in-Ok-clause-crash g c =
    commits_move c.in_ok-jobs.jobs c.rewrite.ensures.kept c.in_ok-jobs.ensures.moved c.commit.ensures.shield c.commit.ensures.clean c.commit.ensures.counts c.commit.ensures.open c.commit.ensures.crash

pub returns-in-Err-clause-failed : goal.returns-in-Err-clause-failed
returns-in-Err-clause-failed g c = λ clean.
    let v0 = g.S.Store.view c.args.store.now in
    let v1 = g.S.Store.view c.rewrite.new.store in
    let v2 = g.S.Store.view c.commit.new.self in
    let clean1 : IsClean v1 = omega (arith, clean, c.commit.ensures.clean) in
    last_then v0 v1 v2 (c.rewrite.ensures.kept.last clean1) (rolled_last v1 v2 c.in-Err.ensures.err clean)

pub returns-in-Err-clause-crash : goal.returns-in-Err-clause-crash
returns-in-Err-clause-crash g c =
    commits_move c.in_ok-jobs.jobs c.rewrite.ensures.kept c.in_ok-jobs.ensures.moved c.commit.ensures.shield c.commit.ensures.clean c.commit.ensures.counts c.commit.ensures.open c.commit.ensures.crash

pub returns-in_err-jobs-clause-crash : goal.returns-in_err-jobs-clause-crash
returns-in_err-jobs-clause-crash g c = nothing_moved c.rewrite.ensures.kept

pub returns-in-Err-clause-unchanged : goal.returns-in-Err-clause-unchanged
returns-in-Err-clause-unchanged g c = λ failed. absurd (failed c.fault_of.ensures.number)

pub returns-in_err-jobs-clause-unchanged : goal.returns-in_err-jobs-clause-unchanged
returns-in_err-jobs-clause-unchanged g c = if_refused c.from_residual.result (KeepsUnlessFailed g.S.Store c.args.store.now c.rewrite.new.store) (λ fault failed. c.rewrite.ensures.kept.quiet.outcomes)

pub returns-in_err-jobs-clause-other : goal.returns-in_err-jobs-clause-other
returns-in_err-jobs-clause-other g c = λ clean h.
    let p = err_from_is_err_and c.from_residual.result c.from_residual.ensures.1 in
    rw (p.1, p.2) (c.in_err-jobs.ensures.other clean h)
