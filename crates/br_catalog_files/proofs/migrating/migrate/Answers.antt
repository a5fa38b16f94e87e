use Rattle.std.proofs.Common.{arith, sym, ◌∙◌}
use Rattle.sqlite_trees.specs.View.{IsClean}
use Rattle.br_catalog_files.proofs.KeptLaws.{counts_jobs, fresh_again, has_migrated, moves_then, numbered_again, same_again, survives_of}
use Rattle.br_catalog_files.proofs.migrating.migrate.Goals as goal
use Rattle.br_catalog_files.proofs.RefusedLaws.{refuses}

pub returns-in-Ok-clause-migrated : goal.returns-in-Ok-clause-migrated
returns-in-Ok-clause-migrated g c = λ clean.
    has_migrated (g.S.Store.view c.args.store.now) (g.S.Store.view c.move_all.new.store) c.in-Ok.jobs (c.in-Ok.ensures.moved clean)

pub returns-in-Ok-clause-jobs : goal.returns-in-Ok-clause-jobs
returns-in-Ok-clause-jobs g c = λ clean.
    counts_jobs (g.S.Store.view c.args.store.now) (g.S.Store.view c.move_all.new.store) c.in-Ok.jobs (c.in-Ok.ensures.moved clean)

pub returns-in-Ok-clause-crash : goal.returns-in-Ok-clause-crash
returns-in-Ok-clause-crash g c = survives_of c.move_all.ensures.crash

pub returns-in-Err-clause-refused : goal.returns-in-Err-clause-refused
returns-in-Err-clause-refused g c = λ clean up.
    let v0 = g.S.Store.view c.args.store.now in
    let v1 = g.S.Store.view c.move_all.new.store in
    let v2 = g.S.Store.view c.rollback.new.self in
    let clean1 : IsClean v1 = omega (arith, clean, c.rollback.ensures.quiet.clean) in
    let clean0 : IsClean v0 = omega (arith, clean1, c.move_all.ensures.crash.clean) in
    same_again v0 v1 v2 (c.requires clean0) (c.in-Err.ensures.failed clean1) c.rollback.ensures.undone clean up

pub returns-in-Ok-clause-fresh : goal.returns-in-Ok-clause-fresh
returns-in-Ok-clause-fresh g c = λ clean up. (c.in-Ok.ensures.moved clean).fresh

pub returns-in-Err-clause-fresh : goal.returns-in-Err-clause-fresh
returns-in-Err-clause-fresh g c = λ clean up.
    let v0 = g.S.Store.view c.args.store.now in
    let v1 = g.S.Store.view c.move_all.new.store in
    let v2 = g.S.Store.view c.rollback.new.self in
    let clean1 : IsClean v1 = omega (arith, clean, c.rollback.ensures.quiet.clean) in
    let clean0 : IsClean v0 = omega (arith, clean1, c.move_all.ensures.crash.clean) in
    fresh_again v0 v1 v2 (c.requires clean0) (c.in-Err.ensures.failed clean1) c.rollback.ensures.undone clean up

pub returns-in-Ok-clause-numbered : goal.returns-in-Ok-clause-numbered
returns-in-Ok-clause-numbered g c = λ clean. (c.in-Ok.ensures.moved clean).fresh.numbered

pub returns-in-Err-clause-numbered : goal.returns-in-Err-clause-numbered
returns-in-Err-clause-numbered g c = λ clean.
    let v0 = g.S.Store.view c.args.store.now in
    let v1 = g.S.Store.view c.move_all.new.store in
    let v2 = g.S.Store.view c.rollback.new.self in
    let clean1 : IsClean v1 = omega (arith, clean, c.rollback.ensures.quiet.clean) in
    let clean0 : IsClean v0 = omega (arith, clean1, c.move_all.ensures.crash.clean) in
    numbered_again v0 v1 v2 (c.requires clean0) (c.in-Err.ensures.failed clean1) c.rollback.ensures.undone

pub returns-in-Err-clause-crash : goal.returns-in-Err-clause-crash
returns-in-Err-clause-crash g c = survives_of (moves_then c.move_all.ensures.crash c.rollback.ensures.quiet)

pub returns-in-Ok-clause-durable : goal.returns-in-Ok-clause-durable
returns-in-Ok-clause-durable g c = λ clean db may.
    let kept = c.in-Ok.ensures.moved clean in
    g.met.S.Store.settled c.move_all.new.store db kept.is_open may ∙ sym kept.fresh.clean

pub returns-in-Err-clause-unchanged : goal.returns-in-Err-clause-unchanged
returns-in-Err-clause-unchanged g c = λ failed db may. c.in-Err.ensures.unchanged failed db (c.rollback.ensures.quiet.outcomes db may)

pub returns-in-Err-clause-why : goal.returns-in-Err-clause-why
returns-in-Err-clause-why g c = λ clean.
    let v1 = g.S.Store.view c.move_all.new.store in
    let clean1 : IsClean v1 = omega (arith, clean, c.rollback.ensures.quiet.clean) in
    refuses (g.S.Store.view c.args.store.now).trees c.in-Err.fault (c.in-Err.ensures.other clean1)
