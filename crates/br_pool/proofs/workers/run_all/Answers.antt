use Rattle.std.proofs.Common.{List, sym, subst, arith}
use Rattle.std.specs.List.{AllByRecursion, AllZip}
use Rattle.br_pool.specs.Workers.{HasRun, IsReady}
use Rattle.br_pool.specs.declared.worker.Worker.{Worker}
use Rattle.br_pool.proofs.ListLaws.{all_at, zip_at, written}
use Rattle.br_pool.proofs.workers.run_all.Goals as goal

pub run_workers-requires-clause-ready : goal.run_workers-requires-clause-ready
run_workers-requires-clause-ready g c = λ κs lasts i d low.
    let claims = c.args.round.now.claims.now in
    let P : Worker g.row.D.Denot → Type 0 = λ w. IsReady claims.claims claims.limit w.seat w.answers in
    all_at P c.as_mut_slice.result.now i d low (subst (λ (l : List (Worker g.row.D.Denot)). AllByRecursion P l) (sym c.as_mut_slice.ensures.value) c.requires.ready)

pub returns : goal.returns
returns g c =
    let R : Worker g.row.D.Denot → Worker g.row.D.Denot → Type 0 =
    HasRun g.D.Drive.shows g.D.Drive.failures c.args.round.now.claims.now.claims c.args.round.now.pieces.now c.args.round.now.left.now in
    let same = c.run_workers.auto.workers in
    subst (λ (l : List (Worker g.row.D.Denot)). AllZip R c.args.workers.items l)
    (sym (written c.args.workers.len c.run_workers.new.workers c.args.workers.items (let l = c.as_mut_slice.ensures.len in omega (arith, same, l))))
    (subst (λ (l : List (Worker g.row.D.Denot)). AllZip R l c.run_workers.new.workers) c.as_mut_slice.ensures.value
    (zip_at R c.as_mut_slice.result.now c.run_workers.new.workers (omega (arith, same)) c.run_workers.ensures))
