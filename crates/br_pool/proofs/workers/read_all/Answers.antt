use Rattle.std.proofs.Common.{◌≡◌, flat_map, reverse, length, arith}
use Rattle.br_pool.specs.Workers.{IsReady}
use Rattle.br_pool.specs.declared.workers.WorkerShare.{WorkerShare}
use Rattle.br_pool.specs.declared.worker.Reader.{Reader}
use Rattle.br_pool.specs.declared.worker.Worker.{Worker}
use Rattle.br_pool.proofs.ListLaws.{all_over, zip_length}
use Rattle.br_pool.proofs.ReaderLaws.{all_served}
use Rattle.br_pool.proofs.WorkedLaws.{by_drive, numbers_below, places_kept, seats_many, have_answered}
use Rattle.br_pool.proofs.workers.read_all.Goals as goal

pub returns-in_err-seats-clause-served : goal.returns-in_err-seats-clause-served
returns-in_err-seats-clause-served g c = all_served (λ (r : Reader g.row.D.Denot). g.D.Drive.shows r.drive) (λ (r : Reader g.row.D.Denot). g.D.Drive.failures r.drive) (λ (r : Reader g.row.D.Denot). r.out) c.args.readers.now.items

pub returns-in_err-workers-clause-served : goal.returns-in_err-workers-clause-served
returns-in_err-workers-clause-served g c = all_served (λ (r : Reader g.row.D.Denot). g.D.Drive.shows r.drive) (λ (r : Reader g.row.D.Denot). g.D.Drive.failures r.drive) (λ (r : Reader g.row.D.Denot). r.out) c.args.readers.now.items

pub run_all-workers-requires-clause-ready : goal.run_all-workers-requires-clause-ready
run_all-workers-requires-clause-ready g c = λ κs lasts. let claims = c.args.round.now.claims.now in
    all_over (λ (d : WorkerShare) (w : Worker g.row.D.Denot). (w.seat ≡ d.seat) × (w.answers ≡ d.answers)) (λ (d : WorkerShare). IsReady claims.claims claims.limit d.seat d.answers)
    (λ (w : Worker g.row.D.Denot). IsReady claims.claims claims.limit w.seat w.answers) (λ d w r p. rw (r.0, r.1) p) c.args.shares.items c.into_workers.new.workers.items c.into_workers.ensures.shares c.requires.ready

pub out_of_workers-requires-clause-room : goal.out_of_workers-requires-clause-room
out_of_workers-requires-clause-room g c =
    let a = zip_length _ c.args.shares.items c.into_workers.new.workers.items c.into_workers.ensures.shares in
    let b = zip_length _ c.into_workers.new.workers.items c.run_all-workers.result.items c.run_all-workers.ensures in
    let many = c.requires.many in
    let readers = c.into_workers.ensures.room in
    let seats = c.in_ok-seats.ensures.capacity in
    let count = c.len.ensures in
    let d = c.args.shares.ok.0 in
    let e = c.args.readers.now.ok in
    (omega (arith, a, b, many, readers, e.0, e.1), omega (arith, a, b, seats, count, d))

pub out_of_workers-requires-clause-below : goal.out_of_workers-requires-clause-below
out_of_workers-requires-clause-below g c =
    let round = c.args.round.now in
    numbers_below round.claims.now.claims round.pieces.now round.left.now
    (by_drive round.pieces.now (λ (r : Reader g.row.D.Denot). g.D.Drive.shows r.drive) (λ (w : Worker g.row.D.Denot). w.reader)) (λ (r : Reader g.row.D.Denot). g.D.Drive.shows r.drive) (λ (r : Reader g.row.D.Denot). g.D.Drive.failures r.drive)
    (λ (r : Reader g.row.D.Denot). r.out) (λ (w : Worker g.row.D.Denot). w.reader) (λ (w : Worker g.row.D.Denot). w.seat) (λ (w : Worker g.row.D.Denot). w.answers.items) (length c.args.into.now)
    c.into_workers.new.workers.items c.run_all-workers.result.items c.requires.slots c.run_all-workers.ensures

pub returns-clause-many : goal.returns-clause-many
returns-clause-many g c =
    let round = c.args.round.now in
    seats_many round.claims.now.claims round.pieces.now round.left.now
    (by_drive round.pieces.now (λ (r : Reader g.row.D.Denot). g.D.Drive.shows r.drive) (λ (w : Worker g.row.D.Denot). w.reader)) (λ (r : Reader g.row.D.Denot). g.D.Drive.shows r.drive) (λ (r : Reader g.row.D.Denot). g.D.Drive.failures r.drive)
    (λ (r : Reader g.row.D.Denot). r.out) (λ (w : Worker g.row.D.Denot). w.reader) (λ (w : Worker g.row.D.Denot). w.seat) (λ (w : Worker g.row.D.Denot). w.answers.items)
    c.into_workers.new.workers.items c.run_all-workers.result.items c.args.readers.now.items c.out_of_workers.new.seats.items c.run_all-workers.ensures c.into_workers.ensures.readers c.out_of_workers.ensures.seats

pub returns-clause-served : goal.returns-clause-served
returns-clause-served g c =
    let round = c.args.round.now in
    places_kept round.claims.now.claims round.pieces.now round.left.now
    (by_drive round.pieces.now (λ (r : Reader g.row.D.Denot). g.D.Drive.shows r.drive) (λ (w : Worker g.row.D.Denot). w.reader)) (λ (r : Reader g.row.D.Denot). g.D.Drive.shows r.drive) (λ (r : Reader g.row.D.Denot). g.D.Drive.failures r.drive)
    (λ (r : Reader g.row.D.Denot). r.out) (λ (w : Worker g.row.D.Denot). w.reader) (λ (w : Worker g.row.D.Denot). w.seat) (λ (w : Worker g.row.D.Denot). w.answers.items)
    c.into_workers.new.workers.items c.run_all-workers.result.items c.args.readers.now.items c.out_of_workers.new.readers.items c.run_all-workers.ensures c.into_workers.ensures.readers c.out_of_workers.ensures.readers

pub returns-clause-read : goal.returns-clause-read
returns-clause-read g c =
    let round = c.args.round.now in (
      flat_map (λ (w : Worker g.row.D.Denot). w.answers.items) (reverse c.run_all-workers.result.items),
      c.out_of_workers.ensures.slots,
      have_answered round.claims.now.claims round.pieces.now round.left.now (λ (r : Reader g.row.D.Denot). g.D.Drive.shows r.drive) (λ (r : Reader g.row.D.Denot). g.D.Drive.failures r.drive)
          (λ (r : Reader g.row.D.Denot). r.out) (λ (w : Worker g.row.D.Denot). w.reader) (λ (w : Worker g.row.D.Denot). w.seat) (λ (w : Worker g.row.D.Denot). w.answers.items)
          c.into_workers.new.workers.items c.run_all-workers.result.items c.args.readers.now.items c.out_of_workers.new.readers.items c.out_of_workers.new.seats.items
          c.run_all-workers.ensures c.into_workers.ensures.readers c.out_of_workers.ensures.readers c.out_of_workers.ensures.seats,
    )
