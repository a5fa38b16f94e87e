use Rattle.std.proofs.Common.{◌≡◌, length, arith}
use Rattle.br_pool.specs.Gathers.{by_sending}
use Rattle.br_pool.specs.Rounds.{OverAll}
use Rattle.br_pool.specs.Workers.{IsReady}
use Rattle.br_pool.specs.declared.workers.WorkerShare.{WorkerShare}
use Rattle.br_pool.specs.declared.worker.Reader.{Reader}
use Rattle.br_pool.specs.declared.worker.Worker.{Worker}
use Rattle.br_pool.proofs.GathersLaws.{gathers_none, never_ok}
use Rattle.br_pool.proofs.ListLaws.{all_over, zip_length}
use Rattle.br_pool.proofs.ReaderLaws.{all_served}
use Rattle.br_pool.proofs.StreamedLaws.{lost_some, took_all}
use Rattle.br_pool.proofs.WorkedLaws.{numbers_below, places_kept, seats_many}
use Rattle.br_pool.proofs.streaming.read_to.Goals as goal

-- the workers are set up
pub send_all-workers-requires-clause-ready : goal.send_all-workers-requires-clause-ready
send_all-workers-requires-clause-ready g c = λ κs lasts. let claims = c.args.task.now.round.now.claims.now in
    all_over (λ (d : WorkerShare) (w : Worker g.row.D.Denot). (w.seat ≡ d.seat) × (w.answers ≡ d.answers)) (λ (d : WorkerShare). IsReady claims.claims claims.limit d.seat d.answers)
    (λ (w : Worker g.row.D.Denot). IsReady claims.claims claims.limit w.seat w.answers) (λ d w r p. rw (r.0, r.1) p) c.args.shares.items c.into_workers.new.workers.items c.into_workers.ensures.shares c.requires.ready

pub send_all-workers-requires-clause-many : goal.send_all-workers-requires-clause-many
send_all-workers-requires-clause-many g c = λ κs lasts.
    let a = zip_length _ c.args.shares.items c.into_workers.new.workers.items c.into_workers.ensures.shares in
    let b = c.requires.many in let d = c.requires.drives in omega (arith, a, b, d)

pub send_all-workers-requires-clause-room : goal.send_all-workers-requires-clause-room
send_all-workers-requires-clause-room g c = λ κs lasts.
    let a = zip_length _ c.args.shares.items c.into_workers.new.workers.items c.into_workers.ensures.shares in
    let b = c.in_ok-workers.ensures.room.1 in let d = c.len.ensures in let e = c.args.shares.ok.0 in omega (arith, a, b, d, e)

pub returns-in_err-seats-clause-served : goal.returns-in_err-seats-clause-served
returns-in_err-seats-clause-served g c = all_served (λ (r : Reader g.row.D.Denot). g.D.Drive.shows r.drive) (λ (r : Reader g.row.D.Denot). g.D.Drive.failures r.drive) (λ (r : Reader g.row.D.Denot). r.out) c.args.readers.now.items

pub returns-in_err-seats-clause-read : goal.returns-in_err-seats-clause-read
returns-in_err-seats-clause-read g c =
    gathers_none (OverAll g.D.Drive.shows c.args.task.now.round.now.pieces.now c.args.readers.now.items c.args.readers.now.items) c.args.task.now.round.now.pieces.now c.args.joiner.now _ (never_ok _ _ c.from_residual.result c.from_residual.ensures.1)

pub returns-in_err-workers-clause-served : goal.returns-in_err-workers-clause-served
returns-in_err-workers-clause-served g c = all_served (λ (r : Reader g.row.D.Denot). g.D.Drive.shows r.drive) (λ (r : Reader g.row.D.Denot). g.D.Drive.failures r.drive) (λ (r : Reader g.row.D.Denot). r.out) c.args.readers.now.items

pub returns-in_err-workers-clause-read : goal.returns-in_err-workers-clause-read
returns-in_err-workers-clause-read g c =
    gathers_none (OverAll g.D.Drive.shows c.args.task.now.round.now.pieces.now c.args.readers.now.items c.args.readers.now.items) c.args.task.now.round.now.pieces.now c.args.joiner.now _ (never_ok _ _ c.from_residual-in_err-workers.result c.from_residual-in_err-workers.ensures.1)

pub returns-in_err-line-clause-served : goal.returns-in_err-line-clause-served
returns-in_err-line-clause-served g c = all_served (λ (r : Reader g.row.D.Denot). g.D.Drive.shows r.drive) (λ (r : Reader g.row.D.Denot). g.D.Drive.failures r.drive) (λ (r : Reader g.row.D.Denot). r.out) c.args.readers.now.items

pub returns-in_err-line-clause-read : goal.returns-in_err-line-clause-read
returns-in_err-line-clause-read g c =
    gathers_none (OverAll g.D.Drive.shows c.args.task.now.round.now.pieces.now c.args.readers.now.items c.args.readers.now.items) c.args.task.now.round.now.pieces.now c.args.joiner.now _ (never_ok _ _ c.from_residual-in_err-line.result c.from_residual-in_err-line.ensures.1)

pub out_of_workers-requires-clause-room : goal.out_of_workers-requires-clause-room
out_of_workers-requires-clause-room g c =
    let a = zip_length _ c.args.shares.items c.into_workers.new.workers.items c.into_workers.ensures.shares in
    let b = zip_length _ c.into_workers.new.workers.items c.send_all-workers.result.0.items c.send_all-workers.ensures.1 in
    let many = c.requires.many in
    let readers = c.into_workers.ensures.room in
    let seats = c.in_ok-seats.ensures.capacity in
    let d = c.args.shares.ok.0 in
    let e = c.args.readers.now.ok in
    (omega (arith, a, b, many, readers, e.0, e.1), omega (arith, a, b, seats, d))

pub out_of_workers-requires-clause-below : goal.out_of_workers-requires-clause-below
out_of_workers-requires-clause-below g c =
    let round = c.args.task.now.round.now in
    let sent = c.send_all-workers.ensures in
    numbers_below round.claims.now.claims round.pieces.now round.left.now (by_sending round.pieces.now g.D.Drive.shows sent.0) (λ (r : Reader g.row.D.Denot). g.D.Drive.shows r.drive)
    (λ (r : Reader g.row.D.Denot). g.D.Drive.failures r.drive) (λ (r : Reader g.row.D.Denot). r.out) (λ (w : Worker g.row.D.Denot). w.reader) (λ (w : Worker g.row.D.Denot). w.seat) (λ (w : Worker g.row.D.Denot). w.answers.items)
    (length c.args.into.now) c.into_workers.new.workers.items c.send_all-workers.result.0.items c.requires.slots sent.1

pub returns-clause-many : goal.returns-clause-many
returns-clause-many g c =
    let round = c.args.task.now.round.now in
    let sent = c.send_all-workers.ensures in
    seats_many round.claims.now.claims round.pieces.now round.left.now (by_sending round.pieces.now g.D.Drive.shows sent.0) (λ (r : Reader g.row.D.Denot). g.D.Drive.shows r.drive)
    (λ (r : Reader g.row.D.Denot). g.D.Drive.failures r.drive) (λ (r : Reader g.row.D.Denot). r.out) (λ (w : Worker g.row.D.Denot). w.reader) (λ (w : Worker g.row.D.Denot). w.seat) (λ (w : Worker g.row.D.Denot). w.answers.items)
    c.into_workers.new.workers.items c.send_all-workers.result.0.items c.args.readers.now.items c.out_of_workers.new.seats.items sent.1 c.into_workers.ensures.readers c.out_of_workers.ensures.seats

pub returns-then-not-fine-clause-served : goal.returns-then-not-fine-clause-served
returns-then-not-fine-clause-served g c =
    let round = c.args.task.now.round.now in
    let sent = c.send_all-workers.ensures in
    places_kept round.claims.now.claims round.pieces.now round.left.now (by_sending round.pieces.now g.D.Drive.shows sent.0) (λ (r : Reader g.row.D.Denot). g.D.Drive.shows r.drive)
    (λ (r : Reader g.row.D.Denot). g.D.Drive.failures r.drive) (λ (r : Reader g.row.D.Denot). r.out) (λ (w : Worker g.row.D.Denot). w.reader) (λ (w : Worker g.row.D.Denot). w.seat) (λ (w : Worker g.row.D.Denot). w.answers.items)
    c.into_workers.new.workers.items c.send_all-workers.result.0.items c.args.readers.now.items c.out_of_workers.new.readers.items sent.1 c.into_workers.ensures.readers c.out_of_workers.ensures.readers

pub returns-clause-served : goal.returns-clause-served
returns-clause-served g c =
    let round = c.args.task.now.round.now in
    let sent = c.send_all-workers.ensures in
    places_kept round.claims.now.claims round.pieces.now round.left.now (by_sending round.pieces.now g.D.Drive.shows sent.0) (λ (r : Reader g.row.D.Denot). g.D.Drive.shows r.drive)
    (λ (r : Reader g.row.D.Denot). g.D.Drive.failures r.drive) (λ (r : Reader g.row.D.Denot). r.out) (λ (w : Worker g.row.D.Denot). w.reader) (λ (w : Worker g.row.D.Denot). w.seat) (λ (w : Worker g.row.D.Denot). w.answers.items)
    c.into_workers.new.workers.items c.send_all-workers.result.0.items c.args.readers.now.items c.out_of_workers.new.readers.items sent.1 c.into_workers.ensures.readers c.out_of_workers.ensures.readers

pub returns-then-not-fine-clause-read : goal.returns-then-not-fine-clause-read
returns-then-not-fine-clause-read g c =
    let round = c.args.task.now.round.now in
    let sent = c.send_all-workers.ensures in
    lost_some g.D.Drive.shows g.D.Drive.failures round.pieces.now round.claims.now.claims round.left.now c.into_workers.new.workers.items c.send_all-workers.result.0.items c.args.readers.now.items c.out_of_workers.new.readers.items
    c.into_workers.ensures.readers c.out_of_workers.ensures.readers c.args.joiner.now c.send_all-workers.new.joiner c.send_all-workers.result.1 _ (λ taken. tt) sent

pub returns-clause-read : goal.returns-clause-read
returns-clause-read g c =
    let round = c.args.task.now.round.now in
    let sent = c.send_all-workers.ensures in
    took_all g.D.Drive.shows g.D.Drive.failures round.pieces.now round.claims.now.claims round.left.now c.into_workers.new.workers.items c.send_all-workers.result.0.items c.args.readers.now.items c.out_of_workers.new.readers.items
    c.into_workers.ensures.readers c.out_of_workers.ensures.readers c.args.joiner.now c.send_all-workers.new.joiner c.send_all-workers.result.1 c.args.into.now c.out_of_workers.new.slots
    c.out_of_workers.new.seats c.if-not-fine.false sent c.out_of_workers.ensures.seats c.out_of_workers.ensures.slots
