use Rattle.std.proofs.Common.{◌≡◌, true, false, Bool, List, length, map, ap, ◌∙◌, arith}
use Rattle.std.specs.List.{AllZip}
use Rattle.std.specs.Prelude.{◌&&◌, IsTrue}
use Rattle.std.proofs.lemmas.List.{length-map, length-reverse}
use Rattle.crossbeam_queue.specs.Passes.{view}
use Rattle.br_model.specs.Volume.{Volume}
use Rattle.br_pool.specs.Gathering.{hits_of_batches}
use Rattle.br_pool.specs.Gathers.{sent_of, shown_to}
use Rattle.br_pool.specs.Outlets.{outlet_view}
use Rattle.br_pool.specs.Pool.{StandsTold}
use Rattle.br_pool.specs.Sending.{IsPassAt}
use Rattle.br_pool.specs.declared.batch_queue.Crew.{Crew}
use Rattle.br_pool.specs.declared.sender.Sender.{Sender}
use Rattle.br_pool.proofs.GatheringLaws.{takes_on}
use Rattle.br_pool.proofs.ListLaws.{zip_length}
use Rattle.br_pool.proofs.SendersLaws.{all_come, all_set_up, gathered, workers_ran}
use Rattle.br_pool.proofs.WorkedLaws.{all_second}
use Rattle.br_pool.proofs.senders.send_all.Goals as goal

-- nothing was lost on any of three ways
all_three : (a b c : Bool) → ((a && b) && c) ≡ true → (a ≡ true) × (b ≡ true) × (c ≡ true)
all_three true true true e = (e, e, e)
all_three true true false e = absurd cc
all_three true false c e = absurd cc
all_three false b c e = absurd cc

pub hire-requires-clause-parts : goal.hire-requires-clause-parts
hire-requires-clause-parts g c =
    let a = ap (λ (v : Crew). v.parts) c.requires.first in let b = c.requires.many in omega (arith, a, b)

pub run_all-senders-requires-clause-ready : goal.run_all-senders-requires-clause-ready
run_all-senders-requires-clause-ready g c κs within =
    let claims = c.args.sending.now.round.now.claims.now in
    all_set_up c.args.sending.now.line.now.table.shared.table_id claims.claims claims.limit c.hire.new.senders.items c.args.workers.items c.hire.ensures.workers c.requires.ready c.hire.ensures.hired

pub run_all-senders-requires-clause-gathers : goal.run_all-senders-requires-clause-gathers
run_all-senders-requires-clause-gathers g c κs within = c.hire.ensures.fewer.0 ∙ ap (λ (v : Crew). v.gathers) c.requires.first

pub dismiss-kept-requires-clause-passes : goal.dismiss-kept-requires-clause-passes
dismiss-kept-requires-clause-passes g c =
    all_second _ (λ (s : Sender g.row.D.Denot). IsPassAt c.args.sending.now.line.now.table.shared.table_id s.outlet.pass × ((outlet_view s.outlet).parts ≡ 1)) (λ a b r. (r.0, r.1.parts))
    c.hire.new.senders.items c.run_all-senders.result.0.items c.run_all-senders.ensures.ran

pub dismiss-kept-requires-clause-room : goal.dismiss-kept-requires-clause-room
dismiss-kept-requires-clause-room g c =
    let a = zip_length _ c.hire.new.senders.items c.run_all-senders.result.0.items c.run_all-senders.ensures.ran in
    let b = length-reverse (map (λ (s : Sender g.row.D.Denot). s.worker) c.hire.new.senders.items) in
    let d = length-map c.hire.new.senders.items (λ (s : Sender g.row.D.Denot). s.worker) in
    let e = ap length c.hire.ensures.workers in
    let f = c.hire.ensures.room in
    let k = c.args.workers.ok in
    omega (arith, a, b, d, e, f, k.0, k.1)

pub dismiss-kept-requires-clause-gathers : goal.dismiss-kept-requires-clause-gathers
dismiss-kept-requires-clause-gathers g c = c.run_all-senders.ensures.still.0 ∙ c.hire.ensures.fewer.0 ∙ ap (λ (v : Crew). v.gathers) c.requires.first

pub gather-rest-requires-clause-gathers : goal.gather-rest-requires-clause-gathers
gather-rest-requires-clause-gathers g c =
    c.dismiss-kept.ensures.taken.0 ∙ c.run_all-senders.ensures.still.0 ∙ c.hire.ensures.fewer.0 ∙ ap (λ (v : Crew). v.gathers) c.requires.first

pub returns : goal.returns
returns g c =
    let sending = c.args.sending.now in
    let round = sending.round.now in
    let pieces = round.pieces.now in
    let shows = g.D.Drive.shows in
    let before = c.hire.new.senders.items in
    let after = c.run_all-senders.result.0.items in
    let ws = c.args.workers.items in
    let vs = c.dismiss-kept.new.workers.items in
    let over : List Volume → Type 0 = λ volumes. AllZip (StandsTold pieces volumes) (shown_to shows ws) (shown_to shows vs) in
    let fine = c.run_all-senders.result.1 in
    let kept = c.dismiss-kept.result in
    let rest = c.gather-rest.result in
    let all : Type 0 = ((fine && kept) && rest) ≡ true in
    let first : all → (fine ≡ true) × (kept ≡ true) × (rest ≡ true) = all_three fine kept rest in
    let dismissed = c.dismiss-kept.ensures in
    let a = zip_length _ before after c.run_all-senders.ensures.ran in
    let b = length-reverse (map (λ (s : Sender g.row.D.Denot). s.worker) before) in
    let d = length-map before (λ (s : Sender g.row.D.Denot). s.worker) in
    let e = ap length c.hire.ensures.workers in
    let many : length after ≡ length ws = omega (arith, a, b, d, e) in (
      hits_of_batches (sent_of after),
      workers_ran shows g.D.Drive.failures sending.line.now.table.shared.table_id round.claims.now.claims pieces round.left.now before after ws vs c.hire.ensures.workers dismissed.workers
          c.run_all-senders.ensures.ran,
      gathered over pieces (IsTrue fine) all all (length ws) (sent_of after) (view c.args.pass) (view c.hire.new.pass) (view c.run_all-senders.new.pass) (view c.dismiss-kept.new.pass) (view c.gather-rest.new.pass)
          c.args.joiner.now c.run_all-senders.new.joiner c.gather-rest.new.joiner c.requires.first c.hire.ensures.fewer c.run_all-senders.ensures.still c.run_all-senders.ensures.took
          (dismissed.taken.0, (let t = dismissed.taken.1 in omega (arith, t, many)), dismissed.taken.2)
          c.gather-rest.ensures.still
          (takes_on (IsTrue kept) (IsTrue rest) all (view c.run_all-senders.new.pass) (view c.dismiss-kept.new.pass) (view c.gather-rest.new.pass) c.run_all-senders.new.joiner c.dismiss-kept.new.joiner c.gather-rest.new.joiner
          (λ r. (first r).1) (λ r. (first r).2) dismissed.took c.gather-rest.ensures.took)
          c.gather-rest.ensures.all c.gather-rest.ensures.no_other (λ r. (first r).0) (λ r. r)
          (all_come shows g.D.Drive.failures sending.line.now.table.shared.table_id round.claims.now.claims pieces round.left.now before after ws vs c.hire.ensures.workers dismissed.workers
          c.run_all-senders.ensures.ran),
    )
