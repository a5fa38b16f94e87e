use Rattle.std.proofs.Common.{◌≡◌, ℕ, ◌<◌, Bool, true, List, [], length, Option, None, Ok, Err, ap, sym, subst, ◌∙◌, arith}
use Rattle.std.proofs.lemmas.Result.{err_from_is_err_and}
use Rattle.std.specs.List.{AllByRecursion, AllZip}
use Rattle.br_model.specs.Volume.{Volume}
use Rattle.br_model.specs.Meaning.{Hits}
use Rattle.br_join.specs.Joining.{IsMadeFor, Joining}
use Rattle.br_join.proofs.TakingLaws.{with_none}
use Rattle.br_pool.specs.Pool.{StandsTold}
use Rattle.br_pool.specs.Rounds.{OverAll}
use Rattle.br_pool.specs.Sending.{IsSent}
use Rattle.br_pool.specs.Slots.{IsListed}
use Rattle.br_pool.specs.Streaming.{Streams}
use Rattle.br_pool.specs.Workers.{Answer, outs}
use Rattle.br_pool.specs.declared.worker.Reader.{Reader}
use Rattle.br_pool.proofs.ListLaws.{written, zip_length}
use Rattle.br_pool.proofs.PlaceLaws.{places_of}
use Rattle.br_pool.proofs.WorkedLaws.{all_kept}
use Rattle.br_pool.proofs.ReaderLaws.{all_risen, zip_back, zip_there}
use Rattle.br_pool.proofs.ResultLaws.{listed_decided, listed_left}
use Rattle.br_pool.proofs.StreamLaws.{streams_err, streams_none, streams_ok}
use Rattle.br_pool.proofs.streaming.run_pool_streaming.Goals as goal

pub returns-in_err-slots-clause-places : goal.returns-in_err-slots-clause-places
returns-in_err-slots-clause-places g c = all_kept g.D.Drive.shows g.D.Drive.failures c.args.drives.now.items

pub returns-in_err-readers-clause-places : goal.returns-in_err-readers-clause-places
returns-in_err-readers-clause-places g c = all_kept g.D.Drive.shows g.D.Drive.failures c.args.drives.now.items

pub out_of_readers-requires-clause-room : goal.out_of_readers-requires-clause-room
out_of_readers-requires-clause-room g c =
    let a = zip_length _ c.into_readers.new.readers.items c.stream_rounds-run.new.readers.items c.stream_rounds-run.ensures.served in
    let b = c.into_readers.ensures.many in
    let room = c.into_readers.ensures.room in
    let e = c.args.drives.now.ok in
    omega (arith, a, b, room, e.0, e.1)

pub stream_rounds-run-requires-clause-none : goal.stream_rounds-run-requires-clause-none
stream_rounds-run-requires-clause-none g c κs within =
    subst (λ (l : List (Option Answer)). AllByRecursion (λ (s : Option Answer). s ≡ None) l) (sym c.deref_mut.ensures.value) c.in_ok-slots.ensures.none

pub returns-in_err-slots-clause-hits : goal.returns-in_err-slots-clause-hits
returns-in_err-slots-clause-hits g c =
    let p = err_from_is_err_and c.from_residual.result c.from_residual.ensures.1 in
    rw (p.1, p.2) (λ volumes told. streams_none volumes c.args.task.now.pieces.now c.args.joiner.now.hits c.args.joiner.now.hits [] (sym (with_none c.args.joiner.now.hits)) tt)

pub returns-in_err-readers-clause-hits : goal.returns-in_err-readers-clause-hits
returns-in_err-readers-clause-hits g c =
    let p = err_from_is_err_and c.from_residual-in_err-readers.result c.from_residual-in_err-readers.ensures.1 in
    rw (p.1, p.2) (λ volumes told. streams_none volumes c.args.task.now.pieces.now c.args.joiner.now.hits c.args.joiner.now.hits [] (sym (with_none c.args.joiner.now.hits)) tt)

-- memory ran out while the joiner took hits
pub returns-in_err-run-clause-hits : goal.returns-in_err-run-clause-hits
returns-in_err-run-clause-hits g c =
    let drive : Reader g.row.D.Denot → g.row.D.Denot = λ r. r.drive in
    let shows : Reader g.row.D.Denot → Option (List Volume) = λ r. g.D.Drive.shows r.drive in
    let pieces = c.args.task.now.pieces.now in
    let before = c.args.drives.now.items in
    let after = c.out_of_readers.new.drives.items in
    let first = c.into_readers.new.readers.items in
    let last = c.stream_rounds-run.new.readers.items in
    let there = c.into_readers.ensures.drives in
    let back = c.out_of_readers.ensures in
    let held = c.args.joiner.now.hits in
    let over : List Volume → Type 0 = OverAll g.D.Drive.shows pieces first last in
    let gathered = c.stream_rounds-run.ensures.filled in
    let p = err_from_is_err_and c.from_residual-in_err-run.result c.from_residual-in_err-run.ensures.1 in
    rw (p.1, p.2) (λ volumes told. streams_none volumes pieces held c.stream_rounds-run.new.joiner.hits gathered.taken (ap (λ (j : Joining). j.hits) gathered.took)
    (gathered.come volumes (zip_there drive (StandsTold pieces volumes) g.D.Drive.shows first last before after there back told)))

pub returns-in_err-run-clause-made : goal.returns-in_err-run-clause-made
returns-in_err-run-clause-made g c = subst (λ (j : Joining). IsMadeFor c.args.task.now.pieces.now j.pieces) (sym c.stream_rounds-run.ensures.filled.took) c.requires.made

pub returns-in_err-run-clause-open : goal.returns-in_err-run-clause-open
returns-in_err-run-clause-open g c =
    let p = err_from_is_err_and c.from_residual-in_err-run.result c.from_residual-in_err-run.ensures.1 in
    rw (p.1) (ap (λ (j : Joining). j.pieces) c.stream_rounds-run.ensures.filled.took)

pub returns-in_err-run-clause-names : goal.returns-in_err-run-clause-names
returns-in_err-run-clause-names g c = ap (λ (j : Joining). j.names) c.stream_rounds-run.ensures.filled.took

pub returns-in_err-run-clause-places : goal.returns-in_err-run-clause-places
returns-in_err-run-clause-places g c =
    places_of g.D.Drive.shows g.D.Drive.failures c.into_readers.new.readers.items c.stream_rounds-run.new.readers.items c.args.drives.now.items c.out_of_readers.new.drives.items
    c.stream_rounds-run.ensures.served c.into_readers.ensures.drives c.out_of_readers.ensures

pub returns-in_err-found_in_order-clause-made : goal.returns-in_err-found_in_order-clause-made
returns-in_err-found_in_order-clause-made g c = subst (λ (j : Joining). IsMadeFor c.args.task.now.pieces.now j.pieces) (sym c.in_ok-run.ensures.filled.took) c.requires.made

pub returns-in_err-found_in_order-clause-open : goal.returns-in_err-found_in_order-clause-open
returns-in_err-found_in_order-clause-open g c =
    let p = err_from_is_err_and c.from_residual-in_err-found_in_order.result c.from_residual-in_err-found_in_order.ensures.1 in
    rw (p.1) (ap (λ (j : Joining). j.pieces) c.in_ok-run.ensures.filled.took)

pub returns-in_err-found_in_order-clause-names : goal.returns-in_err-found_in_order-clause-names
returns-in_err-found_in_order-clause-names g c = ap (λ (j : Joining). j.names) c.in_ok-run.ensures.filled.took

pub returns-in_err-found_in_order-clause-places : goal.returns-in_err-found_in_order-clause-places
returns-in_err-found_in_order-clause-places g c =
    places_of g.D.Drive.shows g.D.Drive.failures c.into_readers.new.readers.items c.stream_rounds-run.new.readers.items c.args.drives.now.items c.out_of_readers.new.drives.items
    c.stream_rounds-run.ensures.served c.into_readers.ensures.drives c.out_of_readers.ensures

-- the slots have a refusal
pub returns-in_err-found_in_order-clause-hits : goal.returns-in_err-found_in_order-clause-hits
returns-in_err-found_in_order-clause-hits g c =
    let drive : Reader g.row.D.Denot → g.row.D.Denot = λ r. r.drive in
    let shows : Reader g.row.D.Denot → Option (List Volume) = λ r. g.D.Drive.shows r.drive in
    let pieces = c.args.task.now.pieces.now in
    let before = c.args.drives.now.items in
    let after = c.out_of_readers.new.drives.items in
    let first = c.into_readers.new.readers.items in
    let last = c.stream_rounds-run.new.readers.items in
    let there = c.into_readers.ensures.drives in
    let back = c.out_of_readers.ensures in
    let held = c.args.joiner.now.hits in
    let over : List Volume → Type 0 = OverAll g.D.Drive.shows pieces first last in
    let gathered = c.in_ok-run.ensures.filled in
    let same : length c.stream_rounds-run.new.slots ≡ c.in_ok-slots.slots.len = c.stream_rounds-run.ensures.many ∙ c.deref_mut.ensures.len in
    let e = c.in_err-found_in_order.field-0.0 in
    let listed : IsListed c.stream_rounds-run.new.slots (Err e) =
    subst (λ (l : List (Option Answer)). IsListed l (Err e)) (written c.in_ok-slots.slots.len c.stream_rounds-run.new.slots c.in_ok-slots.slots.items same) c.in_err-found_in_order.ensures in
    let p = err_from_is_err_and c.from_residual-in_err-found_in_order.result c.from_residual-in_err-found_in_order.ensures.1 in
    rw (p.1, p.2) (λ volumes told.
    let given : over volumes = zip_there drive (StandsTold pieces volumes) g.D.Drive.shows first last before after there back told in
    streams_err over volumes given gathered.taken pieces c.stream_rounds-run.new.slots gathered.more held c.stream_rounds-run.new.joiner.hits (ap (λ (j : Joining). j.hits) gathered.took) (gathered.come volumes given)
    e listed)

pub returns-in_err-found_in_order-clause-decided : goal.returns-in_err-found_in_order-clause-decided
returns-in_err-found_in_order-clause-decided g c =
    let drive : Reader g.row.D.Denot → g.row.D.Denot = λ r. r.drive in
    let shows : Reader g.row.D.Denot → Option (List Volume) = λ r. g.D.Drive.shows r.drive in
    let pieces = c.args.task.now.pieces.now in
    let before = c.args.drives.now.items in
    let after = c.out_of_readers.new.drives.items in
    let first = c.into_readers.new.readers.items in
    let last = c.stream_rounds-run.new.readers.items in
    let there = c.into_readers.ensures.drives in
    let back = c.out_of_readers.ensures in
    let held = c.args.joiner.now.hits in
    let over : List Volume → Type 0 = OverAll g.D.Drive.shows pieces first last in
    let gathered = c.in_ok-run.ensures.filled in
    let same : length c.stream_rounds-run.new.slots ≡ c.in_ok-slots.slots.len = c.stream_rounds-run.ensures.many ∙ c.deref_mut.ensures.len in
    let e = c.in_err-found_in_order.field-0.0 in
    let listed : IsListed c.stream_rounds-run.new.slots (Err e) =
    subst (λ (l : List (Option Answer)). IsListed l (Err e)) (written c.in_ok-slots.slots.len c.stream_rounds-run.new.slots c.in_ok-slots.slots.items same) c.in_err-found_in_order.ensures in
    let p = err_from_is_err_and c.from_residual-in_err-found_in_order.result c.from_residual-in_err-found_in_order.ensures.1 in
    rw (p.1, p.2) (listed_decided (IsSent over gathered.taken) (λ p a h. h.sound) pieces c.stream_rounds-run.new.slots gathered.more (Err e) listed)

pub returns-in_err-found_in_order-clause-failed : goal.returns-in_err-found_in_order-clause-failed
returns-in_err-found_in_order-clause-failed g c =
    let drive : Reader g.row.D.Denot → g.row.D.Denot = λ r. r.drive in
    let shows : Reader g.row.D.Denot → Option (List Volume) = λ r. g.D.Drive.shows r.drive in
    let pieces = c.args.task.now.pieces.now in
    let before = c.args.drives.now.items in
    let after = c.out_of_readers.new.drives.items in
    let first = c.into_readers.new.readers.items in
    let last = c.stream_rounds-run.new.readers.items in
    let there = c.into_readers.ensures.drives in
    let back = c.out_of_readers.ensures in
    let held = c.args.joiner.now.hits in
    let over : List Volume → Type 0 = OverAll g.D.Drive.shows pieces first last in
    let gathered = c.in_ok-run.ensures.filled in
    let same : length c.stream_rounds-run.new.slots ≡ c.in_ok-slots.slots.len = c.stream_rounds-run.ensures.many ∙ c.deref_mut.ensures.len in
    let e = c.in_err-found_in_order.field-0.0 in
    let listed : IsListed c.stream_rounds-run.new.slots (Err e) =
    subst (λ (l : List (Option Answer)). IsListed l (Err e)) (written c.in_ok-slots.slots.len c.stream_rounds-run.new.slots c.in_ok-slots.slots.items same) c.in_err-found_in_order.ensures in
    let fails : Reader g.row.D.Denot → ℕ = λ r. g.D.Drive.failures r.drive in
    let out : Reader g.row.D.Denot → Bool = λ r. r.out in
    let served = c.stream_rounds-run.ensures.served in
    let risen : AllByRecursion (λ (b : Bool). b ≡ true) (outs last) → AllZip (λ d e. g.D.Drive.failures d < g.D.Drive.failures e) before after =
    λ gone. zip_back drive (λ d e. g.D.Drive.failures d < g.D.Drive.failures e) first last before after there back (all_risen shows fails out first last served c.into_readers.ensures.fresh gone) in
    let p = err_from_is_err_and c.from_residual-in_err-found_in_order.result c.from_residual-in_err-found_in_order.ensures.1 in
    rw (p.1, p.2) (listed_left c.stream_rounds-run.new.slots (Err e) listed _ (λ empty. risen (c.in_ok-run.ensures.left empty)))

-- all pieces were read
pub returns-clause-hits : goal.returns-clause-hits
returns-clause-hits g c =
    let drive : Reader g.row.D.Denot → g.row.D.Denot = λ r. r.drive in
    let shows : Reader g.row.D.Denot → Option (List Volume) = λ r. g.D.Drive.shows r.drive in
    let pieces = c.args.task.now.pieces.now in
    let before = c.args.drives.now.items in
    let after = c.out_of_readers.new.drives.items in
    let first = c.into_readers.new.readers.items in
    let last = c.stream_rounds-run.new.readers.items in
    let there = c.into_readers.ensures.drives in
    let back = c.out_of_readers.ensures in
    let held = c.args.joiner.now.hits in
    let over : List Volume → Type 0 = OverAll g.D.Drive.shows pieces first last in
    let gathered = c.in_ok-run.ensures.filled in
    let same : length c.stream_rounds-run.new.slots ≡ c.in_ok-slots.slots.len = c.stream_rounds-run.ensures.many ∙ c.deref_mut.ensures.len in
    let listed : IsListed c.stream_rounds-run.new.slots (Ok c.in_ok-found_in_order.field-0) =
    subst (λ (l : List (Option Answer)). IsListed l (Ok c.in_ok-found_in_order.field-0)) (written c.in_ok-slots.slots.len c.stream_rounds-run.new.slots c.in_ok-slots.slots.items same) c.in_ok-found_in_order.ensures in
    λ volumes told.
    let given : over volumes = zip_there drive (StandsTold pieces volumes) g.D.Drive.shows first last before after there back told in
    subst (λ (new : Hits). Streams volumes pieces held new (Ok tt)) (sym c.close_all.ensures.hits)
    (streams_ok over volumes given gathered.taken pieces c.stream_rounds-run.new.slots gathered.more held c.stream_rounds-run.new.joiner.hits (ap (λ (j : Joining). j.hits) gathered.took) (gathered.come volumes given)
    c.requires.split c.in_ok-found_in_order.field-0 listed)

pub returns-clause-names : goal.returns-clause-names
returns-clause-names g c = c.close_all.ensures.names ∙ ap (λ (j : Joining). j.names) c.in_ok-run.ensures.filled.took

pub returns-clause-places : goal.returns-clause-places
returns-clause-places g c =
    places_of g.D.Drive.shows g.D.Drive.failures c.into_readers.new.readers.items c.stream_rounds-run.new.readers.items c.args.drives.now.items c.out_of_readers.new.drives.items
    c.stream_rounds-run.ensures.served c.into_readers.ensures.drives c.out_of_readers.ensures

pub close_all-requires : goal.close_all-requires
close_all-requires g c = subst (λ (j : Joining). IsMadeFor c.args.task.now.pieces.now j.pieces) (sym c.in_ok-run.ensures.filled.took) c.requires.made
