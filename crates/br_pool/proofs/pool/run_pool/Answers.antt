use Rattle.std.proofs.Common.{◌≡◌, ℕ, ◌<◌, Bool, true, List, length, Option, None, sym, subst, ◌∙◌, arith}
use Rattle.std.specs.List.{AllByRecursion, AllZip}
use Rattle.br_model.specs.Volume.{Volume}
use Rattle.br_pool.specs.Pool.{StandsTold}
use Rattle.br_pool.specs.Rounds.{OverAll}
use Rattle.br_pool.specs.Slots.{Fills, IsListed}
use Rattle.br_pool.specs.Workers.{Answer, IsAnswer, outs}
use Rattle.br_pool.specs.declared.worker.Reader.{Reader}
use Rattle.br_pool.proofs.ListLaws.{written, zip_length}
use Rattle.br_pool.proofs.PlaceLaws.{places_of}
use Rattle.br_pool.proofs.WorkedLaws.{all_kept}
use Rattle.br_pool.proofs.ReaderLaws.{all_risen, zip_back, zip_there}
use Rattle.br_pool.proofs.ResultLaws.{listed_decided, listed_hits, listed_left, listed_numbers}
use Rattle.br_pool.proofs.pool.run_pool.Goals as goal

pub returns-in_err-slots-clause-places : goal.returns-in_err-slots-clause-places
returns-in_err-slots-clause-places g c = all_kept g.D.Drive.shows g.D.Drive.failures c.args.drives.now.items

pub returns-in_err-readers-clause-places : goal.returns-in_err-readers-clause-places
returns-in_err-readers-clause-places g c = all_kept g.D.Drive.shows g.D.Drive.failures c.args.drives.now.items

pub out_of_readers-requires-clause-room : goal.out_of_readers-requires-clause-room
out_of_readers-requires-clause-room g c =
    let a = zip_length _ c.into_readers.new.readers.items c.run_rounds-run.new.readers.items c.run_rounds-run.ensures.served in
    let b = c.into_readers.ensures.many in
    let room = c.into_readers.ensures.room in
    let e = c.args.drives.now.ok in
    omega (arith, a, b, room, e.0, e.1)

pub run_rounds-run-requires-clause-none : goal.run_rounds-run-requires-clause-none
run_rounds-run-requires-clause-none g c κs within =
    subst (λ (l : List (Option Answer)). AllByRecursion (λ (s : Option Answer). s ≡ None) l) (sym c.deref_mut.ensures.value) c.in_ok-slots.ensures.none

pub returns-in_err-run-clause-places : goal.returns-in_err-run-clause-places
returns-in_err-run-clause-places g c =
    places_of g.D.Drive.shows g.D.Drive.failures c.into_readers.new.readers.items c.run_rounds-run.new.readers.items c.args.drives.now.items c.out_of_readers.new.drives.items
    c.run_rounds-run.ensures.served c.into_readers.ensures.drives c.out_of_readers.ensures

pub returns : goal.returns
returns g c =
    let drive : Reader g.row.D.Denot → g.row.D.Denot = λ r. r.drive in
    let shows : Reader g.row.D.Denot → Option (List Volume) = λ r. g.D.Drive.shows r.drive in
    let fails : Reader g.row.D.Denot → ℕ = λ r. g.D.Drive.failures r.drive in
    let out : Reader g.row.D.Denot → Bool = λ r. r.out in
    let pieces = c.args.pieces.now in
    let before = c.args.drives.now.items in
    let after = c.out_of_readers.new.drives.items in
    let first = c.into_readers.new.readers.items in
    let last = c.run_rounds-run.new.readers.items in
    let there = c.into_readers.ensures.drives in
    let back = c.out_of_readers.ensures in
    let served = c.run_rounds-run.ensures.served in
    let over : List Volume → Type 0 = OverAll g.D.Drive.shows pieces first last in
    let fills : AllZip (Fills over) pieces c.run_rounds-run.new.slots = c.in_ok-run.ensures.filled in
    let same : length c.run_rounds-run.new.slots ≡ c.in_ok-slots.slots.len = c.run_rounds-run.ensures.many ∙ c.deref_mut.ensures.len in
    let listed : IsListed c.run_rounds-run.new.slots c.found_in_order.result =
    subst (λ (l : List (Option Answer)). IsListed l c.found_in_order.result) (written c.in_ok-slots.slots.len c.run_rounds-run.new.slots c.in_ok-slots.slots.items same) c.found_in_order.ensures in
    let risen : AllByRecursion (λ (b : Bool). b ≡ true) (outs last) → AllZip (λ d e. g.D.Drive.failures d < g.D.Drive.failures e) before after =
    λ gone. zip_back drive (λ d e. g.D.Drive.failures d < g.D.Drive.failures e) first last before after there back (all_risen shows fails out first last served c.into_readers.ensures.fresh gone) in record {
      numbers = listed_numbers over pieces c.run_rounds-run.new.slots fills c.found_in_order.result listed;
      hits = λ volumes stands. listed_hits over pieces c.run_rounds-run.new.slots fills c.found_in_order.result listed volumes
          (zip_there drive (StandsTold pieces volumes) g.D.Drive.shows first last before after there back stands);
      places = places_of g.D.Drive.shows g.D.Drive.failures first last before after served there back;
      decided = listed_decided (IsAnswer over) (λ p a h. h.sound) pieces c.run_rounds-run.new.slots fills c.found_in_order.result listed;
      failed = listed_left c.run_rounds-run.new.slots c.found_in_order.result listed _ (λ empty. risen (c.in_ok-run.ensures.left empty));
    }
