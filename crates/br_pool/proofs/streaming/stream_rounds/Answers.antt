use Rattle.std.proofs.Common.{ℕ, List, [], Bool, Option, refl, ap, sym, ◌∙◌, arith}
use Rattle.std.specs.Prelude.{not}
use Rattle.std.specs.List.{list_any}
use Rattle.br_model.specs.Volume.{Volume}
use Rattle.br_pool.specs.Rounds.{OverAll, is_turn}
use Rattle.br_pool.specs.Slots.{is_empty}
use Rattle.br_pool.specs.Sending.{IsSent}
use Rattle.br_pool.specs.declared.worker.Reader.{Reader}
use Rattle.br_pool.proofs.FilledLaws.{none_fills}
use Rattle.br_pool.proofs.FlagLaws.{and_left, and_not, and_right, none_in, some_in}
use Rattle.br_pool.proofs.ListLaws.{zip_length}
use Rattle.br_pool.proofs.GathersLaws.{gathers_none, gathers_on, never_on_ok}
use Rattle.br_pool.proofs.StreamedLaws.{round_added}
use Rattle.br_pool.proofs.ReaderLaws.{all_served, served_on, stand_from, stand_so_far}
use Rattle.br_pool.proofs.streaming.stream_rounds.Goals as goal

pub loop-alloc-init : goal.loop-alloc-init
loop-alloc-init g c =
    let readers = c.args.readers.now.items in record {
      many = refl;
      served = all_served (λ (r : Reader g.row.D.Denot). g.D.Drive.shows r.drive) (λ (r : Reader g.row.D.Denot). g.D.Drive.failures r.drive) (λ (r : Reader g.row.D.Denot). r.out) readers;
      filled = gathers_none (OverAll g.D.Drive.shows c.args.task.now.pieces.now readers readers) c.args.task.now.pieces.now c.args.joiner.now _
          (none_fills (IsSent (OverAll g.D.Drive.shows c.args.task.now.pieces.now readers readers) []) c.args.task.now.pieces.now c.args.slots.now c.requires.many c.requires.none);
    }

pub loop-alloc-preserved : goal.loop-alloc-preserved
loop-alloc-preserved g c =
    let i = c.loop-alloc.invariant in
    let shows : Reader g.row.D.Denot → Option (List Volume) = λ r. g.D.Drive.shows r.drive in
    let fails : Reader g.row.D.Denot → ℕ = λ r. g.D.Drive.failures r.drive in
    let out : Reader g.row.D.Denot → Bool = λ r. r.out in
    let pieces = c.args.task.now.pieces.now in
    let first = c.args.readers.now.items in
    let second = c.loop-alloc.readers.items in
    let third = c.stream_round.new.readers.items in
    let added = c.in_ok-stream_round.ensures.added in
    let so_far : List Volume → Type 0 = OverAll g.D.Drive.shows pieces first second in
    let round : List Volume → Type 0 = OverAll g.D.Drive.shows pieces second third in
    let whole : List Volume → Type 0 = OverAll g.D.Drive.shows pieces first third in
    let served = c.in_ok-stream_round.ensures.served in record {
      many = c.in_ok-stream_round.ensures.many ∙ i.many;
      served = served_on shows fails out first second third i.served served;
      filled =
          round_added so_far round whole pieces c.args.joiner.now c.loop-alloc.joiner c.stream_round.new.joiner c.loop-alloc.slots c.stream_round.new.slots
          (λ volumes told. stand_so_far shows fails out pieces volumes first second third i.served served told)
          (λ volumes told. stand_from shows fails out pieces volumes first second third i.served served told) i.filled added;
    }

pub returns-in_err-stream_round-clause-served : goal.returns-in_err-stream_round-clause-served
returns-in_err-stream_round-clause-served g c =
    served_on (λ (r : Reader g.row.D.Denot). g.D.Drive.shows r.drive) (λ (r : Reader g.row.D.Denot). g.D.Drive.failures r.drive) (λ (r : Reader g.row.D.Denot). r.out)
    c.args.readers.now.items c.loop-alloc.readers.items c.stream_round.new.readers.items c.loop-alloc.invariant.served c.stream_round.ensures.served

-- as many readers as at first
pub stream_round-requires-clause-few : goal.stream_round-requires-clause-few
stream_round-requires-clause-few g c =
    let len = zip_length _ c.args.readers.now.items c.loop-alloc.readers.items c.loop-alloc.invariant.served in
    let few = c.requires.few in
    omega (arith, len, few)

pub stream_round-requires-clause-left : goal.stream_round-requires-clause-left
stream_round-requires-clause-left g c = λ κs lives.
    and_left (list_any is_empty c.loop-alloc.slots) (list_any (λ (r : Reader g.row.D.Denot). not r.out) c.loop-alloc.readers.items)
    (ap (λ l. is_turn l c.loop-alloc.slots) (sym c.deref.ensures.value) ∙ sym c.goes_on.ensures ∙ c.loop-alloc-test.true)

pub stream_round-requires-clause-ready : goal.stream_round-requires-clause-ready
stream_round-requires-clause-ready g c = λ κs lives.
    some_in (λ (r : Reader g.row.D.Denot). r.out) c.loop-alloc.readers.items
    (and_right (list_any is_empty c.loop-alloc.slots) (list_any (λ (r : Reader g.row.D.Denot). not r.out) c.loop-alloc.readers.items)
    (ap (λ l. is_turn l c.loop-alloc.slots) (sym c.deref.ensures.value) ∙ sym c.goes_on.ensures ∙ c.loop-alloc-test.true))

-- if a slot is empty at the end, no drive is left
pub returns-clause-left : goal.returns-clause-left
returns-clause-left g c = λ empty.
    none_in (λ (r : Reader g.row.D.Denot). r.out) c.loop-alloc.readers.items
    (and_not (list_any is_empty c.loop-alloc.slots) (list_any (λ (r : Reader g.row.D.Denot). not r.out) c.loop-alloc.readers.items)
    (ap (λ l. is_turn l c.loop-alloc.slots) (sym c.deref.ensures.value) ∙ sym c.goes_on.ensures ∙ c.loop-alloc-test.false) empty)

pub returns-in_err-stream_round-clause-filled : goal.returns-in_err-stream_round-clause-filled
returns-in_err-stream_round-clause-filled g c =
    let i = c.loop-alloc.invariant in
    let shows : Reader g.row.D.Denot → Option (List Volume) = λ r. g.D.Drive.shows r.drive in
    let fails : Reader g.row.D.Denot → ℕ = λ r. g.D.Drive.failures r.drive in
    let out : Reader g.row.D.Denot → Bool = λ r. r.out in
    let pieces = c.args.task.now.pieces.now in
    let first = c.args.readers.now.items in
    let second = c.loop-alloc.readers.items in
    let third = c.stream_round.new.readers.items in
    let served = c.stream_round.ensures.served in
    gathers_on (OverAll g.D.Drive.shows pieces first second) (OverAll g.D.Drive.shows pieces second third) (OverAll g.D.Drive.shows pieces first third) pieces c.args.joiner.now c.loop-alloc.joiner c.stream_round.new.joiner
    _ _ _ (λ volumes told. stand_so_far shows fails out pieces volumes first second third i.served served told)
    (λ volumes told. stand_from shows fails out pieces volumes first second third i.served served told) (λ xs ys m n. never_on_ok _ _ c.from_residual.result c.from_residual.ensures.1) i.filled c.stream_round.ensures.added
