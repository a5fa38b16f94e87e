use Rattle.std.proofs.Common.{map, Some, sym, subst, arith}
use Rattle.br_model.specs.Delivery.{Stop}
use Rattle.br_join.specs.Outcome.{restored}
use Rattle.br_sink.specs.Delivery.{items_in}
use Rattle.br_engine.specs.Delivering.{EndsWith}
use Rattle.br_engine.specs.Outputs.{StopsOnlyIf}
use Rattle.br_engine.specs.declared.restore_end.RestoreEnd.TheVariants.{Stopped}
use Rattle.br_engine.proofs.DeliverLaws.{delivered_totals, ends_whole}
use Rattle.br_engine.proofs.EndLaws.{never_stops}
use Rattle.br_engine.proofs.StopLaws.{held_only, held_stop}
use Rattle.br_engine.proofs.delivering.deliver_to.Goals as goal

pub returns-in-Ok-clause-ends : goal.returns-in-Ok-clause-ends
returns-in-Ok-clause-ends g c =
    let rs = map restored c.args.outcomes.now in
    ends_whole (Some (g.S.Sink.has c.args.sink.now)) (Some (g.S.Sink.has c.deliver.new.sink)) rs c.end_of.result c.end_of.ensures
    (delivered_totals rs c.in-Ok.field-0 c.in-Ok.ensures.answers, c.in-Ok.ensures.put)

pub returns-in-Ok-clause-lost : goal.returns-in-Ok-clause-lost
returns-in-Ok-clause-lost g c = never_stops 70 ⊥ (map restored c.args.outcomes.now) c.end_of.result c.end_of.ensures

pub returns-in-Ok-clause-changed : goal.returns-in-Ok-clause-changed
returns-in-Ok-clause-changed g c = never_stops 72 ⊥ (map restored c.args.outcomes.now) c.end_of.result c.end_of.ensures

pub returns-in-Err-clause-ends : goal.returns-in-Err-clause-ends
returns-in-Err-clause-ends g c =
    let os = c.args.outcomes.now in
    let had = Some (g.S.Sink.has c.args.sink.now) in
    let has = Some (g.S.Sink.has c.deliver.new.sink) in
    subst (λ (stop : Stop). EndsWith had has (map restored os) (Stopped stop)) (sym c.of_sink.ensures)
    (tt, (c.in-Err.ensures.answers, held_stop (items_in os) c.in-Err.stop c.in-Err.ensures.stopped, c.in-Err.ensures.put))

pub returns-in-Err-clause-lost : goal.returns-in-Err-clause-lost
returns-in-Err-clause-lost g c =
    subst (λ (stop : Stop). StopsOnlyIf 70 ⊥ (Stopped stop)) (sym c.of_sink.ensures)
    (held_only (items_in c.args.outcomes.now) c.in-Err.stop 70 (λ e. omega (arith, e)) (λ e. omega (arith, e)) (λ e. omega (arith, e)) c.in-Err.ensures.stopped)

pub returns-in-Err-clause-changed : goal.returns-in-Err-clause-changed
returns-in-Err-clause-changed g c =
    subst (λ (stop : Stop). StopsOnlyIf 72 ⊥ (Stopped stop)) (sym c.of_sink.ensures)
    (held_only (items_in c.args.outcomes.now) c.in-Err.stop 72 (λ e. omega (arith, e)) (λ e. omega (arith, e)) (λ e. omega (arith, e)) c.in-Err.ensures.stopped)
