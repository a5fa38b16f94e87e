use Rattle.std.proofs.Common.{rules, ◌≡◌, ◌<◌, Ok, List, length, take, map, ap, sym, subst, ◌∙◌}
use Rattle.std.proofs.lemmas.Result.{err_from_is_err_and}
use Rattle.std.proofs.lemmas.List.{take_all}
use Rattle.br_model.specs.Answer.{IsRefusal}
use Rattle.br_model.specs.Delivery.{Stop, delivery}
use Rattle.br_model.specs.File.{Item}
use Rattle.br_join.specs.Outcome.{restored}
use Rattle.br_sink.specs.Delivery.{IsStopIn, items_in, stop_cause}
use Rattle.br_sink.specs.Sink.{HasMore}
use Rattle.br_sink.proofs.DeliveryLaws.{memory_stop, stopped_below, stopped_has, in_the_way_has, in_the_way_is, way_refused, delivered}
use Rattle.br_sink.proofs.delivery.deliver.Goals as goal

pub returns-in_default-clause-stopped : goal.returns-in_default-clause-stopped
returns-in_default-clause-stopped g c =
    let items : List Item = items_in c.args.outcomes.now in
    let some : 0 < length items = search rules in
    subst (IsStopIn items) (sym c.new.ensures) (memory_stop items some)

pub returns-in_err-put_all-clause-put : goal.returns-in_err-put_all-clause-put
returns-in_err-put_all-clause-put g c =
    let p = err_from_is_err_and c.from_residual.result c.from_residual.ensures.1 in
    rw (p.1, p.2)
    (stopped_has c.args.outcomes.now c.in-Ok.place c.in-Ok.files c.in-Ok.ensures.apart c.in_err-put_all.field-0.0 (g.S.Sink.has c.args.sink.now) (g.S.Sink.has c.put_all.new.self)
    c.in_err-put_all.ensures.stopped c.in_err-put_all.ensures.put)

pub returns-in_err-put_all-clause-stopped : goal.returns-in_err-put_all-clause-stopped
returns-in_err-put_all-clause-stopped g c =
    let p = err_from_is_err_and c.from_residual.result c.from_residual.ensures.1 in
    rw (p.1, p.2) (stopped_below c.args.outcomes.now c.in-Ok.place c.in-Ok.files c.in-Ok.ensures.apart c.in_err-put_all.field-0.0 c.in_err-put_all.ensures.stopped)

pub returns-then-place-outcomes-clause-answers : goal.returns-then-place-outcomes-clause-answers
returns-then-place-outcomes-clause-answers g c =
    let os = c.args.outcomes.now in
    subst (λ (stop : Stop). IsRefusal (stop_cause stop) (delivery (map restored os))) (sym c.new-then-place-outcomes.ensures)
    (way_refused (map restored os) c.in-Ok.files (c.in-Ok.ensures.apart.next c.if-place-outcomes.true))

pub returns-then-place-outcomes-clause-put : goal.returns-then-place-outcomes-clause-put
returns-then-place-outcomes-clause-put g c =
    let os = c.args.outcomes.now in
    let first = g.S.Sink.has c.args.sink.now in
    let second = g.S.Sink.has c.put_all.new.self in
    subst (λ (stop : Stop). HasMore (take stop.done (items_in os)) first second) (sym c.new-then-place-outcomes.ensures)
    (in_the_way_has os c.in-Ok.place c.in-Ok.files c.in-Ok.ensures.apart first second c.in_ok-put_all.ensures.put)

pub returns-then-place-outcomes-clause-stopped : goal.returns-then-place-outcomes-clause-stopped
returns-then-place-outcomes-clause-stopped g c =
    let os = c.args.outcomes.now in
    subst (IsStopIn (items_in os)) (sym c.new-then-place-outcomes.ensures)
    (in_the_way_is os c.in-Ok.place c.in-Ok.files c.in-Ok.ensures.apart c.if-place-outcomes.true)

pub returns-clause-answers : goal.returns-clause-answers
returns-clause-answers g c =
    let os = c.args.outcomes.now in
    let all : take c.in-Ok.place os ≡ os = take_all c.in-Ok.place os c.if-place-outcomes.false in
    delivered os (rw all at c.in-Ok.ensures.apart.apart) ∙ ap Ok (sym c.totals.ensures)
