use Rattle.std.proofs.Common.{rules, ◌≡◌, ◌<◌, ℕ, List, Err, length, map, take, sym, subst, arith}
use Rattle.std.proofs.lemmas.List.{take_all}
use Rattle.std.proofs.lemmas.Result.{err_from_is_err_and}
use Rattle.br_model.specs.Answer.{IsRefusal}
use Rattle.br_model.specs.Delivery.{Stop, delivery}
use Rattle.br_model.specs.File.{Item}
use Rattle.br_join.specs.Outcome.{restored}
use Rattle.br_data.proofs.GoOnLaws.{go_itself}
use Rattle.br_sink.specs.Delivery.{items_in, stop_cause}
use Rattle.br_sink.proofs.DeliveryLaws.{delivered, in_the_way_is, memory_stop, way_refused}
use Rattle.br_engine.specs.DeliveredAgain.{CanMake, PutsLike}
use Rattle.br_engine.specs.Stopping.{IsChangedOnly, IsLostOnly, IsRestoreStop}
use Rattle.br_engine.proofs.AgainLaws.{make_taken}
use Rattle.br_engine.proofs.StopLaws.{again_below, held_stop, not_changed, puts_before, puts_fewer}
use Rattle.br_engine.proofs.delivered_again.deliver_again.Goals as goal

pub returns-in_default-clause-stopped : goal.returns-in_default-clause-stopped
returns-in_default-clause-stopped g c =
    let items : List Item = items_in c.args.outcomes.now in
    let some : 0 < length items = search rules in
    subst (IsRestoreStop items) (sym c.new.ensures) (held_stop items _ (memory_stop items some))

pub returns-in_default-clause-changed : goal.returns-in_default-clause-changed
returns-in_default-clause-changed g c =
    let given = CanMake c.args.many.now c.args.source.now.gathered.now (map restored c.args.outcomes.now) in
    subst (IsChangedOnly given) (sym c.new.ensures) (not_changed given 1 0 (λ e. omega (arith, e)))

pub returns-in_default-clause-lost : goal.returns-in_default-clause-lost
returns-in_default-clause-lost g c =
    subst (IsLostOnly c.args.many.now c.args.many.now) (sym c.new.ensures) (λ at. let e : ◌≡◌ {A = ℕ} 1 70 = at in absurd (omega (arith, e)))

pub returns-in_default-clause-on : goal.returns-in_default-clause-on
returns-in_default-clause-on g c = go_itself c.args.many.now

-- ---- the delivery stops at a file that is put

pub returns-in_err-put_windows-clause-put : goal.returns-in_err-put_windows-clause-put
returns-in_err-put_windows-clause-put g c =
    let p = err_from_is_err_and c.from_residual.result c.from_residual.ensures.1 in
    let os = c.args.outcomes.now in
    let m = c.args.many.now in
    let gathered = c.args.source.now.gathered.now in
    rw (p.1, p.2)
    (puts_fewer (CanMake m gathered (map restored os)) (CanMake m gathered (map restored (take c.in-Ok.place os))) os c.in-Ok.place (g.S.Sink.has c.args.sink.now)
    (g.S.Sink.has c.put_windows.new.sink) c.in_err-put_windows.field-0.0 (make_taken m gathered c.in-Ok.place os) c.in_err-put_windows.ensures.stopped c.in_err-put_windows.ensures.put)

pub returns-in_err-put_windows-clause-stopped : goal.returns-in_err-put_windows-clause-stopped
returns-in_err-put_windows-clause-stopped g c =
    let p = err_from_is_err_and c.from_residual.result c.from_residual.ensures.1 in
    rw (p.1, p.2) (again_below c.args.outcomes.now c.in-Ok.place c.in-Ok.files c.in-Ok.ensures.apart c.in_err-put_windows.field-0.0 c.in_err-put_windows.ensures.stopped)

pub returns-in_err-put_windows-clause-changed : goal.returns-in_err-put_windows-clause-changed
returns-in_err-put_windows-clause-changed g c =
    let p = err_from_is_err_and c.from_residual.result c.from_residual.ensures.1 in
    rw (p.1, p.2)
    (λ at can. c.in_err-put_windows.ensures.changed at (make_taken c.args.many.now c.args.source.now.gathered.now c.in-Ok.place c.args.outcomes.now can))

pub returns-in_err-put_windows-clause-lost : goal.returns-in_err-put_windows-clause-lost
returns-in_err-put_windows-clause-lost g c =
    let p = err_from_is_err_and c.from_residual.result c.from_residual.ensures.1 in rw (p.1, p.2) c.in_err-put_windows.ensures.lost

-- ---- or at one whose path conflicts

pub returns-then-place-outcomes-clause-put : goal.returns-then-place-outcomes-clause-put
returns-then-place-outcomes-clause-put g c =
    let os = c.args.outcomes.now in
    let m = c.args.many.now in
    let gathered = c.args.source.now.gathered.now in
    let first = g.S.Sink.has c.args.sink.now in
    let second = g.S.Sink.has c.put_windows.new.sink in
    let given = CanMake m gathered (map restored os) in
    subst (λ (stop : Stop). PutsLike {A = Unit {0}} given (items_in os) first second (Err stop)) (sym c.new-then-place-outcomes.ensures)
    (puts_before given (CanMake m gathered (map restored (take c.in-Ok.place os))) os c.in-Ok.place c.in-Ok.files 81 first second (make_taken m gathered c.in-Ok.place os)
    c.in-Ok.ensures.apart c.in_ok-put_windows.ensures.put)

pub returns-then-place-outcomes-clause-all : goal.returns-then-place-outcomes-clause-all
returns-then-place-outcomes-clause-all g c =
    let os = c.args.outcomes.now in
    subst (λ (stop : Stop). IsRefusal (stop_cause stop) (delivery (map restored os))) (sym c.new-then-place-outcomes.ensures)
    (way_refused (map restored os) c.in-Ok.files (c.in-Ok.ensures.apart.next c.if-place-outcomes.true))

pub returns-then-place-outcomes-clause-stopped : goal.returns-then-place-outcomes-clause-stopped
returns-then-place-outcomes-clause-stopped g c =
    let os = c.args.outcomes.now in
    subst (IsRestoreStop (items_in os)) (sym c.new-then-place-outcomes.ensures)
    (held_stop (items_in os) _ (in_the_way_is os c.in-Ok.place c.in-Ok.files c.in-Ok.ensures.apart c.if-place-outcomes.true))

pub returns-then-place-outcomes-clause-changed : goal.returns-then-place-outcomes-clause-changed
returns-then-place-outcomes-clause-changed g c =
    let given = CanMake c.args.many.now c.args.source.now.gathered.now (map restored c.args.outcomes.now) in
    subst (IsChangedOnly given) (sym c.new-then-place-outcomes.ensures) (not_changed given 81 c.in-Ok.files (λ e. omega (arith, e)))

pub returns-then-place-outcomes-clause-lost : goal.returns-then-place-outcomes-clause-lost
returns-then-place-outcomes-clause-lost g c =
    subst (IsLostOnly c.args.many.now c.put_windows.new.many) (sym c.new-then-place-outcomes.ensures)
    (λ at. let e : ◌≡◌ {A = ℕ} 81 70 = at in absurd (omega (arith, e)))

-- ---- all are put

pub returns-clause-all : goal.returns-clause-all
returns-clause-all g c =
    let os = c.args.outcomes.now in
    let all : take c.in-Ok.place os ≡ os = take_all c.in-Ok.place os c.if-place-outcomes.false in
    delivered os (rw all at c.in-Ok.ensures.apart.apart)
