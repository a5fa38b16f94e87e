use Rattle.std.proofs.Common.{◌≡◌, ◌<◌, List, Err, Result, map, ap, sym, subst, arith, ◌∙◌}
use Rattle.std.specs.Prelude.{IfErr, length}
use Rattle.std.proofs.lemmas.Result.{IfErr-weaker}
use Rattle.br_join.specs.Outcome.{restored}
use Rattle.br_join.specs.declared.item.Outcome.{Outcome}
use Rattle.br_model.specs.Delivery.{Stop}
use Rattle.br_model.specs.Name.{FileKey}
use Rattle.br_data.specs.declared.reread_fault.AgainFault.{AgainFault}
use Rattle.br_sink.specs.Delivery.{IsStopBelow, items_in, items_put}
use Rattle.br_sink.specs.Sink.{HasMore}
use Rattle.br_engine.specs.DeliveredAgain.{CanMake, PutsLike}
use Rattle.br_engine.specs.Stopping.{IsChangedOnly, IsLostOnly, IsStopAgain, again_number}
use Rattle.br_engine.proofs.StopLaws.{again_at_70, again_at_72, below_only, put_none, put_of, stop_of_again, stops_of_sink}
use Rattle.br_engine.proofs.delivered_again.put_together.Goals as goal

-- ---- the files are put

pub returns-in-Ok-clause-put : goal.returns-in-Ok-clause-put
returns-in-Ok-clause-put g c =
    let window = c.args.window.now in
    let first = g.S.Sink.has c.args.sink.now in
    let second = g.S.Sink.has c.put_all.new.self in
    let given = CanMake c.args.many.now c.args.source.now.gathered.now (map restored window) in
    subst (λ (r : Result (Unit {0}) Stop). PutsLike given (items_in window) first second r) (sym c.as_in_memory.ensures)
    (put_of given (items_in c.in-Ok.made.items) (items_in window) first second c.put_all.result
    c.in-Ok.ensures.like (λ given. c.in-Ok.ensures.same given.0 given.1)
    (subst (λ (os : List (FileKey × Outcome)). HasMore (items_put c.put_all.result (items_in os)) first second) c.deref.ensures.value c.put_all.ensures.put))

pub returns-in-Ok-clause-stopped : goal.returns-in-Ok-clause-stopped
returns-in-Ok-clause-stopped g c =
    let window = c.args.window.now in
    subst (λ (r : Result (Unit {0}) Stop). IfErr r (IsStopAgain (length (items_in window)))) (sym c.as_in_memory.ensures)
    (stops_of_sink (items_in c.in-Ok.made.items) (items_in window) c.put_all.result c.in-Ok.ensures.like
    (subst (λ (os : List (FileKey × Outcome)). IfErr c.put_all.result (IsStopBelow (length (items_in os)))) c.deref.ensures.value c.put_all.ensures.stopped))

pub returns-in-Ok-clause-failed : goal.returns-in-Ok-clause-failed
returns-in-Ok-clause-failed g c =
    let failures = g.S.Sink.failures in
    subst (λ (r : Result (Unit {0}) Stop). IfErr r (λ stop. stop.number ≡ 80 → failures c.args.sink.now < failures c.put_all.new.self)) (sym c.as_in_memory.ensures)
    c.put_all.ensures.failed

pub returns-in-Ok-clause-changed : goal.returns-in-Ok-clause-changed
returns-in-Ok-clause-changed g c =
    let given = CanMake c.args.many.now c.args.source.now.gathered.now (map restored c.args.window.now) in
    subst (λ (r : Result (Unit {0}) Stop). IfErr r (IsChangedOnly given)) (sym c.as_in_memory.ensures)
    (IfErr-weaker c.put_all.result _ _ (λ stop below at. absurd (below_only _ stop 72 (λ e. omega (arith, e)) (λ e. omega (arith, e)) below at)) c.put_all.ensures.stopped)

pub returns-in-Ok-clause-lost : goal.returns-in-Ok-clause-lost
returns-in-Ok-clause-lost g c =
    subst (λ (r : Result (Unit {0}) Stop). IfErr r (IsLostOnly c.args.many.now c.again.new.many)) (sym c.as_in_memory.ensures)
    (IfErr-weaker c.put_all.result _ _ (λ stop below at. absurd (below_only _ stop 70 (λ e. omega (arith, e)) (λ e. omega (arith, e)) below at)) c.put_all.ensures.stopped)

-- ---- they are not made once more

pub returns-in-Err-clause-put : goal.returns-in-Err-clause-put
returns-in-Err-clause-put g c =
    let fault = c.in-Err.fault in
    let window = c.args.window.now in
    let has = g.S.Sink.has c.args.sink.now in
    let new : c.new.result ≡ record { number = again_number fault; done = 0 } = c.new.ensures ∙ (λ i. record { number = c.cause_of_again.ensures i; done = 0 }) in
    let given = CanMake c.args.many.now c.args.source.now.gathered.now (map restored window) in
    subst (λ (stop : Stop). PutsLike {A = Unit {0}} given (items_in window) has has (Err stop)) (sym new) (put_none given (items_in window) has (again_number fault))

pub returns-in-Err-clause-stopped : goal.returns-in-Err-clause-stopped
returns-in-Err-clause-stopped g c =
    let fault = c.in-Err.fault in
    let items = items_in c.args.window.now in
    let new : c.new.result ≡ record { number = again_number fault; done = 0 } = c.new.ensures ∙ (λ i. record { number = c.cause_of_again.ensures i; done = 0 }) in
    subst (IsStopAgain (length items)) (sym new) (stop_of_again items fault c.in-Err.ensures.some)

pub returns-in-Err-clause-changed : goal.returns-in-Err-clause-changed
returns-in-Err-clause-changed g c = λ at.
    let fault = c.in-Err.fault in
    let new : c.new.result ≡ record { number = again_number fault; done = 0 } = c.new.ensures ∙ (λ i. record { number = c.cause_of_again.ensures i; done = 0 }) in
    c.in-Err.ensures.changed (ap (λ (f : AgainFault). Err f) (again_at_72 fault (sym (ap (λ (stop : Stop). stop.number) new) ∙ at)))

pub returns-in-Err-clause-lost : goal.returns-in-Err-clause-lost
returns-in-Err-clause-lost g c = λ at.
    let fault = c.in-Err.fault in
    let new : c.new.result ≡ record { number = again_number fault; done = 0 } = c.new.ensures ∙ (λ i. record { number = c.cause_of_again.ensures i; done = 0 }) in
    c.in-Err.ensures.failed (ap (λ (f : AgainFault). Err f) (again_at_70 fault (sym (ap (λ (stop : Stop). stop.number) new) ∙ at)))
