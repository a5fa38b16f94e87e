use Rattle.std.proofs.Common.{◌≡◌, ℕ, ◌+◌, List, [], ◌∷◌, ◌++◌, take, drop, length, refl, ap, sym, subst, ◌∙◌, arith, append-nil, length-append, Err}
use Rattle.br_model.specs.Delivery.{Stop}
use Rattle.br_model.specs.File.{Item}
use Rattle.br_sink.specs.Delivery.{IsStopBelow, items_in}
use Rattle.br_sink.specs.Fault.{fault_number}
use Rattle.br_sink.specs.Sink.{HasMore}
use Rattle.br_sink.proofs.DeliveryLaws.{items_at, items_file, items_fault, items_one_more, none_more, more_behind, one_has, one_stops, fault_at_80}
use Rattle.br_sink.proofs.sink.Sink.put_all.Goals as goal
use Rattle.br_sink.proofs.sink.Sink.put_all.Goals.{in-File+in_default-put, in_default}

pub loop-outcome-init : goal.loop-outcome-init
loop-outcome-init g c = record {
  done = refl;
  few = omega arith;
  put = none_more (g.Self.Sink.has c.args.self.now);
  counted = omega arith;
}

pub returns-in-Err-clause-put : goal.returns-in-Err-clause-put
returns-in-Err-clause-put g c =
    let os = c.args.outcomes.now in
    let i : ℕ = c.loop-outcome.outcome-index in
    let before : List Item = items_in (take i os) in
    let first = g.Self.Sink.has c.args.self.now in
    let second = g.Self.Sink.has c.loop-outcome.self in
    let third = g.Self.Sink.has c.put.new.self in
    let around = items_at os i c.loop-outcome-item.result c.in-File.item c.loop-outcome-test.true c.loop-outcome-item.is c.in-File.is in
    let same : length before ≡ c.of_sink.result.done = sym (ap (λ (stop : Stop). stop.done) c.of_sink.ensures ∙ c.loop-outcome.invariant.done) in
    subst (λ (n : ℕ). HasMore (take n (items_in os)) first third) same
    (one_has (items_in os) before (items_in (drop (i + 1) os)) c.in-File.item first second third around c.loop-outcome.invariant.put c.in-Err.ensures.refused)

pub returns-in-Err-clause-stopped : goal.returns-in-Err-clause-stopped
returns-in-Err-clause-stopped g c =
    let os = c.args.outcomes.now in
    let i : ℕ = c.loop-outcome.outcome-index in
    let before : List Item = items_in (take i os) in
    let around = items_at os i c.loop-outcome-item.result c.in-File.item c.loop-outcome-test.true c.loop-outcome-item.is c.in-File.is in
    let same : c.of_sink.result ≡ record { number = fault_number c.in-Err.fault; done = length before } =
    c.of_sink.ensures ∙ ap (λ (n : ℕ). record { number = fault_number c.in-Err.fault; done = n }) c.loop-outcome.invariant.done in
    subst (IsStopBelow (length (items_in os))) (sym same) (one_stops (items_in os) before (items_in (drop (i + 1) os)) c.in-File.item c.in-Err.fault around)

pub returns-in-Err-clause-counted : goal.returns-in-Err-clause-counted
returns-in-Err-clause-counted g c = let a = c.loop-outcome.invariant.counted in let b = c.put.ensures.counted in omega (arith, a, b)

pub returns-in-Err-clause-failed : goal.returns-in-Err-clause-failed
returns-in-Err-clause-failed g c = λ eighty.
    let fault = fault_at_80 c.in-Err.fault (sym (ap (λ (stop : Stop). stop.number) c.of_sink.ensures) ∙ eighty) in
    let a = c.loop-outcome.invariant.counted in
    let b = c.put.ensures.failed (c.in-Err.is ∙ ap Err fault) in
    omega (arith, a, b)

pub loop-outcome-preserved : goal.loop-outcome-preserved
loop-outcome-preserved g c =
    let os = c.args.outcomes.now in
    let i : ℕ = c.loop-outcome.outcome-index in
    let o = c.loop-outcome-item.result in
    let l = c.loop-outcome.invariant in
    let before : List Item = items_in (take i os) in
    let first = g.Self.Sink.has c.args.self.now in
    let second = g.Self.Sink.has c.loop-outcome.self in
    let third = g.Self.Sink.has c.match-outcome.self in
    let one_more : items_in (take (i + 1) os) ≡ before ++ items_in (o ∷ []) = items_one_more os i o c.loop-outcome-test.true (sym c.loop-outcome-item.is) in
    elim c.match-outcome.branch [
      | in-File+in_default-put w ↦
          let item : Item = w.in-File.item in
          let more : items_in (take (i + 1) os) ≡ before ++ item ∷ [] = one_more ∙ ap (λ (is : List Item). before ++ is) (items_file o item w.in-File.is) in
          let longer : length (items_in (take (i + 1) os)) ≡ length before + 1 = ap length more ∙ length-append before (item ∷ []) in
          record {
            done = omega (arith, longer, l.done, w.done-is);
            few = omega (arith, l.few, w.done-is);
            put =
                subst (λ (is : List Item). HasMore is first third) (sym more)
                (more_behind before (item ∷ []) first second third l.put (rw w.self-is w.in_default-put.ensures.put));
            counted = rw w.self-is (let a = l.counted in let b = w.put.ensures.counted in omega (arith, a, b));
          }
      | in_default w ↦
          let same : items_in (take (i + 1) os) ≡ before =
          one_more ∙ ap (λ (is : List Item). before ++ is) (items_fault o w.in_default.field-0 w.in_default.field-1 w.in_default.is) ∙ append-nil before in
          record {
            done = w.done-is ∙ l.done ∙ sym (ap length same);
            few = omega (arith, l.few, w.done-is);
            put = subst (λ (is : List Item). HasMore is first third) (sym same) (rw w.self-is l.put);
            counted = rw w.self-is l.counted;
          }
    ]
