use Rattle.std.proofs.Common.{rules, ◌≡◌, ◌≤◌, ◌+◌, List, ◌++◌, length, take, drop, ap, sym, subst, ◌∙◌, arith, append_assoc, length-append}
use Rattle.br_model.specs.Delivery.{Stop}
use Rattle.br_model.specs.File.{Item}
use Rattle.br_model.specs.Manifest.{Totals}
use Rattle.br_model.specs.Name.{FileKey}
use Rattle.br_join.specs.declared.item.Outcome.{Outcome}
use Rattle.br_sink.specs.Delivery.{IsStopBelow, items_in}
use Rattle.br_sink.proofs.PassingLaws.{few_items, files_counted, items_next, items_parted, items_stopped, length_left, rest_is, stop_below}
use Rattle.br_sink.proofs.keep_going_delivery.put_each.Goals as goal

-- ---- some more are dealt with

pub loop-place-preserved : goal.loop-place-preserved
loop-place-preserved g c =
    let os = c.args.outcomes.now in
    let place = c.loop-place.place in
    let n = c.in-Ok.count in
    let l = c.loop-place.invariant in
    let rest = rest_is place os in
    let first = c.args.noted.now.taken.items in
    let within = subst (λ (ps : List (FileKey × Outcome)). n ≤ length ps) rest c.in-Ok.ensures.within in
    let all = length_left place os l.within in
    let earlier = l.counted in
    let later = c.put_some.ensures.counted in
    record {
      within = omega (arith, within, all);
      taken =
          c.in-Ok.ensures.taken ∙ ap (λ (ps : List (FileKey × Outcome)). c.loop-place.noted.taken.items ++ items_in (take n ps)) rest
          ∙ ap (λ (is : List Item). is ++ items_in (take n (drop place os))) l.taken ∙ append_assoc first (items_in (take place os)) (items_in (take n (drop place os)))
          ∙ sym (ap (λ (is : List Item). first ++ is) (items_next os place n));
      noted = λ start noted. c.put_some.ensures.noted start (l.noted start noted);
      kept = λ first. c.put_some.ensures.kept first ∙ l.kept first;
      counted = omega (arith, earlier, later);
    }

-- ---- the delivery stops

pub overflow_add-done : goal.overflow_add-done
overflow_add-done g c =
    let os = c.args.outcomes.now in
    let place = c.loop-place.place in
    let files = ap (λ (t : Totals). t.files) (c.done.view_is ∙ c.totals.ensures) ∙ files_counted (take place os) in
    let below = subst (λ (ps : List (FileKey × Outcome)). IsStopBelow (length (items_in ps)) c.in-Err.stop) (rest_is place os) c.in-Err.ensures.stopped in
    let within = below.within in
    let all = ap length (items_parted os place) ∙ length-append (items_in (take place os)) (items_in (drop place os)) in
    let few = few_items os in
    let sum : c.done.inside.files + c.done-in-Err.result ≤ length os = omega (arith, files, within, all, few, c.done-in-Err.ensures) in
    search (rules, sum)

pub returns-in-Err-clause-taken : goal.returns-in-Err-clause-taken
returns-in-Err-clause-taken g c =
    let os = c.args.outcomes.now in
    let place = c.loop-place.place in
    let stop = c.in-Err.stop in
    let l = c.loop-place.invariant in
    let first = c.args.noted.now.taken.items in
    let files = ap (λ (t : Totals). t.files) (c.done.view_is ∙ c.totals.ensures) ∙ files_counted (take place os) in
    let done : c.new.result.done ≡ length (items_in (take place os)) + stop.done = ap (λ (s : Stop). s.done) c.new.ensures ∙ (λ i. files i + c.done-in-Err.ensures i) in
    c.in-Err.ensures.taken ∙ ap (λ (ps : List (FileKey × Outcome)). c.loop-place.noted.taken.items ++ take stop.done (items_in ps)) (rest_is place os)
    ∙ ap (λ (is : List Item). is ++ take stop.done (items_in (drop place os))) l.taken
    ∙ append_assoc first (items_in (take place os)) (take stop.done (items_in (drop place os)))
    ∙ sym (ap (λ (is : List Item). first ++ is) (items_stopped os place stop.done)) ∙ sym (ap (λ n. first ++ take n (items_in os)) done)

pub returns-in-Err-clause-noted : goal.returns-in-Err-clause-noted
returns-in-Err-clause-noted g c = λ start noted. c.put_some.ensures.noted start (c.loop-place.invariant.noted start noted)

pub returns-in-Err-clause-stopped : goal.returns-in-Err-clause-stopped
returns-in-Err-clause-stopped g c =
    let os = c.args.outcomes.now in
    let place = c.loop-place.place in
    let stop = c.in-Err.stop in
    let files = ap (λ (t : Totals). t.files) (c.done.view_is ∙ c.totals.ensures) ∙ files_counted (take place os) in
    let below = subst (λ (ps : List (FileKey × Outcome)). IsStopBelow (length (items_in ps)) stop) (rest_is place os) c.in-Err.ensures.stopped in
    let done : Stop = record { number = stop.number; done = length (items_in (take place os)) + stop.done } in
    let new : c.new.result ≡ done = c.new.ensures ∙ (λ i. record { number = c.cause.ensures i; done = files i + c.done-in-Err.ensures i }) in
    subst (IsStopBelow (length (items_in os))) (sym new) (stop_below os place stop.number stop.done below)
