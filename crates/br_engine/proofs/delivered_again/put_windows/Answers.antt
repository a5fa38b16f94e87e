use Rattle.std.proofs.Common.{rules, ◌≡◌, ◌≤◌, ◌+◌, List, ◌++◌, Ok, Err, refl, length, map, take, drop, ap, sym, subst, ◌∙◌, arith, length-append}
use Rattle.br_model.specs.Delivery.{Stop}
use Rattle.br_model.specs.Manifest.{Totals}
use Rattle.br_model.specs.File.{Item}
use Rattle.br_model.specs.Name.{FileKey}
use Rattle.br_join.specs.Outcome.{restored}
use Rattle.br_join.specs.declared.item.Outcome.{Outcome}
use Rattle.br_data.proofs.GoOnLaws.{failed_on, go_itself, go_more}
use Rattle.br_sink.specs.Delivery.{items_in}
use Rattle.br_engine.specs.DeliveredAgain.{CanMake, PutsLike}
use Rattle.br_engine.specs.Stopping.{IsStopAgain}
use Rattle.br_engine.proofs.AgainLaws.{make_window}
use Rattle.br_sink.proofs.PassingLaws.{few_items, rest_is}
use Rattle.br_engine.proofs.StopLaws.{files_counted, items_around, items_window, none_put, puts_if, puts_more, puts_stop, taken_few, taken_window}
use Rattle.br_engine.proofs.delivered_again.put_windows.Goals as goal
use Rattle.std.proofs.lemmas.List.{length-take-le}

pub loop-place-init : goal.loop-place-init
loop-place-init g c = record {
  done = refl;
  few = omega arith;
  within = omega arith;
  put = none_put (CanMake c.args.many.now c.args.source.now.gathered.now (map restored c.args.outcomes.now)) (g.S.Sink.has c.args.sink.now);
  on = go_itself c.args.many.now;
  counted = omega arith;
}

pub overflow_add-done : goal.overflow_add-done
overflow_add-done g c =
    let os = c.args.outcomes.now in
    let place = c.loop-place.place in
    let l = c.loop-place.invariant in
    let window = c.split_at.result.0.now in
    let n = c.window_len.result in
    let rest = rest_is place os in
    let is : window ≡ take n (drop place os) = c.split_at.ensures.front ∙ ap (take n) rest in
    let within = c.window_len.ensures.within in
    let few : n ≤ length (drop place os) = subst (λ (os : List (FileKey × Outcome)). n ≤ length os) rest within in
    let as_many = ap length (taken_window place n os window is few) ∙ length-append (take place os) window in
    let taken = taken_few (place + length window) os in
    let before = length-take-le place os l.within in
    let below = c.in-Err.ensures.stopped.within in
    let fewer = few_items window in
    let sum : c.loop-place.done + c.done.result ≤ length os = omega (arith, below, fewer, l.few, as_many, taken, before, c.done.ensures) in
    search (rules, sum)

-- ---- the delivery stops

pub returns-in-Err-clause-put : goal.returns-in-Err-clause-put
returns-in-Err-clause-put g c =
    let os = c.args.outcomes.now in
    let place = c.loop-place.place in
    let l = c.loop-place.invariant in
    let window = c.split_at.result.0.now in
    let n = c.window_len.result in
    let rest = rest_is place os in
    let is : window ≡ take n (drop place os) = c.split_at.ensures.front ∙ ap (take n) rest in
    let within = c.window_len.ensures.within in
    let few : n ≤ length (drop place os) = subst (λ (os : List (FileKey × Outcome)). n ≤ length os) rest within in
    let stop = c.in-Err.stop in
    let below = c.in-Err.ensures.stopped in
    let gathered = c.args.source.now.gathered.now in
    let given = CanMake c.args.many.now gathered (map restored os) in
    let xs = items_in (take place os) in
    let ys = items_in window in
    let zs = items_in (drop (place + length window) os) in
    let first = g.S.Sink.has c.args.sink.now in
    let second = g.S.Sink.has c.loop-place.sink in
    let third = g.S.Sink.has c.put_window.new.sink in
    let done : Stop = record { number = stop.number; done = length xs + stop.done } in
    let new : c.new.result ≡ done = c.new.ensures ∙ (λ i. record { number = c.cause.ensures i; done = l.done i + c.done.ensures i }) in
    let puts : PutsLike {A = Unit {0}} given (xs ++ (ys ++ zs)) first third (Err done) =
    puts_stop given xs ys zs first second third stop.number stop.done l.put
    (puts_if given (CanMake c.loop-place.many gathered (map restored window)) ys second third (Err stop)
    (make_window c.standing_stays.ensures c.args.many.now c.loop-place.many gathered place n os window l.on is) c.in-Err.ensures.put) (omega (arith, below.within)) in
    subst (λ (s : Stop). PutsLike {A = Unit {0}} given (items_in os) first third (Err s)) (sym new)
    (subst (λ (items : List Item). PutsLike {A = Unit {0}} given items first third (Err done)) (sym (items_around place n os window is few)) puts)

pub returns-in-Err-clause-stopped : goal.returns-in-Err-clause-stopped
returns-in-Err-clause-stopped g c =
    let os = c.args.outcomes.now in
    let place = c.loop-place.place in
    let l = c.loop-place.invariant in
    let window = c.split_at.result.0.now in
    let n = c.window_len.result in
    let rest = rest_is place os in
    let is : window ≡ take n (drop place os) = c.split_at.ensures.front ∙ ap (take n) rest in
    let within = c.window_len.ensures.within in
    let few : n ≤ length (drop place os) = subst (λ (os : List (FileKey × Outcome)). n ≤ length os) rest within in
    let stop = c.in-Err.stop in
    let below = c.in-Err.ensures.stopped in
    let xs = items_in (take place os) in
    let ys = items_in window in
    let zs = items_in (drop (place + length window) os) in
    let done : Stop = record { number = stop.number; done = length xs + stop.done } in
    let new : c.new.result ≡ done = c.new.ensures ∙ (λ i. record { number = c.cause.ensures i; done = l.done i + c.done.ensures i }) in
    let around = ap length (items_around place n os window is few) ∙ length-append xs (ys ++ zs) in
    let rest = length-append ys zs in
    subst (IsStopAgain (length (items_in os))) (sym new) (record { number = below.number; within = omega (arith, below.within, around, rest) })

pub returns-in-Err-clause-changed : goal.returns-in-Err-clause-changed
returns-in-Err-clause-changed g c = λ at can.
    let os = c.args.outcomes.now in
    let place = c.loop-place.place in
    let l = c.loop-place.invariant in
    let window = c.split_at.result.0.now in
    let n = c.window_len.result in
    let is : window ≡ take n (drop place os) = c.split_at.ensures.front ∙ ap (take n) (rest_is place os) in
    let number = ap (λ (stop : Stop). stop.number) c.new.ensures ∙ c.cause.ensures in
    c.in-Err.ensures.changed (sym number ∙ at)
    (make_window c.standing_stays.ensures c.args.many.now c.loop-place.many c.args.source.now.gathered.now place n os window l.on is can)

pub returns-in-Err-clause-lost : goal.returns-in-Err-clause-lost
returns-in-Err-clause-lost g c = λ at.
    let number = ap (λ (stop : Stop). stop.number) c.new.ensures ∙ c.cause.ensures in
    failed_on c.args.many.now c.loop-place.many c.put_window.new.many c.loop-place.invariant.on (c.in-Err.ensures.lost (sym number ∙ at))

pub returns-in-Err-clause-on : goal.returns-in-Err-clause-on
returns-in-Err-clause-on g c = go_more c.args.many.now c.loop-place.many c.put_window.new.many c.loop-place.invariant.on c.put_window.ensures.on

-- ---- a window is put

pub overflow_add-done-in-loop-place : goal.overflow_add-done-in-loop-place
overflow_add-done-in-loop-place g c =
    let os = c.args.outcomes.now in
    let place = c.loop-place.place in
    let l = c.loop-place.invariant in
    let window = c.split_at.result.0.now in
    let n = c.window_len.result in
    let rest = rest_is place os in
    let is : window ≡ take n (drop place os) = c.split_at.ensures.front ∙ ap (take n) rest in
    let within = c.window_len.ensures.within in
    let few : n ≤ length (drop place os) = subst (λ (os : List (FileKey × Outcome)). n ≤ length os) rest within in
    let as_many = ap length (taken_window place n os window is few) ∙ length-append (take place os) window in
    let taken = taken_few (place + length window) os in
    let before = length-take-le place os l.within in
    let files = ap (λ (t : Totals). t.files) (c.done-in-loop-place.view_is ∙ c.totals.ensures) ∙ files_counted (map restored window) in
    let fewer = few_items window in
    let sum : c.loop-place.done + c.done-in-loop-place.inside.files ≤ length os = omega (arith, files, fewer, l.few, as_many, taken, before) in
    search (rules, sum)

pub loop-place-preserved : goal.loop-place-preserved
loop-place-preserved g c =
    let os = c.args.outcomes.now in
    let place = c.loop-place.place in
    let l = c.loop-place.invariant in
    let window = c.split_at.result.0.now in
    let n = c.window_len.result in
    let rest = rest_is place os in
    let is : window ≡ take n (drop place os) = c.split_at.ensures.front ∙ ap (take n) rest in
    let within = c.window_len.ensures.within in
    let few : n ≤ length (drop place os) = subst (λ (os : List (FileKey × Outcome)). n ≤ length os) rest within in
    let as_many = ap length (taken_window place n os window is few) ∙ length-append (take place os) window in
    let taken = taken_few (place + length window) os in
    let before = length-take-le place os l.within in
    let gathered = c.args.source.now.gathered.now in
    let given = CanMake c.args.many.now gathered (map restored os) in
    let xs = items_in (take place os) in
    let ys = items_in window in
    let first = g.S.Sink.has c.args.sink.now in
    let second = g.S.Sink.has c.loop-place.sink in
    let third = g.S.Sink.has c.put_window.new.sink in
    let files = ap (λ (t : Totals). t.files) (c.done-in-loop-place.view_is ∙ c.totals.ensures) ∙ files_counted (map restored window) in
    let more : items_in (take (place + length window) os) ≡ xs ++ ys = items_window place n os window is few in
    let longer = ap length more ∙ length-append xs ys in
    let fewer = few_items window in
    let earlier = l.counted in
    let later = c.in_default.ensures.counted in
    record {
      done = omega (arith, l.done, files, longer);
      few = omega (arith, l.few, files, fewer);
      within = omega (arith, as_many, taken, before);
      put =
          subst (λ (items : List Item). PutsLike {A = Unit {0}} given items first third (Ok tt)) (sym more)
          (puts_more given xs ys first second third l.put
          (puts_if given (CanMake c.loop-place.many gathered (map restored window)) ys second third (Ok tt)
          (make_window c.standing_stays.ensures c.args.many.now c.loop-place.many gathered place n os window l.on is) c.in_default.ensures.put));
      on = go_more c.args.many.now c.loop-place.many c.put_window.new.many l.on c.put_window.ensures.on;
      counted = omega (arith, earlier, later);
    }
