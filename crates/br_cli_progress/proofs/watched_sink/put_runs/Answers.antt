use Rattle.std.proofs.Common.{rules, ◌≡◌, ◌≤◌, ◌+◌, List, ◌++◌, refl, length, map, take, drop, ap, sym, subst, ◌∙◌, arith, length-append}
use Rattle.br_model.specs.Delivery.{Stop}
use Rattle.br_model.specs.Manifest.{Totals}
use Rattle.br_model.specs.File.{Item}
use Rattle.br_model.specs.Name.{FileKey}
use Rattle.br_join.specs.Outcome.{restored}
use Rattle.br_join.specs.declared.item.Outcome.{Outcome}
use Rattle.br_sink.specs.Delivery.{IsStopBelow, items_in}
use Rattle.br_sink.specs.Sink.{HasMore}
use Rattle.br_sink.proofs.DeliveryLaws.{more_behind, none_more}
use Rattle.br_cli_progress.proofs.RunLaws.{few_items, files_counted, items_around, items_run, length_taken, rest_is, stops_behind, taken_few, taken_run}
use Rattle.br_cli_progress.proofs.watched_sink.put_runs.Goals as goal

pub loop-place-init : goal.loop-place-init
loop-place-init g c = record {
  done = refl;
  few = omega arith;
  within = omega arith;
  put = none_more (g.S.Sink.has c.args.sink.now);
  counted = omega arith;
}

pub overflow_add-done : goal.overflow_add-done
overflow_add-done g c =
    let os = c.args.outcomes.now in
    let place = c.loop-place.place in
    let l = c.loop-place.invariant in
    let run = c.split_at.result.0.now in
    let n = c.min.result in
    let rest = rest_is place os in
    let is : run ≡ take n (drop place os) = c.split_at.ensures.front ∙ ap (take n) rest in
    let within = c.min.ensures in
    let few : n ≤ length (drop place os) = subst (λ (os : List (FileKey × Outcome)). n ≤ length os) rest (omega (arith, within)) in
    let as_many = ap length (taken_run place n os run is few) ∙ length-append (take place os) run in
    let taken = taken_few (place + length run) os in
    let before = length_taken place os l.within in
    let below = c.in-Err.ensures.stopped.within in
    let fewer = few_items run in
    let sum : c.loop-place.done + c.done-put.result ≤ length os = omega (arith, below, fewer, l.few, as_many, taken, before, c.done-put.ensures) in
    search (rules, sum)

-- ---- the sink stops

pub returns-in-Err-clause-put : goal.returns-in-Err-clause-put
returns-in-Err-clause-put g c =
    let os = c.args.outcomes.now in
    let place = c.loop-place.place in
    let l = c.loop-place.invariant in
    let run = c.split_at.result.0.now in
    let n = c.min.result in
    let rest = rest_is place os in
    let is : run ≡ take n (drop place os) = c.split_at.ensures.front ∙ ap (take n) rest in
    let within = c.min.ensures in
    let few : n ≤ length (drop place os) = subst (λ (os : List (FileKey × Outcome)). n ≤ length os) rest (omega (arith, within)) in
    let stop = c.in-Err.stop in
    let below = c.in-Err.ensures.stopped in
    let xs = items_in (take place os) in
    let ys = items_in run in
    let zs = items_in (drop (place + length run) os) in
    let first = g.S.Sink.has c.args.sink.now in
    let second = g.S.Sink.has c.loop-place.sink in
    let third = g.S.Sink.has c.put_all.new.self in
    let done : Stop = record { number = stop.number; done = length xs + stop.done } in
    let new : c.new.result ≡ done = c.new.ensures ∙ (λ i. record { number = c.cause.ensures i; done = l.done i + c.done-put.ensures i }) in
    let puts : HasMore (take (length xs + stop.done) (xs ++ (ys ++ zs))) first third =
    stops_behind xs ys zs first second third stop.done l.put c.in-Err.ensures.put (omega (arith, below.within)) in
    subst (λ (s : Stop). HasMore (take s.done (items_in os)) first third) (sym new)
    (subst (λ (items : List Item). HasMore (take (length xs + stop.done) items) first third) (sym (items_around place n os run is few)) puts)

pub returns-in-Err-clause-stopped : goal.returns-in-Err-clause-stopped
returns-in-Err-clause-stopped g c =
    let os = c.args.outcomes.now in
    let place = c.loop-place.place in
    let l = c.loop-place.invariant in
    let run = c.split_at.result.0.now in
    let n = c.min.result in
    let rest = rest_is place os in
    let is : run ≡ take n (drop place os) = c.split_at.ensures.front ∙ ap (take n) rest in
    let within = c.min.ensures in
    let few : n ≤ length (drop place os) = subst (λ (os : List (FileKey × Outcome)). n ≤ length os) rest (omega (arith, within)) in
    let stop = c.in-Err.stop in
    let below = c.in-Err.ensures.stopped in
    let xs = items_in (take place os) in
    let ys = items_in run in
    let zs = items_in (drop (place + length run) os) in
    let done : Stop = record { number = stop.number; done = length xs + stop.done } in
    let new : c.new.result ≡ done = c.new.ensures ∙ (λ i. record { number = c.cause.ensures i; done = l.done i + c.done-put.ensures i }) in
    let around = ap length (items_around place n os run is few) ∙ length-append xs (ys ++ zs) in
    let rest = length-append ys zs in
    subst (IsStopBelow (length (items_in os))) (sym new) (record { number = below.number; within = omega (arith, below.within, around, rest) })

-- ---- a run is put

pub overflow_add-done-in-loop-place : goal.overflow_add-done-in-loop-place
overflow_add-done-in-loop-place g c =
    let os = c.args.outcomes.now in
    let place = c.loop-place.place in
    let l = c.loop-place.invariant in
    let run = c.split_at.result.0.now in
    let n = c.min.result in
    let rest = rest_is place os in
    let is : run ≡ take n (drop place os) = c.split_at.ensures.front ∙ ap (take n) rest in
    let within = c.min.ensures in
    let few : n ≤ length (drop place os) = subst (λ (os : List (FileKey × Outcome)). n ≤ length os) rest (omega (arith, within)) in
    let as_many = ap length (taken_run place n os run is few) ∙ length-append (take place os) run in
    let taken = taken_few (place + length run) os in
    let before = length_taken place os l.within in
    let files = ap (λ (t : Totals). t.files) (c.files.view_is ∙ c.totals.ensures) ∙ files_counted (map restored run) in
    let fewer = few_items run in
    let sum : c.loop-place.done + c.files.inside.files ≤ length os = omega (arith, files, fewer, l.few, as_many, taken, before) in
    search (rules, sum)

pub loop-place-preserved : goal.loop-place-preserved
loop-place-preserved g c =
    let os = c.args.outcomes.now in
    let place = c.loop-place.place in
    let l = c.loop-place.invariant in
    let run = c.split_at.result.0.now in
    let n = c.min.result in
    let rest = rest_is place os in
    let is : run ≡ take n (drop place os) = c.split_at.ensures.front ∙ ap (take n) rest in
    let within = c.min.ensures in
    let few : n ≤ length (drop place os) = subst (λ (os : List (FileKey × Outcome)). n ≤ length os) rest (omega (arith, within)) in
    let as_many = ap length (taken_run place n os run is few) ∙ length-append (take place os) run in
    let taken = taken_few (place + length run) os in
    let before = length_taken place os l.within in
    let xs = items_in (take place os) in
    let ys = items_in run in
    let first = g.S.Sink.has c.args.sink.now in
    let second = g.S.Sink.has c.loop-place.sink in
    let third = g.S.Sink.has c.put_all.new.self in
    let files = ap (λ (t : Totals). t.files) (c.files.view_is ∙ c.totals.ensures) ∙ files_counted (map restored run) in
    let more : items_in (take (place + length run) os) ≡ xs ++ ys = items_run place n os run is few in
    let longer = ap length more ∙ length-append xs ys in
    let fewer = few_items run in
    let earlier = l.counted in
    let later = c.in_default.ensures.counted in
    record {
      done = omega (arith, l.done, files, longer);
      few = omega (arith, l.few, files, fewer);
      within = omega (arith, as_many, taken, before);
      put =
          subst (λ (items : List Item). HasMore items first third) (sym more)
          (more_behind xs ys first second third l.put c.in_default.ensures.put);
      counted = omega (arith, earlier, later);
    }
