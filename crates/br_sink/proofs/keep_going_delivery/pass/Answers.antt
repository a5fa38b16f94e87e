use Rattle.std.proofs.Common.{◌≡◌, ℕ, subst, sym, ◌∙◌}
use Rattle.br_sink.specs.KeepGoing.{IsFileAt}
use Rattle.br_sink.proofs.PassingLaws.{stop_kept, stop_left, stop_none}
use Rattle.br_sink.proofs.keep_going_delivery.pass.Goals as goal

pub returns-then-not-goes_on-clause-noted : goal.returns-then-not-goes_on-clause-noted
returns-then-not-goes_on-clause-noted c =
    let os = c.args.outcomes.now in
    let found = subst (λ (n : ℕ). IsFileAt os n c.in-Some.place c.in-Some.item.now) c.done.ensures c.in-Some.ensures.at_it in
    stop_kept os c.args.stop c.args.noted.now c.take.new.self c.take.new.self c.in-Some.place c.in-Some.item.now found c.take.ensures

pub returns-in-Err-clause-noted : goal.returns-in-Err-clause-noted
returns-in-Err-clause-noted c =
    let os = c.args.outcomes.now in
    let found = subst (λ (n : ℕ). IsFileAt os n c.in-Some.place c.in-Some.item.now) c.done.ensures c.in-Some.ensures.at_it in
    stop_none os c.args.stop c.args.noted.now c.take.new.self c.leave.new.self c.in-Some.place c.in-Some.item.now found c.take.ensures c.in-Err.ensures.none

pub returns-clause-noted : goal.returns-clause-noted
returns-clause-noted c =
    let os = c.args.outcomes.now in
    let found = subst (λ (n : ℕ). IsFileAt os n c.in-Some.place c.in-Some.item.now) c.done.ensures c.in-Some.ensures.at_it in
    let eighty : c.args.stop.number ≡ 80 = sym c.cause.ensures ∙ c.goes_on.ensures.on c.if-not-goes_on.false in
    stop_left os c.args.stop c.args.noted.now c.take.new.self c.leave.new.self c.in-Some.place c.in-Some.item.now found c.take.ensures
    c.in_default-leave.ensures.left eighty
