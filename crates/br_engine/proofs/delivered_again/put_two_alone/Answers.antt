use Rattle.std.proofs.Common.{◌≡◌, [], ◌∷◌, Err, ap, sym, subst, arith, ◌∙◌}
use Rattle.br_model.specs.Delivery.{Stop}
use Rattle.br_reread_files.specs.TwoFiles.{ChangesEither, FailsEither, GivesBoth, LosesEither, PutsTwo}
use Rattle.br_reread_files.specs.declared.two_files.TwoDone.{TwoDone}
use Rattle.br_sink.specs.FileParts.{parts_number}
use Rattle.br_engine.specs.DeliveredAgain.{PutsLike}
use Rattle.br_engine.specs.Stopping.{IsStopAgain}
use Rattle.br_engine.proofs.StopLaws.{both_alike, first_alike, none_alike, parts_at_70, parts_at_72, parts_at_80, stops_alone}
use Rattle.br_engine.proofs.delivered_again.put_two_alone.Goals as goal

-- ---- both are put

pub returns-in-Both-clause-put : goal.returns-in-Both-clause-put
returns-in-Both-clause-put g c =
    let one = c.args.one.now in
    let other = c.args.other.now in
    let given = GivesBoth c.args.many.now c.args.source.now.gathered.now.hits one.key other.key one.item.now other.item.now in
    let had = g.S.Sink.has c.args.sink.now in
    let has = g.S.Sink.has c.put_two_by_parts-put.new.sink in
    both_alike given one.item.now other.item.now had has
    (subst (λ (done : TwoDone). PutsTwo done given (one.item.now, other.item.now) had has) c.in-Both.is c.put_two_by_parts-put.ensures.put)

-- ---- the first alone

pub returns-in-One-clause-put : goal.returns-in-One-clause-put
returns-in-One-clause-put g c =
    let one = c.args.one.now in
    let other = c.args.other.now in
    let fault = c.in-One.fault in
    let given = GivesBoth c.args.many.now c.args.source.now.gathered.now.hits one.key other.key one.item.now other.item.now in
    let had = g.S.Sink.has c.args.sink.now in
    let has = g.S.Sink.has c.put_two_by_parts-put.new.sink in
    let new : c.new.result ≡ record { number = parts_number fault; done = 1 } = c.new.ensures ∙ (λ i. record { number = c.cause_of_parts.ensures i; done = 1 }) in
    subst (λ (stop : Stop). PutsLike given (one.item.now ∷ other.item.now ∷ []) had has (Err stop)) (sym new)
    (first_alike given one.item.now other.item.now had has (parts_number fault)
    (subst (λ (done : TwoDone). PutsTwo done given (one.item.now, other.item.now) had has) c.in-One.is c.put_two_by_parts-put.ensures.put))

pub returns-in-One-clause-stopped : goal.returns-in-One-clause-stopped
returns-in-One-clause-stopped g c =
    let fault = c.in-One.fault in
    let new : c.new.result ≡ record { number = parts_number fault; done = 1 } = c.new.ensures ∙ (λ i. record { number = c.cause_of_parts.ensures i; done = 1 }) in
    subst (IsStopAgain 2) (sym new) (stops_alone fault 1 2 (omega arith))

pub returns-in-One-clause-failed : goal.returns-in-One-clause-failed
returns-in-One-clause-failed g c = λ eighty.
    let fault = c.in-One.fault in
    let new : c.new.result ≡ record { number = parts_number fault; done = 1 } = c.new.ensures ∙ (λ i. record { number = c.cause_of_parts.ensures i; done = 1 }) in
    c.put_two_by_parts-put.ensures.failed
    (subst FailsEither (sym c.in-One.is) (parts_at_80 fault (sym (ap (λ (stop : Stop). stop.number) new) ∙ eighty)))

-- ---- neither

pub returns-in-Neither-clause-put : goal.returns-in-Neither-clause-put
returns-in-Neither-clause-put g c =
    let one = c.args.one.now in
    let other = c.args.other.now in
    let fault = c.in-Neither.fault in
    let given = GivesBoth c.args.many.now c.args.source.now.gathered.now.hits one.key other.key one.item.now other.item.now in
    let had = g.S.Sink.has c.args.sink.now in
    let has = g.S.Sink.has c.put_two_by_parts-put.new.sink in
    let new : c.new-in-Neither.result ≡ record { number = parts_number fault; done = 0 } =
    c.new-in-Neither.ensures ∙ (λ i. record { number = c.cause_of_parts-in-Neither.ensures i; done = 0 }) in
    subst (λ (stop : Stop). PutsLike given (one.item.now ∷ other.item.now ∷ []) had has (Err stop)) (sym new)
    (none_alike given (one.item.now ∷ other.item.now ∷ []) had has (parts_number fault)
    (subst (λ (done : TwoDone). PutsTwo done given (one.item.now, other.item.now) had has) c.in-Neither.is c.put_two_by_parts-put.ensures.put))

pub returns-in-Neither-clause-stopped : goal.returns-in-Neither-clause-stopped
returns-in-Neither-clause-stopped g c =
    let fault = c.in-Neither.fault in
    let new : c.new-in-Neither.result ≡ record { number = parts_number fault; done = 0 } =
    c.new-in-Neither.ensures ∙ (λ i. record { number = c.cause_of_parts-in-Neither.ensures i; done = 0 }) in
    subst (IsStopAgain 2) (sym new) (stops_alone fault 0 2 (omega arith))

pub returns-in-Neither-clause-failed : goal.returns-in-Neither-clause-failed
returns-in-Neither-clause-failed g c = λ eighty.
    let fault = c.in-Neither.fault in
    let new : c.new-in-Neither.result ≡ record { number = parts_number fault; done = 0 } =
    c.new-in-Neither.ensures ∙ (λ i. record { number = c.cause_of_parts-in-Neither.ensures i; done = 0 }) in
    c.put_two_by_parts-put.ensures.failed
    (subst FailsEither (sym c.in-Neither.is) (parts_at_80 fault (sym (ap (λ (stop : Stop). stop.number) new) ∙ eighty)))

pub returns-in-One-clause-changed : goal.returns-in-One-clause-changed
returns-in-One-clause-changed g c = λ at.
    let fault = c.in-One.fault in
    let new : c.new.result ≡ record { number = parts_number fault; done = 1 } = c.new.ensures ∙ (λ i. record { number = c.cause_of_parts.ensures i; done = 1 }) in
    c.put_two_by_parts-put.ensures.changed
    (subst ChangesEither (sym c.in-One.is) (parts_at_72 fault (sym (ap (λ (stop : Stop). stop.number) new) ∙ at)))

pub returns-in-Neither-clause-changed : goal.returns-in-Neither-clause-changed
returns-in-Neither-clause-changed g c = λ at.
    let fault = c.in-Neither.fault in
    let new : c.new-in-Neither.result ≡ record { number = parts_number fault; done = 0 } =
    c.new-in-Neither.ensures ∙ (λ i. record { number = c.cause_of_parts-in-Neither.ensures i; done = 0 }) in
    c.put_two_by_parts-put.ensures.changed
    (subst ChangesEither (sym c.in-Neither.is) (parts_at_72 fault (sym (ap (λ (stop : Stop). stop.number) new) ∙ at)))

pub returns-in-One-clause-lost : goal.returns-in-One-clause-lost
returns-in-One-clause-lost g c = λ at.
    let fault = c.in-One.fault in
    let new : c.new.result ≡ record { number = parts_number fault; done = 1 } = c.new.ensures ∙ (λ i. record { number = c.cause_of_parts.ensures i; done = 1 }) in
    c.put_two_by_parts-put.ensures.lost
    (subst LosesEither (sym c.in-One.is) (parts_at_70 fault (sym (ap (λ (stop : Stop). stop.number) new) ∙ at)))

pub returns-in-Neither-clause-lost : goal.returns-in-Neither-clause-lost
returns-in-Neither-clause-lost g c = λ at.
    let fault = c.in-Neither.fault in
    let new : c.new-in-Neither.result ≡ record { number = parts_number fault; done = 0 } =
    c.new-in-Neither.ensures ∙ (λ i. record { number = c.cause_of_parts-in-Neither.ensures i; done = 0 }) in
    c.put_two_by_parts-put.ensures.lost
    (subst LosesEither (sym c.in-Neither.is) (parts_at_70 fault (sym (ap (λ (stop : Stop). stop.number) new) ∙ at)))
