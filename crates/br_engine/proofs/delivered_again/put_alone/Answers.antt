use Rattle.std.proofs.Common.{◌≡◌, [], ◌∷◌, Err, ap, sym, subst, arith, ◌∙◌}
use Rattle.br_model.specs.Delivery.{Stop}
use Rattle.br_reread_files.specs.FileParts.{GivesItem}
use Rattle.br_sink.specs.FileParts.{parts_number}
use Rattle.br_sink.specs.declared.file_parts.PartsFault.{PartsFault}
use Rattle.br_engine.specs.DeliveredAgain.{PutsLike}
use Rattle.br_engine.specs.Stopping.{IsStopAgain}
use Rattle.br_engine.proofs.StopLaws.{none_alike, parts_at_70, parts_at_72, parts_at_80, put_alike, stops_alone}
use Rattle.br_engine.proofs.delivered_again.put_alone.Goals as goal

pub returns-in-Ok-clause-put : goal.returns-in-Ok-clause-put
returns-in-Ok-clause-put g c = put_alike _ c.args.alone.now.item.now _ _ c.in-Ok.ensures.put

pub returns-in-Err-clause-put : goal.returns-in-Err-clause-put
returns-in-Err-clause-put g c =
    let fault = c.in-Err.fault in
    let given = GivesItem c.args.many.now c.args.source.now.gathered.now.hits c.args.alone.now.key c.args.alone.now.item.now in
    let had = g.S.Sink.has c.args.sink.now in
    let has = g.S.Sink.has c.put_by_parts-put.new.sink in
    let new : c.new.result ≡ record { number = parts_number fault; done = 0 } = c.new.ensures ∙ (λ i. record { number = c.cause_of_parts.ensures i; done = 0 }) in
    subst (λ (stop : Stop). PutsLike given (c.args.alone.now.item.now ∷ []) had has (Err stop)) (sym new)
    (none_alike given (c.args.alone.now.item.now ∷ []) had has (parts_number fault) c.in-Err.ensures.refused)

pub returns-in-Err-clause-stopped : goal.returns-in-Err-clause-stopped
returns-in-Err-clause-stopped g c =
    let fault = c.in-Err.fault in
    let new : c.new.result ≡ record { number = parts_number fault; done = 0 } = c.new.ensures ∙ (λ i. record { number = c.cause_of_parts.ensures i; done = 0 }) in
    subst (IsStopAgain 1) (sym new) (stops_alone fault 0 1 (omega arith))

pub returns-in-Err-clause-failed : goal.returns-in-Err-clause-failed
returns-in-Err-clause-failed g c = λ eighty.
    let fault = c.in-Err.fault in
    let new : c.new.result ≡ record { number = parts_number fault; done = 0 } = c.new.ensures ∙ (λ i. record { number = c.cause_of_parts.ensures i; done = 0 }) in
    c.put_by_parts-put.ensures.failed (c.in-Err.is ∙ ap (λ (f : PartsFault). Err f) (parts_at_80 fault (sym (ap (λ (stop : Stop). stop.number) new) ∙ eighty)))

pub returns-in-Err-clause-changed : goal.returns-in-Err-clause-changed
returns-in-Err-clause-changed g c = λ at.
    let fault = c.in-Err.fault in
    let new : c.new.result ≡ record { number = parts_number fault; done = 0 } = c.new.ensures ∙ (λ i. record { number = c.cause_of_parts.ensures i; done = 0 }) in
    c.put_by_parts-put.ensures.changed (c.in-Err.is ∙ ap (λ (f : PartsFault). Err f) (parts_at_72 fault (sym (ap (λ (stop : Stop). stop.number) new) ∙ at)))

pub returns-in-Err-clause-lost : goal.returns-in-Err-clause-lost
returns-in-Err-clause-lost g c = λ at.
    let fault = c.in-Err.fault in
    let new : c.new.result ≡ record { number = parts_number fault; done = 0 } = c.new.ensures ∙ (λ i. record { number = c.cause_of_parts.ensures i; done = 0 }) in
    c.put_by_parts-put.ensures.lost (c.in-Err.is ∙ ap (λ (f : PartsFault). Err f) (parts_at_70 fault (sym (ap (λ (stop : Stop). stop.number) new) ∙ at)))
