use Rattle.std.proofs.Common.{ℕ, subst, sym, ap}
use Rattle.br_model.specs.Delivery.{Stop}
use Rattle.br_sink_folder.specs.Held.{IsPlaceOf}
use Rattle.br_sink_folder.specs.Removed.{files_of}
use Rattle.br_sink_folder.proofs.StopLaws.{fault_at, place_of}
use Rattle.br_sink_folder.proofs.window.settle.Goals as goal

pub returns-in-Err-clause-first : goal.returns-in-Err-clause-first
returns-in-Err-clause-first g c = λ rise.
    fault_at c.args.made.now c.loop-one.one-index c.one-item.result c.of_sink.result c.loop-one-test.true c.one-item.is
    (ap (λ (stop : Stop). stop.done) c.of_sink.ensures) rise c.loop-one.invariant.answered

pub returns-in-Err-clause-one : goal.returns-in-Err-clause-one
returns-in-Err-clause-one g c =
    let made = c.args.made.now in
    subst (λ (place : ℕ). IsPlaceOf place (files_of made)) (sym (ap (λ (stop : Stop). stop.done) c.of_sink.ensures))
    (place_of made c.loop-one.one-index c.one-item.result c.loop-one-test.true c.one-item.is)
