use Rattle.std.proofs.Common.{ℤ, inl, refl, subst}
use Rattle.std.proofs.lemmas.Result.{IfOk-weaker}
use Rattle.jiff.specs.Words.{plain_zone}
use Rattle.br_jobs.specs.LocalTime.{IsOnClock}
use Rattle.br_jobs.proofs.local_time.zoned_text.Goals as goal

pub returns-in-Some : goal.returns-in-Some
returns-in-Some c =
    IfOk-weaker c.clock_text.result _ _
    (λ text shown. inl (c.in-Some.ensures.known.0 refl, subst (λ (nanos : ℤ). IsOnClock (plain_zone c.args.zone.now) nanos text.items) c.in-Some.ensures.value shown)) c.clock_text.ensures
