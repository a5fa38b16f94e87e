-- States of a run from nothing: what the restores have, and what is delivered.
use Rattle.std.proofs.Common.{◌≡◌, ℕ, zero, suc, ◌+◌, ◌<◌, ◌≤◌, List, [], ◌∷◌, ◌++◌, length, map, take, drop, Option, Some, Result, Ok, Err, IfOk, refl, sym, ap, subst, ◌∙◌, arith}
use Rattle.std.proofs.lemmas.List.{append-nil, map-append}
use Rattle.std.proofs.lemmas.Option.{same_Some, slice_get_within}
use Rattle.std.specs.Prelude.{IfSome, slice_get}
use Rattle.br_model.proofs.ListLaws.{none_in}
use Rattle.br_core.specs.Machine.{World, Event, Reply, IsRun, IsStep}
use Rattle.br_core.specs.Machine.Event.{Deliver}
use Rattle.br_core.specs.Machine.Reply.{Delivered, Refused}
use Rattle.br_core.specs.Fault.{cause}
use Rattle.br_core.specs.Happening.{event_of, reply_of}
use Rattle.br_core.specs.Reached.{nothing}
use Rattle.br_core.specs.Running.{AllGiveSelected, AllHaveHits, AlwaysHaveHits, GivesSelected, HoweverReached, IsAfter}
use Rattle.br_core.specs.Stepping.{TakesStep}
use Rattle.br_core.specs.declared.event.Event as given
use Rattle.br_core.specs.declared.event.Reply as answer
use Rattle.br_core.specs.declared.fault.StepFault.{StepFault}
use Rattle.br_core.proofs.ReachedLaws.{nothing_is_start, run_more}
use Rattle.br_core.proofs.RunLaws.{headline_lem, hits_of_a_run_lem}

-- ---- a state

-- what a step delivers was selected
pub gives_selected : (w after : World) (event : Event) (reply : Reply) → IsStep w event reply after → HoweverReached w (GivesSelected w event reply)
gives_selected w after event reply step events replies run number files event_is reply_is =
    let same = subst (λ (e : Event). IsStep w e reply after) event_is step in
    let gives = subst (λ (r : Reply). IsStep w (Deliver number) r after) reply_is same in
    let all = headline_lem nothing w after events replies number files nothing_is_start run gives in
    (all.0, λ p. all.1 p (λ j among chosen. absurd (none_in j among)))

-- the restores have hits of their bootstraps
pub all_have_hits : (w : World) → HoweverReached w (AllHaveHits w)
all_have_hits w events replies run number r at =
    let all = hits_of_a_run_lem nothing w events replies number r nothing_is_start run at in
    (all.0, λ p. all.1 p (λ j among chosen. absurd (none_in j among)))

-- so is what the machine that runs delivers
pub step_gives : (before after : World) (event : Event) (result : Result answer.Reply StepFault) → TakesStep before event after result
    → IfOk result (λ reply. HoweverReached before (GivesSelected before event (reply_of reply)))
step_gives before after event (Ok reply) step = gives_selected before after event (reply_of reply) step
step_gives before after event (Err fault) step = tt

-- ---- the machine that runs

-- a refusal with a number is a reply of the relation
pub refused_step : (before after : World) (event : Event) (fault : StepFault) (number : ℕ) → TakesStep before event after (Err fault) → Some number ≡ cause fault
    → IsStep before event (Refused number) after
refused_step before after event fault number takes is =
    subst (λ (w : World). IsStep before event (Refused number) w) (sym takes.0)
    (subst (λ (o : Option ℕ). IfSome o (λ n. IsStep before event (Refused n) before)) (sym is) takes.1)

-- one event more
pub ran_more : (first w after : World) (events : List given.Event) (replies more : List answer.Reply) (event : given.Event) (reply : answer.Reply)
    → IsRun first (map event_of events) (map reply_of replies) w → IsStep w (event_of event) (reply_of reply) after → more ≡ replies ++ reply ∷ []
    → IsRun first (map event_of (events ++ event ∷ [])) (map reply_of more) after
ran_more first w after events replies more event reply run step is =
    let ran = run_more first w after (map event_of events) (map reply_of replies) (event_of event) (reply_of reply) run step in
    let told = ap (map reply_of) is ∙ map-append reply_of replies (reply ∷ []) in
    subst (λ (es : List Event). IsRun first es (map reply_of more) after) (sym (map-append event_of events (event ∷ [])))
    (subst (λ (rs : List Reply). IsRun first (map event_of events ++ event_of event ∷ []) rs after) (sym told) ran)

-- a list of no elements
pub none_left : {X : Type 0} (xs : List X) → length xs ≡ 0 → xs ≡ []
none_left [] e = refl
none_left (x ∷ xs) e = absurd (omega (arith, e))

-- no event is left
pub ran_all : (first w : World) (past left events : List given.Event) (replies : List answer.Reply) → left ≡ [] → past ++ left ≡ events
    → IsRun first (map event_of past) (map reply_of replies) w → IsRun first (map event_of events) (map reply_of replies) w
ran_all first w past left events replies none all run =
    subst (λ (es : List given.Event). IsRun first (map event_of es) (map reply_of replies) w) (sym (append-nil past) ∙ ap (λ (es : List given.Event). past ++ es) (sym none) ∙ all) run

-- ---- a run

-- the state after the first events of a run
record IsBetween (first last : World) (events : List Event) (replies : List Reply) (count : ℕ) : Type 0 where
  w : World
  before : IsRun first (take count events) (take count replies) w
  after : IsRun w (drop count events) (drop count replies) last

between : (first last : World) (events : List Event) (replies : List Reply) (count : ℕ) → IsRun first events replies last → count ≤ length events → IsBetween first last events replies count
between first last events replies zero run few = record { w = first; before = refl; after = run }
between first last [] replies (suc n) run few = absurd (omega (arith, few))
between first last (e ∷ es) [] (suc n) run few = absurd run
between first last (e ∷ es) (r ∷ rs) (suc n) run few =
    let it = between run.0 last es rs n run.2 (omega (arith, few)) in
    record { w = it.w; before = (run.0, run.1, it.before); after = it.after }

-- what is left from a place on begins with what is at the place
left_at : {X : Type 0} (xs : List X) (n : ℕ) (x : X) → slice_get xs n ≡ Some x → drop n xs ≡ x ∷ drop (suc n) xs
left_at [] n x at = absurd cc
left_at {X} (y ∷ ys) zero x at = ap (λ (z : X). z ∷ ys) (same_Some y x at)
left_at (y ∷ ys) (suc n) x at = left_at ys n x at

pub always_have_hits : (events : List Event) (replies : List Reply) (last : World) → IsRun nothing events replies last → AlwaysHaveHits events replies last
always_have_hits events replies last run count few =
    let it = between nothing last events replies count run few in
    (it.w, record { before = it.before; after = it.after }, all_have_hits it.w (take count events) (take count replies) it.before)

pub all_give_selected : (events : List Event) (replies : List Reply) (last : World) → IsRun nothing events replies last → AllGiveSelected events replies last
all_give_selected events replies last run count event reply event_at reply_at =
    let within = slice_get_within events count event event_at in
    let it = between nothing last events replies count run (omega (arith, within)) in
    let some = subst (λ (es : List Event). IsRun it.w es (drop count replies) last) (left_at events count event event_at) it.after in
    let next = subst (λ (rs : List Reply). IsRun it.w (event ∷ drop (suc count) events) rs last) (left_at replies count reply reply_at) some in
    (it.w, record { before = it.before; after = it.after }, gives_selected it.w next.0 event reply next.1 (take count events) (take count replies) it.before)
