-- The steps of the machine that runs, by what its parts do.
use Rattle.std.proofs.Common.{◌≡◌, ◌⊎◌, ℕ, zero, suc, ◌+◌, ◌<◌, ◌≤◌, List, [], ◌∷◌, ◌++◌, length, map, take, get_or, option_map, Option, Some, None, Result, Ok, Err, refl, sym, ap, subst, ◌∙◌, inl, inr, arith}
use Rattle.std.proofs.lemmas.List.{length-append, length-map, map-append, take-append-le}
use Rattle.std.proofs.lemmas.Option.{IfSome_then, same_Some, slice_get_past, slice_get-get_or}
use Rattle.std.specs.Prelude.{IfSome, slice_get, unwrap_or}
use Rattle.br_model.specs.Answer.{IsRefusal}
use Rattle.br_model.specs.Volume.{Volume}
use Rattle.br_model.specs.Job.{Job, JobRows}
use Rattle.br_model.specs.Plan as model
use Rattle.br_model.specs.Choice.{Request}
use Rattle.br_model.specs.Console.{Command}
use Rattle.br_model.specs.PlanMeaning.{rows_of_jobs}
use Rattle.br_history.specs.Fault as history
use Rattle.br_history.specs.declared.fault.HistoryFault.{HistoryFault}
use Rattle.br_plan.specs.Fault as planning
use Rattle.br_plan.specs.declared.fault.PlanFault.{PlanFault}
use Rattle.br_core.specs.Machine as machine
use Rattle.br_core.specs.Machine.{World, Event, ToCommit, Can, IsCommitted, IsRead, IsRefusedFor, IsStep, job_of, plan_for, planned, stages_of}
use Rattle.br_core.specs.Machine.Event.{Commit, Plan, Read, Finish}
use Rattle.br_core.specs.Machine.Reply.{Refused}
use Rattle.br_core.specs.Committing.{CommitsTo}
use Rattle.br_core.specs.Fault.{cause}
use Rattle.br_core.specs.Happening.{reply_of}
use Rattle.br_core.specs.Moving.{commits_at, seen_all}
use Rattle.br_core.specs.Reached.{AreWhole, IsReached, nothing}
use Rattle.br_core.specs.Reading.{CanBeRead}
use Rattle.br_core.specs.Stepping.{PlansRestore, ShowsTo, StepsOfOne, TakesStep, world_with}
use Rattle.br_core.specs.View.{Finishes, IsPlanned, restore_of}
use Rattle.br_core.specs.declared.event.Reply.{Reply}
use Rattle.br_core.specs.declared.event.Reply.TheVariants as given
use Rattle.br_core.specs.declared.fault.StepFault.{StepFault}
use Rattle.br_core.specs.declared.fault.StepFault.TheVariants.{Memory, NotEnabled}
use Rattle.br_core.specs.declared.open_restore.OpenRestore.{OpenRestore}
use Rattle.br_core.proofs.BackupLaws.{no_backups}
use Rattle.br_core.proofs.EventLaws.{finish_is, planned_over, planned_since, read_is}
use Rattle.br_core.proofs.MovingLaws.{found_at, kept_at}
use Rattle.br_core.proofs.PlaceLaws.{get_before}
use Rattle.br_core.proofs.ReachedLaws.{reached_more, reached_restore}

-- no step reaches the state without jobs
pub nothing_reached : IsReached nothing
nothing_reached = record { events = []; replies = []; run = refl; whole = no_backups.whole }

-- a step leads from a state that is reached to one that is, if its volumes consist of whole blocks
pub still_reached : (before after : World) (event : Event) (result : Result Reply StepFault) → IsReached before → TakesStep before event after result → AreWhole after.volumes → IsReached after
still_reached before after event (Ok reply) reached step whole = reached_more before after event (reply_of reply) reached step whole
still_reached before after event (Err fault) reached step whole = subst IsReached (sym step.0) reached

-- ---- commits

-- each restore was planned after no more commits than there were
planned_before : (backups : World) (restores : List (Option OpenRestore)) (n : ℕ) (r : OpenRestore) → IsReached (world_with backups restores) → slice_get restores n ≡ Some (Some r)
    → r.commits < length (stages_of backups)
planned_before backups restores n r reached at =
    let u = reached_restore (world_with backups restores) n (restore_of backups.jobs (stages_of backups) r) reached (found_at backups restores n r at) in
    let same : r.commits ≡ u.commits = u.going.commits_are in
    let since : u.commits < length (stages_of backups) = u.grown.since in
    omega (arith, same, since)

-- with more jobs and one stage more a restore that was planned before them is seen as it was
seen_one : (jobs more : List Job) (stages : List (List Volume)) (volumes : List Volume) (r : OpenRestore) → r.commits ≤ length jobs → r.commits < length stages
    → restore_of (jobs ++ more) (stages ++ volumes ∷ []) r ≡ restore_of jobs stages r
seen_one jobs more stages volumes r few early =
    ap (λ (js : List Job). seen js (unwrap_or (slice_get (stages ++ volumes ∷ []) r.commits) [])) (take-append-le r.commits jobs more few)
    ∙ ap (λ (o : Option (List Volume)). seen (take r.commits jobs) (unwrap_or o [])) (get_before stages volumes r.commits early)
  where
    seen : List Job → List Volume → machine.Restore
    seen js vs = record (restore_of jobs stages r) { jobs = js; volumes = vs }

seen_more : (jobs more : List Job) (stages : List (List Volume)) (volumes : List Volume) (restores : List (Option OpenRestore))
    → ((n : ℕ) (r : OpenRestore) → slice_get restores n ≡ Some (Some r) → (r.commits ≤ length jobs) × (r.commits < length stages))
    → seen_all (jobs ++ more) (stages ++ volumes ∷ []) restores ≡ seen_all jobs stages restores
seen_more jobs more stages volumes [] each = refl
seen_more jobs more stages volumes (None ∷ rs) each = ap (λ (l : List (Option machine.Restore)). None ∷ l) (seen_more jobs more stages volumes rs (λ n. each (suc n)))
seen_more jobs more stages volumes (Some r ∷ rs) each =
    let here = each 0 r refl in
    ap (λ (m : machine.Restore). Some m ∷ seen_all (jobs ++ more) (stages ++ volumes ∷ []) rs) (seen_one jobs more stages volumes r here.0 here.1)
    ∙ ap (λ (l : List (Option machine.Restore)). Some (restore_of jobs stages r) ∷ l) (seen_more jobs more stages volumes rs (λ n. each (suc n)))

-- a commit changes none of the restores
committed_beside : (before after : World) (c : ToCommit) (restores : List (Option OpenRestore)) → IsReached (world_with before restores) → length before.jobs ≡ length before.earlier
    → IsCommitted before c before.volumes after → IsCommitted (world_with before restores) c before.volumes (world_with after restores)
committed_beside before after c restores reached as_many is = record {
  written = is.written;
  is_written = is.is_written;
  fits = is.fits;
  is_job = is.is_job;
  jobs_are = is.jobs_are;
  extend = is.extend;
  holds = is.holds;
  earlier_are = is.earlier_are;
  restores_are =
      ap (λ (js : List Job). seen_all js (stages_of after) restores) is.jobs_are
      ∙ ap (λ (e : List (List Volume)). seen_all (before.jobs ++ new ∷ []) (e ++ after.volumes ∷ []) restores) is.earlier_are
      ∙ seen_more before.jobs (new ∷ []) (stages_of before) after.volumes restores each;
}
  where
    new : Job
    new = job_of c is.written.spans

    each : (n : ℕ) (r : OpenRestore) → slice_get restores n ≡ Some (Some r) → (r.commits ≤ length before.jobs) × (r.commits < length (stages_of before))
    each n r at =
        let since = planned_before before restores n r reached at in
        (omega (arith, since, as_many, length-append before.earlier (before.volumes ∷ [])), since)

-- nor does a refusal
refused_beside : (before : World) (c : ToCommit) (restores : List (Option OpenRestore)) (n : ℕ) → IsRefusedFor before c before.volumes n → IsRefusedFor (world_with before restores) c before.volumes n
refused_beside before c restores n (inl row) = inl row
refused_beside before c restores n (inr (is, long)) =
    inr (is, record { blocks = long.blocks; accepted = long.accepted; fits = long.fits; packed = long.packed; refused = long.refused })

pub commit_refused : (before after : World) (c : ToCommit) (restores : List (Option OpenRestore)) (why : HistoryFault) (fault : StepFault) → cause fault ≡ history.cause why → CommitsTo before c after (Err why)
    → TakesStep (world_with before restores) (Commit c) (world_with after restores) (Err fault)
commit_refused before after c restores why fault same is = (
  ap (λ (w : World). world_with w restores) is.0,
  subst (λ (o : Option ℕ). IfSome o (λ n. IsStep (world_with before restores) (Commit c) (Refused n) (world_with before restores))) (sym same)
      (IfSome_then (history.cause why) is.1 (λ n refused. (refl, refused_beside before c restores n refused))),
)

pub commit_done : (before after : World) (c : ToCommit) (restores : List (Option OpenRestore)) → IsReached (world_with before restores) → length before.jobs ≡ length before.earlier
    → CommitsTo before c after (Ok tt) → TakesStep (world_with before restores) (Commit c) (world_with after restores) (Ok given.Done)
commit_done before after c restores reached as_many is = committed_beside before after c restores reached as_many is

-- ---- plans

-- what a refusal says of a plan
pub refusal_is : {X : Type 0} (o : Option ℕ) (r : Result X ℕ) → IsRefusal o r → IfSome o (λ n. r ≡ Err n)
refusal_is None r h = tt
refusal_is (Some n) r h = h

-- no restore is planned
pub unplanned : (w : World) (q : Request) (script : List Command) (past : List JobRows) (why : PlanFault) (fault : StepFault) → past ≡ rows_of_jobs w.jobs → cause fault ≡ planning.cause why
    → IsRefusal (planning.cause why) (plan_for past q script) → PlansRestore w q script (Err fault)
unplanned w q script past why fault same is refused =
    let here = refusal_is (planning.cause why) (plan_for (rows_of_jobs w.jobs) q script)
    (subst (λ (h : List JobRows). IsRefusal (planning.cause why) (plan_for h q script)) same refused) in
    subst (λ (o : Option ℕ). IfSome o (λ n. plan_for (rows_of_jobs w.jobs) q script ≡ Err n)) (sym is) here

-- a restore is planned
pub begins : (w : World) (q : Request) (script : List Command) (past : List JobRows) (marks : List (List ℕ)) (plan : model.Plan) (r : OpenRestore) (commits : ℕ) → past ≡ rows_of_jobs w.jobs
    → plan_for past q script ≡ Ok (marks, plan) → IsPlanned commits q marks plan r → commits ≡ length w.earlier → commits ≡ length w.jobs → PlansRestore w q script (Ok r)
begins w q script past marks plan r commits same is planned stages jobs =
    (marks, plan, ap (λ (h : List JobRows). plan_for h q script) (sym same) ∙ is, planned w (sym stages) (sym jobs))

-- a restore is planned, under the next number
pub plan_begins : (backups : World) (restores : List (Option OpenRestore)) (q : Request) (script : List Command) (r : OpenRestore) (number : ℕ) → PlansRestore backups q script (Ok r)
    → number ≡ length restores → TakesStep (world_with backups restores) (Plan q script) (world_with backups (restores ++ Some r ∷ [])) (Ok (given.Planned number))
plan_begins backups restores q script r number p is = (
  p.0,
  p.1,
  p.2,
  is ∙ sym (length-map restores see),
  ap (λ (rs : List (Option machine.Restore)). record backups { restores = rs })
      (map-append see restores (Some r ∷ []) ∙ ap (λ (m : machine.Restore). map see restores ++ Some m ∷ []) p.3),
)
  where
    see : Option OpenRestore → Option machine.Restore
    see = option_map (restore_of backups.jobs (stages_of backups))

-- it is not
pub plan_refused : (w : World) (q : Request) (script : List Command) (fault : StepFault) → IfSome (cause fault) (λ n. plan_for (rows_of_jobs w.jobs) q script ≡ Err n)
    → TakesStep w (Plan q script) w (Err fault)
plan_refused w q script fault refused = (refl, IfSome_then (cause fault) refused (λ n e. (refl, e)))

-- ---- reads and ends of walks

-- there is no such restore
pub shows_none : (backups : World) (restores : List (Option OpenRestore)) (n commits : ℕ) → None ≡ commits_at (slice_get restores n) → ShowsTo backups restores n commits None
shows_none backups restores n commits none since volumes told early there = let is_none : ◌≡◌ {A = Option ℕ} None (Some since) = none ∙ told in absurd cc

-- the restore was planned later
pub shows_early : (backups : World) (restores : List (Option OpenRestore)) (n commits late : ℕ) → Some late ≡ commits_at (slice_get restores n) → commits < late
    → ShowsTo backups restores n commits None
shows_early backups restores n commits late told later since volumes told' early there =
    let same : late ≡ since = same_Some late since (told ∙ told') in
    absurd (omega (arith, same, later, early))

-- it was not
pub shows_to : (backups : World) (restores : List (Option OpenRestore)) (n commits since : ℕ) (found : Option (List Volume)) → Some since ≡ commits_at (slice_get restores n) → since ≤ commits
    → found ≡ slice_get (stages_of backups) commits → ShowsTo backups restores n commits found
shows_to backups restores n commits since (Some volumes) told early there = ((since, sym told, early), sym there)
shows_to backups restores n commits since None told early there = λ other volumes told' early' there'.
    let is_none : ◌≡◌ {A = Option (List Volume)} None (Some volumes) = there ∙ there' in
    absurd cc

-- a walk reads over the volumes of a number of commits
pub read_given : (backups : World) (before after : List (Option OpenRestore)) (n piece commits : ℕ) (volumes : List Volume) (result : Result Reply StepFault)
    → IsReached (world_with backups before) → ShowsTo backups before n commits (Some volumes)
    → StepsOfOne (λ r. CanBeRead r piece volumes) (λ r next. IsRead r piece volumes next) n before after result
    → TakesStep (world_with backups before) (Read n piece commits) (world_with backups after) result
read_given backups before after n piece commits volumes result reached shows steps =
    let told = shows.0 in
    steps backups (Read n piece commits)
    (read_is (world_with backups before) n piece commits volumes reached shows.1 (λ r at.
    let since : r.commits ≡ told.0 = planned_since backups before n told.0 told.1 r at in
    omega (arith, since, told.2)))

-- there are no such volumes
pub read_none : (backups : World) (restores : List (Option OpenRestore)) (n piece commits : ℕ) → ShowsTo backups restores n commits None
    → TakesStep (world_with backups restores) (Read n piece commits) (world_with backups restores) (Err NotEnabled)
read_none backups restores n piece commits none = (refl, (refl, refl, go))
  where
    go : Can (world_with backups restores) n (Read n piece commits) → ⊥
    go can =
        let k = kept_at backups restores n can.0 can.2 in
        let same : k.kept.commits ≡ can.0.commits = ap (λ (m : machine.Restore). m.commits) k.seen in
        let since = can.3.1.since in
        none k.kept.commits can.3.0 (ap commits_at k.at) (omega (arith, same, since)) can.3.1.are

-- a walk ends over the volumes of the restore's plan
pub finish_given : (backups : World) (before after : List (Option OpenRestore)) (n piece since : ℕ) (volumes : List Volume) (result : Result Reply StepFault)
    → IsReached (world_with backups before) → commits_at (slice_get before n) ≡ Some since → slice_get (stages_of backups) since ≡ Some volumes
    → StepsOfOne (λ r. CanBeRead r piece volumes) (Finishes piece volumes) n before after result
    → TakesStep (world_with backups before) (Finish n piece) (world_with backups after) result
finish_given backups before after n piece since volumes result reached told there steps =
    steps backups (Finish n piece)
    (finish_is (world_with backups before) n piece since volumes reached there (λ r at.
    (planned_since backups before n since told r at, planned_over backups before n since volumes told there r at)))

-- there is no such restore
pub finish_none : (backups : World) (restores : List (Option OpenRestore)) (n piece : ℕ) → commits_at (slice_get restores n) ≡ None
    → TakesStep (world_with backups restores) (Finish n piece) (world_with backups restores) (Err NotEnabled)
finish_none backups restores n piece none = (refl, (refl, refl, go))
  where
    go : Can (world_with backups restores) n (Finish n piece) → ⊥
    go can =
        let k = kept_at backups restores n can.0 can.2 in
        let is_none : ◌≡◌ {A = Option ℕ} None (Some k.kept.commits) = sym none ∙ ap commits_at k.at in
        absurd cc

-- the volumes of its plan are always there
pub finish_over : (backups : World) (restores : List (Option OpenRestore)) (n piece since : ℕ) → IsReached (world_with backups restores) → commits_at (slice_get restores n) ≡ Some since
    → slice_get (stages_of backups) since ≡ None → TakesStep (world_with backups restores) (Finish n piece) (world_with backups restores) (Err NotEnabled)
finish_over backups restores n piece since reached told none = (refl, (refl, refl, go))
  where
    go : Can (world_with backups restores) n (Finish n piece) → ⊥
    go can =
        let k = kept_at backups restores n can.0 can.2 in
        let same : since ≡ k.kept.commits = same_Some since k.kept.commits (sym told ∙ ap commits_at k.at) in
        let early = planned_before backups restores n k.kept reached k.at in
        let there = slice_get-get_or (stages_of backups) since [] (omega (arith, same, early)) in
        let is_none : ◌≡◌ {A = Option (List Volume)} None (Some (get_or (stages_of backups) since [])) = sym none ∙ there in
        absurd cc
