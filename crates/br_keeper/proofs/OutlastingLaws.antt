-- What a crash after a commit leaves of the volumes holds the jobs.
use Rattle.std.proofs.Common.{◌≡◌, List, [], ◌∷◌, ◌++◌, Option, Some, None, Result, Ok, Err, refl, sym, ap, subst, ◌∙◌, inl, inr, append_assoc, ℕ}
use Rattle.std.specs.Prelude.{IfSome, MatchResult, ⊤}
use Rattle.std.specs.List.{AllByRecursion, AllZip}
use Rattle.std.proofs.lemmas.List.{append-nil}
use Rattle.br_model.specs.Volume.{LaidBlock, Volume}
use Rattle.br_model.specs.Job.{JobRows, Job, Span}
use Rattle.br_model.specs.Stored.{Holds, IsSpanLaid, is_in_span}
use Rattle.br_model.proofs.ListLaws.{all_append}
use Rattle.br_model.proofs.SpanLaws.{everywhere, less_covered, span_whole_in, whole_later}
use Rattle.br_history.specs.Saving.{ToCommit}
use Rattle.br_volume.specs.Store.{AppendsInPartTo, IsDurable, Lasts}
use Rattle.br_volume.proofs.AppendLaws.{appends_add_up_lem}
use Rattle.br_keeper.specs.declared.fault.KeeperFault.{KeeperFault}
use Rattle.br_keeper.specs.declared.fault.KeeperFault.TheVariants.{Memory, DuplicateJob, DuplicateSession, BadRow, RetiredVolume, Volume as VolumeFails, Store, StoredNotPublished, BadCatalogue}
use Rattle.br_keeper.specs.Beginnings.{Beginning}
use Rattle.br_keeper.specs.Vouching.{starts_of}
use Rattle.br_keeper.specs.Publishing.{Publishing, all_published, with_added}
use Rattle.br_keeper.specs.Writing.{AppendInTurn, AreDurable, IsKept, IsVouched, Shelf}
use Rattle.br_keeper.specs.Keeping.{Keeping, RepublishesKept, jobs_of}
use Rattle.br_keeper.specs.Committing.{IsWrittenTo, MeetsFailedStore}
use Rattle.br_keeper.specs.Outcomes.{CommitsDurably, Lasting, durably}
use Rattle.br_keeper.specs.Holding.{AreHeld, AreStanding, CrashesLeaveJobs, Outlast, OutlastWith, OutlastsCrash, Stands, StandsWith, job_with}
use Rattle.br_keeper.specs.Channel.{AreStored, CommitsOutlast, IsFirst, StoresFirst}
use Rattle.br_keeper.proofs.StandingLaws.{held_on, written_holds}

-- ---- the volumes of spans are durable

-- a span that is laid stays so if its volume is durable
span_lasts : (volumes durable : List Volume) (s : Span) (blocks : List LaidBlock) → IsDurable volumes durable s.volume → IsSpanLaid volumes s blocks
    → IsSpanLaid durable s blocks
span_lasts volumes durable s blocks all is =
    let grown = all is.bytes is.found in
    let whole = whole_later is.bytes grown.0 s.end is.all (span_whole_in volumes is.bytes s blocks is.found is) in
    record {
      bytes = is.bytes ++ grown.0;
      all = is.all;
      found = grown.1;
      laid = less_covered 0 (is.bytes ++ grown.0) (Some s.end) everywhere (is_in_span s) is.all (λ a q. refl) whole.laid;
      blocks_are = is.blocks_are;
      first = is.first;
      first_among = is.first_among;
      first_begins = is.first_begins;
      last = is.last;
      last_among = is.last_among;
      last_ends = is.last_ends;
    }

spans_last : (volumes durable : List Volume) (spans : List Span) (blocks : List (List LaidBlock)) → AreDurable spans (Some volumes) (Some durable)
    → AllZip (IsSpanLaid volumes) spans blocks → AllZip (IsSpanLaid durable) spans blocks
spans_last volumes durable [] [] all laid = laid
spans_last volumes durable [] (bs ∷ bss) all laid = absurd laid
spans_last volumes durable (s ∷ ss) [] all laid = absurd laid
spans_last volumes durable (s ∷ ss) (bs ∷ bss) all laid = (span_lasts volumes durable s bs all.0 laid.0, spans_last volumes durable ss bss all.1 laid.1)

-- so what is durable of volumes holds a job that these hold
held_durably : (volumes durable : List Volume) (j : Job) → AreDurable j.rows.spans (Some volumes) (Some durable) → Holds volumes j → Holds durable j
held_durably volumes durable j all holds = record {
  blocks = holds.blocks;
  laid = spans_last volumes durable j.rows.spans holds.blocks all holds.laid;
  in_span = holds.in_span;
  records = holds.records;
  cut = holds.cut;
  files = holds.files;
  no_others = holds.no_others;
}

-- ---- a commit

-- volumes that are told were told before
abbrev StillTold : Option (List Volume) → Option (List Volume) → Type 0
StillTold None (Some volumes) = ⊥
StillTold None None = ⊤
StillTold (Some volumes) after = ⊤

still_same : (before after : Option (List Volume)) → after ≡ before → StillTold before after
still_same before after same = subst (λ (o : Option (List Volume)). StillTold before o) (sym same) (go before)
  where
    go : (o : Option (List Volume)) → StillTold o o
    go None = tt
    go (Some volumes) = tt

still_more : (first second third : Option (List Volume)) → StillTold first second → StillTold second third → StillTold first third
still_more (Some a) second third one two = tt
still_more None (Some b) third one two = absurd one
still_more None None (Some c) one two = absurd two
still_more None None None one two = tt

still_in_turn : (blocks : List (List ℕ × List ℕ)) (before after : Option (List Volume)) → AppendInTurn blocks before after → StillTold before after
still_in_turn blocks None None is = tt
still_in_turn blocks None (Some b) is = is
still_in_turn blocks (Some a) after is = tt

still_in_part : (volume bytes : List ℕ) (before after : Option (List Volume)) → AppendsInPartTo volume bytes before after → StillTold before after
still_in_part volume bytes None None is = tt
still_in_part volume bytes None (Some b) is = is
still_in_part volume bytes (Some a) after is = tt

-- the store of volumes failed
still_failed : (history : List JobRows) (c : ToCommit) (old new : Shelf) → MeetsFailedStore history c old new → StillTold old.volumes new.volumes
still_failed history c old new (inl m) = still_same old.volumes new.volumes m.refused.kept.volumes_are
still_failed history c old new (inr (inl m)) =
    let cut = m.cut_off.cut_off in
    still_more old.volumes cut.middle new.volumes (still_in_turn cut.done old.volumes cut.middle cut.appended)
    (still_in_part cut.block.0 cut.block.1 cut.middle new.volumes cut.in_part)
still_failed history c old new (inr (inr m)) =
    let middle = m.unsynced.middle in
    still_more old.volumes middle.volumes new.volumes (still_in_turn m.written.blocks old.volumes middle.volumes m.unsynced.written.appended)
    (still_same middle.volumes new.volumes m.unsynced.unsynced.failed.volumes_are)

-- jobs that are held by what is durable stay so
others_outlast : (before after first last : Option (List Volume)) (jobs : List Job) → StillTold before after → Lasts first last
    → IfSome before (λ volumes. AreHeld first jobs) → IfSome after (λ volumes. AreHeld last jobs)
others_outlast before None first last jobs still lasts held = tt
others_outlast None (Some b) first last jobs still lasts held = absurd still
others_outlast (Some a) (Some b) None None jobs still lasts held = tt
others_outlast (Some a) (Some b) (Some f) None jobs still lasts held = tt
others_outlast (Some a) (Some b) None (Some d) jobs still lasts held = absurd lasts
others_outlast (Some a) (Some b) (Some f) (Some d) jobs still lasts held = held_on f d jobs lasts held

pub written_outlasts : {C : Type 0} (change : JobRows → C → C → Type 0) (history : List JobRows) (c : ToCommit) (before after : C) (old new : Shelf) (rows : JobRows) (jobs : List Job)
    (first last : Option (List Volume)) → IsWrittenTo change history c before after old new rows → IfSome old.volumes (AreStanding old.vouches history jobs)
    → IfSome old.volumes (λ volumes. AreHeld first jobs) → Lasts first last → AreDurable rows.spans new.volumes last
    → IfSome new.volumes (λ volumes. AreHeld last (jobs ++ job_with c rows ∷ []))
written_outlasts change history c before after old new rows jobs first last w is held lasts all =
    go old.volumes new.volumes first last w.blocks.serve w.blocks.written.appended is held lasts all
  where
    job : Job
    job = job_with c rows

    go : (a b first last : Option (List Volume)) → AllByRecursion (IsVouched old.vouches a) (starts_of old.vouches history c.places) → AppendInTurn w.written.blocks a b
        → IfSome a (AreStanding old.vouches history jobs) → IfSome a (λ volumes. AreHeld first jobs) → Lasts first last → AreDurable rows.spans b last
        → IfSome b (λ volumes. AreHeld last (jobs ++ job ∷ []))
    go a None first last serve appended is held lasts all = tt
    go None (Some later) first last serve appended is held lasts all = absurd appended
    go (Some earlier) (Some later) first None serve appended is held lasts all = tt
    go (Some earlier) (Some later) None (Some d) serve appended is held lasts all = absurd lasts
    go (Some earlier) (Some later) (Some f) (Some d) serve appended is held lasts all =
        let holds = written_holds c history old.vouches jobs earlier later is serve rows w.written w.ready.session (appends_add_up_lem w.written.blocks earlier later appended).0 in
        all_append (Holds d) jobs (job ∷ []) (held_on f d jobs lasts held) (held_durably later d job all holds, tt)

module _ {C W : Type 0} (on : Lasting C W) (c : ToCommit) where
  others : (old new : Keeping C W) (jobs : List Job) → StillTold (on.backing.shelf old).volumes (on.backing.shelf new).volumes
      → Lasts (on.durable old.volumes) (on.durable new.volumes) → Outlast on jobs old → Outlast on jobs new
  others old new jobs still lasts held =
      others_outlast (on.backing.shelf old).volumes (on.backing.shelf new).volumes (on.durable old.volumes) (on.durable new.volumes) jobs still lasts held

  same : (old new : Keeping C W) (jobs : List Job) → IsKept (on.backing.shelf old) (on.backing.shelf new)
      → Lasts (on.durable old.volumes) (on.durable new.volumes) → Outlast on jobs old → Outlast on jobs new
  same old new jobs kept lasts held = others old new jobs (still_same (on.backing.shelf old).volumes (on.backing.shelf new).volumes kept.volumes_are) lasts held

  pub commits_outlast : (old new : Keeping C W) (r : Result Beginning KeeperFault) → CommitsDurably on c old new r
      → Lasts (on.durable old.volumes) (on.durable new.volumes) → OutlastsCrash on c old new r
  commits_outlast old new (Ok receipt) w lasts jobs is held = (
    w.0,
    w.2,
    w.1.catalogue.0,
    written_outlasts (durably on new).inserts (jobs_of old) c old.catalogue new.catalogue (on.backing.shelf old) (on.backing.shelf new) w.0 jobs (on.durable old.volumes) (on.durable new.volumes) w.1 is held lasts w.1.catalogue.1,
  )
  commits_outlast old new (Err StoredNotPublished) w lasts jobs is held = (
    w.0,
    w.2,
    w.1.catalogue.0,
    written_outlasts (durably on new).inserts (jobs_of old) c old.catalogue new.catalogue (on.backing.shelf old) (on.backing.shelf new) w.0 jobs (on.durable old.volumes) (on.durable new.volumes) w.1 is held lasts w.1.catalogue.1,
  )
  commits_outlast old new (Err Store) w lasts jobs is held = (
    w.0.0,
    w.0.1.catalogue.0,
    written_outlasts (durably on new).refuses (jobs_of old) c old.catalogue new.catalogue (on.backing.shelf old) (on.backing.shelf new) w.0.0 jobs (on.durable old.volumes) (on.durable new.volumes) w.0.1 is held lasts w.0.1.catalogue.1,
  )
  commits_outlast old new (Err VolumeFails) w lasts jobs is held = others old new jobs (still_failed (jobs_of old) c (on.backing.shelf old) (on.backing.shelf new) w.0.1) lasts held
  commits_outlast old new (Err Memory) w lasts jobs is held = same old new jobs w.0.1 lasts held
  commits_outlast old new (Err DuplicateJob) w lasts jobs is held = same old new jobs w.0.0.1 lasts held
  commits_outlast old new (Err DuplicateSession) w lasts jobs is held = same old new jobs w.0.0.1 lasts held
  commits_outlast old new (Err BadRow) w lasts jobs is held = same old new jobs w.0.0.1 lasts held
  commits_outlast old new (Err RetiredVolume) w lasts jobs is held = same old new jobs w.0.0.1 lasts held
  commits_outlast old new (Err BadCatalogue) w lasts jobs is held = absurd w.0

-- a keeper that published what waited, or not, has the same volumes
pub republished_same : {C W : Type 0} (old new : Keeping C W) (r : Result (Option Beginning) KeeperFault)
    → MatchResult r (RepublishesKept old new) (λ why. (why ≡ Memory) × (new ≡ old)) → new.volumes ≡ old.volumes
republished_same {C} {W} old new (Ok None) h = ap (λ (k : Keeping C W). k.volumes) h.0
republished_same {C} {W} old new (Ok (Some receipt)) h = ap (λ (k : Keeping C W). k.volumes) h.0
republished_same {C} {W} old new (Err why) h = ap (λ (k : Keeping C W). k.volumes) h.1

pub crashes_leave_jobs_lem : CrashesLeaveJobs
crashes_leave_jobs_lem volumes durable left jobs held may = held_on durable left jobs may.kept held

-- ---- commits

same_last : {X : Type 0} (xs : List X) (a b : X) → xs ++ a ∷ [] ≡ xs ++ b ∷ [] → a ≡ b
same_last [] a b e = cc
same_last (x ∷ xs) a b e = same_last xs a b cc

-- the rows that were added to a list
same_rows : (list : Publishing) (a b : JobRows) (p q : Publishing) → p.added ≡ list.added ++ a ∷ [] → q.added ≡ list.added ++ b ∷ [] → p ≡ q → a ≡ b
same_rows list a b p q one two same =
    same_last list.added a b (sym one ∙ ap (λ (r : Publishing). r.added) same ∙ two)

-- the first of some jobs
pub front_all : {X : Type 0} (P : X → Type 0) (xs ys : List X) → AllByRecursion P (xs ++ ys) → AllByRecursion P xs
front_all P [] ys all = tt
front_all P (x ∷ xs) ys all = (all.0, front_all P xs ys all.1)

fewer_held : (told durable : Option (List Volume)) (jobs more : List Job) → IfSome told (λ volumes. AreHeld durable (jobs ++ more))
    → IfSome told (λ volumes. AreHeld durable jobs)
fewer_held None durable jobs more held = tt
fewer_held (Some volumes) None jobs more held = tt
fewer_held (Some volumes) (Some d) jobs more held = front_all (Holds d) jobs more held

module _ {C W : Type 0} (on : Lasting C W) where
  -- the keeper stands with these jobs and more, and a crash leaves them
  abbrev Goes : Keeping C W → (List Job → Type 0) → List Job → Type 0
  Goes k stored jobs = (more : List Job) × stored more × Stands on.backing.shelf (jobs ++ more) k × Outlast on (jobs ++ more) k

  pub commits_outlast_lem : CommitsOutlast on
  commits_outlast_lem [] old new jobs are is last = (
    [],
    refl,
    subst (λ (k : Keeping C W). Stands on.backing.shelf (jobs ++ []) k) (sym are) (subst (λ (js : List Job). Stands on.backing.shelf js old) (sym (append-nil jobs)) is),
    subst (λ (k : Keeping C W). Outlast on (jobs ++ []) k) (sym are) (subst (λ (js : List Job). Outlast on js old) (sym (append-nil jobs)) last),
  )
  commits_outlast_lem (step ∷ steps) old new jobs are is last =
      go step.result (are.0.1 jobs is) (are.0.2 jobs is last) (λ js stands lasts. commits_outlast_lem steps step.after new js are.1 stands lasts)
    where
      -- with the job of this step
      with_job : (rows : JobRows) → Goes new (AreStored steps) (jobs ++ job_with step.job rows ∷ []) → Goes new (IsFirst step.job (AreStored steps)) jobs
      with_job rows r =
          let job = job_with step.job rows in (
            job ∷ r.0,
            (rows, r.0, refl, r.1),
            subst (λ (js : List Job). Stands on.backing.shelf js new) (append_assoc jobs (job ∷ []) r.0) r.2,
            subst (λ (js : List Job). Outlast on js new) (append_assoc jobs (job ∷ []) r.0) r.3,
          )

      go : (r : Result Beginning KeeperFault) → StandsWith on.backing step.job jobs old step.after r → OutlastWith on step.job jobs old step.after r
          → ((js : List Job) → Stands on.backing.shelf js step.after → Outlast on js step.after → Goes new (AreStored steps) js)
          → Goes new (StoresFirst step.job r (AreStored steps)) jobs
      go (Ok receipt) stands lasts rest =
          let same = same_rows old.list lasts.0 stands.0 (all_published (with_added old.list lasts.0)) (all_published (with_added old.list stands.0)) refl refl (sym lasts.1 ∙ stands.1) in
          with_job stands.0 (rest (jobs ++ job_with step.job stands.0 ∷ []) stands.3
          (subst (λ (rows : JobRows). Outlast on (jobs ++ job_with step.job rows ∷ []) step.after) same lasts.3))
      go (Err StoredNotPublished) stands lasts rest =
          let same = same_rows old.list lasts.0 stands.0 (with_added (all_published old.list) lasts.0) (with_added (all_published old.list) stands.0) refl refl (sym lasts.1 ∙ stands.1) in
          with_job stands.0 (rest (jobs ++ job_with step.job stands.0 ∷ []) stands.3
          (subst (λ (rows : JobRows). Outlast on (jobs ++ job_with step.job rows ∷ []) step.after) same lasts.3))
      go (Err Store) stands lasts rest = rest jobs stands.3 (fewer_held (on.backing.shelf step.after).volumes (on.durable step.after.volumes) jobs (job_with step.job lasts.0 ∷ []) lasts.2)
      go (Err Memory) stands lasts rest = rest jobs stands lasts
      go (Err DuplicateJob) stands lasts rest = rest jobs stands lasts
      go (Err DuplicateSession) stands lasts rest = rest jobs stands lasts
      go (Err BadRow) stands lasts rest = rest jobs stands lasts
      go (Err RetiredVolume) stands lasts rest = rest jobs stands lasts
      go (Err VolumeFails) stands lasts rest = rest jobs stands lasts
      go (Err BadCatalogue) stands lasts rest = rest jobs stands lasts
