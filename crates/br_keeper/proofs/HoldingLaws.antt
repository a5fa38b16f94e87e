-- A keeper that stands still does so after each of its calls.
use Rattle.std.proofs.Common.{◌≡◌, ℕ, List, [], ◌∷◌, ◌++◌, Option, Some, None, Result, Ok, Err, refl, sym, ap, subst, ◌∙◌, inl, inr, append_assoc}
use Rattle.std.specs.Prelude.{IfSome, MatchResult, OnErr, OnOk}
use Rattle.std.specs.List.{AllByRecursion}
use Rattle.std.proofs.lemmas.List.{append-nil}
use Rattle.br_model.specs.Volume.{Volume}
use Rattle.br_model.specs.Stored.{Holds}
use Rattle.br_model.specs.Job.{JobRows, Job}
use Rattle.br_history.specs.Saving.{ToCommit}
use Rattle.br_volume.specs.Store.{AppendsInPartTo, AppendsTo, Failures}
use Rattle.br_volume.specs.declared.fault.VolumeFault.{VolumeFault}
use Rattle.br_keeper.specs.Beginnings.{Beginning}
use Rattle.br_keeper.specs.declared.vouched_lengths.Vouch.{Vouch}
use Rattle.br_keeper.specs.declared.fault.KeeperFault.{KeeperFault}
use Rattle.br_keeper.specs.declared.fault.KeeperFault.TheVariants.{Memory, DuplicateJob, DuplicateSession, BadRow, RetiredVolume, Volume as VolumeFails, Store, StoredNotPublished, BadCatalogue}
use Rattle.br_keeper.specs.Publishing.{Publishing, all_published, with_added}
use Rattle.br_keeper.specs.Writing.{IsKept, Shelf}
use Rattle.br_keeper.specs.Keeping.{Keeping, RepublishesKept, jobs_of, shelf_of}
use Rattle.br_keeper.specs.Committing.{Commits, MeetsFailedStore}
use Rattle.br_keeper.specs.Outcomes.{Backing, Lasting}
use Rattle.br_keeper.specs.Holding.{AreStanding, HoldsJob, Stands, StandsIfHeld, StandsOn, StandsWith, job_with}
use Rattle.br_keeper.specs.Channel.{AreStored, CommitsStand, StoresFirst}
use Rattle.br_keeper.proofs.ReachingLaws.{volumes_reach}
use Rattle.br_keeper.proofs.StandingLaws.{appended_stands, failed_stands, part_stands, standing_by, unsynced_stands, written_to_stands}

-- ---- a shelf that is kept

kept_stands : (old new : Shelf) (rows now : List JobRows) (jobs : List Job) → IsKept old new → now ≡ rows → IfSome old.volumes (AreStanding old.vouches rows jobs)
    → IfSome new.volumes (AreStanding new.vouches now jobs)
kept_stands old new rows now jobs kept same is =
    subst (λ (told : Option (List Volume)). IfSome told (AreStanding new.vouches now jobs)) (sym kept.volumes_are)
    (subst (λ (vs : List Vouch). IfSome old.volumes (AreStanding vs now jobs)) (sym kept.vouches_are)
    (subst (λ (rs : List JobRows). IfSome old.volumes (AreStanding old.vouches rs jobs)) (sym same) is))

-- ---- a commit

module _ {C W : Type 0} (inserts refuses : JobRows → C → C → Type 0) (shelf : Keeping C W → Shelf) (c : ToCommit) where
  abbrev on : Backing C W
  on = record { inserts = inserts; refuses = refuses; shelf = shelf }

  -- the stored jobs after a job was stored
  with_job : (old new : Keeping C W) (rows : JobRows) → new.list ≡ all_published (with_added old.list rows) → jobs_of new ≡ jobs_of old ++ rows ∷ []
  with_job old new rows e = ap (λ (p : Publishing). p.opening ++ p.added) e ∙ sym (append_assoc old.list.opening old.list.added (rows ∷ []))

  with_waiting_job : (old new : Keeping C W) (rows : JobRows) → new.list ≡ with_added (all_published old.list) rows → jobs_of new ≡ jobs_of old ++ rows ∷ []
  with_waiting_job old new rows e = ap (λ (p : Publishing). p.opening ++ p.added) e ∙ sym (append_assoc old.list.opening old.list.added (rows ∷ []))

  with_none : (old new : Keeping C W) → new.list ≡ all_published old.list → jobs_of new ≡ jobs_of old
  with_none old new e = ap (λ (p : Publishing). p.opening ++ p.added) e

  -- a refusal that changes nothing but that a job which waited is published
  refused_stands : (old new : Keeping C W) (jobs : List Job) → IsKept (shelf old) (shelf new) → new.list ≡ all_published old.list → Stands shelf jobs old → Stands shelf jobs new
  refused_stands old new jobs kept e is = kept_stands (shelf old) (shelf new) (jobs_of old) (jobs_of new) jobs kept (with_none old new e) is

  -- the same rows by an equal list
  by_rows : (k : Keeping C W) (rows : List JobRows) (jobs : List Job) → jobs_of k ≡ rows → IfSome (shelf k).volumes (AreStanding (shelf k).vouches rows jobs) → Stands shelf jobs k
  by_rows k rows jobs e is = subst (λ (rs : List JobRows). IfSome (shelf k).volumes (AreStanding (shelf k).vouches rs jobs)) (sym e) is

  -- the store of volumes failed
  store_failed : (old new : Keeping C W) (jobs : List Job) → MeetsFailedStore (jobs_of old) c (shelf old) (shelf new) → new.list ≡ all_published old.list
      → Stands shelf jobs old → Stands shelf jobs new
  store_failed old new jobs (inl m) e is = refused_stands old new jobs m.refused.kept e is
  store_failed old new jobs (inr (inl m)) e is =
      by_rows new (jobs_of old) jobs (with_none old new e) (failed_stands (jobs_of old) c (shelf old) (shelf new) jobs m is)
  store_failed old new jobs (inr (inr m)) e is =
      by_rows new (jobs_of old) jobs (with_none old new e) (unsynced_stands (jobs_of old) c (shelf old) (shelf new) jobs m is)

  pub commits_hold : (old new : Keeping C W) (r : Result Beginning KeeperFault) → Commits inserts refuses shelf c old new r → HoldsJob on c old new r
  commits_hold old new (Ok receipt) w jobs is =
      let r = written_to_stands inserts (jobs_of old) c old.catalogue new.catalogue (shelf old) (shelf new) w.0 jobs w.1 is in
      (w.0, w.2, r.0, by_rows new (jobs_of old ++ w.0 ∷ []) (jobs ++ job_with c w.0 ∷ []) (with_job old new w.0 w.2) r.2)
  commits_hold old new (Err StoredNotPublished) w jobs is =
      let r = written_to_stands inserts (jobs_of old) c old.catalogue new.catalogue (shelf old) (shelf new) w.0 jobs w.1 is in
      (w.0, w.2, r.0, by_rows new (jobs_of old ++ w.0 ∷ []) (jobs ++ job_with c w.0 ∷ []) (with_waiting_job old new w.0 w.2) r.2)
  commits_hold old new (Err Store) w jobs is =
      let r = written_to_stands refuses (jobs_of old) c old.catalogue new.catalogue (shelf old) (shelf new) w.0.0 jobs w.0.1 is in
      (w.0.0, w.0.1.catalogue, r.0, by_rows new (jobs_of old) jobs (with_none old new w.1) r.1)
  commits_hold old new (Err VolumeFails) w jobs is =
      store_failed old new jobs w.0.1 w.1 is
  commits_hold old new (Err Memory) w jobs is =
      elim w.1 [
        | inl e ↦ kept_stands (shelf old) (shelf new) (jobs_of old) (jobs_of new) jobs w.0.1 (ap (λ (p : Publishing). p.opening ++ p.added) e) is
        | inr e ↦ refused_stands old new jobs w.0.1 e is
      ]
  commits_hold old new (Err DuplicateJob) w jobs is = refused_stands old new jobs w.0.0.1 w.1 is
  commits_hold old new (Err DuplicateSession) w jobs is = refused_stands old new jobs w.0.0.1 w.1 is
  commits_hold old new (Err BadRow) w jobs is = refused_stands old new jobs w.0.0.1 w.1 is
  commits_hold old new (Err RetiredVolume) w jobs is = refused_stands old new jobs w.0.0.1 w.1 is
  commits_hold old new (Err BadCatalogue) w jobs is = absurd w.0

-- ---- the other calls

module _ {C W : Type 0} (holds : W → Option (List Volume)) (failures : W → Failures) where
  -- a new keeper, if its volumes hold the jobs that it has loaded
  pub new_stands : (k : Keeping C W) → k.vouches ≡ [] → StandsIfHeld (shelf_of holds failures) k
  new_stands k none jobs are held = go (holds k.volumes) held
    where
      go : (told : Option (List Volume)) → IfSome told (λ vs. AllByRecursion (Holds vs) jobs) → IfSome told (AreStanding k.vouches (jobs_of k) jobs)
      go None h = tt
      go (Some vs) h =
          subst (λ (es : List Vouch). AreStanding es (jobs_of k) jobs vs) (sym none)
          (standing_by [] (jobs_of k) jobs vs are h (λ name. let r = volumes_reach vs name jobs h in (r.0, λ serves same. r.1 same)))

  -- a keeper that published what waited, or not
  pub republished_stands : (old new : Keeping C W) (r : Result (Option Beginning) KeeperFault)
      → MatchResult r (RepublishesKept old new) (λ why. (why ≡ Memory) × (new ≡ old)) → StandsOn (shelf_of holds failures) old new
  republished_stands old new (Ok None) h = subst (λ (k : Keeping C W). StandsOn (shelf_of holds failures) old k) (sym h.0) (λ jobs is. is)
  republished_stands old new (Ok (Some receipt)) h = subst (λ (k : Keeping C W). StandsOn (shelf_of holds failures) old k) (sym h.0) (λ jobs is. is)
  republished_stands old new (Err why) h = subst (λ (k : Keeping C W). StandsOn (shelf_of holds failures) old k) (sym h.1) (λ jobs is. is)

  -- a keeper to whose volumes bytes were appended
  pub raw_stands : (volume bytes : List ℕ) (old new : Keeping C W) (r : Result (Unit {0}) VolumeFault)
      → OnOk r (AppendsTo volume bytes (holds old.volumes) (holds new.volumes)) → OnErr r (AppendsInPartTo volume bytes (holds old.volumes) (holds new.volumes))
      → new ≡ record old { volumes = new.volumes } → StandsOn (shelf_of holds failures) old new
  raw_stands volume bytes old new r appended refused e jobs is =
      subst (λ (vs : List Vouch). IfSome (holds new.volumes) (AreStanding vs (jobs_of new) jobs)) (sym (ap (λ (k : Keeping C W). k.vouches) e))
      (subst (λ (rs : List JobRows). IfSome (holds new.volumes) (AreStanding old.vouches rs jobs)) (sym (ap jobs_of e)) (go r appended refused))
    where
      go : (s : Result (Unit {0}) VolumeFault) → OnOk s (AppendsTo volume bytes (holds old.volumes) (holds new.volumes))
          → OnErr s (AppendsInPartTo volume bytes (holds old.volumes) (holds new.volumes)) → IfSome (holds new.volumes) (AreStanding old.vouches (jobs_of old) jobs)
      go (Ok u) appended refused = appended_stands old.vouches (jobs_of old) jobs volume bytes (holds old.volumes) (holds new.volumes) appended is
      go (Err why) appended refused = part_stands old.vouches (jobs_of old) jobs volume bytes (holds old.volumes) (holds new.volumes) refused is

-- ---- commits

module _ {C W : Type 0} (on : Lasting C W) where
  abbrev b : Backing C W
  b = on.backing

  pub commits_stand_lem : CommitsStand on
  commits_stand_lem [] old new jobs are is =
      ([], refl, subst (λ (k : Keeping C W). Stands b.shelf (jobs ++ []) k) (sym are) (subst (λ (js : List Job). Stands b.shelf js old) (sym (append-nil jobs)) is))
  commits_stand_lem (step ∷ steps) old new jobs are is =
      go step.result (are.0.1 jobs is) (λ js stands. commits_stand_lem steps step.after new js are.1 stands)
    where
      go : (r : Result Beginning KeeperFault) → StandsWith b step.job jobs old step.after r
          → ((js : List Job) → Stands b.shelf js step.after → (more : List Job) × AreStored steps more × Stands b.shelf (js ++ more) new)
          → (more : List Job) × StoresFirst step.job r (AreStored steps) more × Stands b.shelf (jobs ++ more) new
      go (Ok receipt) stands rest =
          let job = job_with step.job stands.0 in
          let r = rest (jobs ++ job ∷ []) stands.3 in
          (job ∷ r.0, (stands.0, r.0, refl, r.1), subst (λ (js : List Job). Stands b.shelf js new) (append_assoc jobs (job ∷ []) r.0) r.2)
      go (Err StoredNotPublished) stands rest =
          let job = job_with step.job stands.0 in
          let r = rest (jobs ++ job ∷ []) stands.3 in
          (job ∷ r.0, (stands.0, r.0, refl, r.1), subst (λ (js : List Job). Stands b.shelf js new) (append_assoc jobs (job ∷ []) r.0) r.2)
      go (Err Store) stands rest = rest jobs stands.3
      go (Err Memory) stands rest = rest jobs stands
      go (Err DuplicateJob) stands rest = rest jobs stands
      go (Err DuplicateSession) stands rest = rest jobs stands
      go (Err BadRow) stands rest = rest jobs stands
      go (Err RetiredVolume) stands rest = rest jobs stands
      go (Err VolumeFails) stands rest = rest jobs stands
      go (Err BadCatalogue) stands rest = rest jobs stands
