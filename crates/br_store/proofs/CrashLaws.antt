-- What a crash leaves after a commit, and what an opening finds of it.
use Rattle.std.proofs.Common.{◌≡◌, inl, inr, IsTrue, List, [], ◌∷◌, ◌++◌, Option, Some, Result, Ok, Err, sym, ap, subst, ◌∙◌, arith}
use Rattle.std.specs.Prelude.{IfSome}
use Rattle.std.specs.List.{AllByRecursion}
use Rattle.sqlite.specs.Effect.{Database, IsDatabase}
use Rattle.sqlite.specs.Held.{Held, state}
use Rattle.sqlite.specs.State.{HasCleanDisk}
use Rattle.sqlite.specs.Tree.{Trees}
use Rattle.sqlite_trees.specs.declared.store.Store.{Ghosts}
use Rattle.br_model.specs.Job.{JobRows, Job}
use Rattle.br_model.specs.Stored.{Holds}
use Rattle.br_model.specs.Volume.{Volume}
use Rattle.br_history.specs.Saving.{ToCommit}
use Rattle.br_volume.specs.Store.{MayBeLeft}
use Rattle.br_volume.specs.declared.volume_store.VolumeStore as volumes
use Rattle.br_keeper.specs.Beginnings.{Beginning}
use Rattle.br_keeper.specs.declared.fault.KeeperFault.{KeeperFault}
use Rattle.br_keeper.specs.declared.fault.KeeperFault.TheVariants.{Memory, DuplicateJob, DuplicateSession, BadRow, RetiredVolume, Volume as VolumeFails, Store, StoredNotPublished, BadCatalogue}
use Rattle.br_keeper.specs.Committing.{Commits}
use Rattle.br_keeper.specs.Keeping.{Keeping}
use Rattle.br_keeper.specs.Writing.{Shelf}
use Rattle.br_keeper.specs.Outcomes.{Lasting}
use Rattle.br_keeper.specs.Holding.{AreHeld, Outlast, job_with}
use Rattle.br_keeper.proofs.OutlastingLaws.{crashes_leave_jobs_lem, front_all}
use Rattle.br_catalog_rows.specs.Inserted.{Adds}
use Rattle.br_catalog_rows.specs.Rows.{Rows}
use Rattle.br_catalog_tables.specs.Tables.{no_schema}
use Rattle.br_store.specs.Calls.{IsCommitted, MayCommit}
use Rattle.br_store.specs.Held.{HasTables, IsCatalogue, layout_in, rows_in, rows_of}
use Rattle.br_store.specs.Kept.{Inserts, Refuses}
use Rattle.br_store.specs.Made.{Finds}
use Rattle.br_store.specs.Crash.{AreAsBefore, CrashesLeaveFoundJobs, HaveJob, IsFoundBy, IsLeft, Outlives, RefusalsAreWhole, stored_on}
use Rattle.br_store.proofs.Opens.{not_both}

pub commit_outlives : {S W : Type 0} (g : Ghosts S) (shelf : Keeping (Held S) W → Shelf) (job : ToCommit) (old new : Keeping (Held S) W) (r : Result Beginning KeeperFault)
    → Commits (Inserts g) (Refuses g) shelf job old new r → Outlives g old new r
commit_outlives g shelf job old new (Ok receipt) is = (is.0, is.2, is.1.catalogue)
commit_outlives g shelf job old new (Err StoredNotPublished) is = (is.0, is.2, is.1.catalogue)
commit_outlives g shelf job old new (Err Store) is = (is.0.0, is.0.1.catalogue)
commit_outlives g shelf job old new (Err Memory) is = is.0.0
commit_outlives g shelf job old new (Err DuplicateJob) is = is.0.0.0
commit_outlives g shelf job old new (Err DuplicateSession) is = is.0.0.0
commit_outlives g shelf job old new (Err BadRow) is = is.0.0.0
commit_outlives g shelf job old new (Err RetiredVolume) is = is.0.0.0
commit_outlives g shelf job old new (Err VolumeFails) is = is.0.0
commit_outlives g shelf job old new (Err BadCatalogue) is = absurd is.0

-- an opening keeps the trees of a catalogue
kept_trees : (db left found : Database) → HasTables db → left.trees ≡ db.trees → Finds left found → found.trees ≡ left.trees
kept_trees db left found tables same (inl kept) = kept
kept_trees db left found tables same (inr made) =
    absurd (not_both db.schema db.trees (layout_in db.trees, tables.own, tables.schema)
    (subst (λ (t : Trees). IsDatabase (record { schema = no_schema; trees = t })) same made.0) tables.sound)

pub refusals_are_whole : {S : Type 0} (g : Ghosts S) → ((s : S) (db : Trees) → IsTrue (g.view s).is_open → g.recovers s db → db ≡ (g.view s).committed) → RefusalsAreWhole g
refusals_are_whole g settled job old new is now refused left found clean may finds =
    let clean_old : HasCleanDisk (state g old) = omega (arith, clean, refused.crash.clean) in
    elim (refused.crash.crash clean left.trees may) [
      | inl before ↦
          let same : left.trees ≡ (state g old).now.trees = settled old.store left.trees now.0 before ∙ ap (λ (db : Database). db.trees) (sym now.1) in
          inl (ap rows_in (kept_trees (state g old).now left found (is.tables clean_old now.0) same finds ∙ same))
      | inr added ↦
          inr (subst (λ (t : Trees). Adds job (rows_of g old) (rows_in t)) (sym (kept_trees added.0 left found added.1 added.3 finds ∙ added.3)) added.2)
    ]

-- ---- the database and the volumes

-- what a crash leaves of told volumes holds the jobs that are durable
left_held : (told durable : Option (List Volume)) (volumes d left : List Volume) (jobs : List Job) → told ≡ Some volumes → durable ≡ Some d → MayBeLeft volumes d left
    → IfSome told (λ _. AreHeld durable jobs) → AllByRecursion (Holds left) jobs
left_held told durable volumes d left jobs told_is durable_is may held =
    let all : AreHeld durable jobs = subst (λ (o : Option (List Volume)). IfSome o (λ _. AreHeld durable jobs)) told_is held in
    crashes_leave_jobs_lem volumes d left jobs (subst (λ (o : Option (List Volume)). AreHeld o jobs) durable_is all) may

module _ {S W : Type 0} (g : Ghosts S) (store : volumes.Ghosts W) (settled : (s : S) (db : Trees) → IsTrue (g.view s).is_open → g.recovers s db → db ≡ (g.view s).committed) where
  abbrev on : Lasting (Held S) W
  on = stored_on g store

  -- an opening keeps what a crash leaves after a call
  found_left : (job : JobRows) (old new : Held S) → IsCatalogue g old → IsCommitted (state g old) → MayCommit g old new job → (left found : Database)
      → HasCleanDisk (state g new) → (state g new).may_leave left.trees → Finds left found → found.trees ≡ left.trees
  found_left job old new is now crash left found clean may finds =
      let clean_old : HasCleanDisk (state g old) = omega (arith, clean, crash.clean) in
      elim (crash.crash clean left.trees may) [
        | inl before ↦
            let same : left.trees ≡ (state g old).now.trees = settled old.store left.trees now.0 before ∙ ap (λ (db : Database). db.trees) (sym now.1) in
            kept_trees (state g old).now left found (is.tables clean_old now.0) same finds
        | inr added ↦ kept_trees added.0 left found added.1 added.3 finds
      ]

  -- the rows that are found after a job was inserted
  inserted_found : (job : JobRows) (old new : Held S) → IsCatalogue g old → IsCommitted (state g old) → Inserts g job old new → (left found : Database)
      → HasCleanDisk (state g new) → (state g new).may_leave left.trees → Finds left found → Adds job (rows_of g old) (rows_in found.trees)
  inserted_found job old new is now inserts left found clean may finds =
      subst (λ (rows : Rows). Adds job (rows_of g old) rows)
      (sym (ap rows_in (found_left job old new is now inserts.crash left found clean may finds) ∙ inserts.durable clean left.trees may)) (inserts.added clean)

  -- those of a catalogue that is as it was
  same_found : (old new : Held S) → IsCatalogue g old → IsCommitted (state g old) → new ≡ old → (left found : Database)
      → HasCleanDisk (state g new) → (state g new).may_leave left.trees → Finds left found → rows_in found.trees ≡ rows_of g old
  same_found old new is now same left found clean may finds =
      let clean_old : HasCleanDisk (state g old) = subst (λ (h : Held S). HasCleanDisk (state g h)) same clean in
      let before : (state g old).may_leave left.trees = subst (λ (h : Held S). (state g h).may_leave left.trees) same may in
      let trees : left.trees ≡ (state g old).now.trees = settled old.store left.trees now.0 before ∙ ap (λ (db : Database). db.trees) (sym now.1) in
      ap rows_in (kept_trees (state g old).now left found (is.tables clean_old now.0) trees finds ∙ trees)

  module _ (c : ToCommit) (old new : Keeping (Held S) W) (jobs : List Job) (found : Database) (left : List Volume) (cat : IsCatalogue g old.catalogue) (now : IsCommitted (state g old.catalogue)) (crash : IsLeft g on new found left) where
    abbrev held_if : (js : List Job) → Outlast on js new → AllByRecursion (Holds left) js
    held_if js = left_held (on.backing.shelf new).volumes (on.durable new.volumes) crash.told crash.durable left js crash.are_told crash.are_durable crash.may_be_left

    stored_found : (rows : JobRows) → Inserts g rows old.catalogue new.catalogue → Outlast on (jobs ++ job_with c rows ∷ []) new
        → HaveJob (rows_of g old.catalogue) (rows_in found.trees) jobs c left
    stored_found rows inserts outlast = (
      rows,
      inserted_found rows old.catalogue new.catalogue cat now inserts crash.database found crash.clean crash.may_be crash.finds,
      held_if (jobs ++ job_with c rows ∷ []) outlast,
    )

    refused_found : (rows : JobRows) → Refuses g rows old.catalogue new.catalogue → Outlast on (jobs ++ job_with c rows ∷ []) new
        → IsFoundBy (Err Store) (AreAsBefore (rows_of g old.catalogue) (rows_in found.trees) jobs left) (HaveJob (rows_of g old.catalogue) (rows_in found.trees) jobs c left)
    refused_found rows refuses outlast =
        let all = held_if (jobs ++ job_with c rows ∷ []) outlast in
        elim (refusals_are_whole g settled rows old.catalogue new.catalogue cat now refuses crash.database found crash.clean crash.may_be crash.finds) [
          | inl same ↦ inl (same, front_all (Holds left) jobs (job_with c rows ∷ []) all)
          | inr added ↦ inr (rows, added, all)
        ]

    before_found : new.catalogue ≡ old.catalogue → Outlast on jobs new → AreAsBefore (rows_of g old.catalogue) (rows_in found.trees) jobs left
    before_found same outlast = (
      same_found old.catalogue new.catalogue cat now same crash.database found crash.clean crash.may_be crash.finds,
      held_if jobs outlast,
    )

  pub crashes_leave_found_jobs_lem : CrashesLeaveFoundJobs g on
  crashes_leave_found_jobs_lem c old new (Ok receipt) jobs found left is stands outlast cat now crash =
      let o = is.2 jobs stands outlast in stored_found c old new jobs found left cat now crash o.0 o.2 o.3
  crashes_leave_found_jobs_lem c old new (Err StoredNotPublished) jobs found left is stands outlast cat now crash =
      let o = is.2 jobs stands outlast in stored_found c old new jobs found left cat now crash o.0 o.2 o.3
  crashes_leave_found_jobs_lem c old new (Err Store) jobs found left is stands outlast cat now crash =
      let o = is.2 jobs stands outlast in refused_found c old new jobs found left cat now crash o.0 o.1 o.2
  crashes_leave_found_jobs_lem c old new (Err Memory) jobs found left is stands outlast cat now crash =
      before_found c old new jobs found left cat now crash is.0.0.0 (is.2 jobs stands outlast)
  crashes_leave_found_jobs_lem c old new (Err DuplicateJob) jobs found left is stands outlast cat now crash =
      before_found c old new jobs found left cat now crash is.0.0.0.0 (is.2 jobs stands outlast)
  crashes_leave_found_jobs_lem c old new (Err DuplicateSession) jobs found left is stands outlast cat now crash =
      before_found c old new jobs found left cat now crash is.0.0.0.0 (is.2 jobs stands outlast)
  crashes_leave_found_jobs_lem c old new (Err BadRow) jobs found left is stands outlast cat now crash =
      before_found c old new jobs found left cat now crash is.0.0.0.0 (is.2 jobs stands outlast)
  crashes_leave_found_jobs_lem c old new (Err RetiredVolume) jobs found left is stands outlast cat now crash =
      before_found c old new jobs found left cat now crash is.0.0.0.0 (is.2 jobs stands outlast)
  crashes_leave_found_jobs_lem c old new (Err VolumeFails) jobs found left is stands outlast cat now crash =
      before_found c old new jobs found left cat now crash is.0.0.0 (is.2 jobs stands outlast)
  crashes_leave_found_jobs_lem c old new (Err BadCatalogue) jobs found left is stands outlast cat now crash = absurd is.0.0
