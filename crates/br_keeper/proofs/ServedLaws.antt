-- What one request leaves, and what its reply says.
use Rattle.std.proofs.Common.{◌≡◌, List, [], ◌∷◌, ◌++◌, Result, Ok, Err, refl, sym, ap, ◌∙◌, append_assoc, append-nil, inl, inr, Some}
use Rattle.logbook.specs.Pages.{Book}
use Rattle.br_model.specs.Job.{JobRow, JobRows}
use Rattle.br_history.specs.Saving.{ToCommit}
use Rattle.br_keeper.specs.Beginnings.{Beginning, last_id}
use Rattle.br_keeper.specs.Publishing.{Publishing, all_published}
use Rattle.br_keeper.proofs.BeginningLaws.{last_of_added}
use Rattle.br_keeper.specs.declared.fault.KeeperFault.{KeeperFault}
use Rattle.br_keeper.specs.declared.fault.KeeperFault.TheVariants.{Memory, DuplicateJob, DuplicateSession, BadRow, RetiredVolume, Volume, Store, StoredNotPublished, BadCatalogue}
use Rattle.br_keeper.specs.Writing.{Shelf}
use Rattle.br_keeper.specs.Keeping.{Keeping}
use Rattle.br_keeper.specs.Committing.{Commits}
use Rattle.br_keeper.specs.Outcomes.{Lasting}
use Rattle.br_keeper.specs.Channel.{HasServed, IsReply, Step, IsCommit, AreCommits, IsLeftByCommits}
use Rattle.br_history.proofs.PreparingLaws.{row_stays}

pub served_none : (a : Publishing) → HasServed a a
served_none a = (refl, refl, ([], sym (append-nil a.added)))

pub served_on : (a b c : Publishing) → HasServed a b → HasServed b c → HasServed a c
served_on a b c h k = (k.0 ∙ h.0, k.1 ∙ h.1, (h.2.0 ++ k.2.0, k.2.1 ∙ ap (λ l. l ++ k.2.0) h.2.1 ∙ append_assoc a.added h.2.0 k.2.0))

-- the list stays, or all of it is published
stays : (a : Publishing) (b : Publishing) → b ≡ all_published a → HasServed a b
stays a b e = rw e (refl, refl, ([], sym (append-nil a.added)))

module _ {C W : Type 0} (inserts refuses : JobRows → C → C → Type 0) (shelf : Keeping C W → Shelf) (c : ToCommit) where
  -- a reply to a request is of the list and of the job
  pub replies : (book : Book) (old new : Keeping C W) (r : Result Beginning KeeperFault) → old.list.book ≡ book → Commits inserts refuses shelf c old new r
      → IsReply book c.row.id r
  replies book old new (Ok receipt) e h = (
    ap (λ (b : Beginning). b.book) h.3 ∙ e,
    ap (λ (b : Beginning). last_id b.log) h.3 ∙ last_of_added old.list.added h.0
        ∙ ap (λ (r : JobRows). Some r.row.id) h.1.ready.session.rows_are ∙ ap (λ (row : JobRow). Some row.id) (row_stays c h.1.written.spans),
  )
  replies book old new (Err why) e h = (refl, refl)

  -- a commit adds its job, or none
  pub served : (old new : Keeping C W) (r : Result Beginning KeeperFault) → Commits inserts refuses shelf c old new r → HasServed old.list new.list
  served old new (Ok receipt) is = rw is.2 (refl, refl, (is.0 ∷ [], refl))
  served old new (Err StoredNotPublished) is = rw is.2 (refl, refl, (is.0 ∷ [], refl))
  served old new (Err Memory) (untouched, inl e) = rw e (served_none old.list)
  served old new (Err Memory) (untouched, inr e) = stays old.list new.list e
  served old new (Err DuplicateJob) is = stays old.list new.list is.1
  served old new (Err DuplicateSession) is = stays old.list new.list is.1
  served old new (Err BadRow) is = stays old.list new.list is.1
  served old new (Err RetiredVolume) is = stays old.list new.list is.1
  served old new (Err Volume) is = stays old.list new.list is.1
  served old new (Err Store) is = stays old.list new.list is.1
  served old new (Err BadCatalogue) is = stays old.list new.list is.1

module _ {C W : Type 0} (on : Lasting C W) where
  -- one more commit after the others
  pub one_more : (steps : List (Step C W)) (a b : Keeping C W) (step : Step C W) → AreCommits on steps a b
      → IsCommit on step.job b step.after step.result → AreCommits on (steps ++ step ∷ []) a step.after
  one_more [] a b step h is = rw (sym h) (is, refl)
  one_more (s ∷ steps) a b step h is = (h.0, one_more steps s.after b step h.1 is)

  pub goes_on : (a old new : Keeping C W) (c : ToCommit) (r : Result Beginning KeeperFault) → IsLeftByCommits on a old
      → IsCommit on c old new r → IsLeftByCommits on a new
  goes_on a old new c r h is =
      let step : Step C W = record { job = c; result = r; after = new } in (h.0 ++ step ∷ [], one_more h.0 a old step h.1 is)

  -- commits add jobs
  pub all_served : (steps : List (Step C W)) (a b : Keeping C W) → AreCommits on steps a b → HasServed a.list b.list
  all_served [] a b h = rw h (served_none a.list)
  all_served (s ∷ steps) a b h =
      served_on a.list s.after.list b.list (served on.backing.inserts on.backing.refuses on.backing.shelf s.job a s.after s.result h.0.0) (all_served steps s.after b h.1)
