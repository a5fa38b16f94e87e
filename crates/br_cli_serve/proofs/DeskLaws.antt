-- What a keeper does leaves its list the one that its session reads.
use Rattle.std.proofs.Common.{◌≡◌, ◌∙◌, ap, subst, sym, ℕ, inl, inr, List, [], ◌∷◌, Option, Some, None, Result, Ok, Err}
use Rattle.std.specs.Prelude.{IfErr, IfOk, MatchOption}
use Rattle.std.specs.List.{AllByRecursion}
use Rattle.br_model.specs.Volume.{Volume}
use Rattle.br_model.specs.Job.{JobRows}
use Rattle.br_volume.specs.Store.{Failures}
use Rattle.br_history.specs.Saving.{ToCommit}
use Rattle.br_keeper.specs.Beginnings.{Beginning}
use Rattle.br_keeper.specs.Publishing.{Publishing}
use Rattle.br_keeper.specs.Sessions.{Known, Extends}
use Rattle.br_keeper.proofs.BeginningLaws.{prefix_trans}
use Rattle.br_keeper.specs.declared.fault.KeeperFault.{KeeperFault}
use Rattle.br_keeper.specs.declared.fault.KeeperFault.TheVariants.{Memory, DuplicateJob, DuplicateSession, BadRow, RetiredVolume, Volume as VolumeFails, Store, StoredNotPublished, BadCatalogue}
use Rattle.br_keeper.specs.Committing.{Commits}
use Rattle.br_keeper.specs.Outcomes.{AppendsFrontAndRetires, Backing, IsEarly, OnlyAppends, Refuses, StoresAndPublishes, StoresUnpublished}
use Rattle.br_keeper.proofs.OutcomeLaws.{commits_of}
use Rattle.br_keeper.specs.Keeping.{Keeping, shelf_of}
use Rattle.br_keeper.specs.Writing.{Shelf}
use Rattle.br_cli_serve.specs.ScriptKeeper.{CommitsAt, EndsJob, HasLearned, IsOwn, SeesMore}
use Rattle.br_cli_serve.specs.ScriptDeeds.{AppendsRaw, Deed, DoesFew, Does, KnowsDeed}
use Rattle.br_cli_serve.specs.ScriptDeeds.Deed.{Commit, Append}

-- what a session has learned it still knows later
learned_on : (receipt : Beginning) (before after : Option Known) → MatchOption before ⊥ (λ s. MatchOption after ⊥ (λ t. Extends s t))
    → HasLearned receipt before → HasLearned receipt after
learned_on receipt None after more known = absurd more
learned_on receipt (Some s) None more known = absurd more
learned_on receipt (Some s) (Some t) more known = prefix_trans receipt.log s.list t.list known more.1

knows_on : (before after : Option Known) → SeesMore before after → (deed : Deed) → KnowsDeed before deed → KnowsDeed after deed
knows_on before after sees (Commit c (Ok receipt)) known = elim sees [
  | inl same ↦ rw same known
  | inr more ↦ learned_on receipt before after more known
]
knows_on before after sees (Commit c (Err why)) known = tt
knows_on before after sees (Append volume bytes) known = tt

all_on : (before after : Option Known) → SeesMore before after → (deeds : List Deed) → AllByRecursion (KnowsDeed before) deeds
    → AllByRecursion (KnowsDeed after) deeds
all_on before after sees [] known = tt
all_on before after sees (deed ∷ deeds) known = (knows_on before after sees deed known.0, all_on before after sees deeds known.1)

module _ {C W : Type 0} (inserts refuses : JobRows → C → C → Type 0) where
  -- a commit leaves which list it is
  pub commit_keeps_book : (shelf : Keeping C W → Shelf) (c : ToCommit) (old new : Keeping C W) (r : Result Beginning KeeperFault)
      → Commits inserts refuses shelf c old new r → new.list.book ≡ old.list.book
  commit_keeps_book shelf c old new (Ok receipt) h = ap (λ (p : Publishing). p.book) h.2
  commit_keeps_book shelf c old new (Err Memory) h = elim h.1 [
    | inl e ↦ ap (λ (p : Publishing). p.book) e
    | inr e ↦ ap (λ (p : Publishing). p.book) e
  ]
  commit_keeps_book shelf c old new (Err DuplicateJob) h = ap (λ (p : Publishing). p.book) h.1
  commit_keeps_book shelf c old new (Err DuplicateSession) h = ap (λ (p : Publishing). p.book) h.1
  commit_keeps_book shelf c old new (Err BadRow) h = ap (λ (p : Publishing). p.book) h.1
  commit_keeps_book shelf c old new (Err RetiredVolume) h = ap (λ (p : Publishing). p.book) h.1
  commit_keeps_book shelf c old new (Err VolumeFails) h = ap (λ (p : Publishing). p.book) h.1
  commit_keeps_book shelf c old new (Err Store) h = ap (λ (p : Publishing). p.book) h.1
  commit_keeps_book shelf c old new (Err StoredNotPublished) h = ap (λ (p : Publishing). p.book) h.2
  commit_keeps_book shelf c old new (Err BadCatalogue) h = ap (λ (p : Publishing). p.book) h.1

  -- after a commit the session, if it stays, reads the list of the keeper
  own_if_committed : (shelf : Keeping C W → Shelf) (c : ToCommit) (old new : Keeping C W) (r : Result Beginning KeeperFault) (session : Option Known)
      → IsOwn session old → Commits inserts refuses shelf c old new r → IsOwn session new
  own_if_committed shelf c old new r None own h = own
  own_if_committed shelf c old new r (Some s) own h = own ∙ sym (commit_keeps_book shelf c old new r h)

  module _ (shelf : Keeping C W → Shelf) where
    abbrev pub backed : Backing C W
    backed = record { inserts = inserts; refuses = refuses; shelf = shelf }

    pub own_after : (c : ToCommit) (old new : Keeping C W) (r : Result Beginning KeeperFault) (session : Option Known)
        → IsOwn session old → IfOk r (StoresAndPublishes backed c old new) → (r ≡ Err StoredNotPublished → StoresUnpublished backed c old new)
        → (r ≡ Err Store → OnlyAppends backed c old new) → (r ≡ Err VolumeFails → AppendsFrontAndRetires backed c old new)
        → IfErr r (λ why. IsEarly why → Refuses backed c old new why) → IsOwn session new
    own_after c old new r session own stored waits blocks torn refused =
        own_if_committed shelf c old new r session own (commits_of inserts refuses shelf c old new r stored waits blocks torn refused)

  -- what becomes of a job that ends is the same whatever error there could be, if there is none
  pub ends_clean : (E F : Type 0) (shelf : Keeping C W → Shelf) (place : ℕ) (old new : Keeping C W) (session : Option Known) (before after : Option (List ℕ))
      (u v : Unit {0}) (e : Result (Option ToCommit) ℕ) → EndsJob {E = E} inserts refuses shelf place old new session before after (Ok u) e
      → EndsJob {E = F} inserts refuses shelf place old new session before after (Ok v) e
  ends_clean E F shelf place old new session before after u v (Ok None) h = h
  ends_clean E F shelf place old new session before after u v (Ok (Some c)) h = h
  ends_clean E F shelf place old new session before after u v (Err n) h = h

  module _ (holds : W → Option (List Volume)) (failures : W → Failures) where
    -- a commit is one deed
    pub committed_few : (c : ToCommit) (old new : Keeping C W) (session : Option Known) (r : Result ℕ KeeperFault)
        → CommitsAt inserts refuses (shelf_of holds failures) c old new session r → DoesFew inserts refuses holds failures session old new
    committed_few c old new session (Ok id) h = inr (Commit c (Ok h.0), h.1, h.3)
    committed_few c old new session (Err why) h = inr (Commit c (Err why), h, tt)

    -- the end of a job is at most one deed
    pub ended_few : {E : Type 0} (place : ℕ) (old new : Keeping C W) (session : Option Known) (before after : Option (List ℕ))
        (result : Result (Unit {0}) E) (e : Result (Option ToCommit) ℕ)
        → EndsJob inserts refuses (shelf_of holds failures) place old new session before after result e → DoesFew inserts refuses holds failures session old new
    ended_few place old new session before after result (Ok None) h = inl h.0
    ended_few place old new session before after result (Ok (Some c)) h = committed_few c old new session h.0 h.1
    ended_few place old new session before after result (Err n) h = inl h.0

    -- bytes that are appended are one deed
    pub appended_few : (volume bytes : List ℕ) (session : Option Known) (old new : Keeping C W)
        → AppendsRaw holds volume bytes old new → DoesFew inserts refuses holds failures session old new
    appended_few volume bytes session old new h = inr (Append volume bytes, h, tt)

    -- one line more does at most one deed more
    pub does_more : (old middle new : Keeping C W) (before after : Option Known)
        → Does inserts refuses holds failures before old middle → SeesMore before after → DoesFew inserts refuses holds failures after middle new
        → Does inserts refuses holds failures after old new
    does_more old middle new before after so_far sees few = elim few [
      | inl same ↦ rw same (so_far.0, so_far.1, all_on before after sees so_far.0 so_far.2)
      | inr one ↦ (one.0 ∷ so_far.0, (middle, so_far.1, one.1), (one.2, all_on before after sees so_far.0 so_far.2))
    ]

-- a commit that was refused is the same for a keeper that stayed
pub refused_stays : {C W : Type 0} (inserts refuses : JobRows → C → C → Type 0) (shelf : Keeping C W → Shelf) (c : ToCommit) (old new later : Keeping C W) (why : KeeperFault)
    → later ≡ new → Commits inserts refuses shelf c old new (Err why) → Commits inserts refuses shelf c old later (Err why)
refused_stays inserts refuses shelf c old new later why is commits = subst (λ k. Commits inserts refuses shelf c old k (Err why)) (sym is) commits
