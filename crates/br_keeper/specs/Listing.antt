-- A list of stored jobs, the last of which may wait for its publishing.
use Rattle.std.specs.Prelude.{◌≡◌, ◌⊎◌, List, [], ◌∷◌, ◌++◌, Option, MatchOption}
use mathlib.Core.List.{IsPrefix}
use Rattle.br_model.specs.Job.{JobRows}
use Rattle.br_keeper.specs.Beginnings.{Beginning, beginning}
use Rattle.br_keeper.specs.Publishing.{Publishing, all_published, publishing, with_added}
use Rattle.br_keeper.specs.declared.stored_jobs.Waiting.{Waiting}
use Rattle.br_keeper.specs.declared.stored_jobs.Waiting.TheVariants.{Nothing, Stored, Taken}

-- the jobs, and the one that the publisher has not taken
abbrev pub and_waiting : Waiting → List JobRows → List JobRows
and_waiting Nothing jobs = jobs
and_waiting (Stored rows) jobs = jobs ++ rows ∷ []
and_waiting Taken jobs = jobs

-- the publisher's list, and the job that it has not taken
abbrev pub with_waiting : Publishing → Waiting → Publishing
with_waiting p waiting = publishing p.book p.opening p.published (and_waiting waiting p.added)

-- a job that the publisher has taken waits exactly if not all jobs of the publisher are published,
-- and then it is the only one
abbrev pub IsListing : Publishing → Waiting → Type 0
IsListing p Nothing = p.published ≡ p.added
IsListing p (Stored rows) = p.published ≡ p.added
IsListing p Taken = (p.published ≡ p.added → ⊥) × (p.added ≡ [] → ⊥) × ((rows : JobRows) × (p.added ≡ p.published ++ rows ∷ []))

-- all jobs of the publisher are published, or nothing is changed
abbrev pub PublishesAdded : Publishing → Publishing → Waiting → Type 0
PublishesAdded old new Nothing = new ≡ all_published old
PublishesAdded old new (Stored rows) = ⊥
PublishesAdded old new Taken = new ≡ old

-- all stored jobs are published, or the same jobs are stored and published as before
abbrev pub PublishesAll : Publishing → Waiting → Publishing → Waiting → Type 0
PublishesAll old waiting new Nothing = new ≡ all_published (with_waiting old waiting)
PublishesAll old waiting new (Stored rows) = (with_waiting new (Stored rows) ≡ with_waiting old waiting) × IsListing new (Stored rows)
PublishesAll old waiting new Taken = (with_waiting new Taken ≡ with_waiting old waiting) × IsListing new Taken

-- A session knows no more jobs than are published, if none waits. While one waits, it knows no more
-- than these and that one.
abbrev pub KnowsStored : List JobRows → Publishing → Type 0
KnowsStored list p =
    ((p.published ≡ p.added) × IsPrefix list p.published)
    ⊎ ((rows : JobRows) × (p.added ≡ p.published ++ rows ∷ []) × IsPrefix list (p.published ++ rows ∷ []))

-- one more job is published with the others, and this is its receipt
abbrev pub Announces : Publishing → JobRows → Publishing → Beginning → Type 0
Announces old rows new r = (new ≡ all_published (with_added old rows)) × (r ≡ beginning old.book (old.added ++ rows ∷ []))

-- a job waits: not all that were added are published
abbrev pub Waits : Publishing → Type 0
Waits p = p.published ≡ p.added → ⊥

-- a job waited and is published, and this is its receipt; or none waited
abbrev pub Republishes : Publishing → Publishing → Option Beginning → Type 0
Republishes old new receipt =
    MatchOption receipt ((new ≡ old) × (old.published ≡ old.added))
    (λ r. (new ≡ all_published old) × (r ≡ beginning old.book old.added) × Waits old)
