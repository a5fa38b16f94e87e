-- A job of which some lines have been read.
use Rattle.std.specs.Prelude.{◌≡◌, ℕ, ◌≤◌, ◌||◌, ◌==◌, if◌then◌else◌, Bool, true, false, List, [], ◌∷◌, ◌++◌, bytes_eq, codes, Option, Some, None, Result, Ok, Err, MatchResult}
use Rattle.std.specs.List.{AllByRecursion}
use Rattle.br_block.specs.Building.{IsBlockLimit}
use Rattle.br_model.specs.Answer.{◌>>=◌, IsRefusal}
use Rattle.br_model.specs.Job.{JobRow}
use Rattle.br_model.specs.Session.{ToSave, Place}
use Rattle.br_model.specs.Text.{is_empty}
use Rattle.br_session.specs.Outcome.{ArePlaces}
use Rattle.br_history.specs.Saving.{ToCommit, checked_job}
use Rattle.br_types.specs.DecimalSpelling.{fields_of}
use Rattle.br_history.specs.JobLineFault.{cause}
use Rattle.br_history.specs.JobHead.{Begun}
use Rattle.br_history.specs.JobLine.{LineAsked, line_said}
use Rattle.br_history.specs.JobLine.LineAsked.{Save, Delete, Give, End}
use Rattle.br_history.specs.declared.draft.Taken.{Taken}
use Rattle.br_history.specs.declared.draft.Taken.TheVariants as taken
use Rattle.br_history.specs.declared.job_line_fault.JobLineFault.{JobLineFault}

-- A job whose lines are being read. It is closed once its last place takes all remaining blocks,
-- and given up once one of its lines is refused.
pub record Drafting : Type 0 where
  pub row : JobRow
  pub limit : ℕ
  pub files : List ToSave
  pub deleted : List (List ℕ)
  pub places : List Place
  pub closed : Bool
  pub given_up : Bool

-- the place takes a block
abbrev pub TakesBlock : Place → Type 0
TakesBlock p = 1 ≤ p.blocks

-- an invariant of each draft: the places are in order, and before it is closed each takes a block
pub record IsDraft (limit : ℕ) (places : List Place) (closed : Bool) : Type 0 where
  pub bounds : IsBlockLimit limit
  pub places_are : ArePlaces places
  pub not_last : closed ≡ false → AllByRecursion TakesBlock places
  pub some_last : closed ≡ true → places ≡ [] → ⊥

-- a job whose first line has been read
abbrev pub begins : Begun → Drafting
begins h = record { row = h.row; limit = h.limit; files = []; deleted = []; places = []; closed = false; given_up = false }

abbrev pub with_place : Drafting → Place → Drafting
with_place d p = record d { places = d.places ++ p ∷ []; closed = p.blocks == 0 }

-- the job after what a line asks for; no place follows one that takes all remaining blocks
abbrev pub drafted : LineAsked → Drafting → Result Drafting ℕ
drafted (Save file) d = Ok (record d { files = d.files ++ file ∷ [] })
drafted (Delete path) d = Ok (record d { deleted = d.deleted ++ path ∷ [] })
drafted (Give place) d = if d.closed then Err 90 else Ok (with_place d place)
drafted End d = Ok d

-- the job has what is asked for, or it is unchanged and this is the refusal
abbrev pub Drafts : LineAsked → Drafting → Drafting → Result (Unit {0}) JobLineFault → Type 0
Drafts asked old new result =
    MatchResult result (λ _. drafted asked old ≡ Ok new) (λ why. (new ≡ old) × IsRefusal (cause why) (drafted asked old))

-- the job after a line
abbrev pub drafted_by : List ℕ → Drafting → Result Drafting ℕ
drafted_by line d = line_said line >>= (λ a. drafted a d)

-- whether a line ends the job or the job goes on after it
abbrev pub taken_of : LineAsked → Taken
taken_of End = taken.End
taken_of (Save _) = taken.Line
taken_of (Delete _) = taken.Line
taken_of (Give _) = taken.Line

-- the job after a line was read, and whether the line ends it
abbrev pub ReadsLine : List ℕ → Drafting → Drafting → Result Taken JobLineFault → Type 0
ReadsLine line old new (Ok what) = (a : LineAsked) × (line_said line ≡ Ok a) × (drafted a old ≡ Ok new) × (what ≡ taken_of a)
ReadsLine line old new (Err why) = (new ≡ old) × IsRefusal (cause why) (drafted_by line old)

-- the line begins with one of the words of a job's own lines
unfoldable pub is_of_job : List ℕ → Bool
is_of_job line =
    bytes_eq (fields_of line).0 (codes "put") || bytes_eq (fields_of line).0 (codes "putd")
    || bytes_eq (fields_of line).0 (codes "del") || bytes_eq (fields_of line).0 (codes "place")

abbrev pub given_up : Drafting → Drafting
given_up d = record d { given_up = true }

-- the job after a line that was refused: given up if it is one of a job's own lines
abbrev pub gives_up : List ℕ → Drafting → Drafting
gives_up line d = if is_of_job line then given_up d else d

-- the job after a line, and whether the line ends it
abbrev pub TakesLine : List ℕ → Drafting → Drafting → Result Taken JobLineFault → Type 0
TakesLine line old new (Ok what) = (a : LineAsked) × (line_said line ≡ Ok a) × (drafted a old ≡ Ok new) × (what ≡ taken_of a)
TakesLine line old new (Err why) = (new ≡ gives_up line old) × IsRefusal (cause why) (drafted_by line old)

-- a job with files has a last place that takes all remaining blocks
abbrev pub has_places : Drafting → Bool
has_places d = is_empty d.files || d.closed

abbrev pub to_commit : Drafting → ToCommit
to_commit d = record { row = d.row; files = d.files; deleted = d.deleted; limit = d.limit; places = d.places }

-- the job to be committed: none if it is given up, 90 if it has no last place, else the
-- refusals of such a job
unfoldable pub ended : Drafting → Result (Option ToCommit) ℕ
ended d =
    if d.given_up then Ok None
    else if has_places d then checked_job (to_commit d) >>= (λ c. Ok (Some c))
    else Err 90
