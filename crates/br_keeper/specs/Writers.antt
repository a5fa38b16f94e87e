-- The writer's view and its waiting additions.
use Rattle.std.specs.Prelude.{◌≡◌, Bool, List, [], ◌∷◌, ◌++◌, drop, MatchBool, Option, Some, None}
use Rattle.left_right.specs.Sides.{view}
use Rattle.left_right.specs.declared.Absorb.{Ghosts}
use Rattle.left_right.specs.declared.writer.Writer.{Writer}
use Rattle.br_model.specs.Job.{JobRows}
use Rattle.br_keeper.specs.declared.published.Added.{Added}
use Rattle.br_keeper.specs.declared.published.Published.{Published}
use Rattle.br_keeper.specs.declared.published.PublishedView.{PublishedView}
use Rattle.br_keeper.specs.Beginnings.{Beginning, beginning}
use Rattle.br_keeper.specs.Keeps.{knowing}

-- the job that the writer has not taken, if there is one
abbrev pub listed : Option Added → List Added
listed None = []
listed (Some a) = a ∷ []

-- the additions lead from one beginning to the other
abbrev pub Leads : Beginning → List Added → Beginning → Type 0
Leads f [] g = f ≡ g
Leads f (a ∷ more) g = (a.front ≡ beginning f.book (f.log ++ a.rows ∷ [])) × Leads a.front more g

-- the writer shows the opening jobs and then `shown`, and the waiting additions lead from
-- there to `front`
pub record IsWriter (v : PublishedView) (jobs : List JobRows) (now : Beginning) (waiting : List Added) (opening : List JobRows) (shown front : Beginning) : Type 0 where
  pub knows : v ≡ knowing front.book opening
  pub now_is : now ≡ shown
  pub jobs_are : jobs ≡ opening ++ shown.log
  pub leads : Leads shown waiting front

module _ {P A S : Type 0} {g : Ghosts Published Added S} where
  -- the jobs that the writer has taken and does not show yet
  abbrev pub waiting_in : Writer Published Added PublishedView P A S g → List Added
  waiting_in w = drop w.behind w.log.items

  -- the writer shows the opening jobs and then `shown`, and the waiting additions lead to `front`
  abbrev pub Shows : Writer Published Added PublishedView P A S g → List Added → List JobRows → Beginning → Beginning → Type 0
  Shows w waiting opening shown front =
      IsWriter (view w.desk.place) w.desk.shown.value.history w.desk.shown.value.front waiting opening shown front

  -- the same, if all is published; else the writer shows the same as before
  abbrev pub ShowsIfDone : Bool → Writer Published Added PublishedView P A S g → List Added → List JobRows → Beginning → Beginning → Type 0
  ShowsIfDone done w waiting opening shown front =
      MatchBool done (Shows w waiting opening front front) (Shows w waiting opening shown front)

  -- the writer shows the same as before, the same waits, and it sees the same of its rule
  abbrev pub ShowsAsBefore : Writer Published Added PublishedView P A S g → Writer Published Added PublishedView P A S g → Type 0
  ShowsAsBefore old new =
      (new.desk.shown ≡ old.desk.shown) × (new.log ≡ old.log)
      × (new.behind ≡ old.behind) × (view new.desk.place ≡ view old.desk.place)
