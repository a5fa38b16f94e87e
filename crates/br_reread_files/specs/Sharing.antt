-- Files that several drives make side by side.
use Rattle.std.specs.Prelude.{◌≡◌, ◌<◌, ◌≤◌, ℕ, List, ◌++◌, length, map, flat_map, reverse, slice_index_or, Option, Result, Ok, Err, OnOk, ⊤}
use Rattle.std.specs.List.{AllByRecursion, AllZip}
use Rattle.br_model.specs.Bootstrap.{Group}
use Rattle.br_model.specs.Name.{FileKey}
use Rattle.br_model.specs.Volume.{Volume}
use Rattle.br_join.specs.Outcome.{restored}
use Rattle.br_join.specs.declared.item.Outcome.{Outcome}
use Rattle.br_data.specs.ManyDrives.{GoesOn, RereadingMany, driven_by}
use Rattle.br_data.specs.declared.reread_fault.AgainFault.{AgainFault}
use Rattle.br_data.specs.declared.reread_fault.AgainFault.TheVariants.{Changed, Failed, Memory}
use Rattle.br_join.specs.Runs.{Run, file_of}
use Rattle.br_reread_files.specs.Runs.{AreFirst, GivesRuns, StayFirst}
use Rattle.br_reread_files.specs.declared.sharing.FileShare.{FileShare}
use Rattle.br_reread_files.specs.declared.file_work.Work.{Work}

-- The files that are made are the first ones; they are all if no fault ended the work. No data are
-- other ones than were found.
pub record IsBegun (w : Work) : Type 0 where
  pub first : AreFirst w.runs.now (map restored w.made.items)
  pub all : OnOk w.end (length w.runs.now ≤ length w.made.items)
  pub unchanged : w.end ≡ Err Changed → ⊥

-- a work that ran out of memory, or met changed data, fails for the same reason; one that made all
-- its files does not fail
abbrev pub EndsAsBegun : Result (Unit {0}) AgainFault → Result (Unit {0}) AgainFault → Type 0
EndsAsBegun (Ok u) result = result ≡ Ok u
EndsAsBegun (Err Memory) result = result ≡ Err Memory
EndsAsBegun (Err Changed) result = result ≡ Err Changed
EndsAsBegun (Err Failed) result = ⊤

-- the files of the works, one work after another
abbrev pub runs_in : List Work → List Run
runs_in works = flat_map (λ (w : Work). w.runs.now) works

-- the works are begun, and the bytes of all hits of their files are given as they were found
abbrev pub AreGivenBegun : RereadingMany → List Work → Type 0
AreGivenBegun many works = GivesRuns many (runs_in (reverse works)) × AllByRecursion IsBegun works

-- the works are begun after the run, if the bytes of all hits of their files are given as they were
-- found
abbrev pub AreBegunIfGiven : RereadingMany → List Work → List Work → Type 0
AreBegunIfGiven many before after = GivesRuns many (runs_in before) → AllByRecursion IsBegun after

-- all files of a work that was begun are made, if the bytes of their hits are given as they were found
abbrev pub MakesAllIfGiven : RereadingMany → Work → Work → Type 0
MakesAllIfGiven many before after = GivesRuns many before.runs.now → IsBegun before → map restored after.made.items ≡ map file_of before.runs.now

-- all files of a work that was begun are appended, if the bytes of their hits are given as they were found
abbrev pub AppendsIfGiven : RereadingMany → Work → List (FileKey × Outcome) → List (FileKey × Outcome) → Type 0
AppendsIfGiven many w before after =
    GivesRuns many w.runs.now → IsBegun w → map restored after ≡ map restored before ++ map file_of w.runs.now

-- the files are those of begun works, given the last work first, if the bytes of their hits are
-- given as they were found
abbrev pub AreAllIfGiven : RereadingMany → List Work → List (FileKey × Outcome) → Type 0
AreAllIfGiven many works made =
    GivesRuns many (runs_in (reverse works)) → AllByRecursion IsBegun works → map restored made ≡ map file_of (runs_in (reverse works))

-- the drives, and the groups
abbrev pub many_over : {D : Type 0} → (D → Option (List Volume)) → (D → ℕ) → List Group → List D → RereadingMany
many_over shows failures groups drives = record { drives = driven_by shows failures drives; groups = groups }

-- the drives of a share, and the groups
abbrev pub many_of : {D : Type 0} → (D → Option (List Volume)) → (D → ℕ) → List Group → FileShare D → RereadingMany
many_of shows failures groups s = many_over shows failures groups s.drives.items

-- the drives of the shares, the last share first
abbrev pub drives_from_last : {D : Type 0} → List (FileShare D) → List (List D)
drives_from_last {D} shares = reverse (map (λ (s : FileShare D). s.drives.items) shares)

-- A share before and after files were made: its drives went on. More of its files may be made, and
-- all are made if no fault ended the work. The data are other ones than were found only if they are
-- not given.
pub record HasMade {D : Type 0} (shows : D → Option (List Volume)) (failures : D → ℕ) (groups : List Group) (before after : FileShare D) : Type 0 where
  pub runs : after.work.runs.now ≡ before.work.runs.now
  pub on : AllZip GoesOn (driven_by shows failures before.drives.items) (driven_by shows failures after.drives.items)
  pub first : StayFirst (many_of shows failures groups before) before.work.runs.now before.work.made.items after.work.made.items
  pub all : OnOk after.work.end (length before.work.runs.now ≤ length after.work.made.items)
  pub unchanged : after.work.end ≡ Err Changed → GivesRuns (many_of shows failures groups before) before.work.runs.now → ⊥

-- this holds of the two elements at each place
abbrev pub EachPairAt : {A : Type 0} → (A → A → Type 0) → List A → List A → Type 0
EachPairAt {A} R xs ys = (i : ℕ) (d : A) → i < length xs → R (slice_index_or xs i d) (slice_index_or ys i d)
