-- Files that are made once more for their delivery.
use Rattle.std.specs.Prelude.{◌≡◌, ℕ, List, [], ◌∷◌, map, Option, option_map, Some, None, Result, Ok, Err, ⊤}
use Rattle.std.specs.List.{AllByRecursion, AllZip}
use Rattle.br_model.specs.Bootstrap.{Group}
use Rattle.br_model.specs.Answer.{Answers, IsRefusal}
use Rattle.br_model.specs.Delivery.{Stop, delivery}
use Rattle.br_model.specs.Manifest.{totals_of}
use Rattle.br_model.specs.File.{Item, Outcome}
use Rattle.br_model.specs.Meaning.{Hit, Hits, hits_of, pieces_of}
use Rattle.br_model.specs.Name.{FileKey}
use Rattle.br_model.specs.Restored.{Names, Restored, files, planned_in}
use Rattle.br_model.specs.Volume.{Volume}
use Rattle.br_join.specs.Joining.{Joining}
use Rattle.br_join.specs.Outcome.{restored}
use Rattle.br_records.specs.Runs.{AreListed}
use Rattle.br_join.specs.declared.item.Outcome as join
use Rattle.br_join.specs.declared.item.Outcome.TheVariants.{File}
use Rattle.br_reread_files.specs.Again.{IsLike, IsMadeOf}
use Rattle.br_reread_files.specs.FileParts.{GivesItem}
use Rattle.br_reread_files.specs.Gathered.{Gathered}
use Rattle.br_reread_files.specs.TwoFiles.{GivesBoth}
use Rattle.br_reread_files.specs.declared.two_files.KeyedItem.{KeyedItem}
use Rattle.br_reread_parts.specs.Given.{GivesHits}
use Rattle.br_data.specs.ManyDrives.{RereadingMany, driven_by}
use Rattle.br_sink.specs.Delivery.{items_in, items_put, stop_cause}
use Rattle.br_sink.specs.Sink.{HasMore}
use Rattle.br_engine.specs.Delivering.{EndsWith}
use Rattle.br_engine.specs.Extracting.{OverVolumes}
use Rattle.br_engine.specs.Fault.{cause}
use Rattle.br_engine.specs.Outputs.{InSink, StopsOnlyIf}
use Rattle.br_engine.specs.Restoring.{AllStand}
use Rattle.br_engine.specs.declared.delivered_again.RereadSource.{RereadSource}
use Rattle.br_engine.specs.declared.delivered_again.PutStep.{PutStep}
use Rattle.br_engine.specs.declared.delivered_again.PutStep.TheVariants.{Alone, Two, Together}
use Rattle.br_engine.specs.declared.fault.ExtractFault.{ExtractFault}
use Rattle.br_engine.specs.declared.fault.ExtractFault.TheVariants.{Changed}
use Rattle.br_engine.specs.declared.made.MadeFiles.{MadeFiles}
use Rattle.br_engine.specs.declared.restore_end.RestoreEnd.{RestoreEnd}

-- ---- the source of files

-- the drives read the hits of the files again as they were found, and the hits make the files
abbrev pub CanMake : RereadingMany → Gathered → List Restored → Type 0
CanMake many gathered rs = GivesHits many gathered.hits × AllByRecursion (IsMadeOf gathered.hits) rs

-- the same for files whose bytes may all be in memory
abbrev pub CanGive : {D : Type 0} → (D → Option (List Volume)) → (D → ℕ) → List D → List Group → Option Gathered → List Restored → Type 0
CanGive shows failures drives groups None rs = ⊤
CanGive shows failures drives groups (Some gathered) rs = CanMake (record { drives = driven_by shows failures drives; groups = groups }) gathered rs

-- ---- what is delivered

-- a file like the other, or the same fault
abbrev pub IsOutcomeLike : Outcome → Outcome → Type 0
IsOutcomeLike (Ok one) (Ok other) = IsLike one other
IsOutcomeLike (Err one) (Err other) = one ≡ other
IsOutcomeLike (Ok one) (Err other) = ⊥
IsOutcomeLike (Err one) (Ok other) = ⊥

-- the same file; its bytes may be others with the same digest
abbrev pub IsFileLike : Restored → Restored → Type 0
IsFileLike one other = (one.key ≡ other.key) × IsOutcomeLike one.outcome other.outcome

-- Some files like the first of these were put into a sink: all, or those before a stop. They are
-- these files, if these can be given.
pub record PutsLike {A : Type 0} (given : Type 0) (items : List Item) (had has : Option (List Item)) (result : Result A Stop) : Type 0 where
  pub put : List Item
  pub like : AllZip IsLike put (items_put result items)
  pub same : given → put ≡ items_put result items
  pub more : HasMore put had has

-- the files among the outcomes are put so; they are these files if they are made from what was
-- gathered
abbrev pub PutsAgain : {A : Type 0} → RereadingMany → Gathered → List (FileKey × join.Outcome) → Option (List Item) → Option (List Item) → Result A Stop → Type 0
PutsAgain many gathered outcomes had has result = PutsLike (CanMake many gathered (map restored outcomes)) (items_in outcomes) had has result

-- the file with the key is put so; it is this file if it is made from what was gathered
abbrev pub PutsItemAgain : {A : Type 0} → RereadingMany → Gathered → FileKey → Item → Option (List Item) → Option (List Item) → Result A Stop → Type 0
PutsItemAgain many gathered key item had has result = PutsLike (GivesItem many gathered.hits key item) (item ∷ []) had has result

-- the two files with their keys are put so; they are these files if they are made from what was
-- gathered
abbrev pub PutsTwoAgain : {A : Type 0} → RereadingMany → Gathered → KeyedItem → KeyedItem → Option (List Item) → Option (List Item) → Result A Stop → Type 0
PutsTwoAgain many gathered one other had has result =
    PutsLike (GivesBoth many gathered.hits one.key other.key one.item.now other.item.now) (one.item.now ∷ other.item.now ∷ []) had has result

-- a file that is put part by part, as an outcome
abbrev pub keyed : KeyedItem → FileKey × join.Outcome
keyed file = (file.key, File file.item.now)

-- these outcomes are the files that are put part by part, if there are any
abbrev pub IsWindowOf : List (FileKey × join.Outcome) → PutStep → Type 0
IsWindowOf outcomes (Alone one) = outcomes ≡ keyed one ∷ []
IsWindowOf outcomes (Two one other) = outcomes ≡ keyed one ∷ keyed other ∷ []
IsWindowOf outcomes Together = ⊤

-- a restore ends so, with files that are like these; they are these if these can be given
pub record EndsLike (given : Type 0) (had has : InSink) (os : List Restored) (end : RestoreEnd) : Type 0 where
  pub rs : List Restored
  pub like : AllZip IsFileLike rs os
  pub same : given → rs ≡ os
  pub ends : EndsWith had has rs end

-- a delivery of the files among the outcomes ends so; if something was gathered and they are made
-- from it, they are these
abbrev pub EndsAgain : {D : Type 0} → (D → Option (List Volume)) → (D → ℕ) → List D → List Group → Option Gathered → List (FileKey × join.Outcome)
    → InSink → InSink → RestoreEnd → Type 0
EndsAgain shows failures drives groups gathered outcomes had has end =
    EndsLike (CanGive shows failures drives groups gathered (map restored outcomes)) had has (map restored outcomes) end

-- the same for files that are made from a source
abbrev pub EndsBy : {D : Type 0} → (D → Option (List Volume)) → (D → ℕ) → List D → List Group → RereadSource → List (FileKey × join.Outcome)
    → InSink → InSink → RestoreEnd → Type 0
EndsBy shows failures drives groups source outcomes had has end =
    EndsAgain shows failures drives groups (Some source.gathered.now) outcomes had has end

-- the same for the files of a restore
abbrev pub EndsMade : {D : Type 0} → (D → Option (List Volume)) → (D → ℕ) → List D → List Group → MadeFiles → InSink → InSink → RestoreEnd → Type 0
EndsMade shows failures drives groups made had has end =
    EndsAgain shows failures drives groups made.gathered made.outcomes.items had has end

-- a delivery of files that are made from a source stops by 72 only if they can't be given
abbrev pub ChangedBy : {D : Type 0} → (D → Option (List Volume)) → (D → ℕ) → List D → List Group → RereadSource → List (FileKey × join.Outcome)
    → RestoreEnd → Type 0
ChangedBy shows failures drives groups source outcomes end =
    StopsOnlyIf 72 (CanGive shows failures drives groups (Some source.gathered.now) (map restored outcomes) → ⊥) end

-- the same for the files of a restore
abbrev pub ChangedMade : {D : Type 0} → (D → Option (List Volume)) → (D → ℕ) → List D → List Group → MadeFiles → RestoreEnd → Type 0
ChangedMade shows failures drives groups made end =
    StopsOnlyIf 72 (CanGive shows failures drives groups made.gathered (map restored made.outcomes.items) → ⊥) end

-- the delivery of all files succeeded, or the stop is the one that they decide
abbrev pub DeliversAll : Result (Unit {0}) Stop → List Restored → Type 0
DeliversAll (Ok u) rs = delivery rs ≡ Ok (totals_of rs)
DeliversAll (Err stop) rs = IsRefusal (stop_cause stop) (delivery rs)

-- ---- the files that are made

-- the drives read the hits of a set again as they were found
abbrev pub CanReread : {D : Type 0} → (D → Option (List Volume)) → (D → ℕ) → List D → List Group → Hits → Type 0
CanReread shows failures drives groups hits = (found : List Hit) → hits_of found ≡ hits → AreListed found
    → GivesHits (record { drives = driven_by shows failures drives; groups = groups }) found

-- the files are not made for this reason only if the hits of a joiner can't be read again as they were found
abbrev pub ChangedJoined : {D : Type 0} → (D → Option (List Volume)) → (D → ℕ) → List D → List Group → Joining → ExtractFault → Type 0
ChangedJoined shows failures drives groups joining why = why ≡ Changed → CanReread shows failures drives groups joining.hits → ⊥

-- if the hits are read again as they were found, the files are those of what a joiner took
abbrev pub MadeOver : Type 0 → Joining → MadeFiles → Type 0
MadeOver given joining made = given → map restored made.outcomes.items ≡ files joining.hits (option_map planned_in joining.names)

-- over all volumes that each of the drives may be taken to show, the files are those that the
-- bootstrap gives, or the refusal is the first fault
abbrev pub MakesOver : {D : Type 0} → (D → Option (List Volume)) → List D → List D → List Group → Option Names → Result MadeFiles ExtractFault → Type 0
MakesOver shows before after groups names result =
    OverVolumes (map shows before) (map shows after) groups (option_map planned_in names) (Answers (λ (m : MadeFiles). map restored m.outcomes.items) cause result)

-- the files can be made once more from what the drives show
abbrev pub CanGiveMade : {D : Type 0} → (D → Option (List Volume)) → (D → ℕ) → List D → List Group → MadeFiles → Type 0
CanGiveMade shows failures drives groups made = CanGive shows failures drives groups made.gathered (map restored made.outcomes.items)

-- if the hits of a joiner are read again as they were found, the files can be made once more from
-- what the drives show afterwards
abbrev pub GivesIfReread : {D : Type 0} → (D → Option (List Volume)) → (D → ℕ) → List D → List D → List Group → Joining → MadeFiles → Type 0
GivesIfReread shows failures before after groups joining made =
    CanReread shows failures before groups joining.hits → CanGiveMade shows failures after groups made

-- over all such volumes, the files can be made once more from what the drives show afterwards
abbrev pub GivesAgain : {D : Type 0} → (D → Option (List Volume)) → (D → ℕ) → List D → List D → List Group → MadeFiles → Type 0
GivesAgain shows failures before after groups made =
    (volumes : List Volume) → AllStand (map shows before) (map shows after) (pieces_of groups) volumes → CanGiveMade shows failures after groups made
