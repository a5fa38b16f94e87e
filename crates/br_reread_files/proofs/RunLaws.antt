-- Runs of hits, and the first of their files.
use Rattle.std.proofs.Common.{◌≡◌, ◌≤◌, ℕ, zero, suc, List, [], ◌∷◌, ◌++◌, take, length, Some, refl, ap, sym, subst, arith}
use Rattle.std.specs.Prelude.{slice_get}
use Rattle.std.specs.List.{AllByRecursion}
use Rattle.std.proofs.lemmas.Option.{same_Some}
use Rattle.br_model.specs.Meaning.{Hit}
use Rattle.br_model.specs.Restored.{Restored}
use Rattle.br_data.specs.StandingHits.{StandingStays}
use Rattle.br_data.specs.ManyDrives.{GoOn, RereadingMany}
use Rattle.br_reread_parts.specs.Given.{GivesHits}
use Rattle.br_join.specs.Runs.{IsPart, Run}
use Rattle.br_reread_files.specs.Runs.{AreFirst, GivesRuns}
use Rattle.br_reread_parts.proofs.GivenLaws.{hits_kept}
use Rattle.br_reread_files.proofs.GivenLaws.{given_run}

-- if all hits are given, those of each file are
pub given_runs : (m : RereadingMany) (hits : List Hit) (runs : List Run) → AllByRecursion (IsPart hits) runs → GivesHits m hits → GivesRuns m runs
given_runs m hits [] parts given = tt
given_runs m hits (r ∷ rs) parts given = (given_run m hits parts.0.before r.hits parts.0.after parts.0.joined given, given_runs m hits rs parts.1 given)

-- hits that were given are given still
pub runs_kept : StandingStays → (a b : RereadingMany) (runs : List Run) → GoOn a b → GivesRuns a runs → GivesRuns b runs
runs_kept stays a b [] on given = tt
runs_kept stays a b (r ∷ rs) on given = (hits_kept stays a b r.hits on given.0, runs_kept stays a b rs on given.1)

-- ---- the first files

take_next : {X : Type 0} (xs : List X) (n : ℕ) (x : X) → slice_get xs n ≡ Some x → take (suc n) xs ≡ take n xs ++ x ∷ []
take_next [] n x is = absurd cc
take_next (y ∷ ys) zero x is = ap (λ z. z ∷ []) (same_Some y x is)
take_next (y ∷ ys) (suc n) x is = ap (λ l. y ∷ l) (take_next ys n x is)

take_whole : {X : Type 0} (xs : List X) (n : ℕ) → length xs ≤ n → take n xs ≡ xs
take_whole [] zero low = refl
take_whole [] (suc n) low = refl
take_whole (x ∷ xs) zero low = absurd (omega (arith, low))
take_whole (x ∷ xs) (suc n) low = ap (λ l. x ∷ l) (take_whole xs n (omega (arith, low)))

-- none are the first ones
pub none_first : (runs : List Run) (made : List Restored) → made ≡ [] → AreFirst runs made
none_first runs made none = subst (λ (m : List Restored). AreFirst runs m) (sym none) refl
