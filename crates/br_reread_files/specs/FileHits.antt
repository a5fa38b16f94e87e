-- The hits of a file, of which the first were digested when they were found.
use Rattle.std.specs.Prelude.{◌≡◌, ℕ, List, take, drop, Option, Some, None}
use Rattle.std.specs.List.{AllByRecursion}
use Rattle.br_model.specs.Meaning.{Hit}
use Rattle.br_join.specs.Front.{IsFrontOf, front_at}
use Rattle.br_join.specs.Runs.{Run}
use Rattle.br_join.specs.declared.front.Front.{Front}
use Rattle.br_join.specs.declared.fronts.Fronts.{Fronts}

-- the hits in order of place, and the number of the first ones that are digested
pub record FileHits : Type 0 where
  pub hits : List Hit
  pub done : ℕ

-- the number of hits of which a front is made: none without a front
abbrev pub count_of : Option Front → ℕ
count_of None = 0
count_of (Some front) = front.count

-- the first hits, which are digested
abbrev pub digested : FileHits → List Hit
digested f = take f.done f.hits

-- the hits after them, which are read
abbrev pub unread : FileHits → List Hit
unread f = drop f.done f.hits

-- a front for the file of the run is made of the first of its hits
abbrev pub FitsFront : Fronts → Run → Type 0
FitsFront fronts r = (f : Front) → front_at fronts r.key ≡ Some f → IsFrontOf f r.hits

-- it is so for each of the runs
abbrev pub FitFronts : Fronts → List Run → Type 0
FitFronts fronts runs = AllByRecursion (FitsFront fronts) runs
