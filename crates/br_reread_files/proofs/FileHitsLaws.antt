-- The hits of files, of which the first are digested, and fronts.
use Rattle.std.proofs.Common.{◌≡◌, List, [], ◌∷◌, ◌++◌, take, drop, Option, Some, None, refl, sym, subst, ◌∙◌}
use Rattle.std.specs.Prelude.{IfSome}
use Rattle.std.specs.List.{AllByRecursion}
use Rattle.std.proofs.lemmas.List.{take-append-drop}
use Rattle.br_model.specs.Meaning.{Hit}
use Rattle.br_data.specs.ManyDrives.{RereadingMany}
use Rattle.br_join.specs.Front.{AreFronts, IsFrontOf}
use Rattle.br_join.specs.Runs.{IsWholeRun, Run}
use Rattle.br_join.specs.declared.front.Front.{Front}
use Rattle.br_join.specs.declared.fronts.Fronts.{Fronts}
use Rattle.br_reread_files.specs.Digesting.{IsDigested}
use Rattle.br_reread_files.specs.FileHits.{FileHits, FitFronts, digested, unread}
use Rattle.br_reread_files.specs.declared.digesting.Digesting.{Digesting}
use Rattle.br_reread_parts.specs.Given.{GivesHit, GivesHits}
use Rattle.br_reread_parts.proofs.GivenLaws.{all_behind}

-- none of the hits, and all
pub take_none : (hits : List Hit) → [] ≡ take 0 hits
take_none [] = refl
take_none (h ∷ hs) = refl

pub drop_none : (hits : List Hit) → hits ≡ drop 0 hits
drop_none [] = refl
drop_none (h ∷ hs) = refl

-- the digested hits and the others are all
pub joined_hits : (f : FileHits) → digested f ++ unread f ≡ f.hits
joined_hits f = take-append-drop f.done f.hits

-- if all hits are given, those that are read are
pub given_unread : (m : RereadingMany) (f : FileHits) → GivesHits m f.hits → GivesHits m (unread f)
given_unread m f given = all_behind (GivesHit m) (digested f) (unread f) (subst (GivesHits m) (sym (joined_hits f)) given)

-- the same of a file with these hits
pub given_of : (m : RereadingMany) (f : FileHits) (hits : List Hit) → f.hits ≡ hits → GivesHits m hits → GivesHits m (unread f)
given_of m f hits is given = given_unread m f (subst (GivesHits m) (sym is) given)

-- a file that was read to its end has these hits, if they are given
pub same_of : (m : RereadingMany) (f : FileHits) (hits : List Hit) (now : Digesting) → f.hits ≡ hits → IsDigested m (digested f) (unread f) now → GivesHits m hits → now.hits.items ≡ hits
same_of m f hits now is read given = read.same (given_of m f hits is given) ∙ joined_hits f ∙ is

-- a front that is found is made of the first of the hits
pub if_front : (o : Option Front) (hits : List Hit) → ((f : Front) → o ≡ Some f → IsFrontOf f hits) → IfSome o (λ f. IsFrontOf f hits)
if_front None hits is = tt
if_front (Some f) hits is = is f refl

-- the fronts of hits fit their runs
pub fit_fronts : (fronts : Fronts) (hits : List Hit) (runs : List Run) → AreFronts fronts hits → AllByRecursion (IsWholeRun hits) runs → FitFronts fronts runs
unfolding AreFronts
fit_fronts fronts hits [] are whole = tt
fit_fronts fronts hits (r ∷ rs) are whole = ((λ f there. subst (IsFrontOf f) (sym whole.0) (are r.key f there)), fit_fronts fronts hits rs are whole.1)
