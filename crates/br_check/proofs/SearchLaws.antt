-- What was found of pieces, one after the other.
use Rattle.std.proofs.Common.{List, [], ◌∷◌, Option, Some, None, subst}
use Rattle.std.specs.Prelude.{⊤}
use Rattle.std.specs.List.{AllZip}
use Rattle.br_model.specs.Meaning.{Piece}
use Rattle.br_model.specs.Volume.{Volume}
use Rattle.br_volume.specs.Drive.{OnlyGrows}
use Rattle.br_volume.proofs.ExtendLaws.{grows_itself, grows_more}
use Rattle.br_match.specs.Matching.{AnswersPiece, FoundOver}
use Rattle.br_match.specs.Walk.{Over}
use Rattle.br_match.proofs.FoundLaws.{found_over}
use Rattle.br_match.proofs.OverLaws.{over_any, over_join}
use Rattle.br_check.specs.Calls.{InTurn}
use Rattle.br_check.specs.Search.{HoldsThroughout, IsSearched, Searched}
use Rattle.br_check.specs.Shown.{Moment}

-- what is said of a piece, over all volumes that the drive may be taken to show
over_found : (earlier later : Option (List Volume)) (piece : Piece) (result_of : Searched) → FoundOver earlier later piece result_of
    → Over earlier later piece (λ volumes. AnswersPiece volumes piece result_of)
over_found None later piece r found = tt
over_found (Some earlier) None piece r found = tt
over_found (Some earlier) (Some later) piece r found = found

-- the same, as the volumes grow after it
found_later : (a b c : Option (List Volume)) (piece : Piece) (r : Searched) → OnlyGrows a b → OnlyGrows b c → FoundOver a b piece r → FoundOver a c piece r
found_later a b c piece r first second found =
    found_over a c piece r
    (over_join a b c piece (λ volumes. AnswersPiece volumes piece r) (λ volumes. ⊤) (λ volumes. AnswersPiece volumes piece r) first second
    (over_found a b piece r found) (over_any b c piece (λ volumes. ⊤) (λ volumes. tt)) (λ volumes is _. is))

-- the same, as they grew before it
found_sooner : (a b c : Option (List Volume)) (piece : Piece) (r : Searched) → OnlyGrows a b → OnlyGrows b c → FoundOver b c piece r → FoundOver a c piece r
found_sooner a b c piece r first second found =
    found_over a c piece r
    (over_join a b c piece (λ volumes. ⊤) (λ volumes. AnswersPiece volumes piece r) (λ volumes. AnswersPiece volumes piece r) first second
    (over_any a b piece (λ volumes. ⊤) (λ volumes. tt)) (over_found b c piece r found) (λ volumes _ is. is))

-- what was found of some pieces, as the volumes grew before it
all_sooner : (a b c : Option (List Volume)) (pieces : List Piece) (rs : List Searched) → OnlyGrows a b → OnlyGrows b c → AllZip (λ p r. FoundOver b c p r) pieces rs
    → AllZip (λ p r. FoundOver a c p r) pieces rs
all_sooner a b c [] [] first second all = tt
all_sooner a b c [] (r ∷ rs) first second all = absurd all
all_sooner a b c (p ∷ ps) [] first second all = absurd all
all_sooner a b c (p ∷ ps) (r ∷ rs) first second all = (found_sooner a b c p r first second all.0, all_sooner a b c ps rs first second all.1)

-- the volumes grow from search to search
all_grow : (a b : Moment) (pieces : List Piece) (rs : List Searched) → InTurn IsSearched a b pieces rs → OnlyGrows a.shows b.shows
all_grow a b [] [] same = subst (λ (m : Moment). OnlyGrows m.shows b.shows) same (grows_itself b.shows)
all_grow a b [] (r ∷ rs) all = absurd all
all_grow a b (p ∷ ps) [] all = absurd all
all_grow a b (p ∷ ps) (r ∷ rs) all = grows_more a.shows all.0.shows b.shows all.1.later.grows (all_grow all.0 b ps rs all.2)

throughout : (a b : Moment) (pieces : List Piece) (rs : List Searched) → InTurn IsSearched a b pieces rs → AllZip (λ p r. FoundOver a.shows b.shows p r) pieces rs
throughout a b [] [] all = tt
throughout a b [] (r ∷ rs) all = absurd all
throughout a b (p ∷ ps) [] all = absurd all
throughout a b (p ∷ ps) (r ∷ rs) all =
    let m = all.0 in
    let first = all.1.later.grows in
    let second = all_grow m b ps rs all.2 in (
      found_later a.shows m.shows b.shows p r first second all.1.found,
      all_sooner a.shows m.shows b.shows ps rs first second (throughout m b ps rs all.2),
    )

pub holds_throughout_lem : HoldsThroughout
holds_throughout_lem s pieces results all = throughout s.earlier s.later pieces results all
