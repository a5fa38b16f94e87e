-- What was found for the pieces of a bootstrap.
use Rattle.std.specs.Prelude.{◌≡◌, List, [], flat_map, IfOk, Result, Ok, Err}
use Rattle.std.specs.List.{AllZip}
use Rattle.br_model.specs.Meaning.{Hit, Piece}
use Rattle.br_match.specs.Fault.{FailsWithDrive}
use Rattle.br_match.specs.Matching.{FoundOver}
use Rattle.br_match.specs.Walk.{NamesReached}
use Rattle.br_match.specs.declared.fault.PieceFault.{PieceFault}
use Rattle.br_match.specs.declared.hit.Found.{Found}
use Rattle.br_check.specs.Calls.{InTurn}
use Rattle.br_check.specs.Shown.{ComesLater, Moment, Shown}

-- what was found for a piece, or why its volume can't be searched
abbrev pub Searched : Type 0
Searched = Result Found PieceFault

-- What a search of a piece gives between two moments of the drive, over the volumes that the drive
-- may be taken to show. It is refused with 13 only if the drive failed meanwhile, and a refusal names
-- the piece's volume and the address that the search had reached.
pub record IsSearched (before after : Moment) (piece : Piece) (result : Searched) : Type 0 where
  pub later : ComesLater before after
  pub number : IfOk result (λ found. found.piece ≡ piece.number)
  pub found : FoundOver before.shows after.shows piece result
  pub failed : FailsWithDrive (λ (m : Moment). m.failures) before after result
  pub named : NamesReached (λ (m : Moment). m.shows) before after piece result

-- what was found for each piece, one search after the other
abbrev pub AreSearched : Shown → List Piece → List Searched → Type 0
AreSearched s pieces results = InTurn IsSearched s.earlier s.later pieces results

-- what was found for each piece holds over all volumes that the drive may be taken to show from the
-- first search to the last
abbrev pub HoldsThroughout : Type 0
HoldsThroughout =
    (s : Shown) (pieces : List Piece) (results : List Searched) → AreSearched s pieces results
    → AllZip (λ p r. FoundOver s.earlier.shows s.later.shows p r) pieces results

-- the hits that were found for a piece; none if its volume can't be searched
abbrev pub found_in : Searched → List Hit
found_in (Ok found) = found.hits.items
found_in (Err fault) = []

-- the hits that were found for all pieces
abbrev pub all_found : List Searched → List Hit
all_found results = flat_map found_in results
