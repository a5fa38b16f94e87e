-- How a walk reads a block over volumes that extend those of the plan.
use Rattle.std.specs.Prelude.{◌≡◌, ℕ, ◌⊎◌, List, slice_get, Option, Some, None, Result, Ok, Err}
use Rattle.br_model.specs.Volume.{Volume, Extends}
use Rattle.br_model.specs.Meaning as model
use Rattle.br_model.specs.Meaning.{Hit, Piece, pieces_of}
use Rattle.br_match.specs.Fault as matching
use Rattle.br_match.specs.Matching.{IsEnclosed}
use Rattle.br_match.specs.Walk.{step_on, Follows}
use Rattle.br_match.specs.declared.fault.PieceFault.{PieceFault}
use Rattle.br_match.specs.declared.hit.Batch.{Batch}
use Rattle.br_core.specs.Machine.{Restore, stands}
use Rattle.br_core.specs.Machine.Status.{Claimed}
use Rattle.br_core.specs.declared.fault.StepFault.{StepFault}
use Rattle.br_core.specs.declared.fault.StepFault.TheVariants.{Memory, NotEnabled}
use Rattle.br_core.specs.declared.piece_status.Status as code
use Rattle.br_core.specs.declared.piece_status.Status.TheVariants as at

-- The volumes of the restore enclose a claimed piece, and its walk may have reached its address
-- over them. Over these volumes, which extend them, its next step is the same. (This holds for
-- every restore of a run from the empty state.)
pub record CanBeRead (r : Restore) (number : ℕ) (shown : List Volume) : Type 0 where
  pub extend : Extends shown r.volumes
  pub enclosed : (piece : Piece) → slice_get (pieces_of r.plan.groups) number ≡ Some piece → IsEnclosed r.volumes piece
  pub follows :
      (piece : Piece) (address : ℕ) → slice_get (pieces_of r.plan.groups) number ≡ Some piece → stands r number (Claimed address)
      → Follows r.volumes piece address × (step_on shown piece address ≡ step_on r.volumes piece address)

-- over all volumes that these extend and that enclose the piece, if its walk may have reached its
-- address over those
abbrev pub OverEnclosing : List Volume → Piece → ℕ → (List Volume → Type 0) → Type 0
OverEnclosing shown piece address P =
    (volumes : List Volume) → Extends shown volumes → IsEnclosed volumes piece → Follows volumes piece address → P volumes

-- The hits of the next block with the address after it, or none at the walk's end. Memory may run
-- out at any time; any other refusal means that there is no step.
abbrev pub ReadsNext : List Volume → Piece → ℕ → Result (Option (Batch × ℕ)) StepFault → Type 0
ReadsNext shown piece address (Ok (Some s)) =
    OverEnclosing shown piece address (λ volumes. step_on volumes piece address ≡ Ok (Some (s.0.hits.items, s.1)))
ReadsNext shown piece address (Ok None) = OverEnclosing shown piece address (λ volumes. step_on volumes piece address ≡ Ok None)
ReadsNext shown piece address (Err fault) =
    (fault ≡ Memory)
    ⊎ ((fault ≡ NotEnabled)
    × OverEnclosing shown piece address (λ volumes. (step : Option (List Hit × ℕ)) → step_on volumes piece address ≡ Ok step → ⊥))

-- a walk's refusal as one of a step: memory ran out, or the volumes decide the refusal
abbrev pub IsReadFault : PieceFault → StepFault → Type 0
IsReadFault why fault = (fault ≡ Memory) ⊎ ((fault ≡ NotEnabled) × (r : model.PieceFault) × (matching.cause why ≡ Some r))

-- a walk has the piece of this number
abbrev pub IsClaimed : List code.Status → ℕ → Type 0
IsClaimed statuses number = (address : ℕ) × (slice_get statuses number ≡ Some (at.Claimed address))

-- the piece of a number is claimed, and this is the next step of its walk over some volumes
pub record IsNext
    (pieces : List Piece) (statuses : List code.Status) (number : ℕ) (volumes : List Volume) (step : Option (List Hit × ℕ))
    : Type 0 where
  pub address : ℕ
  pub piece : Piece
  pub claimed : slice_get statuses number ≡ Some (at.Claimed address)
  pub piece_is : slice_get pieces number ≡ Some piece
  pub step_is : step_on volumes piece address ≡ Ok step

-- if the piece is claimed, these volumes enclose it, and its walk may have reached its address
abbrev pub IsReady : List Piece → List code.Status → ℕ → List Volume → Type 0
IsReady pieces statuses number volumes =
    (piece : Piece) (address : ℕ) → slice_get pieces number ≡ Some piece → slice_get statuses number ≡ Some (at.Claimed address)
    → IsEnclosed volumes piece × Follows volumes piece address

-- over all volumes that these extend and over which the piece is ready
abbrev pub OverReady : List Piece → List code.Status → ℕ → List Volume → (List Volume → Type 0) → Type 0
OverReady pieces statuses number shown P =
    (volumes : List Volume) → Extends shown volumes → IsReady pieces statuses number volumes → P volumes

-- The next step of the piece's walk, read over some volumes. It is the same over those that these
-- extend. A refusal means that memory ran out, or that there is no such step.
abbrev pub ReadsPiece : List Piece → List code.Status → ℕ → List Volume → Result (Option (Batch × ℕ)) StepFault → Type 0
ReadsPiece pieces statuses number shown (Ok (Some s)) =
    OverReady pieces statuses number shown (λ volumes. IsNext pieces statuses number volumes (Some (s.0.hits.items, s.1)))
ReadsPiece pieces statuses number shown (Ok None) =
    OverReady pieces statuses number shown (λ volumes. IsNext pieces statuses number volumes None)
ReadsPiece pieces statuses number shown (Err fault) =
    (fault ≡ Memory)
    ⊎ ((fault ≡ NotEnabled)
    × OverReady pieces statuses number shown (λ volumes. (step : Option (List Hit × ℕ)) → IsNext pieces statuses number volumes step → ⊥))
