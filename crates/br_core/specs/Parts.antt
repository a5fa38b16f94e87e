-- How the parts of a restore relate to each other.
use Rattle.std.specs.Prelude.{◌≡◌, ℕ, ◌<◌, List, [], length, map, option_map, slice_get, None, Some, Contains}
use Rattle.std.specs.FinMap.{empty, get}
use Rattle.br_model.specs.Meaning.{Piece, pieces_of}
use Rattle.br_model.specs.Restored.{planned_in}
use Rattle.br_model.specs.Plan as model
use Rattle.br_match.specs.declared.hit.Batch.{Batch}
use Rattle.br_join.specs.Joining.{Joining}
use Rattle.br_join.specs.Room.{room_of}
use Rattle.br_core.specs.Statuses.{is_finished}
use Rattle.br_core.specs.declared.piece_status.Status.{Status}
use Rattle.br_core.specs.declared.piece_status.Status.TheVariants.{Waiting}

-- The pieces are those of the plan, each with a status. The joiner has the names of the plan and room
-- for all data, and has closed the finished pieces. Each batch on its way is of one of the pieces.
pub record AreParts
    (plan : model.Plan) (pieces : List Piece) (statuses : List Status) (transit : List (ℕ × Batch)) (joiner : Joining)
    : Type 0 where
  pub pieces_are : pieces ≡ pieces_of plan.groups
  pub each : length statuses ≡ length pieces
  pub names_are : option_map planned_in joiner.names ≡ Some plan.names
  pub room_is : joiner.room ≡ room_of None
  pub closed : (number : ℕ) → get joiner.pieces number ≡ option_map is_finished (slice_get statuses number)
  pub known : (b : ℕ × Batch) → Contains transit b → b.0 < length statuses

-- The parts of a restore that was just planned: all pieces wait, and nothing was taken.
abbrev pub AreFirst : model.Plan → List Piece → List Status → Joining → Type 0
AreFirst plan pieces statuses joiner =
    AreParts plan pieces statuses [] joiner × (statuses ≡ map (λ (p : Piece). Waiting) (pieces_of plan.groups)) × (joiner.hits ≡ empty)
