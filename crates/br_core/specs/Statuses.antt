-- The status of a piece.
use Rattle.std.specs.Prelude.{ℕ, Bool, true, false, Option, Some, None}
use Rattle.br_core.specs.Machine as machine
use Rattle.br_core.specs.Machine.Status.{Waiting, Claimed, Finished}
use Rattle.br_core.specs.declared.piece_status.Status.{Status}
use Rattle.br_core.specs.declared.piece_status.Status.TheVariants as code

-- the status of the relation
abbrev pub status_of : Status → machine.Status
status_of code.Waiting = Waiting
status_of (code.Claimed address) = Claimed address
status_of code.Finished = Finished

-- whether a piece of this status was read to its end
abbrev pub is_finished : Status → Bool
is_finished code.Waiting = false
is_finished (code.Claimed address) = false
is_finished code.Finished = true

-- whether there is a piece, and it waits
abbrev pub is_waiting : Option Status → Bool
is_waiting (Some code.Waiting) = true
is_waiting (Some (code.Claimed address)) = false
is_waiting (Some code.Finished) = false
is_waiting None = false

-- the address that the walk of a piece is before, if there is a piece and it is claimed
abbrev pub address_in : Option Status → Option ℕ
address_in (Some code.Waiting) = None
address_in (Some (code.Claimed address)) = Some address
address_in (Some code.Finished) = None
address_in None = None
