-- Faults of damaged volumes at which a restore ends.
use Rattle.std.specs.Prelude.{◌≡◌, true, Option, None, is_some}
use Rattle.br_match.specs.declared.fault.PieceFault.{PieceFault}
use Rattle.br_engine.specs.declared.fault.ExtractFault.{ExtractFault}
use Rattle.br_engine.specs.declared.fault.ExtractFault.TheVariants.{Piece}
use Rattle.br_cli_target.specs.LostVolumes.{damage}

-- the fault of a damaged volume, if the restore ended at one
abbrev pub damage_of : ExtractFault → Option PieceFault
damage_of (Piece fault) = damage fault
damage_of _ = None

abbrev pub IsDamage : ExtractFault → Type 0
IsDamage fault = is_some (damage_of fault) ≡ true
