-- The bytes of a fragment, and whether they are in memory.
use Rattle.std.specs.Prelude.{ℕ, Bool, List, Result, Ok, Err, if◌then◌else◌}
use Rattle.br_data.specs.declared.reread_fault.AgainFault.{AgainFault}
use Rattle.br_data.specs.declared.reread_fault.AgainFault.TheVariants.{Memory}

-- the bytes, whether they are held or left on the volume
pub record Kept : Type 0 where
  pub bytes : List ℕ
  pub held : Bool

-- the bytes, if they are held
abbrev pub held_bytes : Kept → Result (List ℕ) AgainFault
held_bytes kept = if kept.held then Ok kept.bytes else Err Memory
