-- Why a run of the console ended early, and the line that reports it.
use Rattle.std.specs.Prelude.{◌≡◌, ℕ, ◌^◌, List, [], Option, Some, None, option_map, ⊤}
use Rattle.std.specs.declared.io.ErrorKind.{ErrorKind}
use Rattle.std.specs.declared.io.ErrorKind.TheVariants.{OutOfMemory}
use Rattle.br_data.specs.BodyWritten.{AppendsFront}
use Rattle.br_model.specs.Text.{refused_line}
use Rattle.br_model.specs.Meaning as model
use Rattle.br_plan.specs.Fault as plan
use Rattle.br_pool.specs.Fault as pool
use Rattle.br_engine.specs.Fault.{pool_text}
use Rattle.br_console.specs.declared.console_fault.ConsoleFault.{ConsoleFault}
use Rattle.br_console.specs.declared.console_fault.ConsoleFault.TheVariants.{Memory, Plan, Piece, Changed, Io, NoEnd}

-- the number of a refused choice or plan, or that of a piece's fault
pub data Refusal : Type 0 where
  OfPlan : ℕ → Refusal
  OfPiece : model.PieceFault → Refusal

-- The refusal that history, lines and volumes decide. There is none if memory ran out, no drive is left, a volume was
-- changed, reading or writing failed, or the lines have no end.
abbrev pub cause : ConsoleFault → Option Refusal
cause Memory = None
cause (Plan fault) = option_map OfPlan (plan.cause fault)
cause (Piece fault) = option_map OfPiece (pool.cause fault)
cause Changed = None
cause (Io fault) = None
cause (NoEnd turns) = None

-- the number of a refusal; a fault of reading or writing has none, and neither have lines without
-- an end
abbrev pub fault_number : ConsoleFault → Option ℕ
fault_number Memory = Some 1
fault_number (Plan fault) = Some (plan.fault_number fault)
fault_number (Piece fault) = Some (pool.fault_number fault)
fault_number Changed = Some 72
fault_number (Io fault) = None
fault_number (NoEnd turns) = None

-- the line of a refusal; a fault of reading or writing has none, and neither have lines without an
-- end
abbrev pub fault_text : ConsoleFault → List ℕ
fault_text Memory = refused_line 1
fault_text (Plan fault) = refused_line (plan.fault_number fault)
fault_text (Piece fault) = pool_text fault
fault_text Changed = refused_line 72
fault_text (Io fault) = []
fault_text (NoEnd turns) = []

-- anything but a refusal of the pieces or a volume that was changed
abbrev pub IsNoPiece : ConsoleFault → Type 0
IsNoPiece Memory = ⊤
IsNoPiece (Plan fault) = ⊤
IsNoPiece (Piece fault) = ⊥
IsNoPiece Changed = ⊥
IsNoPiece (Io fault) = ⊤
IsNoPiece (NoEnd turns) = ⊤

-- memory ran out, or reading or writing failed, which may happen at any time
abbrev pub IsFree : ConsoleFault → Type 0
IsFree Memory = ⊤
IsFree (Plan fault) = ⊥
IsFree (Piece fault) = ⊥
IsFree Changed = ⊥
IsFree (Io fault) = ⊤
IsFree (NoEnd turns) = ⊥

-- a session failed: memory ran out, reading or writing failed, or the lines have no end
abbrev pub IsBrokenOff : ConsoleFault → Type 0
IsBrokenOff Memory = ⊤
IsBrokenOff (Plan fault) = ⊥
IsBrokenOff (Piece fault) = ⊥
IsBrokenOff Changed = ⊥
IsBrokenOff (Io fault) = ⊤
IsBrokenOff (NoEnd turns) = ⊤

-- lines are refused as lines without an end only after 2^40 turns of reading
abbrev pub EndlessAfterAll : ConsoleFault → Type 0
EndlessAfterAll Memory = ⊤
EndlessAfterAll (Plan fault) = ⊤
EndlessAfterAll (Piece fault) = ⊤
EndlessAfterAll Changed = ⊤
EndlessAfterAll (Io fault) = ⊤
EndlessAfterAll (NoEnd turns) = turns ≡ 2 ^ 40

-- a fault of reading is reported with its kind; if that is memory, as memory that ran out
abbrev pub IsReadFault : ErrorKind → ConsoleFault → ConsoleFault → Type 0
IsReadFault kind told e = IsFree e × (kind ≡ OutOfMemory → e ≡ Memory) × (¬ (kind ≡ OutOfMemory) → e ≡ told)

-- unless reading or writing failed, what was written is a beginning of this text
abbrev pub WritesFront : Option (List ℕ) → Option (List ℕ) → List ℕ → ConsoleFault → Type 0
WritesFront before after text Memory = AppendsFront before after text
WritesFront before after text (Plan fault) = AppendsFront before after text
WritesFront before after text (Piece fault) = AppendsFront before after text
WritesFront before after text Changed = AppendsFront before after text
WritesFront before after text (Io fault) = ⊤
WritesFront before after text (NoEnd turns) = AppendsFront before after text
