-- Why a restore wrote no manifest, or not all of it, and the refusal line.
use Rattle.std.specs.Prelude.{◌≡◌, ℕ, ◌^◌, List, [], Option, Some, None, option_map, ⊤}
use Rattle.br_model.specs.Text.{refused_line}
use Rattle.br_model.specs.BootstrapText.{LineFault}
use Rattle.br_model.specs.Meaning as model
use Rattle.br_model.specs.Refusal.{line_fault, piece_fault}
use Rattle.br_data.specs.declared.reread_fault.AgainFault.{AgainFault}
use Rattle.br_data.specs.declared.reread_fault.AgainFault.TheVariants as again
use Rattle.br_bsr.specs.Fault as bootstrap
use Rattle.br_match.specs.Fault as piece
use Rattle.br_match.specs.declared.fault.PieceFault.{PieceFault}
use Rattle.br_match.specs.declared.fault.PieceFault.TheVariants as variant
use Rattle.br_pool.specs.Fault as pool
use Rattle.br_pool.specs.declared.fault.PoolFault.{PoolFault}
use Rattle.br_pool.specs.declared.fault.PoolFault.TheVariants as of_pool
use Rattle.br_engine.specs.declared.fault.ExtractFault.{ExtractFault}
use Rattle.br_engine.specs.declared.fault.ExtractFault.TheVariants.{Memory, Bootstrap, Piece, Changed, Io, NoEnd}

-- the refused line of a bootstrap, or the fault of a piece
pub data Refusal : Type 0 where
  OfLine : LineFault → Refusal
  OfPiece : model.PieceFault → Refusal

-- The refusal that the bootstrap's text and the volumes decide. There is none if memory ran out, no
-- drive is left, a volume was changed, reading or writing failed, or the input has no end.
abbrev pub cause : ExtractFault → Option Refusal
cause Memory = None
cause (Bootstrap fault) = option_map OfLine (bootstrap.cause fault)
cause (Piece fault) = option_map OfPiece (pool.cause fault)
cause Changed = None
cause (Io fault) = None
cause (NoEnd turns) = None

-- the number of a refusal; a fault of reading or writing has none, and neither has an input without
-- an end
abbrev pub fault_number : ExtractFault → Option ℕ
fault_number Memory = Some 1
fault_number (Bootstrap fault) = Some (bootstrap.fault_number fault)
fault_number (Piece fault) = Some (pool.fault_number fault)
fault_number Changed = Some 72
fault_number (Io fault) = None
fault_number (NoEnd turns) = None

-- the line for a refused line of a bootstrap, or for memory that ran out
abbrev pub bootstrap_text : Option LineFault → List ℕ
bootstrap_text None = refused_line 1
bootstrap_text (Some fault) = line_fault fault

-- the line for a piece, or for memory that ran out
abbrev pub piece_text : PieceFault → List ℕ
piece_text variant.Memory = refused_line 1
piece_text (variant.Block why vol addr) = piece_fault (record { number = piece.cause_number why; volume = vol; address = addr })

-- the line for the pieces: that of the first that has a fault, or of the number alone
abbrev pub pool_text : PoolFault → List ℕ
pool_text of_pool.Memory = refused_line 1
pool_text (of_pool.Piece why) = piece_text why
pool_text of_pool.NoDriveLeft = refused_line 70

-- the line of a refusal; a fault of reading or writing has none, and neither has an input without
-- an end
abbrev pub fault_text : ExtractFault → List ℕ
fault_text Memory = refused_line 1
fault_text (Bootstrap fault) = bootstrap_text (bootstrap.cause fault)
fault_text (Piece fault) = pool_text fault
fault_text Changed = refused_line 72
fault_text (Io fault) = []
fault_text (NoEnd turns) = []

-- memory ran out, or reading or writing failed, which may happen at any time
abbrev pub IsFree : ExtractFault → Type 0
IsFree Memory = ⊤
IsFree (Bootstrap fault) = ⊥
IsFree (Piece fault) = ⊥
IsFree Changed = ⊥
IsFree (Io fault) = ⊤
IsFree (NoEnd turns) = ⊥

-- the fault of a restore if reading data again failed: memory ran out, no drive is left, or a
-- volume was changed
abbrev pub OfAgain : AgainFault → ExtractFault → Type 0
OfAgain again.Memory fault = fault ≡ Memory
OfAgain again.Failed fault = fault ≡ Piece of_pool.NoDriveLeft
OfAgain again.Changed fault = fault ≡ Changed

-- memory ran out, a volume was changed, or no drive is left that reads again
abbrev pub IsUnmade : ExtractFault → Type 0
IsUnmade Memory = ⊤
IsUnmade (Bootstrap fault) = ⊥
IsUnmade (Piece fault) = fault ≡ of_pool.NoDriveLeft
IsUnmade Changed = ⊤
IsUnmade (Io fault) = ⊥
IsUnmade (NoEnd turns) = ⊥

-- the text of a bootstrap was not read to its end: memory ran out, reading failed, or the input has
-- no end
abbrev pub IsUnread : ExtractFault → Type 0
IsUnread Memory = ⊤
IsUnread (Bootstrap fault) = ⊥
IsUnread (Piece fault) = ⊥
IsUnread Changed = ⊥
IsUnread (Io fault) = ⊤
IsUnread (NoEnd turns) = ⊤

-- an input is refused as one without an end only after 2^40 turns of reading
abbrev pub EndlessAfterAll : ExtractFault → Type 0
EndlessAfterAll Memory = ⊤
EndlessAfterAll (Bootstrap fault) = ⊤
EndlessAfterAll (Piece fault) = ⊤
EndlessAfterAll Changed = ⊤
EndlessAfterAll (Io fault) = ⊤
EndlessAfterAll (NoEnd turns) = turns ≡ 2 ^ 40

-- no line of a bootstrap was refused, and no input was without an end
abbrev pub IsNoLine : ExtractFault → Type 0
IsNoLine Memory = ⊤
IsNoLine (Bootstrap fault) = ⊥
IsNoLine (Piece fault) = ⊤
IsNoLine Changed = ⊤
IsNoLine (Io fault) = ⊤
IsNoLine (NoEnd turns) = ⊥

-- each drive failed
abbrev pub IsNoDriveLeft : ExtractFault → Type 0
IsNoDriveLeft fault = fault_number fault ≡ Some 70
