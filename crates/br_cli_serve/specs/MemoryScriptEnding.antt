-- The end of a script.
use Rattle.std.specs.Prelude.{◌≡◌, ◌⊎◌, ℕ, Result, Ok, Err, IfOk}
use Rattle.br_cli_serve.specs.declared.script.ScriptEnd.{ScriptEnd}
use Rattle.br_cli_serve.specs.declared.script.ScriptEnd.TheVariants.{Clean, Refused}
use Rattle.br_cli_serve.specs.declared.script_fault.ScriptFault.{ScriptFault}

-- 0 if nothing was refused and every outcome was a file
abbrev pub script_status : ScriptEnd → ℕ
script_status Clean = 0
script_status Refused = 1

-- this is the exit status of a script with this end
abbrev pub IsStatusOf : Result ScriptEnd ScriptFault → ℕ → Type 0
IsStatusOf end status = (e : ScriptEnd) × (end ≡ Ok e) × (status ≡ script_status e)

-- this is an exit status of some script
abbrev pub IsStatus : ℕ → Type 0
IsStatus status = (status ≡ 0) ⊎ (status ≡ 1)

-- a status is kept, and an error is passed on or is a refusal
abbrev pub KeepsStatus : {E : Type 0} → Result ℕ E → Result ℕ E → Type 0
KeepsStatus (Ok status) result = result ≡ Ok status
KeepsStatus (Err why) result = IfOk result (λ status. status ≡ 1)
