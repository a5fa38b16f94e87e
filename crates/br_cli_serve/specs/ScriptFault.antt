-- Why a script was not read to its end, or its answers were not written.
use Rattle.std.specs.Prelude.{◌≡◌, ◌^◌, ⊤}
use Rattle.br_cli_serve.specs.declared.script_fault.ScriptFault.{ScriptFault}
use Rattle.br_cli_serve.specs.declared.script_fault.ScriptFault.TheVariants.{Io, NoEnd}

-- a script is refused as one without an end only after 2^40 turns of reading
abbrev pub EndlessAfterAll : ScriptFault → Type 0
EndlessAfterAll (Io fault) = ⊤
EndlessAfterAll (NoEnd turns) = turns ≡ 2 ^ 40
