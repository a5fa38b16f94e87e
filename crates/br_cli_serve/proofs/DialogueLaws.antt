-- A dialogue and what follows it.
use Rattle.std.proofs.Common.{◌≡◌, ℕ, List, Option, Some, None, Result, Ok}
use Rattle.std.specs.Prelude.{MatchOption}
use Rattle.br_model.specs.Volume.{Volume}
use Rattle.br_model.specs.Choice.{Request}
use Rattle.br_keeper.specs.Sessions.{Known}
use Rattle.br_cli_serve.specs.ScriptRestoring.{ConversesIn, FinishesDialogue, HoldsDialogue}
use Rattle.br_cli_serve.specs.declared.script_fault.ScriptFault.{ScriptFault}
use Rattle.br_cli_serve.specs.declared.script_restores.Dialogue.{Dialogue}
use Rattle.br_cli_serve.specs.declared.script.ScriptEnd.{ScriptEnd}

-- a dialogue leaves volumes, drives and the end of the script to what follows it
pub held_by : (session : Option Known) (volumes shown : Option (List Volume)) (count drives : ℕ) (q : Request) (before middle after : Option (List ℕ))
    (was noted now : ScriptEnd) (result : Result (Unit {0}) ScriptFault) (dialogue : Dialogue) → shown ≡ volumes → drives ≡ count → noted ≡ was
    → MatchOption session ⊥ (λ s. ConversesIn before middle s q (Ok dialogue)) → FinishesDialogue shown drives middle after noted now result dialogue
    → MatchOption session ⊥ (λ s. HoldsDialogue volumes count s q before after was now result)
held_by None volumes shown count drives q before middle after was noted now result dialogue e f h over finishes = absurd over
held_by (Some s) volumes shown count drives q before middle after was noted now result dialogue e f h over finishes =
    (middle, Ok dialogue, over, rw (← e, ← f, ← h) finishes)
