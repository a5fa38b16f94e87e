-- A line that no job takes is one of the script.
use Rattle.std.proofs.Common.{◌≡◌, ◌∙◌, refl, subst, sym, ℕ, List, Option, None, Result}
use Rattle.std.specs.Prelude.{MatchOption}
use Rattle.br_model.specs.Job.{JobRows}
use Rattle.br_model.specs.Volume.{Volume}
use Rattle.br_volume.specs.Store.{Failures}
use Rattle.br_cli_serve.specs.ScriptJobs.{DraftTakes}
use Rattle.br_cli_serve.specs.ScriptObeying.{CarriesOut, TakesOutside}
use Rattle.br_cli_serve.specs.declared.script_fault.ScriptFault.{ScriptFault}
use Rattle.br_cli_serve.specs.declared.script.Script.{Script}

-- the line is carried out if it is taken outside of a job, and there is none
pub none_takes : {C V W : Type 0} (inserts refuses : JobRows → C → C → Type 0) (holds : V → Option (List Volume)) (failures : V → Failures)
    (contents : W → Option (List ℕ)) (old middle new : Script C V) (before after : W) (place : ℕ) (result : Result (Unit {0}) ScriptFault) (line : List ℕ)
    → middle ≡ record old { draft = None } → old.draft ≡ None → TakesOutside holds failures middle new (contents before) (contents after) place result line
    → CarriesOut inserts refuses holds failures contents old new before after place result line
none_takes {C} {V} inserts refuses holds failures contents old middle new before after place result line same none takes =
    let is : middle ≡ old = same ∙ subst (λ d. record old { draft = d } ≡ old) none refl in
    subst (λ d. MatchOption d (TakesOutside holds failures old new (contents before) (contents after) place result line)
    (λ d. DraftTakes inserts refuses holds failures contents old new before after place result line d))
    (sym none) (subst (λ (m : Script C V). TakesOutside holds failures m new (contents before) (contents after) place result line) is takes)
