-- The request that three texts state.
use Rattle.std.specs.Prelude.{ℕ, List, Option, Some, None, Result, Ok, Err}
use Rattle.br_model.specs.Answer.{◌>>=◌}
use Rattle.br_model.specs.Choice.{Request}
use Rattle.br_model.specs.Moment.{read_moment}
use Rattle.br_model.specs.Name.{checked_name}
use Rattle.br_plan.specs.declared.request_words.RequestFault.{RequestFault}
use Rattle.br_plan.specs.declared.request_words.RequestFault.TheVariants.{Memory, BadName, BadMoment}

-- the number of a refusal
abbrev pub fault_number : RequestFault → ℕ
fault_number Memory = 1
fault_number BadName = 2
fault_number BadMoment = 52

-- the refusal that the model decides; none if memory ran out
abbrev pub cause : RequestFault → Option ℕ
cause Memory = None
cause BadName = Some 2
cause BadMoment = Some 52

-- the request for a client's file set before a moment, or the first refusal of the three texts
unfoldable pub checked_request : List ℕ → List ℕ → List ℕ → Result Request ℕ
checked_request client fileset before =
    checked_name client
    >>= (λ c. checked_name fileset >>= (λ f. read_moment before >>= (λ m. Ok (record { client = c; fileset = f; moment = m }))))
