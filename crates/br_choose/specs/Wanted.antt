-- Tests of one job, and the later of two jobs.
use Rattle.std.specs.Prelude.{ℕ, Bool, true, ◌&&◌, ◌==◌, nat_lt, if◌then◌else◌, List, ◌∷◌, ◌++◌, map, filter, option_to_list, Option, Some, None, Result}
use Rattle.std.specs.Borrow.{Bor}
use Rattle.std.specs.Global.{Vec}
use Rattle.br_model.specs.Answer.{Answers}
use Rattle.br_model.specs.Order.{in_order}
use Rattle.br_model.specs.Job.{JobRows}
use Rattle.br_model.specs.Choice.{Request, is_good, is_of_client, is_of_fileset, is_after, job_rank, choose}
use Rattle.br_choose.specs.Fault.{cause}
use Rattle.br_choose.specs.declared.fault.ChooseFault.{ChooseFault}

-- a good job of the client and the file set that began before the moment
abbrev pub is_candidate : Request → JobRows → Bool
is_candidate q j = is_good j && is_of_client q.client j && is_of_fileset q.fileset j && nat_lt j.row.start q.moment

-- whether the job comes after another, if there is one
abbrev pub comes_after : Option JobRows → JobRows → Bool
comes_after None j = true
comes_after (Some earlier) j = is_after earlier j

-- whether the job is a candidate of the level, and comes after another job, if there is one
abbrev pub is_wanted : Request → ℕ → Option JobRows → JobRows → Bool
is_wanted q level earlier j = is_candidate q j && (j.row.level == level) && comes_after earlier j

-- the wanted jobs of a level after another job, in order of rank
abbrev pub wanted_jobs : Request → ℕ → JobRows → List JobRows → List JobRows
wanted_jobs q level earlier jobs = in_order job_rank (filter (is_wanted q level (Some earlier)) jobs)

-- the jobs to which a vector points
abbrev pub jobs_of : Vec (Bor JobRows) → List JobRows
jobs_of jobs = map (λ (j : Bor JobRows). j.now) jobs.items

-- a Full, then a Differential, if there is one, then Incrementals
abbrev pub chain_of : JobRows → Option JobRows → List JobRows → List JobRows
chain_of full differential incrementals = full ∷ option_to_list differential ++ incrementals

-- the request for the state of a file set of a client before a moment
abbrev pub request_for : List ℕ → List ℕ → ℕ → Request
request_for client fileset moment = record { client = client; fileset = fileset; moment = moment }

-- the result is what the model chooses, or its refusal
abbrev pub Chooses : List JobRows → Request → Result (Vec (Bor JobRows)) ChooseFault → Type 0
Chooses history q result = Answers jobs_of cause result (choose history q)

-- the later of two jobs, the first if neither is
abbrev pub later : JobRows → JobRows → JobRows
later j k = if is_after j k then k else j
