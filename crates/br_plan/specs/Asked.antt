-- What a restore is made from: a history, and the request that chooses jobs of it.
use Rattle.std.specs.Prelude.{◌≡◌, true, ◌==◌, List, Result, IfOk}
use Rattle.std.specs.Borrow.{Bor}
use Rattle.std.specs.Global.{Vec}
use Rattle.br_model.specs.Job.{JobRows, no_pair}
use Rattle.br_model.specs.Choice.{Request}
use Rattle.br_choose.specs.Wanted.{Chooses, jobs_of}
use Rattle.br_choose.specs.declared.fault.ChooseFault.{ChooseFault}

pub record Asked : Type 0 where
  pub history : List JobRows
  pub request : Request

-- these are the jobs that the request chooses, no two of them with one number; or this is why it chooses none
abbrev pub AreChosen : List JobRows → Request → Result (Vec (Bor JobRows)) ChooseFault → Type 0
AreChosen history q chosen = Chooses history q chosen × IfOk chosen (λ jobs. no_pair (λ j k. j.row.id == k.row.id) (jobs_of jobs) ≡ true)
