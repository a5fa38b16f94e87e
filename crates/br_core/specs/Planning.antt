-- The effect of a script on a console over the view of the chosen jobs.
use Rattle.std.specs.Prelude.{ℕ, List, Result, Ok}
use Rattle.br_model.specs.Answer.{◌>>=◌}
use Rattle.br_model.specs.Job.{JobRows}
use Rattle.br_model.specs.Choice.{Request, choose}
use Rattle.br_model.specs.View.{view_of}
use Rattle.br_model.specs.Console.{Command, after_answer, apply, at_start, marks_after}
use Rattle.br_mark.specs.Seen.{Situation}

-- a console after a command; a refused command changes nothing
abbrev pub after_command : Situation → Command → Situation
after_command s command = record s { state = after_answer s.state (apply s.view s.state command) }

-- a console after a script
abbrev pub after_script : Situation → List Command → Situation
after_script s script = record s { state = marks_after s.view s.state script }

-- the console over the view of the chosen jobs, after a script from the start; or the refusal of
-- the choice
unfoldable pub console_after : List JobRows → Request → List Command → Result Situation ℕ
console_after history q script = do
  jobs ← choose history q
  Ok (record { view = view_of jobs; state = marks_after (view_of jobs) at_start script })
