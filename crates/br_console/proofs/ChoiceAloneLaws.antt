-- A run depends on the choice alone.
use Rattle.std.proofs.Common.{◌≡◌, ℕ, Bool, List, Option, Some, None, Result, Ok, Err, if◌then◌else◌, refl, ap, ◌∙◌}
use Rattle.br_model.specs.Answer.{◌>>=◌}
use Rattle.br_model.specs.Job.{JobRows}
use Rattle.br_model.specs.Choice.{Request, choose}
use Rattle.br_model.specs.Console.{at_start, console_lines, dialogue, marks_at_done}
use Rattle.br_model.specs.Plan.{plan_groups, plan_names, plan_of, selection}
use Rattle.br_model.specs.Text.{is_empty}
use Rattle.br_model.specs.View.{view_of}
use Rattle.br_mark.specs.Seen.{Situation}
use Rattle.br_console.specs.Running.{begun, opening, with_console, with_marks, with_plan}
use Rattle.br_console.specs.Selecting.{RunsDependOnChoice}
use Rattle.br_console.specs.Talking.{are_answered}

module _ (history other : List JobRows) (q : Request) (same : choose other q ≡ choose history q) where
  opens_alike : opening other q ≡ opening history q
  unfolding opening
  opens_alike = ap (λ (r : Result (List JobRows) ℕ). r >>= λ jobs. Ok (record { view = view_of jobs; state = at_start })) same

  plans_alike : (marks : List (List ℕ)) → plan_of other q marks ≡ plan_of history q marks
  unfolding plan_of
  plans_alike marks =
      ap (λ (r : Result (List JobRows) ℕ). r >>= λ jobs.
      if is_empty (selection (view_of jobs) marks) then Err 51
      else Ok (record { groups = plan_groups (selection (view_of jobs) marks) jobs; names = plan_names (selection (view_of jobs) marks) })) same

  marks_alike : (text : List ℕ) (clean : Bool) (marks : Option (List (List ℕ))) → with_marks other q text clean marks ≡ with_marks history q text clean marks
  marks_alike text clean None = refl
  marks_alike text clean (Some marks) = ap (with_plan text clean) (plans_alike marks)

  console_alike : (lines : List (List ℕ)) (s : Result Situation ℕ) → with_console other q lines s ≡ with_console history q lines s
  console_alike lines (Ok s) = marks_alike (dialogue s.view s.state lines) (are_answered s.view s.state lines) (marks_at_done s.view s.state lines)
  console_alike lines (Err n) = refl

  begins_alike : (text : List ℕ) → begun other q text ≡ begun history q text
  unfolding begun
  begins_alike text = ap (with_console other q (console_lines text)) opens_alike ∙ console_alike (console_lines text) (opening history q)

pub runs_depend_on_choice_lem : RunsDependOnChoice
runs_depend_on_choice_lem history other q text same = begins_alike history other q same text
