-- A console and its answers as those of the model.
use Rattle.std.specs.Prelude.{ℕ, Bool, if◌then◌else◌, List, ◌∷◌, Option, Some, None, Result, Ok, Err}
use Rattle.br_model.specs.Text.{line, escaped}
use Rattle.br_model.specs.View.{Entry}
use Rattle.br_model.specs.Console as model
use Rattle.br_mark.specs.declared.answer.Answer.{Answer}
use Rattle.br_mark.specs.declared.answer.Answer.TheVariants.{Text, Done, Quit}

-- a view, and the state of the console over it
pub record Situation : Type 0 where
  pub view : List Entry
  pub state : model.Console

-- the answer of the model
abbrev pub answer_said : Answer → model.Answer
answer_said (Text text) = model.Text text.items
answer_said Done = model.EndsDone
answer_said Quit = model.EndsQuit

-- the answer with the number of paths that gained or lost a mark, or 57 if none was meant
abbrev pub count_answer : List ℕ → Option ℕ → Result model.Answer ℕ
count_answer word None = Err 57
count_answer word (Some n) = Ok (model.Text (model.count_line n word))

-- a name or a path after its sign
abbrev pub signed_line : List ℕ × ℕ → List ℕ
signed_line p = line (p.1 ∷ escaped p.0)

-- a star for a marked path, a space for any other
abbrev pub flag_sign : Bool → ℕ
flag_sign b = if b then 42 else 32

-- a path after the sign of its mark
abbrev pub flagged_line : List ℕ × Bool → List ℕ
flagged_line p = line (flag_sign p.1 ∷ escaped p.0)
