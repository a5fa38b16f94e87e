-- The effect of a command on a console: in a directory of a view with these marks.
use Rattle.std.specs.Prelude.{◌≡◌, ℕ, ◌++◌, codes, decimal, filter, flat_map, length, List, Result, Ok}
use Rattle.std.specs.Borrow.{Bor}
use Rattle.std.specs.Global.{Vec}
use Rattle.br_model.specs.Answer.{Answers}
use Rattle.br_model.specs.Text.{line, escaped}
use Rattle.br_model.specs.Console as model
use Rattle.br_view.specs.declared.entry.Entry as shown
use Rattle.br_tree.specs.declared.child.Child.{Child}
use Rattle.br_tree.specs.Marking.{Marking, console_at}
use Rattle.br_tree.specs.Seen.{seen_child}
use Rattle.br_mark.specs.Fault.{cause}
use Rattle.br_mark.specs.Seen.{Situation, answer_said, signed_line}
use Rattle.br_mark.specs.declared.answer.Answer.{Answer}
use Rattle.br_mark.specs.declared.fault.MarkFault.{MarkFault}

-- a command that changes marks leads from the first view with its marks to the second one, or is
-- refused as in the model
abbrev pub Applies : List ℕ → Marking → Marking → model.Command → Result Answer MarkFault → Type 0
Applies directory old new command result = Answers (λ (a : Answer). (console_at directory new, answer_said a)) cause result (model.apply old.view (console_at directory old) command)

-- a command that changes nothing shows the text
abbrev pub Says : List ℕ → Marking → model.Command → List ℕ → Type 0
Says directory m command text = model.apply m.view (console_at directory m) command ≡ Ok (model.says (console_at directory m) text)

-- a command that leads from the first directory to the second one shows its text, or is refused as
-- in the model
abbrev pub Goes : List ℕ → List ℕ → Marking → model.Command → Result (Vec ℕ) MarkFault → Type 0
Goes before after m command result = Answers (λ (t : Vec ℕ). model.says (console_at after m) t.items) cause result (model.apply m.view (console_at before m) command)

-- a pattern finds the lines of a text, or is refused as in the model
abbrev pub Finds : Situation → List ℕ → Result (Vec ℕ) MarkFault → Type 0
Finds s pattern result = Answers (λ (t : Vec ℕ). model.says s.state t.items) cause result (model.apply s.view s.state (model.Find pattern))

-- a command leads from the first situation to the state of the second one with its answer, or is
-- refused as in the model
abbrev pub Runs : Situation → Situation → model.Command → Result Answer MarkFault → Type 0
Runs old new command result = Answers (λ (a : Answer). (new.state, answer_said a)) cause result (model.apply old.view old.state command)

-- a line for each child, its name after its sign
abbrev pub child_lines : List Child → List ℕ
child_lines children = flat_map (λ (c : Child). signed_line (seen_child c)) children

-- the children whose names match
abbrev pub matching_children : List ℕ → List Child → List Child
matching_children pattern children = filter (λ (c : Child). model.matches pattern (model.bare c.name.now)) children

-- a line for each path that begins with a directory
abbrev pub lines_within : List ℕ → List (Bor (List ℕ) × shown.Entry) → List ℕ
lines_within directory entries =
    flat_map (λ (e : Bor (List ℕ) × shown.Entry). line (escaped e.0.now)) (filter (λ (e : Bor (List ℕ) × shown.Entry). model.begins_with e.0.now directory) entries)

-- the line for the number of paths, and of those that are marked
abbrev pub count_shown : Marking → List ℕ
count_shown m = line (decimal (length m.view) ++ codes " paths, " ++ decimal (length m.marked) ++ codes " marked")

-- the line for the number of marked paths, and of the bytes of their files
abbrev pub estimate_shown : Marking → List ℕ
estimate_shown m = line (decimal (length m.marked) ++ codes " marked, " ++ decimal (model.marked_bytes m.view m.marked) ++ codes " bytes")
