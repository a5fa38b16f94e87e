-- A command of the program as one of the model.
use Rattle.std.specs.Prelude.{ℕ, List, Option, option_map}
use Rattle.std.specs.Global.{Vec}
use Rattle.br_model.specs.Console as model
use Rattle.br_mark.specs.declared.command.Command.{Command}
use Rattle.br_mark.specs.declared.command.Command.TheVariants.{Cd, Pwd, Ls, Mark, Unmark, MarkDir, UnmarkDir, Count, LsMark, Find, Estimate, Done, Quit}

-- the bytes of a text, if there is one
abbrev pub text_of : Option (Vec ℕ) → Option (List ℕ)
text_of o = option_map (λ (t : Vec ℕ). t.items) o

-- the command of the model
abbrev pub said : Command → model.Command
said (Cd way) = model.Cd way.items
said Pwd = model.Pwd
said (Ls pattern) = model.Ls (text_of pattern)
said (Mark pattern) = model.Mark pattern.items
said (Unmark pattern) = model.Unmark pattern.items
said (MarkDir pattern) = model.MarkDir (text_of pattern)
said (UnmarkDir pattern) = model.UnmarkDir (text_of pattern)
said Count = model.Count
said LsMark = model.LsMark
said (Find pattern) = model.Find pattern.items
said Estimate = model.Estimate
said Done = model.Done
said Quit = model.Quit
