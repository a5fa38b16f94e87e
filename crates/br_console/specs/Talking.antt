-- A console session: the effect of the lines of a text, up to the one that ends it, and what is
-- left after that line.
use Rattle.std.specs.Prelude.{◌≡◌, ℕ, zero, suc, Bool, true, not, ◌&&◌, List, [], ◌∷◌, is_some, is_err, Option, Some, None, Result, Ok, Err, ⊤, if◌then◌else◌}
use Rattle.std.specs.Io.KnownBytes.{Appends}
use Rattle.std.specs.declared.io.Read as read
use Rattle.std.specs.declared.io.Write as write
use Rattle.std.specs.Io.BufRead.{first_piece, drop_through}
use Rattle.br_model.specs.Text.{is_empty}
use Rattle.br_model.specs.View.{Entry}
use Rattle.br_model.specs.Console as model
use Rattle.br_model.specs.Console.{said, written, answer_of, after_answer, ends, console_lines, dialogue, marks_at_done}
use Rattle.br_mark.specs.Seen.{Situation}
use Rattle.br_console.specs.ConsoleFault.{WritesFront}
use Rattle.br_console.specs.declared.console_fault.ConsoleFault.{ConsoleFault}
use Rattle.br_console.specs.declared.reply.ConsoleReply.{ConsoleReply}
use Rattle.br_console.specs.declared.reply.ConsoleReply.TheVariants.{Text, Refused, Done, Quit}
use Rattle.br_console.specs.ConsoleEnding.{are_accepted, is_done}
use Rattle.br_console.specs.declared.ending.SessionOutcome.{SessionOutcome}

-- ---- the effect of the lines

-- whether none of the lines is refused, up to the one that ends the dialogue
unfoldable pub are_answered : List Entry → model.Console → List (List ℕ) → Bool
are_answered view c [] = true
are_answered view c (text ∷ more) =
    not (is_err (answer_of (said view c text)))
    && (if ends (answer_of (said view c text)) then true else are_answered view (after_answer c (said view c text)) more)

-- the console after the lines, up to the one that ends the dialogue
unfoldable pub console_after : List Entry → model.Console → List (List ℕ) → model.Console
console_after view c [] = c
console_after view c (text ∷ more) =
    if ends (answer_of (said view c text)) then after_answer c (said view c text)
    else console_after view (after_answer c (said view c text)) more

-- the number of lines that are used: all of them, or those up to the one that ends the dialogue
unfoldable pub lines_said : List Entry → model.Console → List (List ℕ) → ℕ
lines_said view c [] = 0
lines_said view c (text ∷ more) =
    suc (if ends (answer_of (said view c text)) then 0 else lines_said view (after_answer c (said view c text)) more)

-- what follows the first n lines of a text
unfoldable pub behind_lines : ℕ → List ℕ → List ℕ
behind_lines zero text = text
behind_lines (suc n) text = behind_lines n (drop_through 10 text)

-- what follows the line that ends the dialogue of a text; nothing if none does
abbrev pub left_unsaid : Situation → List ℕ → List ℕ
left_unsaid s text = behind_lines (lines_said s.view s.state (console_lines text)) text

-- ---- a session over a reader and a writer

-- The dialogue of the lines of a text was appended to what the writer held. It ended with `done` if
-- the lines reach it, and its lines were accepted if none was refused. The reader has left what
-- follows the line that ended it.
pub record IsSessionOf (text : List ℕ) (left before after : Option (List ℕ)) (s : Situation) (session : SessionOutcome) : Type 0 where
  pub written : Appends before after (dialogue s.view s.state (console_lines text))
  pub done : is_done session.end ≡ is_some (marks_at_done s.view s.state (console_lines text))
  pub clean : are_accepted session.lines ≡ are_answered s.view s.state (console_lines text)
  pub unsaid : left ≡ Some (left_unsaid s text)

-- If the reader reports its bytes, a session that did not fail is that of their lines. Of one that
-- failed, what was written is a beginning of its dialogue, unless reading or writing failed.
abbrev pub SessionOver : Option (List ℕ) → Option (List ℕ) → Option (List ℕ) → Option (List ℕ) → Situation → Result SessionOutcome ConsoleFault → Type 0
SessionOver (Some text) left before after s (Ok session) = IsSessionOf text left before after s session
SessionOver (Some text) left before after s (Err fault) = WritesFront before after (dialogue s.view s.state (console_lines text)) fault
SessionOver None left before after s result = ⊤

-- what a session changes: the bytes that the reader has left, and those that the writer holds
pub record Talk : Type 0 where
  pub known : Option (List ℕ)
  pub left : Option (List ℕ)
  pub before : Option (List ℕ)
  pub after : Option (List ℕ)

-- the same for a reader and a writer
abbrev pub talk : {R W : Type 0} → read.Ghosts R → write.Ghosts W → R × W → R × W → Talk
talk reader writer old new = record {
  known = reader.remaining old.0;
  left = reader.remaining new.0;
  before = writer.contents old.1;
  after = writer.contents new.1;
}

-- this holds of the session, as a contract states it
abbrev pub Converses : Talk → Situation → Result SessionOutcome ConsoleFault → Type 0
Converses talk s result = SessionOver talk.known talk.left talk.before talk.after s result

-- the marks of the console if the session ended with `done`
abbrev pub marks_told : SessionOutcome → model.Console → Option (List (List ℕ))
marks_told session c = if is_done session.end then Some c.marked else None

-- the console is as the lines of the text left it, and its marks are those at `done` if the lines
-- reach it
pub record IsLeftBy (text : List ℕ) (s t : Situation) (session : SessionOutcome) : Type 0 where
  pub state : t.state ≡ console_after s.view s.state (console_lines text)
  pub marks : marks_told session t.state ≡ marks_at_done s.view s.state (console_lines text)

-- if the reader reported its bytes, their lines left the console like this
abbrev pub LeavesOver : Option (List ℕ) → Situation → Situation → Result SessionOutcome ConsoleFault → Type 0
LeavesOver (Some text) s t (Ok session) = IsLeftBy text s t session
LeavesOver (Some text) s t (Err fault) = ⊤
LeavesOver None s t result = ⊤

-- ---- one line

-- If the reader reports its bytes, it lost those of the first line; this is that line without its
-- end. At the end of input there is none.
abbrev pub ReadsLine : Option (List ℕ) → Option (List ℕ) → List ℕ → Bool → Type 0
ReadsLine (Some text) left line is_line = (left ≡ Some (drop_through 10 text)) × (line ≡ first_piece 10 text) × (is_line ≡ not (is_empty text))
ReadsLine None left line is_line = ⊤

-- the answer or the refusal of a reply
abbrev pub replied : ConsoleReply → Result model.Answer ℕ
replied (Text text) = Ok (model.Text text.items)
replied (Refused number) = Err number
replied Done = Ok model.EndsDone
replied Quit = Ok model.EndsQuit
