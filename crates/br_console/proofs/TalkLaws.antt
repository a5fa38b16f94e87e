-- A session line after line: what was written and what is left give the whole.
use Rattle.std.proofs.Common.{◌≡◌, ℕ, suc, ◌-◌, ◌<◌, Bool, true, false, not, cond, ◌&&◌, List, [], ◌∷◌, ◌++◌, length, take, filter, Option, Some, None, Result, Ok, Err, ne_eqb, lt-ltb, refl, ap, sym, subst, ◌∙◌, append_assoc, arith}
use Rattle.std.proofs.lemmas.List.{append-nil}
use Rattle.std.proofs.lemmas.List.Splits.{length-slice_split}
use Rattle.std.specs.Prelude.{is_some, is_err, ◌==◌, slice_index, nat_lt, flat_map, ⊤}
use Rattle.std.specs.List.{slice_split, onto_first}
use Rattle.std.specs.Io.KnownBytes.{Appends}
use Rattle.std.specs.Io.BufRead.{take_through, drop_through, strip_last, first_piece}
use Rattle.std.specs.declared.io.Error.{Error}
use Rattle.br_data.specs.BodyWritten.{AppendsFront}
use Rattle.br_model.specs.Answer.{◌>>=◌, refuse_if}
use Rattle.br_model.specs.Text.{is_empty}
use Rattle.br_model.specs.View.{Entry, view_paths}
use Rattle.br_model.specs.Console as model
use Rattle.br_model.specs.Console.{apply, read_command, resolve, is_directory_of, cwd_line, some_of, matching, matches, last_component, says, child_line, found_line, meant, meant_directories, with_marks, without_marks, without_empty_end, console_lines, said, written, answer_of, after_answer, ends, ends_done, dialogue, marks_at_done}
use Rattle.br_model.proofs.AnswerLaws.{bind_ok, refuse_ok, ok_is}
use Rattle.br_mark.specs.Seen.{Situation}
use Rattle.br_console.specs.ConsoleFault.{WritesFront}
use Rattle.br_console.specs.Talking.{are_answered, console_after, lines_said, behind_lines, left_unsaid, SessionOver, marks_told, LeavesOver, ReadsLine}
use Rattle.br_console.specs.ConsoleEnding.{are_accepted, is_done}
use Rattle.br_console.specs.declared.console_fault.ConsoleFault.{ConsoleFault}
use Rattle.br_console.specs.declared.console_fault.ConsoleFault.TheVariants as fault
use Rattle.br_console.specs.declared.ending.SessionOutcome.{SessionOutcome}

-- ---- the first line of a text

-- whether a byte is a line feed
abbrev is_feed : ℕ → Bool
is_feed c = c == 10

parts_of : (text : List ℕ) → 0 < length (slice_split is_feed text)
parts_of text = omega (arith, length-slice_split is_feed text)

-- an empty first part stays, if there is one after it
empty_first : (parts : List (List ℕ)) → 0 < length parts → without_empty_end ([] ∷ parts) ≡ [] ∷ without_empty_end parts
empty_first [] some = absurd (omega arith)
empty_first (p ∷ ps) some = refl

is_filled : (p : ℕ) (ps : List ℕ) → is_empty (p ∷ ps) ≡ false
is_filled p ps = ne_eqb (length (p ∷ ps)) 0 (λ e. omega (arith, e))

untrue : true ≡ false → ⊥
untrue h = cc

-- a byte before the first line
longer_first : (x : ℕ) (parts : List (List ℕ)) (a : List ℕ) (more : List (List ℕ)) → without_empty_end parts ≡ a ∷ more → without_empty_end (onto_first x parts) ≡ (x ∷ a) ∷ more
longer_first x [] a more e = absurd cc
longer_first x ([] ∷ []) a more e = absurd cc
longer_first x ((p ∷ ps) ∷ []) a more e =
    ap (λ b. cond b [] ((x ∷ p ∷ ps) ∷ [])) (is_filled x (p ∷ ps))
    ∙ go (sym (ap (λ b. cond b [] ((p ∷ ps) ∷ [])) (is_filled p ps)) ∙ e)
  where
    go : (p ∷ ps) ∷ [] ≡ a ∷ more → (x ∷ p ∷ ps) ∷ [] ≡ (x ∷ a) ∷ more
    go h = cc
longer_first x (p ∷ q ∷ ps) a more e = cc

strip_more : (x y : ℕ) (t : List ℕ) → strip_last 10 (x ∷ y ∷ t) ≡ x ∷ strip_last 10 (y ∷ t)
strip_more x y t =
    let e : length (x ∷ y ∷ t) - 1 ≡ suc (length (y ∷ t) - 1) = omega arith in
    rw e
    (go (nat_lt 0 (length (x ∷ y ∷ t))) (nat_lt 0 (length (y ∷ t))) (slice_index (y ∷ t) (length (y ∷ t) - 1) == 10)
    (lt-ltb 0 (length (x ∷ y ∷ t)) (omega arith)) (lt-ltb 0 (length (y ∷ t)) (omega arith)))
  where
    go : (p q b : Bool) → p ≡ true → q ≡ true
        → cond (p && b) (x ∷ take (length (y ∷ t) - 1) (y ∷ t)) (x ∷ y ∷ t) ≡ x ∷ cond (q && b) (take (length (y ∷ t) - 1) (y ∷ t)) (y ∷ t)
    go true true true u v = refl
    go true true false u v = refl
    go true false b u v = absurd (untrue (sym v))
    go false q b u v = absurd (untrue (sym u))

strip_taken : (x y : ℕ) (ys : List ℕ) → strip_last 10 (x ∷ take_through 10 (y ∷ ys)) ≡ x ∷ strip_last 10 (take_through 10 (y ∷ ys))
strip_taken x y ys = go (y == 10)
  where
    go : (b : Bool) → strip_last 10 (x ∷ cond b (y ∷ []) (y ∷ take_through 10 ys)) ≡ x ∷ strip_last 10 (cond b (y ∷ []) (y ∷ take_through 10 ys))
    go true = strip_more x y []
    go false = strip_more x y (take_through 10 ys)

-- a line feed is an empty line
nothing_taken : (x : ℕ) (xs : List ℕ) → is_feed x ≡ true → first_piece 10 (x ∷ xs) ≡ []
nothing_taken x xs e = ap (λ b. strip_last 10 (cond b (x ∷ []) (x ∷ take_through 10 xs))) e ∙ ap (λ b. cond b [] (x ∷ [])) e

-- a text that is not empty is its first line before the other lines
pub first_of_lines : (x : ℕ) (xs : List ℕ) → console_lines (x ∷ xs) ≡ first_piece 10 (x ∷ xs) ∷ console_lines (drop_through 10 (x ∷ xs))
unfolding console_lines
first_of_lines x [] =
    lines (is_feed x)
    ∙ ap (λ l. l ∷ []) (sym (ap (strip_last 10) (taken (is_feed x))))
    ∙ ap (λ l. first_piece 10 (x ∷ []) ∷ console_lines l) (sym (dropped (is_feed x)))
  where
    taken : (b : Bool) → cond b (x ∷ []) (x ∷ []) ≡ x ∷ []
    taken true = refl
    taken false = refl

    dropped : (b : Bool) → cond {A = List ℕ} b [] [] ≡ []
    dropped true = refl
    dropped false = refl

    lines : (b : Bool) → without_empty_end (cond b ([] ∷ [] ∷ []) ((x ∷ []) ∷ [])) ≡ cond b [] (x ∷ []) ∷ []
    lines true = refl
    lines false = refl
first_of_lines x (y ∷ ys) = go (is_feed x) refl (first_of_lines y ys)
  where
    go : (b : Bool) → is_feed x ≡ b → console_lines (y ∷ ys) ≡ first_piece 10 (y ∷ ys) ∷ console_lines (drop_through 10 (y ∷ ys))
        → console_lines (x ∷ y ∷ ys) ≡ first_piece 10 (x ∷ y ∷ ys) ∷ console_lines (drop_through 10 (x ∷ y ∷ ys))
    go true e more =
        ap (λ b. without_empty_end (cond b ([] ∷ slice_split is_feed (y ∷ ys)) (onto_first x (slice_split is_feed (y ∷ ys))))) e
        ∙ empty_first (slice_split is_feed (y ∷ ys)) (parts_of (y ∷ ys))
        ∙ ap (λ l. l ∷ console_lines (y ∷ ys)) (sym (nothing_taken x (y ∷ ys) e))
        ∙ ap (λ b. first_piece 10 (x ∷ y ∷ ys) ∷ console_lines (cond b (y ∷ ys) (drop_through 10 (y ∷ ys)))) (sym e)
    go false e more =
        rw e
        (longer_first x (slice_split is_feed (y ∷ ys)) (first_piece 10 (y ∷ ys)) (console_lines (drop_through 10 (y ∷ ys))) more
        ∙ ap (λ l. l ∷ console_lines (drop_through 10 (y ∷ ys))) (sym (strip_taken x y ys)))

and_more : (a b c : Bool) → (a && (b && c)) ≡ ((a && b) && c)
and_more true b c = refl
and_more false b c = refl

and_true : (a : Bool) → (a && true) ≡ a
and_true true = refl
and_true false = refl

-- what goes on is not done
goes_on : (r : Result model.Answer ℕ) → ends r ≡ false → ends_done r ≡ false
goes_on (Ok (model.Text text)) e = refl
goes_on (Ok model.EndsDone) e = absurd cc
goes_on (Ok model.EndsQuit) e = absurd cc
goes_on (Err n) e = refl

-- ---- what ends a session leaves the console as it was

-- a command that answers with a text does not end
no_end : (c : model.Console) (s r : model.Console × model.Answer) → ◌≡◌ {A = Result (model.Console × model.Answer) ℕ} (Ok s) (Ok r) → ends (Ok s.1) ≡ false → ends (Ok r.1) ≡ true
    → r.0 ≡ c
no_end c s r e on off = absurd (untrue (sym off ∙ ap (λ (p : model.Console × model.Answer). ends (Ok p.1)) (sym (ok_is s r e)) ∙ on))

-- the same of one that first finds something
none_ends : {A : Type 0} (c : model.Console) (found : Result A ℕ) (next : A → model.Console × model.Answer) (r : model.Console × model.Answer) → (found >>= λ x. Ok (next x)) ≡ Ok r
    → ((x : A) → ends (Ok (next x).1) ≡ false) → ends (Ok r.1) ≡ true → r.0 ≡ c
none_ends {A} c found next r e on off =
    let x = bind_ok found (λ (x : A). Ok (next x)) r e in
    no_end c (next x.0) r x.2 (on x.0) off

-- so a command that ends leaves the console
command_stays : (view : List Entry) (c : model.Console) (command : model.Command) (r : model.Console × model.Answer) → apply view c command ≡ Ok r → ends (Ok r.1) ≡ true → r.0 ≡ c
unfolding apply
command_stays view c (model.Cd way) r e off =
    let to = bind_ok (resolve c.directory way) (λ directory. refuse_if (not (is_directory_of (view_paths view) directory)) 56 >>= λ done. Ok (record c { directory = directory }, model.Text (cwd_line directory))) r e in
    let there = refuse_ok (not (is_directory_of (view_paths view) to.0)) 56 (λ done. Ok (record c { directory = to.0 }, model.Text (cwd_line to.0))) r to.2 in
    no_end c (record c { directory = to.0 }, model.Text (cwd_line to.0)) r there.1 refl off
command_stays view c model.Pwd r e off = no_end c _ r e refl off
command_stays view c (model.Ls None) r e off = no_end c _ r e refl off
command_stays view c (model.Ls (Some pattern)) r e off =
    none_ends c (some_of (matching (view_paths view) c.directory pattern)) (λ names. says c (flat_map (child_line c) names)) r e (λ names. refl) off
command_stays view c (model.Mark pattern) r e off = none_ends c (meant (view_paths view) c.directory pattern) (with_marks c) r e (λ paths. refl) off
command_stays view c (model.Unmark pattern) r e off = none_ends c (meant (view_paths view) c.directory pattern) (without_marks c) r e (λ paths. refl) off
command_stays view c (model.MarkDir pattern) r e off = none_ends c (meant_directories (view_paths view) c.directory pattern) (with_marks c) r e (λ paths. refl) off
command_stays view c (model.UnmarkDir pattern) r e off = none_ends c (meant_directories (view_paths view) c.directory pattern) (without_marks c) r e (λ paths. refl) off
command_stays view c model.Count r e off = no_end c _ r e refl off
command_stays view c model.LsMark r e off = no_end c _ r e refl off
command_stays view c (model.Find pattern) r e off =
    none_ends c (some_of (filter (λ path. matches pattern (last_component path)) (view_paths view))) (λ paths. says c (flat_map (found_line c) paths)) r e (λ paths. refl) off
command_stays view c model.Estimate r e off = no_end c _ r e refl off
command_stays view c model.Done r e off = sym (ap (λ (p : model.Console × model.Answer). p.0) (ok_is (c, model.EndsDone) r e))
command_stays view c model.Quit r e off = sym (ap (λ (p : model.Console × model.Answer). p.0) (ok_is (c, model.EndsQuit) r e))

-- and a line does
end_stays : (view : List Entry) (c : model.Console) (line : List ℕ) → ends (answer_of (said view c line)) ≡ true → after_answer c (said view c line) ≡ c
end_stays view c line = read (read_command line)
  where
    applied : (command : model.Command) (a : Result (model.Console × model.Answer) ℕ) → apply view c command ≡ a → ends (answer_of a) ≡ true → after_answer c a ≡ c
    applied command (Ok r) e off = command_stays view c command r e off
    applied command (Err n) e off = refl

    read : (a : Result model.Command ℕ) → ends (answer_of (a >>= apply view c)) ≡ true → after_answer c (a >>= apply view c) ≡ c
    read (Ok command) off = applied command (apply view c command) refl off
    read (Err n) off = refl

-- ---- one line

-- a line was said, and is answered by r
pub record Says (t u : Situation) (line : List ℕ) (r : Result model.Answer ℕ) : Type 0 where
  pub reply : r ≡ answer_of (said t.view t.state line)
  pub state : u.state ≡ after_answer t.state (said t.view t.state line)
  pub view : u.view ≡ t.view

dialogue_on : (t u : Situation) (line : List ℕ) (more : List (List ℕ)) (r : Result model.Answer ℕ) → Says t u line r → ends r ≡ false
    → dialogue t.view t.state (line ∷ more) ≡ written r ++ dialogue u.view u.state more
unfolding dialogue
dialogue_on t u line more r is_said on = rw (is_said.view, is_said.state, ← is_said.reply, on) refl

dialogue_ends : (t u : Situation) (line : List ℕ) (more : List (List ℕ)) (r : Result model.Answer ℕ) → Says t u line r → ends r ≡ true
    → dialogue t.view t.state (line ∷ more) ≡ written r
unfolding dialogue
dialogue_ends t u line more r is_said on = rw (← is_said.reply, on) (append-nil (written r))

marks_on : (t u : Situation) (line : List ℕ) (more : List (List ℕ)) (r : Result model.Answer ℕ) → Says t u line r → ends r ≡ false
    → marks_at_done t.view t.state (line ∷ more) ≡ marks_at_done u.view u.state more
unfolding marks_at_done
marks_on t u line more r is_said on = rw (is_said.view, is_said.state, ← is_said.reply, on, goes_on r on) refl

answered_on : (t u : Situation) (line : List ℕ) (more : List (List ℕ)) (r : Result model.Answer ℕ) → Says t u line r → ends r ≡ false
    → are_answered t.view t.state (line ∷ more) ≡ not (is_err r) && are_answered u.view u.state more
unfolding are_answered
answered_on t u line more r is_said on = rw (is_said.view, is_said.state, ← is_said.reply, on) refl

state_on : (t u : Situation) (line : List ℕ) (more : List (List ℕ)) (r : Result model.Answer ℕ) → Says t u line r → ends r ≡ false
    → console_after t.view t.state (line ∷ more) ≡ console_after u.view u.state more
unfolding console_after
state_on t u line more r is_said on = rw (is_said.view, is_said.state, ← is_said.reply, on) refl

said_on : (t u : Situation) (line : List ℕ) (more : List (List ℕ)) (r : Result model.Answer ℕ) → Says t u line r → ends r ≡ false
    → lines_said t.view t.state (line ∷ more) ≡ suc (lines_said u.view u.state more)
unfolding lines_said
said_on t u line more r is_said on = rw (is_said.view, is_said.state, ← is_said.reply, on) refl

marks_end : (t u : Situation) (line : List ℕ) (more : List (List ℕ)) (r : Result model.Answer ℕ) → Says t u line r → ends r ≡ true
    → marks_at_done t.view t.state (line ∷ more) ≡ cond (ends_done r) (Some t.state.marked) None
unfolding marks_at_done
marks_end t u line more r is_said off = rw (← is_said.reply, off) refl

answered_end : (t u : Situation) (line : List ℕ) (more : List (List ℕ)) (r : Result model.Answer ℕ) → Says t u line r → ends r ≡ true
    → are_answered t.view t.state (line ∷ more) ≡ not (is_err r)
unfolding are_answered
answered_end t u line more r is_said off = rw (← is_said.reply, off) (and_true (not (is_err r)))

state_end : (t u : Situation) (line : List ℕ) (more : List (List ℕ)) (r : Result model.Answer ℕ) → Says t u line r → ends r ≡ true
    → console_after t.view t.state (line ∷ more) ≡ u.state
unfolding console_after
state_end t u line more r is_said off = rw (is_said.state, ← is_said.reply, off) refl

said_end : (t u : Situation) (line : List ℕ) (more : List (List ℕ)) (r : Result model.Answer ℕ) → Says t u line r → ends r ≡ true
    → lines_said t.view t.state (line ∷ more) ≡ 1
unfolding lines_said
said_end t u line more r is_said off = rw (← is_said.reply, off) refl

-- ---- line after line

-- What was written so far, and the effect of the lines that are left, are the effect of the whole
-- text.
pub record IsSoFar (text left : List ℕ) (before now : Option (List ℕ)) (s t : Situation) (clean : Bool) : Type 0 where
  pub shown : List ℕ
  pub appended : Appends before now shown
  pub written_whole : dialogue s.view s.state (console_lines text) ≡ shown ++ dialogue t.view t.state (console_lines left)
  pub marks : marks_at_done s.view s.state (console_lines text) ≡ marks_at_done t.view t.state (console_lines left)
  pub answered : are_answered s.view s.state (console_lines text) ≡ (clean && are_answered t.view t.state (console_lines left))
  pub state : console_after s.view s.state (console_lines text) ≡ console_after t.view t.state (console_lines left)
  pub unsaid : left_unsaid s text ≡ left_unsaid t left

-- the same if the reader reports its bytes
abbrev pub SoFar : Option (List ℕ) → Option (List ℕ) → Option (List ℕ) → Option (List ℕ) → Situation → Situation → Bool → Type 0
SoFar (Some text) (Some left) before now s t clean = IsSoFar text left before now s t clean
SoFar (Some text) None before now s t clean = ⊥
SoFar None left before now s t clean = ⊤

appends_more : (before now next : Option (List ℕ)) (xs ys : List ℕ) → Appends before now xs → Appends now next ys → Appends before next (xs ++ ys)
appends_more None now next xs ys p q = tt
appends_more (Some b) None next xs ys p q = absurd p
appends_more (Some b) (Some n) None xs ys p q = absurd q
appends_more (Some b) (Some n) (Some m) xs ys p q = q ∙ ap (λ l. l ++ ys) p ∙ append_assoc b xs ys

-- a line was read and said, and what it is answered was written
pub record IsTurn (left later now next : Option (List ℕ)) (t u : Situation) (r : Result model.Answer ℕ) : Type 0 where
  pub line : List ℕ
  pub reads : ReadsLine left later line true
  pub is_said : Says t u line r
  pub shows : Appends now next (written r)

-- from what each step of it says
pub turn : (left later now next : Option (List ℕ)) (t u : Situation) (r : Result model.Answer ℕ) (line heard text told : List ℕ) (is_line : Bool)
    → ReadsLine left later line is_line → is_line ≡ true → heard ≡ line
    → r ≡ answer_of (said t.view t.state heard) → u.state ≡ after_answer t.state (said t.view t.state heard) → u.view ≡ t.view
    → text ≡ written r → told ≡ text → Appends now next told → IsTurn left later now next t u r
turn left later now next t u r line heard text told is_line reads is same reply state view writes tells shows = record {
  line = heard;
  reads = subst (λ (l : List ℕ). ReadsLine left later l true) (sym same) (subst (λ (b : Bool). ReadsLine left later line b) is reads);
  is_said = record { reply = reply; state = state; view = view };
  shows = subst (λ (l : List ℕ). Appends now next l) (tells ∙ writes) shows;
}

-- a line that does not end the session
pub one_more : (known left later before now next : Option (List ℕ)) (s t u : Situation) (clean after : Bool) (r : Result model.Answer ℕ)
    → SoFar known left before now s t clean → IsTurn left later now next t u r → ends r ≡ false → after ≡ (clean && not (is_err r))
    → SoFar known later before next s u after
unfolding behind_lines
one_more None left later before now next s t u clean after r so_far turn on is_clean = tt
one_more (Some text) None later before now next s t u clean after r so_far turn on is_clean = absurd so_far
one_more (Some text) (Some []) later before now next s t u clean after r so_far turn on is_clean = absurd (untrue turn.reads.2)
one_more (Some text) (Some (x ∷ xs)) later before now next s t u clean after r so_far turn on is_clean =
    let line = turn.line in
    let is_said = turn.is_said in
    let rest = drop_through 10 (x ∷ xs) in
    let more = console_lines rest in
    let parts : console_lines (x ∷ xs) ≡ line ∷ more = first_of_lines x xs ∙ ap (λ l. l ∷ more) (sym turn.reads.1) in
    subst (λ (o : Option (List ℕ)). SoFar (Some text) o before next s u after) (sym turn.reads.0)
    (record {
      shown = so_far.shown ++ written r;
      appended = appends_more before now next so_far.shown (written r) so_far.appended turn.shows;
      written_whole =
          so_far.written_whole ∙ ap (λ d. so_far.shown ++ d) (ap (dialogue t.view t.state) parts ∙ dialogue_on t u line more r is_said on)
          ∙ sym (append_assoc so_far.shown (written r) (dialogue u.view u.state more));
      marks = so_far.marks ∙ ap (marks_at_done t.view t.state) parts ∙ marks_on t u line more r is_said on;
      answered =
          so_far.answered ∙ ap (λ b. clean && b) (ap (are_answered t.view t.state) parts ∙ answered_on t u line more r is_said on)
          ∙ and_more clean (not (is_err r)) (are_answered u.view u.state more)
          ∙ ap (λ b. b && are_answered u.view u.state more) (sym is_clean);
      state = so_far.state ∙ ap (console_after t.view t.state) parts ∙ state_on t u line more r is_said on;
      unsaid = so_far.unsaid ∙ ap (λ n. behind_lines n (x ∷ xs)) (ap (lines_said t.view t.state) parts ∙ said_on t u line more r is_said on);
    })

-- the lines came to their end
pub none_left : (known left later before now : Option (List ℕ)) (s t : Situation) (session : SessionOutcome) (line : List ℕ) (is_line : Bool)
    → SoFar known left before now s t (are_accepted session.lines) → ReadsLine left later line is_line → is_line ≡ false → is_done session.end ≡ false
    → SessionOver known later before now s (Ok session) × LeavesOver known s t (Ok session)
unfolding console_lines dialogue marks_at_done are_answered console_after lines_said behind_lines
none_left None left later before now s t session line is_line so_far reads last undone = (tt, tt)
none_left (Some text) None later before now s t session line is_line so_far reads last undone = absurd so_far
none_left (Some text) (Some (x ∷ xs)) later before now s t session line is_line so_far reads last undone =
    absurd (untrue (sym (reads.2 ∙ ap not (is_filled x xs)) ∙ last))
none_left (Some text) (Some []) later before now s t session line is_line so_far reads last undone = (
  record {
    written = subst (λ l. Appends before now l) (sym (so_far.written_whole ∙ append-nil so_far.shown)) so_far.appended;
    done = undone ∙ sym (ap is_some so_far.marks);
    clean = sym (so_far.answered ∙ and_true (are_accepted session.lines));
    unsaid = reads.0 ∙ ap Some (sym so_far.unsaid);
  },
  record {
    state = sym so_far.state;
    marks = ap (λ b. cond b (Some t.state.marked) None) undone ∙ sym so_far.marks;
  },
)

-- the session was broken off, and what was written so far begins its dialogue
pub broken_off : (known left later before now : Option (List ℕ)) (s t : Situation) (clean : Bool) (why : ConsoleFault) → SoFar known left before now s t clean
    → SessionOver known later before now s (Err why)
broken_off None left later before now s t clean why so_far = tt
broken_off (Some text) None later before now s t clean why so_far = absurd so_far
broken_off (Some text) (Some rest) later before now s t clean why so_far = go why
  where
    front : AppendsFront before now (dialogue s.view s.state (console_lines text))
    front = (so_far.shown, dialogue t.view t.state (console_lines rest), sym so_far.written_whole, so_far.appended)

    go : (w : ConsoleFault) → WritesFront before now (dialogue s.view s.state (console_lines text)) w
    go fault.Memory = front
    go (fault.Plan e) = front
    go (fault.Piece e) = front
    go fault.Changed = front
    go (fault.Io e) = tt
    go (fault.NoEnd turns) = front

-- a fault of writing says nothing of what was written
pub failed_write : (known later before now : Option (List ℕ)) (s : Situation) (why : ConsoleFault) (error : Error) → why ≡ fault.Io error
    → SessionOver known later before now s (Err why)
failed_write None later before now s why error is = tt
failed_write (Some text) later before now s why error is = rw is tt

option_of : (b : Bool) (marks : List (List ℕ)) → is_some (cond b (Some marks) None) ≡ b
option_of true marks = refl
option_of false marks = refl

-- a line ended the session
pub one_ends : (known left later before now next : Option (List ℕ)) (s t u : Situation) (clean : Bool) (session : SessionOutcome) (r : Result model.Answer ℕ)
    → SoFar known left before now s t clean → IsTurn left later now next t u r → ends r ≡ true
    → is_done session.end ≡ ends_done r → are_accepted session.lines ≡ (clean && not (is_err r))
    → SessionOver known later before next s (Ok session) × LeavesOver known s u (Ok session)
unfolding behind_lines
one_ends None left later before now next s t u clean session r so_far turn off done is_clean = (tt, tt)
one_ends (Some text) None later before now next s t u clean session r so_far turn off done is_clean = absurd so_far
one_ends (Some text) (Some []) later before now next s t u clean session r so_far turn off done is_clean = absurd (untrue turn.reads.2)
one_ends (Some text) (Some (x ∷ xs)) later before now next s t u clean session r so_far turn off done is_clean =
    let line = turn.line in
    let is_said = turn.is_said in
    let more = console_lines (drop_through 10 (x ∷ xs)) in
    let parts : console_lines (x ∷ xs) ≡ line ∷ more = first_of_lines x xs ∙ ap (λ l. l ∷ more) (sym turn.reads.1) in
    let marks : marks_at_done s.view s.state (console_lines text) ≡ cond (ends_done r) (Some t.state.marked) None =
    so_far.marks ∙ ap (marks_at_done t.view t.state) parts ∙ marks_end t u line more r is_said off in
    let kept : u.state ≡ t.state = is_said.state ∙ end_stays t.view t.state line (ap ends (sym is_said.reply) ∙ off) in (
      record {
        written =
            subst (λ (l : List ℕ). Appends before next l)
            (sym (so_far.written_whole ∙ ap (λ d. so_far.shown ++ d) (ap (dialogue t.view t.state) parts ∙ dialogue_ends t u line more r is_said off)))
            (appends_more before now next so_far.shown (written r) so_far.appended turn.shows);
        done = done ∙ sym (ap is_some marks ∙ option_of (ends_done r) t.state.marked);
        clean = is_clean ∙ sym (so_far.answered ∙ ap (λ b. clean && b) (ap (are_answered t.view t.state) parts ∙ answered_end t u line more r is_said off));
        unsaid =
            turn.reads.0 ∙ ap Some (sym (so_far.unsaid ∙ ap (λ n. behind_lines n (x ∷ xs)) (ap (lines_said t.view t.state) parts ∙ said_end t u line more r is_said off)));
      },
      record {
        state = sym (so_far.state ∙ ap (console_after t.view t.state) parts ∙ state_end t u line more r is_said off);
        marks = ap (λ (c : model.Console). marks_told session c) kept ∙ ap (λ b. cond b (Some t.state.marked) None) done ∙ sym marks;
      },
    )
