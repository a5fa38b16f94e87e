-- A run of the console step by step: what each step says of the whole.
use Rattle.std.proofs.Common.{◌≡◌, ℕ, Bool, true, false, cond, List, [], ◌++◌, MatchOption, Option, Some, None, Result, Ok, Err, refl, ap, sym, subst, ◌∙◌, append_assoc, append-nil, arith}
use Rattle.std.specs.Prelude.{option_map, ⊤}
use Rattle.std.specs.Io.KnownBytes.{Appends, Keeps}
use Rattle.std.proofs.KnownBytes.{Appends-nil, Appends-trans, Appends-kept}
use Rattle.br_data.specs.BodyWritten.{AppendsFront}
use Rattle.br_model.specs.Answer.{IsRefusal, refused_as}
use Rattle.br_model.specs.Volume.{Volume}
use Rattle.br_model.specs.Bootstrap.{Group, canonical}
use Rattle.br_model.specs.Meaning as model
use Rattle.br_model.specs.Meaning.{pieces_of}
use Rattle.br_model.specs.Restored.{Names, Planned, Restored, planned_in}
use Rattle.br_model.specs.Manifest.{manifest}
use Rattle.br_model.specs.Job.{JobRows}
use Rattle.br_model.specs.Choice.{Request, choose}
use Rattle.br_model.specs.View.{Entry, view_of}
use Rattle.br_model.specs.Console.{root, at_start, console_lines, dialogue, marks_at_done}
use Rattle.br_model.specs.Plan.{Plan, plan_of}
use Rattle.br_choose.specs.Fault as choice
use Rattle.br_choose.specs.declared.fault.ChooseFault.{ChooseFault}
use Rattle.br_choose.specs.declared.fault.ChooseFault.TheVariants as choosing
use Rattle.br_plan.specs.Fault as plan
use Rattle.br_plan.specs.Asked.{Asked}
use Rattle.br_plan.specs.Means.{IsViewOfChosen}
use Rattle.br_plan.specs.declared.fault.PlanFault.{PlanFault}
use Rattle.br_plan.specs.declared.fault.PlanFault.TheVariants as planning
use Rattle.br_pool.specs.Fault as pool
use Rattle.br_tree.specs.Marking.{Marking, console_at, unmarked}
use Rattle.br_mark.specs.Seen.{Situation}
use Rattle.br_engine.specs.Restoring.{NoneStand, Told, restored_files}
use Rattle.br_engine.specs.Fault as engine
use Rattle.br_engine.specs.Outputs.{EndTells, InSink, are_files}
use Rattle.br_engine.specs.Extracting.{OverVolumes}
use Rattle.br_engine.specs.Restores.{Change, Extracts, Restores}
use Rattle.br_engine.specs.WantedOutcomes.{reported}
use Rattle.br_engine.specs.declared.extracted.Extracted.{Extracted}
use Rattle.br_engine.specs.declared.restore_order.RestoreOrder.{RestoreOrder}
use Rattle.br_types.specs.declared.wanted.Wanted.{Wanted}
use Rattle.br_engine.specs.declared.restore_end.RestoreEnd.{RestoreEnd}
use Rattle.br_engine.specs.declared.restore_end.RestoreEnd.TheVariants as restore
use Rattle.br_engine.specs.declared.fault.ExtractFault.{ExtractFault}
use Rattle.br_engine.specs.declared.fault.ExtractFault.TheVariants as extract
use Rattle.br_console.specs.ConsoleFault.{Refusal, OfPlan, OfPiece, EndlessAfterAll, IsBrokenOff, IsNoPiece, cause, fault_number}
use Rattle.br_console.specs.ConsoleEnding.{EndIs, IsWhole, TellsMissing, are_accepted, is_done}
use Rattle.br_console.specs.Talking.{are_answered, SessionOver, LeavesOver}
use Rattle.br_console.specs.Running.{opening, begun, with_files, with_marks, with_plan, over_volumes, run_from, console_run, Answer, BecomesFault, Begins, BeginsOver, Begun, MissingOver, NoneStandForPlan, RefusesPlan, RefusesRun, RestoresOver, RestoresPlan, RunsOver, StopsAt, TellsOver, WritesPlan}
use Rattle.br_console.specs.MarkedPaths.{unmarked_view}
use Rattle.br_console.proofs.PathsLaws.{bare_of, unchosen}
use Rattle.br_console.specs.declared.console_fault.ConsoleFault.{ConsoleFault}
use Rattle.br_console.specs.declared.console_fault.ConsoleFault.TheVariants as fault
use Rattle.br_console.specs.declared.ending.LineVerdict.{LineVerdict}
use Rattle.br_console.specs.declared.ending.SessionOutcome.{SessionOutcome}
use Rattle.br_console.specs.declared.ending.End.TheVariants.{Done, Quit}

-- ---- the choice and the session

-- the choice is refused
pub opening_refused : (asked : Asked) (why : Option ℕ) → IsRefusal why (unmarked_view asked) → IsRefusal why (opening asked.history asked.request)
unfolding opening
opening_refused asked None e = tt
opening_refused asked (Some n) e = rw (unchosen asked n e) refl

-- the console over the view of the chosen jobs
pub opening_is : (asked : Asked) (tree : Marking) (s : Situation) → unmarked_view asked ≡ Ok tree → s ≡ record { view = tree.view; state = console_at root tree }
    → opening asked.history asked.request ≡ Ok s
unfolding opening
opening_is asked tree s viewed is =
    let bare = bare_of asked tree viewed in
    rw bare.chosen (ap (λ (t : Marking). Ok (record { view = t.view; state = console_at root t })) (sym bare.is_view) ∙ ap Ok (sym is))

-- if there is a console, the choice is not refused
pub was_chosen : (history : List JobRows) (q : Request) (s : Situation) → opening history q ≡ Ok s → (n : ℕ) → choose history q ≡ Err n → ⊥
unfolding opening
was_chosen history q s opened n refused = clash (sym opened ∙ rw refused refl)
  where
    clash : ◌≡◌ {A = Result Situation ℕ} (Ok s) (Err n) → ⊥
    clash h = cc

-- and its entries are the view of the chosen jobs
pub opening_views : (history : List JobRows) (q : Request) (s : Situation) → opening history q ≡ Ok s → IsViewOfChosen history q s.view
unfolding opening
opening_views history q s opened = λ jobs chosen.
    ap (λ (t : Situation). t.view) (same (record { view = view_of jobs; state = at_start }) (sym opened ∙ rw chosen refl))
  where
    same : (t : Situation) → ◌≡◌ {A = Result Situation ℕ} (Ok s) (Ok t) → s ≡ t
    same t h = cc

-- the dialogue of the lines was written; none was refused, or some were; and these are the marks at its `done`, if there is one
pub record IsDialogue (lines : List (List ℕ)) (before after : Option (List ℕ)) (s : Situation) (clean : Bool) (marks : Option (List (List ℕ))) : Type 0 where
  pub written : Appends before after (dialogue s.view s.state lines)
  pub clean_is : clean ≡ are_answered s.view s.state lines
  pub marks_are : marks ≡ marks_at_done s.view s.state lines

-- if the reader reports its bytes, the dialogue of their lines with the console was written
abbrev pub MarksOver : Option (List ℕ) → Option (List ℕ) → Option (List ℕ) → Situation → LineVerdict → Option (List (List ℕ)) → Type 0
MarksOver (Some text) before after s lines marks = IsDialogue (console_lines text) before after s (are_accepted lines) marks
MarksOver None before after s lines marks = ⊤

-- a session that ended by `done`, and the marks of its console
pub marked_done : (known left before after : Option (List ℕ)) (s t : Situation) (session : SessionOutcome) (paths : List (List ℕ)) → SessionOver known left before after s (Ok session)
    → LeavesOver known s t (Ok session) → is_done session.end ≡ true → paths ≡ t.state.marked → MarksOver known before after s session.lines (Some paths)
marked_done None left before after s t session paths talked leaves done are = tt
marked_done (Some text) left before after s t session paths talked leaves done are = record {
  written = talked.written;
  clean_is = talked.clean;
  marks_are = ap Some are ∙ ap (λ b. cond b (Some t.state.marked) None) (sym done) ∙ leaves.marks;
}

-- a session that ended otherwise
pub marked_undone : (known left before after : Option (List ℕ)) (s t : Situation) (session : SessionOutcome) → SessionOver known left before after s (Ok session)
    → LeavesOver known s t (Ok session) → is_done session.end ≡ false → MarksOver known before after s session.lines None
marked_undone None left before after s t session talked leaves undone = tt
marked_undone (Some text) left before after s t session talked leaves undone = record {
  written = talked.written;
  clean_is = talked.clean;
  marks_are = ap (λ b. cond b (Some t.state.marked) None) (sym undone) ∙ leaves.marks;
}

-- ---- beginnings of what is written

-- the beginning of a text is that of a longer one
front_longer : (before after : Option (List ℕ)) (text more whole : List ℕ) → text ++ more ≡ whole → AppendsFront before after text → AppendsFront before after whole
front_longer before after text more whole is (front, left, parted, written) =
    (front, left ++ more, sym (append_assoc front left more) ∙ ap (λ (l : List ℕ). l ++ more) parted ∙ is, written)

-- a text that was written, after which nothing was
front_kept : (before now after : Option (List ℕ)) (text more whole : List ℕ) → text ++ more ≡ whole → Appends before now text → Keeps now after → AppendsFront before after whole
front_kept before now after text more whole is written kept = (text, more, is, Appends-kept before now after text written kept)

-- what follows a dialogue is written after it
plan_follows : (text : List ℕ) (clean : Bool) (plan : Result Plan ℕ) → (more : List ℕ) × (text ++ more ≡ (with_plan text clean plan).text)
plan_follows text clean (Ok plan) = (canonical plan.groups, refl)
plan_follows text clean (Err n) = ([], append-nil text)

marks_follow : (history : List JobRows) (q : Request) (text : List ℕ) (clean : Bool) (marks : Option (List (List ℕ)))
    → (more : List ℕ) × (text ++ more ≡ (with_marks history q text clean marks).text)
marks_follow history q text clean None = ([], append-nil text)
marks_follow history q text clean (Some marks) = plan_follows text clean (plan_of history q marks)

begun_follows : (history : List JobRows) (q : Request) (text : List ℕ) (s : Situation) → opening history q ≡ Ok s
    → (more : List ℕ) × (dialogue s.view s.state (console_lines text) ++ more ≡ (begun history q text).text)
unfolding begun
begun_follows history q text s opened =
    rw opened
    (marks_follow history q (dialogue s.view s.state (console_lines text)) (are_answered s.view s.state (console_lines text))
    (marks_at_done s.view s.state (console_lines text)))

-- and what follows the bootstrap after that
files_follow : (text : List ℕ) (clean : Bool) (files : Result (List Restored) model.PieceFault) → (more : List ℕ) × (text ++ more ≡ (with_files text clean files).text)
files_follow text clean (Ok rs) = (manifest rs, refl)
files_follow text clean (Err why) = ([], append-nil text)

volumes_follow : (text : List ℕ) (clean : Bool) (volumes : List Volume) (plan : Result (Option Plan) ℕ) → (more : List ℕ) × (text ++ more ≡ (over_volumes text clean volumes plan).text)
volumes_follow text clean volumes (Ok None) = ([], append-nil text)
volumes_follow text clean volumes (Ok (Some plan)) = files_follow text clean (restored_files plan.groups (Some plan.names) volumes)
volumes_follow text clean volumes (Err n) = ([], append-nil text)

-- a beginning of what comes before drives are used is one of the whole run
front_of_run : (before after : Option (List ℕ)) (b : Begun) (volumes : List Volume) → AppendsFront before after b.text → AppendsFront before after (run_from b volumes).text
front_of_run before after b volumes h =
    let p = volumes_follow b.text b.is_clean volumes b.plan in
    front_longer before after b.text p.0 (run_from b volumes).text p.1 h

-- ---- before a drive is asked

-- the choice is refused, and nothing was written
pub begins_unchosen : (known before : Option (List ℕ)) (history : List JobRows) (q : Request) (why : PlanFault) → IsRefusal (plan.cause why) (opening history q)
    → BeginsOver known before before history q (Err (fault.Plan why))
unfolding begun
begins_unchosen None before history q why refused = tt
begins_unchosen (Some text) before history q why refused = go (plan.cause why) refused
  where
    go : (r : Option ℕ) → IsRefusal r (opening history q) → RefusesPlan before before (begun history q text) r
    go None h = ([], (begun history q text).text, refl, Appends-nil before)
    go (Some n) h = rw h (refl, Appends-nil before)

-- the session was broken off
pub begins_broken : (known left before after : Option (List ℕ)) (history : List JobRows) (q : Request) (s : Situation) (why : ConsoleFault) → opening history q ≡ Ok s
    → SessionOver known left before after s (Err why) → IsBrokenOff why → BeginsOver known before after history q (Err why)
begins_broken None left before after history q s why opened talked free = tt
begins_broken (Some text) left before after history q s why opened talked free = go why talked free
  where
    follows : (more : List ℕ) × (dialogue s.view s.state (console_lines text) ++ more ≡ (begun history q text).text)
    follows = begun_follows history q text s opened

    front : AppendsFront before after (dialogue s.view s.state (console_lines text)) → AppendsFront before after (begun history q text).text
    front h = front_longer before after (dialogue s.view s.state (console_lines text)) follows.0 (begun history q text).text follows.1 h

    go : (w : ConsoleFault) → SessionOver (Some text) left before after s (Err w) → IsBrokenOff w → Begins before after (begun history q text) (Err w)
    go fault.Memory h f = front h
    go (fault.Plan w) h f = absurd f
    go (fault.Piece w) h f = absurd f
    go fault.Changed h f = absurd f
    go (fault.Io w) h f = tt
    go (fault.NoEnd turns) h f = front h

-- the dialogue did not end by `done`
pub begins_undone : (known before after : Option (List ℕ)) (history : List JobRows) (q : Request) (s : Situation) (lines : LineVerdict) → opening history q ≡ Ok s
    → MarksOver known before after s lines None → BeginsOver known before after history q (Ok (lines, None))
unfolding begun
begins_undone None before after history q s lines opened talked = tt
begins_undone (Some text) before after history q s lines opened talked = rw (opened, ← talked.marks_are) (sym talked.clean_is, refl, talked.written)

-- it did, and the plan was not made
pub begins_unplanned : (known before now after : Option (List ℕ)) (history : List JobRows) (q : Request) (s : Situation) (lines : LineVerdict) (marks : List (List ℕ)) (why : ConsoleFault)
    → opening history q ≡ Ok s → MarksOver known before now s lines (Some marks) → WritesPlan now after (plan_of history q marks) (Err why)
    → BeginsOver known before after history q (Err why)
unfolding begun
begins_unplanned None before now after history q s lines marks why opened talked refused = tt
begins_unplanned (Some text) before now after history q s lines marks fault.Memory opened talked refused =
    let follows = begun_follows history q text s opened in
    front_kept before now after (dialogue s.view s.state (console_lines text)) follows.0 (begun history q text).text follows.1 talked.written refused
begins_unplanned (Some text) before now after history q s lines marks (fault.Piece why) opened talked refused = absurd refused
begins_unplanned (Some text) before now after history q s lines marks fault.Changed opened talked refused = absurd refused
begins_unplanned (Some text) before now after history q s lines marks (fault.Io why) opened talked refused = tt
begins_unplanned (Some text) before now after history q s lines marks (fault.NoEnd turns) opened talked refused = absurd refused
begins_unplanned (Some text) before now after history q s lines marks (fault.Plan why) opened talked refused = go (plan.cause why) refused.0
  where
    go : (r : Option ℕ) → IsRefusal r (plan_of history q marks) → RefusesPlan before after (begun history q text) r
    go None h =
        let follows = begun_follows history q text s opened in
        front_kept before now after (dialogue s.view s.state (console_lines text)) follows.0 (begun history q text).text follows.1 talked.written refused.1
    go (Some n) h = rw (opened, ← talked.marks_are, h) (refl, Appends-kept before now after (dialogue s.view s.state (console_lines text)) talked.written refused.1)

-- it was made, and its bootstrap written
pub begins_planned : (known before now after : Option (List ℕ)) (history : List JobRows) (q : Request) (s : Situation) (lines : LineVerdict) (marks : List (List ℕ)) (plan : Plan)
    → opening history q ≡ Ok s → MarksOver known before now s lines (Some marks) → WritesPlan now after (plan_of history q marks) (Ok plan)
    → BeginsOver known before after history q (Ok (lines, Some plan))
unfolding begun
begins_planned None before now after history q s lines marks plan opened talked made = tt
begins_planned (Some text) before now after history q s lines marks plan opened talked made =
    rw (opened, ← talked.marks_are, made.0)
    (sym talked.clean_is, refl, Appends-trans before now after (dialogue s.view s.state (console_lines text)) (canonical plan.groups) talked.written made.1)

-- ---- the restore by a plan

-- files of a restore are files of its plan
files_are : (r : Result (List Restored) model.PieceFault) (rs : List Restored) → refused_as engine.OfPiece r ≡ Ok rs → r ≡ Ok rs
files_are (Ok xs) rs h = go h
  where
    go : ◌≡◌ {A = Result (List Restored) engine.Refusal} (Ok xs) (Ok rs) → ◌≡◌ {A = Result (List Restored) model.PieceFault} (Ok xs) (Ok rs)
    go p = cc
files_are (Err e) rs h = absurd cc

-- and so is the fault of a piece
piece_is : (c : Option model.PieceFault) (r : Result (List Restored) model.PieceFault) → IsRefusal (option_map engine.OfPiece c) (refused_as engine.OfPiece r)
    → IsRefusal (option_map OfPiece c) (refused_as OfPiece r)
piece_is None r h = tt
piece_is (Some e) (Ok xs) h = absurd cc
piece_is (Some e) (Err why) h = go h
  where
    go : ◌≡◌ {A = Result (List Restored) engine.Refusal} (Err (engine.OfPiece why)) (Err (engine.OfPiece e)) → ◌≡◌ {A = Result (List Restored) Refusal} (Err (OfPiece why)) (Err (OfPiece e))
    go p = cc

-- what a plan gives is restored as wanted
abbrev pub ExtractsPlan : Wanted → Told → Told → Option (List ℕ) → Option (List ℕ) → InSink → InSink → Plan → Result Extracted ExtractFault → Type 0
ExtractsPlan wanted earlier later before after had has plan result =
    Extracts wanted (λ holds. OverVolumes earlier later plan.groups (Some plan.names) holds) (λ rs lines. lines ≡ reported wanted.gaps plan.groups [] rs) before after had has result

-- a restore by the order of a plan does so
pub by_plan : (order : RestoreOrder) (seen : Change) (result : Result Extracted ExtractFault) (plan : Plan) (groups : List Group) (names : Names) (wanted : Wanted)
    → order.asked.bootstrap.now ≡ groups → order.asked.counts.now ≡ [] → order.names ≡ Some names → order.wanted ≡ wanted → groups ≡ plan.groups → planned_in names ≡ plan.names
    → Restores order seen result
    → ExtractsPlan wanted seen.old.told seen.new.told seen.old.written seen.new.written seen.old.has seen.new.has plan result
by_plan order seen result plan groups names wanted asked counted named is same alike h =
    let extracts : Wanted → Option (List Planned) → List Group → List (Option ℕ) → Type 0 = λ w ns gs cs.
    Extracts w (λ holds. OverVolumes seen.old.told seen.new.told gs ns holds) (λ rs lines. lines ≡ reported w.gaps gs cs rs) seen.old.written seen.new.written seen.old.has seen.new.has
    result in
    subst (λ (w : Wanted). extracts w (Some plan.names) plan.groups []) is
    (subst (λ (gs : List Group). extracts order.wanted (Some plan.names) gs []) (asked ∙ same)
    (subst (λ (cs : List (Option ℕ)). extracts order.wanted (Some plan.names) order.asked.bootstrap.now cs) counted
    (subst (λ (ns : List Planned). extracts order.wanted (Some ns) order.asked.bootstrap.now order.asked.counts.now) alike
    (subst (λ (ns : Option Names). extracts order.wanted (option_map planned_in ns) order.asked.bootstrap.now order.asked.counts.now) named h))))

module _ (wanted : Wanted) (earlier later : Told) (before after : Option (List ℕ)) (had has : InSink) (plan : Plan) where
  pub plan_restored : (done : Extracted) → ExtractsPlan wanted earlier later before after had has plan (Ok done)
      → RestoresPlan wanted earlier later before after had has plan (Ok done)
  plan_restored done h = (h.0, (λ volumes stands. files_are (restored_files plan.groups (Some plan.names) volumes) h.0 (h.1.0 volumes stands)), h.1.1, (h.2, h.3, h.5), h.4)

  pub plan_refused : (e : ExtractFault) (why : ConsoleFault) → BecomesFault e why
      → ExtractsPlan wanted earlier later before after had has plan (Err e)
      → RestoresPlan wanted earlier later before after had has plan (Err why)
  plan_refused extract.Memory why is h = rw is ((λ volumes stands. tt), h.1, h.2)
  plan_refused (extract.Bootstrap e) why is h = absurd is
  plan_refused (extract.Piece e) why is h =
      rw is ((λ volumes stands. piece_is (pool.cause e) (restored_files plan.groups (Some plan.names) volumes) (h.0 volumes stands)), h.1, h.2)
  plan_refused extract.Changed why is h = rw is ((λ volumes stands. tt), h.1, h.2)
  plan_refused (extract.Io e) why is h = rw is ((λ volumes stands. tt), tt, h.2)
  plan_refused (extract.NoEnd turns) why is h = absurd is

-- that no drive is left stays so
pub no_drive_stays : (e : ExtractFault) (why : ConsoleFault) → BecomesFault e why → fault_number why ≡ Some 70 → engine.fault_number e ≡ Some 70
no_drive_stays extract.Memory why is h = ap fault_number (sym is) ∙ h
no_drive_stays (extract.Bootstrap e) why is h = absurd is
no_drive_stays (extract.Piece e) why is h = ap fault_number (sym is) ∙ h
no_drive_stays extract.Changed why is h = ap fault_number (sym is) ∙ h
no_drive_stays (extract.Io e) why is h = ap fault_number (sym is) ∙ h
no_drive_stays (extract.NoEnd turns) why is h = absurd is

-- that a volume was changed stays so
pub change_stays : (e : ExtractFault) (why : ConsoleFault) → BecomesFault e why → why ≡ fault.Changed → e ≡ extract.Changed
change_stays extract.Memory why is h = let both : fault.Memory ≡ fault.Changed = sym is ∙ h in absurd cc
change_stays (extract.Bootstrap e) why is h = absurd is
change_stays (extract.Piece e) why is h = let both : fault.Piece e ≡ fault.Changed = sym is ∙ h in absurd cc
change_stays extract.Changed why is h = refl
change_stays (extract.Io e) why is h = let both : fault.Io e ≡ fault.Changed = sym is ∙ h in absurd cc
change_stays (extract.NoEnd turns) why is h = absurd is

-- there are no volumes for the bootstrap of a plan
pub none_planned : (known : Option (List ℕ)) (earlier later : Told) (before now : Option (List ℕ)) (history : List JobRows) (q : Request) (lines : LineVerdict) (plan : Plan)
    → BeginsOver known before now history q (Ok (lines, Some plan)) → NoneStand earlier later plan.groups → NoneStandForPlan known earlier later history q
none_planned None earlier later before now history q lines plan begins none = tt
none_planned (Some text) earlier later before now history q lines plan begins none = λ volumes stands. none volumes (stands plan begins.1)

-- nor does it say that the lines have no end
pub unplanned_has_end : (now after : Option (List ℕ)) (expected : Result Plan ℕ) (why : ConsoleFault) → WritesPlan now after expected (Err why) → EndlessAfterAll why
unplanned_has_end now after expected fault.Memory h = tt
unplanned_has_end now after expected (fault.Plan why) h = tt
unplanned_has_end now after expected (fault.Piece why) h = tt
unplanned_has_end now after expected fault.Changed h = tt
unplanned_has_end now after expected (fault.Io why) h = tt
unplanned_has_end now after expected (fault.NoEnd turns) h = absurd h

-- and no fault of a restore does
pub restored_has_end : (e : ExtractFault) (why : ConsoleFault) → BecomesFault e why → EndlessAfterAll why
restored_has_end extract.Memory why is = rw is tt
restored_has_end (extract.Bootstrap e) why is = absurd is
restored_has_end (extract.Piece e) why is = rw is tt
restored_has_end extract.Changed why is = rw is tt
restored_has_end (extract.Io e) why is = rw is tt
restored_has_end (extract.NoEnd turns) why is = absurd is

-- the number, if there is one
abbrev number_in : Option ℕ → ℕ
number_in None = 0
number_in (Some n) = n

-- no drive is left in pieces alone
pub no_drive_in_piece : (why : ConsoleFault) → IsNoPiece why → fault_number why ≡ Some 70 → ⊥
no_drive_in_piece fault.Memory none is = let e : 1 ≡ 70 = ap number_in is in omega (arith, e)
no_drive_in_piece (fault.Plan planning.Memory) none is = let e : 1 ≡ 70 = ap number_in is in omega (arith, e)
no_drive_in_piece (fault.Plan planning.NoFull) none is = let e : 50 ≡ 70 = ap number_in is in omega (arith, e)
no_drive_in_piece (fault.Plan planning.NothingMarked) none is = let e : 51 ≡ 70 = ap number_in is in omega (arith, e)
no_drive_in_piece (fault.Plan planning.UnknownClient) none is = let e : 53 ≡ 70 = ap number_in is in omega (arith, e)
no_drive_in_piece (fault.Plan planning.UnknownFileSet) none is = let e : 54 ≡ 70 = ap number_in is in omega (arith, e)
no_drive_in_piece (fault.Piece why) none is = none
no_drive_in_piece fault.Changed none is = none
no_drive_in_piece (fault.Io why) none is = let e : 0 ≡ 70 = ap number_in is in omega (arith, e)
no_drive_in_piece (fault.NoEnd turns) none is = let e : 0 ≡ 70 = ap number_in is in omega (arith, e)

-- ---- the whole

-- nothing comes of what is refused before a drive is asked
pub runs_refused : (known : Option (List ℕ)) (earlier later : Told) (before after : Option (List ℕ)) (history : List JobRows) (q : Request) (why : ConsoleFault)
    → BeginsOver known before after history q (Err why) → RunsOver known earlier later before after history q (Err why)
unfolding console_run
runs_refused None earlier later before after history q why begins = tt
runs_refused (Some text) earlier later before after history q why begins = λ volumes stands. by_fault volumes why begins
  where
    go : (volumes : List Volume) (r : Option ℕ) → RefusesPlan before after (begun history q text) r
        → MatchOption (option_map OfPlan r) (AppendsFront before after (run_from (begun history q text) volumes).text)
        (λ e. ((run_from (begun history q text) volumes).answer ≡ Err e) × Appends before after (run_from (begun history q text) volumes).text)
    go volumes None h = front_of_run before after (begun history q text) volumes h
    go volumes (Some n) h = rw h.0 (refl, h.1)

    by_fault : (volumes : List Volume) (w : ConsoleFault) → Begins before after (begun history q text) (Err w) → RefusesRun before after (run_from (begun history q text) volumes) w
    by_fault volumes fault.Memory h = front_of_run before after (begun history q text) volumes h
    by_fault volumes (fault.Plan w) h = go volumes (plan.cause w) h
    by_fault volumes (fault.Piece w) h = absurd h
    by_fault volumes fault.Changed h = absurd h
    by_fault volumes (fault.Io w) h = tt
    by_fault volumes (fault.NoEnd w) h = front_of_run before after (begun history q text) volumes h

-- without a plan nothing more
pub runs_undone : (known : Option (List ℕ)) (earlier later : Told) (before after : Option (List ℕ)) (history : List JobRows) (q : Request) (lines : LineVerdict)
    → BeginsOver known before after history q (Ok (lines, None)) → RunsOver known earlier later before after history q (Ok (record { lines = lines; end = Quit }))
unfolding console_run
runs_undone None earlier later before after history q lines begins = tt
runs_undone (Some text) earlier later before after history q lines begins = λ volumes stands.
    rw begins.1
    (record { is_clean = are_accepted lines; restored = None }, ap (λ (c : Bool). Ok (record { is_clean = c; restored = None })) begins.0, (refl, tt), begins.2)

-- the end says if each outcome is a file
end_is : (done : Extracted) (rs : List Restored) → EndTells done.end rs → EndIs (Done done) (Some (are_files rs))
end_is done rs h = go done.end h
  where
    go : (end : RestoreEnd) → EndTells end rs → IsWhole end (are_files rs)
    go restore.AllFiles t = t
    go restore.SomeFaults t = t
    go (restore.Stopped stop) t = tt

-- the manifest after the bootstrap
pub runs_restored : (known : Option (List ℕ)) (wanted : Wanted) (earlier later : Told) (before now after : Option (List ℕ)) (had has : InSink) (history : List JobRows) (q : Request) (lines : LineVerdict) (plan : Plan)
    (done : Extracted) → BeginsOver known before now history q (Ok (lines, Some plan)) → RestoresPlan wanted earlier later now after had has plan (Ok done)
    → RunsOver known earlier later before after history q (Ok (record { lines = lines; end = Done done }))
unfolding console_run
runs_restored None wanted earlier later before now after had has history q lines plan done begins made = tt
runs_restored (Some text) wanted earlier later before now after had has history q lines plan done begins made = λ volumes stands.
    let rs : List Restored = made.0 in
    let files : restored_files plan.groups (Some plan.names) volumes ≡ Ok rs = made.1 volumes (stands plan begins.1) in
    rw (begins.1, files) (
      record { is_clean = are_accepted lines; restored = Some (are_files rs) },
      ap (λ (c : Bool). Ok (record { is_clean = c; restored = Some (are_files rs) })) begins.0,
      (refl, end_is done rs made.3.0),
      Appends-trans before now after (begun history q text).text (manifest rs) begins.2 made.2,
    )

-- the fault of a piece, and nothing after the bootstrap
stopped : (text : List ℕ) (clean : Bool) (files : Result (List Restored) model.PieceFault) (why : Refusal) → refused_as OfPiece files ≡ Err why
    → ((with_files text clean files).answer ≡ Err why) × ((with_files text clean files).text ≡ text)
stopped text clean (Ok rs) why h = absurd cc
stopped text clean (Err e) why h = (go h, refl)
  where
    go : ◌≡◌ {A = Result (List Restored) Refusal} (Err (OfPiece e)) (Err why) → ◌≡◌ {A = Result Answer Refusal} (Err (OfPiece e)) (Err why)
    go p = cc

pub runs_stopped : (known : Option (List ℕ)) (wanted : Wanted) (earlier later : Told) (before now after : Option (List ℕ)) (had has : InSink) (history : List JobRows) (q : Request) (lines : LineVerdict) (plan : Plan)
    (why : ConsoleFault) → BeginsOver known before now history q (Ok (lines, Some plan)) → RestoresPlan wanted earlier later now after had has plan (Err why)
    → RunsOver known earlier later before after history q (Err why)
unfolding console_run
runs_stopped None wanted earlier later before now after had has history q lines plan why begins made = tt
runs_stopped (Some text) wanted earlier later before now after had has history q lines plan why begins made = λ volumes stands.
    by_fault volumes why (made.0 volumes (stands plan begins.1)) made.1
  where
    front : (volumes : List Volume) → Keeps now after → AppendsFront before after (run_from (begun history q text) volumes).text
    front volumes kept =
        front_of_run before after (begun history q text) volumes
        (front_kept before now after (begun history q text).text [] (begun history q text).text (append-nil (begun history q text).text) begins.2 kept)

    go : (volumes : List Volume) (r : Option model.PieceFault) → IsRefusal (option_map OfPiece r) (refused_as OfPiece (restored_files plan.groups (Some plan.names) volumes)) → Keeps now after
        → MatchOption (option_map OfPiece r) (AppendsFront before after (run_from (begun history q text) volumes).text)
        (λ e. ((run_from (begun history q text) volumes).answer ≡ Err e) × Appends before after (run_from (begun history q text) volumes).text)
    go volumes None h kept = front volumes kept
    go volumes (Some e) h kept =
        let both = stopped (begun history q text).text (begun history q text).is_clean (restored_files plan.groups (Some plan.names) volumes) (OfPiece e) h in
        rw (begins.1, both.1) (both.0, Appends-kept before now after (begun history q text).text begins.2 kept)

    by_fault : (volumes : List Volume) (w : ConsoleFault) → IsRefusal (cause w) (refused_as OfPiece (restored_files plan.groups (Some plan.names) volumes)) → StopsAt now after w
        → RefusesRun before after (run_from (begun history q text) volumes) w
    by_fault volumes fault.Memory h s = front volumes s
    by_fault volumes (fault.Plan w) h s = absurd s
    by_fault volumes (fault.Piece w) h s = go volumes (pool.cause w) h s
    by_fault volumes fault.Changed h s = front volumes s
    by_fault volumes (fault.Io w) h s = tt
    by_fault volumes (fault.NoEnd w) h s = absurd s

-- ---- over any drives

pub tells_refused : (known before after : Option (List ℕ)) (history : List JobRows) (q : Request) (why : ConsoleFault) → BeginsOver known before after history q (Err why)
    → TellsOver known before after history q (Err why)
tells_refused None before after history q why begins = tt
tells_refused (Some text) before after history q fault.Memory begins = begins
tells_refused (Some text) before after history q (fault.Plan why) begins = begins
tells_refused (Some text) before after history q (fault.Piece why) begins = absurd begins
tells_refused (Some text) before after history q fault.Changed begins = absurd begins
tells_refused (Some text) before after history q (fault.Io why) begins = tt
tells_refused (Some text) before after history q (fault.NoEnd turns) begins = begins

pub tells_undone : (known before after : Option (List ℕ)) (history : List JobRows) (q : Request) (lines : LineVerdict) → BeginsOver known before after history q (Ok (lines, None))
    → TellsOver known before after history q (Ok (record { lines = lines; end = Quit }))
tells_undone None before after history q lines begins = tt
tells_undone (Some text) before after history q lines begins = (begins.0, (begins.1, begins.2))

pub tells_restored : (known : Option (List ℕ)) (wanted : Wanted) (earlier later : Told) (before now after : Option (List ℕ)) (had has : InSink) (history : List JobRows) (q : Request) (lines : LineVerdict) (plan : Plan)
    (done : Extracted) → BeginsOver known before now history q (Ok (lines, Some plan)) → RestoresPlan wanted earlier later now after had has plan (Ok done)
    → TellsOver known before after history q (Ok (record { lines = lines; end = Done done }))
tells_restored None wanted earlier later before now after had has history q lines plan done begins made = tt
tells_restored (Some text) wanted earlier later before now after had has history q lines plan done begins made =
    (begins.0, (plan, made.0, begins.1, made.3.0, Appends-trans before now after (begun history q text).text (manifest made.0) begins.2 made.2))

pub tells_stopped : (known before now after : Option (List ℕ)) (history : List JobRows) (q : Request) (lines : LineVerdict) (plan : Plan) (why : ConsoleFault)
    → BeginsOver known before now history q (Ok (lines, Some plan)) → StopsAt now after why → TellsOver known before after history q (Err why)
tells_stopped None before now after history q lines plan why begins stops = tt
tells_stopped (Some text) before now after history q lines plan fault.Memory begins stops =
    front_kept before now after (begun history q text).text [] (begun history q text).text (append-nil (begun history q text).text) begins.2 stops
tells_stopped (Some text) before now after history q lines plan (fault.Plan why) begins stops = absurd stops
tells_stopped (Some text) before now after history q lines plan (fault.Piece why) begins stops =
    (plan, begins.1, Appends-kept before now after (begun history q text).text begins.2 stops)
tells_stopped (Some text) before now after history q lines plan fault.Changed begins stops =
    (plan, begins.1, Appends-kept before now after (begun history q text).text begins.2 stops)
tells_stopped (Some text) before now after history q lines plan (fault.Io why) begins stops = tt
tells_stopped (Some text) before now after history q lines plan (fault.NoEnd turns) begins stops = absurd stops

-- ---- the files of a run

pub restores_undone : (known : Option (List ℕ)) (earlier later : Told) (before after : Option (List ℕ)) (history : List JobRows) (q : Request) (lines : LineVerdict)
    → BeginsOver known before after history q (Ok (lines, None)) → RestoresOver known earlier later before after history q (are_accepted lines) None
restores_undone None earlier later before after history q lines begins = tt
restores_undone (Some text) earlier later before after history q lines begins = (begins.0, (begins.1, begins.2))

pub restores_files : (known : Option (List ℕ)) (wanted : Wanted) (earlier later : Told) (before now after : Option (List ℕ)) (had has : InSink) (history : List JobRows) (q : Request) (lines : LineVerdict) (plan : Plan)
    (done : Extracted) → BeginsOver known before now history q (Ok (lines, Some plan)) → (made : RestoresPlan wanted earlier later now after had has plan (Ok done))
    → RestoresOver known earlier later before after history q (are_accepted lines) (Some made.0)
restores_files None wanted earlier later before now after had has history q lines plan done begins made = tt
restores_files (Some text) wanted earlier later before now after had has history q lines plan done begins made =
    (begins.0, (plan, begins.1, made.1, Appends-trans before now after (begun history q text).text (manifest made.0) begins.2 made.2))

-- ---- what is missing

-- a plan is one
plans_are : (one other : Plan) → ◌≡◌ {A = Result (Option Plan) ℕ} (Ok (Some one)) (Ok (Some other)) → one ≡ other
plans_are one other h = cc

-- what the plan asks for and its files lack is told
pub misses_planned : (known before now : Option (List ℕ)) (history : List JobRows) (q : Request) (lines : LineVerdict) (plan : Plan) (wanted : Wanted) (rs : List Restored)
    (done : Extracted) → BeginsOver known before now history q (Ok (lines, Some plan)) → TellsMissing wanted plan rs done → MissingOver known history q wanted (Done done) (Some rs)
misses_planned None before now history q lines plan wanted rs done begins told = tt
misses_planned (Some text) before now history q lines plan wanted rs done begins told = λ other is.
    subst (λ (p : Plan). TellsMissing wanted p rs done) (plans_are plan other (sym begins.1 ∙ is)) told

-- without files nothing is
pub misses_nothing : (known : Option (List ℕ)) (history : List JobRows) (q : Request) (wanted : Wanted) → MissingOver known history q wanted Quit None
misses_nothing None history q wanted = tt
misses_nothing (Some text) history q wanted = tt
