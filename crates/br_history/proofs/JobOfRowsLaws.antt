-- The rows of a job that is to be committed are those of a job with its files.
use Rattle.std.proofs.Common.{◌≡◌, ◌⊎◌, ℕ, ◌+◌, ◌<◌, true, false, ltb, List, [], ◌∷◌, ◌++◌, map, filter, Result, Ok, Err, IfErr, IfOk, refl, sym, ap, subst, ◌∙◌, inl, inr, arith}
use Rattle.std.proofs.lemmas.Bool.{lt-ltb}
use Rattle.std.proofs.lemmas.List.{append-nil}
use Rattle.std.proofs.lemmas.List.Elements.{filter-append}
use Rattle.std.specs.declared.cmp.Ordering.{Ordering}
use Rattle.std.specs.declared.cmp.Ordering.TheVariants.{Less}
use Rattle.std.specs.Cmp.{nat_cmp_is}
use Rattle.std.specs.Cmp.Lexicographic.{slice_cmp}
use Rattle.std.specs.Ordering.{nat_cmp, ordering_then}
use Rattle.std.specs.List.{AllByRecursion, enumerate_from}
use Rattle.br_model.specs.Answer.{Answers}
use Rattle.br_model.specs.Attribute.{Stat}
use Rattle.br_model.specs.Order.{in_order}
use Rattle.br_model.specs.Job.{JobRow, FileRow, Span, JobRows, IsJob, are_rows, checked_rows, row_says, save_says, saved_rows}
use Rattle.br_model.specs.Session.{ToSave, file_row, deletion_row, rows_of}
use Rattle.br_model.specs.SessionHolds.{IsToSave}
use Rattle.br_model.proofs.AnswerLaws.{chosen, ok_is, err_is_not_ok}
use Rattle.br_model.proofs.ListLaws.{keeps_all, keeps_none}
use Rattle.br_model.proofs.OrderLaws.{rank_cmp, rising_stays}
use Rattle.br_model.proofs.PairLaws.{EachPair}
use Rattle.br_history.specs.declared.fault.HistoryFault.{HistoryFault}
use Rattle.br_history.specs.declared.fault.HistoryFault.TheVariants.{Memory}
use Rattle.br_history.specs.Fault.{cause}
use Rattle.br_history.specs.Saving.{ToCommit, IsJobWith}
use Rattle.br_model.proofs.AttributeLaws.{stat_reads}

-- the index of a saved file is above 0
saved_above_0 : (n : ℕ) (files : List ToSave) → 0 < n → AllByRecursion (λ (f : FileRow). ltb 0 f.index ≡ true) (map file_row (enumerate_from n files))
saved_above_0 n [] some = tt
saved_above_0 n (f ∷ fs) some = (lt-ltb 0 n some, saved_above_0 (n + 1) fs (omega (arith, some)))

-- and that of a deletion is not
deleted_at_0 : (paths : List (List ℕ)) → AllByRecursion (λ (f : FileRow). ltb 0 f.index ≡ false) (map deletion_row paths)
deleted_at_0 [] = tt
deleted_at_0 (p ∷ ps) = (refl, deleted_at_0 ps)

-- so the rows with an index above 0 are those of saved files
kept : (files : List ToSave) (paths : List (List ℕ))
    → filter (λ (f : FileRow). ltb 0 f.index) (map file_row (enumerate_from 1 files) ++ map deletion_row paths) ≡ map file_row (enumerate_from 1 files)
kept files paths =
    let is_saved = λ (f : FileRow). ltb 0 f.index in
    let saved = map file_row (enumerate_from 1 files) in
    let gone = map deletion_row paths in
    filter-append is_saved saved gone ∙ ap (λ (fs : List FileRow). fs ++ filter is_saved gone) (keeps_all is_saved saved (saved_above_0 1 files (omega arith)))
    ∙ ap (λ (fs : List FileRow). saved ++ fs) (keeps_none is_saved gone (deleted_at_0 paths)) ∙ append-nil saved

-- a number is before a greater one in the order of ranks
rank_below : (m n : ℕ) → m < n → rank_cmp (m ∷ []) (n ∷ []) ≡ Less
rank_below m n lt = ap (λ (o : Ordering). ordering_then o (slice_cmp nat_cmp [] [])) (sym (nat_cmp_is m n Less lt))

-- the indexes of the rows of saved files rise
above : (m n : ℕ) (files : List ToSave) → m < n → AllByRecursion (λ (g : FileRow). rank_cmp (m ∷ []) (g.index ∷ []) ≡ Less) (map file_row (enumerate_from n files))
above m n [] lt = tt
above m n (g ∷ gs) lt = (rank_below m n lt, above m (n + 1) gs (omega (arith, lt)))

rise : (n : ℕ) (files : List ToSave) → EachPair (λ (f g : FileRow). rank_cmp (f.index ∷ []) (g.index ∷ []) ≡ Less) (map file_row (enumerate_from n files))
rise n [] = tt
rise n (f ∷ fs) = (above n (n + 1) fs (omega arith), rise (n + 1) fs)

abbrev said : ℕ → List ℕ → Result Stat ℕ → ℕ × List ℕ × Result Stat ℕ
said index path stat = (index, path, stat)

-- each row says what was saved
each_says : (n : ℕ) (files : List ToSave) → AllByRecursion IsToSave files
    → map row_says (map file_row (enumerate_from n files)) ≡ map save_says (enumerate_from n (map (λ (f : ToSave). f.file) files))
each_says n [] all = refl
each_says n (f ∷ fs) all =
    ap (λ (r : Result Stat ℕ). said n f.file.path r ∷ map row_says (map file_row (enumerate_from (n + 1) fs))) (stat_reads f.file.stat all.0.numbers)
    ∙ ap (λ (rest : List (ℕ × List ℕ × Result Stat ℕ)). said n f.file.path (Ok f.file.stat) ∷ rest) (each_says (n + 1) fs all.1)

-- the rows are those of a job with these files
rows_say : (row : JobRow) (files : List ToSave) (deleted : List (List ℕ)) (spans : List Span) → AllByRecursion IsToSave files
    → map row_says (saved_rows (rows_of row files deleted spans).files) ≡ map save_says (enumerate_from 1 (map (λ (f : ToSave). f.file) files))
unfolding rows_of
rows_say row files deleted spans all =
    let saved = map file_row (enumerate_from 1 files) in
    let ordered = ap (in_order (λ (f : FileRow). f.index ∷ [])) (kept files deleted) ∙ rising_stays (λ (f : FileRow). f.index ∷ []) saved (rise 1 files) in
    ap (λ (fs : List FileRow). map row_says fs) ordered ∙ each_says 1 files all

not_refused : (rows other : JobRows) → checked_rows rows ≡ Ok other → (are_rows rows ≡ true) × (rows ≡ other)
unfolding checked_rows
not_refused rows other e =
    elim (chosen (are_rows rows) (Ok rows) (Err 42) (Ok other) e) [
      | inl p ↦ (p.0, ok_is rows other p.1)
      | inr p ↦ absurd (err_is_not_ok 42 other p.1)
    ]

-- rows that are not refused are those of a job
pub job_if_ok : (row : JobRow) (files : List ToSave) (deleted : List (List ℕ)) (spans : List Span) (r : Result JobRows HistoryFault) → AllByRecursion IsToSave files
    → Answers (λ (rows : JobRows). rows) cause r (checked_rows (rows_of row files deleted spans)) → IfOk r (λ rows. IsJobWith files rows)
job_if_ok row files deleted spans (Err e) all is = tt
job_if_ok row files deleted spans (Ok rows) all is =
    let h = not_refused (rows_of row files deleted spans) rows is in
    subst (IsJobWith files) h.1 (record { fit = h.0; say = rows_say row files deleted spans all })

-- the rows that are made of the parts of a job are those of the job
pub answers_rows : (r : Result JobRows HistoryFault) (job inside : ToCommit) (row copy : JobRow) (files : List FileRow) (spans copied : List Span) → inside ≡ job → row ≡ copy → copy ≡ inside.row
    → files ≡ map file_row (enumerate_from 1 inside.files) ++ map deletion_row inside.deleted → copied ≡ spans
    → Answers (λ (rows : JobRows). rows) cause r (checked_rows (record { row = row; files = files; spans = copied }))
    → Answers (λ (rows : JobRows). rows) cause r (checked_rows (rows_of job.row job.files job.deleted spans))
unfolding rows_of
answers_rows r job inside row copy files spans copied is row_is copy_is files_are spans_are answers =
    let given : JobRows = record { row = row; files = files; spans = copied } in
    let same : given ≡ rows_of inside.row inside.files inside.deleted spans =
    ap (λ (x : JobRow). record given { row = x }) (row_is ∙ copy_is) ∙ ap (λ (fs : List FileRow). record given { row = inside.row; files = fs }) files_are
    ∙ ap (λ (ss : List Span). rows_of inside.row inside.files inside.deleted ss) spans_are in
    subst (λ (j : ToCommit). Answers (λ (rows : JobRows). rows) cause r (checked_rows (rows_of j.row j.files j.deleted spans))) is
    (subst (λ (rows : JobRows). Answers (λ (it : JobRows). it) cause r (checked_rows rows)) same answers)

-- whatever refuses the rows, each file can be saved
pub or_all : (files : List ToSave) (r : Result JobRows HistoryFault) → AllByRecursion IsToSave files → IfErr r (λ why. (why ≡ Memory) ⊎ AllByRecursion IsToSave files)
or_all files (Ok rows) all = tt
or_all files (Err why) all = inr all
