-- The rows of a job whose session was written fit together.
use Rattle.std.proofs.Common.{◌≡◌, ℕ, ◌+◌, ◌^◌, ◌<◌, ◌≤◌, Bool, true, false, not, ◌&&◌, ◌||◌, eqb, leb, ltb, List, [], ◌∷◌, ◌++◌, length, map, Ok, refl, ap, subst, ◌∙◌, arith}
use Rattle.std.proofs.lemmas.Bool.{and_from, and_right, or_from, or_right, le-leb, lt-ltb, ne_eqb}
use Rattle.std.proofs.lemmas.List.Folds.{list_any-append, list_all-append}
use Rattle.std.specs.Prelude.{is_ok, Result}
use Rattle.std.specs.List.{AllByRecursion, list_any, list_all, enumerate_from}
use Rattle.br_model.specs.Attribute.{Stat, read_stat, write_stat}
use Rattle.br_model.specs.Job.{Span, JobRows, is_file_row, same_file, is_span, is_numbered, overlaps, no_pair, are_rows, checked_rows}
use Rattle.br_model.specs.Session.{ToSave, visits, file_row, deletion_row, rows_of}
use Rattle.br_model.specs.SessionHolds.{IsToSave}
use Rattle.br_history.specs.Committing.{WrittenRowsFit}
use Rattle.br_history.proofs.SavingLaws.{few_in_order}
use Rattle.br_history.proofs.WholeVisitLaws.{written_visits}
use Rattle.br_history.proofs.SpanFitLaws.{each_is_span, each_is_numbered, none_overlap, spans_checked}
use Rattle.br_model.proofs.AttributeLaws.{stat_reads}

-- ---- each row

saved_are_rows : (n : ℕ) (files : List ToSave) → AllByRecursion IsToSave files → n + length files ≤ 2 ^ 31 → list_all is_file_row (map file_row (enumerate_from n files)) ≡ true
saved_are_rows n [] all few = refl
saved_are_rows n (f ∷ fs) all few =
    let low : ltb n (2 ^ 31) ≡ true = lt-ltb n (2 ^ 31) (omega (arith, few)) in
    let read : is_ok (read_stat (write_stat f.file.stat)) ≡ true = ap (λ (r : Result Stat ℕ). is_ok r) (stat_reads f.file.stat all.0.numbers) in
    let here = and_from (ltb n (2 ^ 31)) (eqb n 0 || is_ok (read_stat (write_stat f.file.stat))) low (or_right (eqb n 0) (is_ok (read_stat (write_stat f.file.stat))) read) in
    and_from (is_file_row (file_row (n, f))) (list_all is_file_row (map file_row (enumerate_from (n + 1) fs))) here (saved_are_rows (n + 1) fs all.1 (omega (arith, few)))

deleted_are_rows : (paths : List (List ℕ)) → list_all is_file_row (map deletion_row paths) ≡ true
deleted_are_rows [] = refl
deleted_are_rows (p ∷ ps) = and_from (is_file_row (deletion_row p)) (list_all is_file_row (map deletion_row ps)) refl (deleted_are_rows ps)

-- ---- no two rows of one file

no_zero : (b : Bool) → (not b && b) ≡ false
no_zero true = refl
no_zero false = refl

-- no deletion is of a saved file
not_deleted : (n : ℕ) (f : ToSave) (paths : List (List ℕ)) → list_any (same_file (file_row (n, f))) (map deletion_row paths) ≡ false
not_deleted n f [] = refl
not_deleted n f (p ∷ ps) = or_from (same_file (file_row (n, f)) (deletion_row p)) (list_any (same_file (file_row (n, f))) (map deletion_row ps)) (no_zero (eqb n 0)) (not_deleted n f ps)

-- nor is a later file
not_later : (m n : ℕ) (f : ToSave) (files : List ToSave) → m < n → list_any (same_file (file_row (m, f))) (map file_row (enumerate_from n files)) ≡ false
not_later m n f [] lt = refl
not_later m n f (g ∷ gs) lt =
    let other : eqb m n ≡ false = ne_eqb m n (λ e. omega (arith, e, lt)) in
    or_from (same_file (file_row (m, f)) (file_row (n, g))) (list_any (same_file (file_row (m, f))) (map file_row (enumerate_from (n + 1) gs)))
    (and_right (not (eqb m 0)) (eqb m n) other) (not_later m (n + 1) f gs (omega (arith, lt)))

-- deletions are of no file
deletions_differ : (path : List ℕ) (paths : List (List ℕ)) → list_any (same_file (deletion_row path)) (map deletion_row paths) ≡ false
deletions_differ path [] = refl
deletions_differ path (p ∷ ps) = or_from (same_file (deletion_row path) (deletion_row p)) (list_any (same_file (deletion_row path)) (map deletion_row ps)) refl (deletions_differ path ps)

deletions_apart : (paths : List (List ℕ)) → no_pair same_file (map deletion_row paths) ≡ true
unfolding no_pair
deletions_apart [] = refl
deletions_apart (p ∷ ps) =
    and_from (not (list_any (same_file (deletion_row p)) (map deletion_row ps))) (no_pair same_file (map deletion_row ps)) (ap not (deletions_differ p ps)) (deletions_apart ps)

rows_apart : (n : ℕ) (files : List ToSave) (paths : List (List ℕ)) → no_pair same_file (map file_row (enumerate_from n files) ++ map deletion_row paths) ≡ true
unfolding no_pair
rows_apart n [] paths = deletions_apart paths
rows_apart n (f ∷ fs) paths =
    let row = file_row (n, f) in
    let later = map file_row (enumerate_from (n + 1) fs) in
    let none = or_from (list_any (same_file row) later) (list_any (same_file row) (map deletion_row paths)) (not_later n (n + 1) f fs (omega arith)) (not_deleted n f paths) in
    and_from (not (list_any (same_file row) (later ++ map deletion_row paths))) (no_pair same_file (later ++ map deletion_row paths))
    (ap not (list_any-append (same_file row) later (map deletion_row paths) ∙ none)) (rows_apart (n + 1) fs paths)

-- ---- all

all_six : (a b c d e f : Bool) → a ≡ true → b ≡ true → c ≡ true → d ≡ true → e ≡ true → f ≡ true → (a && b && c && d && e && f) ≡ true
all_six a b c d e f p q r s t u = rw (p, q, r, s, t, u) refl

fit : (rows : JobRows) → leb rows.row.start 253402300799 ≡ true → list_all is_file_row rows.files ≡ true → no_pair same_file rows.files ≡ true
    → list_all is_span rows.spans ≡ true → is_numbered rows.spans ≡ true → no_pair overlaps rows.spans ≡ true → are_rows rows ≡ true
unfolding are_rows
fit rows early files differ spans numbered overlap =
    all_six (leb rows.row.start 253402300799) (list_all is_file_row rows.files) (no_pair same_file rows.files) (list_all is_span rows.spans) (is_numbered rows.spans) (no_pair overlaps rows.spans)
    early files differ spans numbered overlap

-- rows that fit together are not refused
not_refused : (rows : JobRows) → are_rows rows ≡ true → checked_rows rows ≡ Ok rows
unfolding checked_rows
not_refused rows e = rw e refl

pub written_rows_fit_lem : WrittenRowsFit
unfolding rows_of
written_rows_fit_lem row files deleted limit places starts written are ordered early id_to time_to to is =
    let vs = visits places is.blocks in
    let whole = written_visits files row.session limit places starts written id_to time_to to is in
    let made = spans_checked starts vs written.spans is.spans_are in
    let few = few_in_order files ordered in
    let saved = map file_row (enumerate_from 1 files) in
    let gone = map deletion_row deleted in
    let rows : JobRows = record { row = row; files = saved ++ gone; spans = written.spans } in
    not_refused rows
    (fit rows
    (le-leb row.start 253402300799 early)
    (list_all-append is_file_row saved gone ∙ and_from (list_all is_file_row saved) (list_all is_file_row gone) (saved_are_rows 1 files are (omega (arith, few))) (deleted_are_rows deleted))
    (rows_apart 1 files deleted)
    (subst (λ (ss : List Span). list_all is_span ss ≡ true) made.0 (each_is_span 1 starts vs whole made.1))
    (subst (λ (ss : List Span). is_numbered ss ≡ true) made.0 (each_is_numbered 1 starts vs))
    (subst (λ (ss : List Span). no_pair overlaps ss ≡ true) made.0 (none_overlap 1 starts vs whole)))
