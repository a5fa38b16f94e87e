-- The rows with the files of some jobs form the same jobs, the others without files.
use Rattle.std.proofs.Common.{◌≡◌, ℕ, nat_le, Bool, true, false, cond, not, ◌&&◌, ◌||◌, List, [], ◌∷◌, map, filter, Some, None, Result, Ok, Err, refl, sym, ap, ap₂, ◌∙◌, inl, inr}
use Rattle.std.specs.List.{AllByRecursion, list_all, list_any}
use Rattle.std.specs.Result.{result_ok}
use Rattle.std.proofs.lemmas.Bool.Decides.{Decides-eqb}
use Rattle.sqlite.specs.Order.{Row, column}
use Rattle.br_model.specs.Job.{JobRow, FileRow, JobRows, are_rows, checked_rows, no_pair, clash, is_file_row, same_file, is_span, is_numbered, overlaps}
use Rattle.br_model.proofs.AnswerLaws.{bind_ok, chosen, err_is_not_ok, ok_is}
use Rattle.br_model.proofs.ListLaws.{all_filter, all_pass, filter_twice, holds_of_all, keeps_none}
use Rattle.br_catalog_rows.specs.Decode.{small, read_file, read_job, read_span, refused}
use Rattle.br_catalog_rows.specs.Load.{read_all, is_of, is_read, has_job, by_job, by_number, check_version, read_rows, if_apart, read_loaded, read_history}
use Rattle.br_history.specs.Needed.{bare, files_if, is_one_of}
use Rattle.br_catalog_rows.specs.Load.{NeededLoads, is_of_any, read_needed, with_files_of, without_files}
use Rattle.br_catalog_rows.specs.Rows.{Rows}

-- ---- the rows of a job

-- a row whose number is read belongs to one of the jobs if that is one of their numbers
pub any_numbered : (ids : List ℕ) (row : Row) (n : ℕ) → result_ok (small (column row 0)) ≡ Some n → is_of_any ids row ≡ is_one_of ids n
any_numbered ids row n = go (small (column row 0)) refl
  where
    go : (s : Result ℕ ℕ) → small (column row 0) ≡ s → result_ok s ≡ Some n → is_of_any ids row ≡ is_one_of ids n
    go (Ok m) e is =
        let same : m ≡ n = cc in
        ap (λ s. list_any (λ id. is_read id s) ids) (e ∙ ap Ok same)
    go (Err d) e is = absurd cc

-- one whose number is not read belongs to none
pub none_numbered : (ids : List ℕ) (row : Row) → result_ok (small (column row 0)) ≡ None → is_of_any ids row ≡ false
none_numbered ids row = go (small (column row 0)) refl
  where
    never : (ns : List ℕ) → list_any (λ (n : ℕ). false) ns ≡ false
    never [] = refl
    never (n ∷ ns) = never ns

    go : (s : Result ℕ ℕ) → small (column row 0) ≡ s → result_ok s ≡ None → is_of_any ids row ≡ false
    go (Ok m) e is = absurd cc
    go (Err d) e is = ap (λ s. list_any (λ id. is_read id s) ids) e ∙ never ids

-- a row of one job belongs to one of some jobs if that job is one of them
any_of : (ids : List ℕ) (id : ℕ) (row : Row) → is_of id row ≡ true → is_of_any ids row ≡ is_one_of ids id
any_of ids id row = go (small (column row 0)) refl
  where
    go : (s : Result ℕ ℕ) → small (column row 0) ≡ s → is_read id s ≡ true → is_of_any ids row ≡ is_one_of ids id
    go (Ok m) e is =
        let same : m ≡ id = sym ((Decides-eqb id m).0 is) in
        ap (λ s. list_any (λ n. is_read n s) ids) (e ∙ ap Ok same)
    go (Err d) e is = absurd cc

both_or_not : (a b o : Bool) → (o ≡ true → a ≡ b) → (a && o) ≡ (b && o)
both_or_not a b true same = ap (λ c. c && true) (same refl)
both_or_not true true false same = refl
both_or_not true false false same = refl
both_or_not false true false same = refl
both_or_not false false false same = refl

kept_if : (b : Bool) (p : Row → Bool) (rows : List Row) → filter (λ row. b && p row) rows ≡ cond b (filter p rows) []
kept_if true p rows = refl
kept_if false p rows = none rows
  where
    none : (rs : List Row) → filter (λ (r : Row). false) rs ≡ []
    none [] = refl
    none (r ∷ rs) = none rs

-- of the rows of some jobs those of one are all that it has, if it is one of them, else none
group_kept : (ids : List ℕ) (id : ℕ) (rows : List Row) → filter (is_of id) (filter (is_of_any ids) rows) ≡ cond (is_one_of ids id) (filter (is_of id) rows) []
group_kept ids id rows =
    filter_twice (is_of_any ids) (is_of id) rows
    ∙ ap (λ (p : Row → Bool). filter p rows) (λ i row. both_or_not (is_of_any ids row) (is_one_of ids id) (is_of id row) (any_of ids id row) i)
    ∙ kept_if (is_one_of ids id) (is_of id) rows

abbrev ok : {X : Type 0} → X → Result X ℕ
ok x = Ok x

abbrev groups_of : List ℕ → (ℕ → List Row) → ℕ → List Row
groups_of ids groups id = cond (is_one_of ids id) (groups id) []

-- rows of which each belongs to a job still do if some are left out
dealt_kept : (ids : List ℕ) (jobs : List JobRow) (rows : List Row) (groups : ℕ → List Row) → by_job jobs rows ≡ Ok groups
    → by_job jobs (filter (is_of_any ids) rows) ≡ Ok (groups_of ids groups)
unfolding by_job
dealt_kept ids jobs rows groups e = elim (chosen (list_all (has_job jobs) rows) (Ok (λ id. filter (is_of id) rows)) (Err 47) (Ok groups) e) [
  | inl known ↦
      let still = holds_of_all (has_job jobs) (filter (is_of_any ids) rows) (all_filter (λ row. has_job jobs row ≡ true) (is_of_any ids) rows (all_pass (has_job jobs) rows known.0)) in
      let same = ok_is (λ id. filter (is_of id) rows) groups known.1 in
      let kept : (λ id. filter (is_of id) (filter (is_of_any ids) rows)) ≡ groups_of ids (λ id. filter (is_of id) rows) = λ i id. group_kept ids id rows i in
      rw still (ap ok (kept ∙ ap (groups_of ids) same))
  | inr unknown ↦ absurd (err_is_not_ok 47 groups unknown.1)
]

-- ---- jobs with their rows

-- what makes rows consistent but for the files
without_tests : (a b c d e f : Bool) → (a && b && c && d && e && f) ≡ true → (a && true && true && d && e && f) ≡ true
without_tests true true true d e f h = h
without_tests true true false d e f h = absurd cc
without_tests true false c d e f h = absurd cc
without_tests false b c d e f h = absurd cc

still_rows : (j : JobRows) → are_rows j ≡ true → are_rows (record j { files = [] }) ≡ true
unfolding are_rows no_pair
still_rows j h =
    without_tests (nat_le j.row.start 253402300799) (list_all is_file_row j.files) (no_pair same_file j.files) (list_all is_span j.spans) (is_numbered j.spans)
    (no_pair overlaps j.spans) h

-- a job with its files if the test holds, else without
abbrev cut : Bool → JobRows → JobRows
cut b j = record j { files = cond b j.files [] }

checked_is : (j : JobRows) → are_rows j ≡ true → refused (checked_rows j) ≡ Ok j
unfolding checked_rows
checked_is j fit = rw fit refl

fit_of : (j whole : JobRows) → refused (checked_rows j) ≡ Ok whole → (are_rows j ≡ true) × (j ≡ whole)
unfolding checked_rows
fit_of j whole = go (are_rows j) refl
  where
    go : (b : Bool) → are_rows j ≡ b → refused (cond b (Ok j) (Err 42)) ≡ Ok whole → (are_rows j ≡ true) × (j ≡ whole)
    go true fit e = (fit, ok_is j whole e)
    go false fit e = absurd cc

cut_fits : (b : Bool) (j : JobRows) → are_rows j ≡ true → are_rows (cut b j) ≡ true
cut_fits true j fit = fit
cut_fits false j fit = still_rows j fit

files_read : (b : Bool) (rows : List Row) (xs : List FileRow) → read_all read_file rows ≡ Ok xs → read_all read_file (cond b rows []) ≡ Ok (cond b xs [])
unfolding read_all
files_read true rows xs e = e
files_read false rows xs e = refl

-- a job with its rows, without its files if its number is none of these
rows_kept : (ids : List ℕ) (spans files : ℕ → List Row) (job : JobRow) (whole : JobRows) → read_rows spans files job ≡ Ok whole
    → read_rows spans (groups_of ids files) job ≡ Ok (files_if ids whole)
unfolding read_rows
rows_kept ids spans files job whole e =
    let s = bind_ok (read_all read_span (spans job.id)) _ whole e in
    let f = bind_ok (read_all read_file (files job.id)) _ whole s.2 in
    let j : JobRows = record { row = job; files = f.0; spans = by_number s.0 } in
    let fit = fit_of j whole f.2 in
    let b = is_one_of ids job.id in
    rw (s.1, files_read b (files job.id) f.0 f.1) (checked_is (cut b j) (cut_fits b j fit.0) ∙ ap (λ (k : JobRows). ok (files_if ids k)) fit.1)

-- a reader that gives an image of what another gives
all_kept : {A X : Type 0} (read other : A → Result X ℕ) (g : X → X) → ((a : A) (x : X) → read a ≡ Ok x → other a ≡ Ok (g x)) → (rows : List A) (xs : List X)
    → read_all read rows ≡ Ok xs → read_all other rows ≡ Ok (map g xs)
unfolding read_all
all_kept {X = X} read other g each [] xs e = ap (λ (l : List X). ok (map g l)) (ok_is [] xs e)
all_kept {X = X} read other g each (a ∷ rows) xs e =
    let first = bind_ok (read a) _ xs e in
    let rest = bind_ok (read_all read rows) _ xs first.2 in
    rw (each a first.0 first.1, all_kept read other g each rows rest.0 rest.1) (ap (λ (l : List X). ok (map g l)) (ok_is (first.0 ∷ rest.0) xs rest.2))

-- ---- jobs that are apart

any_kept : (ids : List ℕ) (j : JobRows) (jobs : List JobRows) → list_any (clash (files_if ids j)) (map (files_if ids) jobs) ≡ list_any (clash j) jobs
any_kept ids j [] = refl
any_kept ids j (k ∷ jobs) = ap (λ b. clash j k || b) (any_kept ids j jobs)

pairs_kept : (ids : List ℕ) (jobs : List JobRows) → no_pair clash (map (files_if ids) jobs) ≡ no_pair clash jobs
unfolding no_pair
pairs_kept ids [] = refl
pairs_kept ids (j ∷ jobs) = ap₂ (λ a b. not a && b) (any_kept ids j jobs) (pairs_kept ids jobs)

apart_kept : (ids : List ℕ) (whole history : List JobRows) → if_apart whole ≡ Ok history → if_apart (map (files_if ids) whole) ≡ Ok (map (files_if ids) history)
unfolding if_apart
apart_kept ids whole history e = elim (chosen (no_pair clash whole) (Ok whole) (Err 47) (Ok history) e) [
  | inl apart ↦
      rw (pairs_kept ids whole ∙ apart.0) (ap (λ (l : List JobRows). ok (map (files_if ids) l)) (ok_is whole history apart.1))
  | inr clashing ↦ absurd (err_is_not_ok 47 history clashing.1)
]

-- ---- the history

loaded_kept : (ids : List ℕ) (jobs spans files : List Row) (history : List JobRows) → read_loaded jobs spans files ≡ Ok history
    → read_loaded jobs spans (filter (is_of_any ids) files) ≡ Ok (map (files_if ids) history)
unfolding read_loaded
loaded_kept ids jobs spans files history e =
    let j = bind_ok (read_all read_job jobs) _ history e in
    let s = bind_ok (by_job j.0 spans) _ history j.2 in
    let f = bind_ok (by_job j.0 files) _ history s.2 in
    let w = bind_ok (read_all (read_rows s.0 f.0) j.0) _ history f.2 in
    let whole = all_kept (read_rows s.0 f.0) (read_rows s.0 (groups_of ids f.0)) (files_if ids) (rows_kept ids s.0 f.0) j.0 w.0 w.1 in
    rw (j.1, s.1, dealt_kept ids j.0 files f.0 f.1, whole) (apart_kept ids w.0 history w.2)

files_load : (ids : List ℕ) (rows : Rows) (history : List JobRows) → read_history rows ≡ Ok history
    → read_history (with_files_of ids rows) ≡ Ok (map (files_if ids) history)
unfolding read_history
files_load ids rows history e =
    let v = bind_ok (check_version rows.versions) _ history e in
    rw v.1 (loaded_kept ids rows.jobs rows.spans rows.files history v.2)

-- rows with the files of no job have none
pub of_none : (rows : Rows) → with_files_of [] rows ≡ without_files rows
of_none rows = ap (λ (files : List Row). record rows { files = files }) (keeps_none (is_of_any []) rows.files (each rows.files))
  where
    each : (rs : List Row) → AllByRecursion (λ (r : Row). is_of_any [] r ≡ false) rs
    each [] = tt
    each (r ∷ rs) = (refl, each rs)

jobs_load : (rows : Rows) (history : List JobRows) → read_history rows ≡ Ok history → read_history (without_files rows) ≡ Ok (map (files_if []) history)
jobs_load rows history e = ap read_history (sym (of_none rows)) ∙ files_load [] rows history e

pub needed_loads : NeededLoads
unfolding read_needed
needed_loads needed rows history e = rw (jobs_load rows history e) (files_load (needed (bare history)) rows history e)
