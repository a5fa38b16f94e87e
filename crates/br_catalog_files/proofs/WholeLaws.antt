-- Rows of files that are read one after another form the files of a history.
use Rattle.std.proofs.Common.{◌≡◌, ℕ, Bool, true, false, cond, not, ◌&&◌, ◌||◌, ◌==◌, List, [], ◌∷◌, ◌++◌, filter, length, map, Result, Ok, Err, refl, sym, ap, ap₂, ◌∙◌, append-nil, eqb-true, eq-eqb, ne_eqb}
use Rattle.std.specs.List.{list_all, list_any}
use Rattle.std.specs.BTreeMap.{BTreeMap}
use Rattle.br_catalog_files.specs.declared.seen_indexes.Indexes.{Indexes}
use Rattle.std.proofs.lemmas.Bool.{and_from, eqb-false}
use Rattle.std.proofs.lemmas.List.{length-map}
use Rattle.std.proofs.lemmas.List.Elements.{filter-append}
use Rattle.std.proofs.lemmas.List.Folds.{list_all-append, list_any-append}
use Rattle.sqlite.specs.Order.{Row, column}
use Rattle.br_model.specs.Answer.{◌>>=◌}
use Rattle.br_model.specs.Job.{FileRow, JobRow, JobRows, Span, are_rows, checked_rows, clash, is_file_row, no_pair, same_file}
use Rattle.br_model.specs.Name.{same_session}
use Rattle.br_history.proofs.ClashLaws.{no_pair_push}
use Rattle.br_catalog_rows.specs.Decode.{read_file, read_job, read_span, refused, small}
use Rattle.br_catalog_rows.specs.Load.{by_job, by_number, if_apart, is_of, read_all, read_loaded, read_rows}
use Rattle.br_catalog_rows.specs.Load as load
use Rattle.br_catalog_rows.proofs.LoadLaws.{read_push}
use Rattle.br_catalog_files.specs.SeenIndexes.{Saw, has_index, has_job, is_index}
use Rattle.br_catalog_files.specs.WholeMigration.{AreFilesOf, AreWhole}

-- ---- no row

any_of : (id : ℕ) (jobs : List JobRows) → list_any (λ (j : JobRows). j.row.id == id) jobs ≡ list_any (λ (j : JobRow). j.id == id) (map (λ (j : JobRows). j.row) jobs)
any_of id [] = refl
any_of id (j ∷ jobs) = ap (λ b. j.row.id == id || b) (any_of id jobs)

no_files_of : (seen : BTreeMap ℕ Indexes) (id : ℕ) → ((i : ℕ) → has_index seen id i ≡ false) → AreFilesOf seen [] id
unfolding read_all no_pair
no_files_of seen id none = record { files = []; read = refl; valid = refl; apart = refl; indexes = none }

pub none_whole : (jobs : List JobRows) (seen : BTreeMap ℕ Indexes) → ((id : ℕ) → has_job seen id ≡ list_any (λ (j : JobRows). j.row.id == id) jobs) → ((id i : ℕ) → has_index seen id i ≡ false)
    → AreWhole (map (λ (j : JobRows). j.row) jobs) seen []
none_whole jobs seen known none = record {
  known = λ id. known id ∙ any_of id jobs;
  belong = refl;
  files = λ id. no_files_of seen id (none id);
}

-- ---- one more row

or_false : (b : Bool) → (b || false) ≡ b
or_false true = refl
or_false false = refl

not_zero : (b : Bool) → (not b && b) ≡ false
not_zero true = refl
not_zero false = refl

-- no index that is noted is 0
none_zero : (files : List FileRow) → list_any (λ (f : FileRow). is_index f.index 0) files ≡ false
none_zero [] = refl
none_zero (f ∷ files) = rw (not_zero (f.index == 0), none_zero files) refl

-- an index that is new is that of none of the files
fresh_in : (files : List FileRow) (index : ℕ) (b : Bool) → (index == 0) ≡ b → (not b && list_any (λ (f : FileRow). is_index f.index index) files) ≡ false
    → list_any (λ (f : FileRow). is_index f.index index) files ≡ false
fresh_in files index true zero_is h = rw (eqb-true index 0 zero_is) (none_zero files)
fresh_in files index false zero_is h = h

module _ (old new : BTreeMap ℕ Indexes) (shown : List Row) (s : Row) (job : ℕ) (f : FileRow) (is_job : small (column s 0) ≡ Ok job) (reads : read_file s ≡ Ok f) (valid : is_file_row f ≡ true)
    (saw : Saw old job f.index new) where
  of_job : (id : ℕ) → is_of id s ≡ (id == job)
  of_job id = rw is_job refl

  split : (id : ℕ) → filter (is_of id) (shown ++ s ∷ []) ≡ filter (is_of id) shown ++ cond (id == job) (s ∷ []) []
  split id = filter-append (is_of id) shown (s ∷ []) ∙ ap (λ b. filter (is_of id) shown ++ cond b (s ∷ []) []) (of_job id)

  more_of : (id : ℕ) → AreFilesOf old shown id → AreFilesOf new (shown ++ s ∷ []) id
  more_of id w = go (id == job) refl
    where
      go : (b : Bool) → (id == job) ≡ b → AreFilesOf new (shown ++ s ∷ []) id
      go true e =
          let same : id ≡ job = eqb-true id job e in
          let unseen : list_any (λ (g : FileRow). is_index g.index f.index) w.files ≡ false =
          fresh_in w.files f.index (f.index == 0) refl (ap (λ b. not (f.index == 0) && b) (sym (w.indexes f.index) ∙ ap (λ q. has_index old q f.index) same) ∙ saw.fresh) in
          record {
            files = w.files ++ f ∷ [];
            read = ap (read_all read_file) (split id ∙ rw e refl) ∙ read_push read_file (filter (is_of id) shown) w.files s f w.read reads;
            valid = list_all-append is_file_row w.files (f ∷ []) ∙ and_from _ _ w.valid (rw valid refl);
            apart = no_pair_push same_file w.files f ∙ and_from _ _ w.apart (ap not unseen);
            indexes = λ i. saw.noted id i ∙ rw (w.indexes i, eq-eqb job id (sym same)) (sym (list_any-append (λ (g : FileRow). is_index g.index i) w.files (f ∷ []) ∙ rw (or_false (is_index f.index i)) refl));
          }
      go false e = record {
        files = w.files;
        read = ap (read_all read_file) (split id ∙ rw e (append-nil (filter (is_of id) shown))) ∙ w.read;
        valid = w.valid;
        apart = w.apart;
        indexes = λ i. saw.noted id i ∙ rw (ne_eqb job id (λ q. eqb-false id job e (sym q))) (or_false (has_index old id i)) ∙ w.indexes i;
      }

  pub one_more : (jobs : List JobRow) → AreWhole jobs old shown → AreWhole jobs new (shown ++ s ∷ [])
  one_more jobs w = record {
    known = λ id. saw.jobs id ∙ w.known id;
    belong = list_all-append (load.has_job jobs) shown (s ∷ []) ∙ and_from _ _ w.belong (rw is_job (rw (sym (w.known job), saw.known) refl));
    files = λ id. more_of id (w.files id);
  }

-- ---- the jobs with the files

same_true : (a x y c d e : Bool) → (a && true && true && c && d && e) ≡ true → x ≡ true → y ≡ true → (a && x && y && c && d && e) ≡ true
same_true a x y c d e h p q = rw (p, q) h

abbrev pub bare : JobRow → List Span → JobRows
bare j spans = record { row = j; files = []; spans = spans }

abbrev pub filled : JobRow → List FileRow → List Span → JobRows
filled j files spans = record { row = j; files = files; spans = spans }

are_filled : (j : JobRow) (files : List FileRow) (spans : List Span) → are_rows (bare j spans) ≡ true → list_all is_file_row files ≡ true → no_pair same_file files ≡ true
    → are_rows (filled j files spans) ≡ true
unfolding are_rows no_pair
are_filled j files spans h valid apart = same_true _ _ _ _ _ _ h valid apart

-- files that can be those of one job
abbrev pub AreGrouped : List Row → Type 0
AreGrouped rows = (files : List FileRow) × (read_all read_file rows ≡ Ok files) × (list_all is_file_row files ≡ true) × (no_pair same_file files ≡ true)

abbrev pub no_files : ℕ → List Row
no_files id = []

-- a job that is read without its files is read with them
with_files : (spans groups : ℕ → List Row) (j : JobRow) (r : JobRows) → AreGrouped (groups j.id) → read_rows spans no_files j ≡ Ok r → (all : JobRows) × (read_rows spans groups j ≡ Ok all) × (all.row ≡ r.row) × (r.row ≡ j)
unfolding read_rows checked_rows read_all
with_files spans groups j r g h = one (read_all read_span (spans j.id)) refl h
  where
    one : (q : Result (List Span) ℕ) → read_all read_span (spans j.id) ≡ q
        → (q >>= λ s. read_all read_file [] >>= λ f. refused (checked_rows (record { row = j; files = f; spans = by_number s }))) ≡ Ok r
        → (all : JobRows) × (read_rows spans groups j ≡ Ok all) × (all.row ≡ r.row) × (r.row ≡ j)
    one (Err e) is h = absurd cc
    one (Ok s) is h = two (are_rows (bare j (by_number s))) refl h
      where
        two : (b : Bool) → are_rows (bare j (by_number s)) ≡ b → refused (cond b (Ok (bare j (by_number s))) (Err 42)) ≡ Ok r → (all : JobRows) × (read_rows spans groups j ≡ Ok all) × (all.row ≡ r.row) × (r.row ≡ j)
        two false bad h = absurd cc
        two true good h =
            let it : bare j (by_number s) ≡ r = cc in
            let fits = are_filled j g.0 (by_number s) good g.2 g.3 in
            (filled j g.0 (by_number s), rw (is, g.1, fits) refl, ap (λ (x : JobRows). x.row) it, sym (ap (λ (x : JobRows). x.row) it))

abbrev pub rows_of : List JobRows → List JobRow
rows_of jobs = map (λ (j : JobRows). j.row) jobs

abbrev AllFilled : (ℕ → List Row) → (ℕ → List Row) → List JobRow → List JobRows → Type 0
AllFilled spans groups jobs whole = (all : List JobRows) × (read_all (read_rows spans groups) jobs ≡ Ok all) × (rows_of all ≡ rows_of whole) × (rows_of whole ≡ jobs)

all_with_files : (spans groups : ℕ → List Row) → ((id : ℕ) → AreGrouped (groups id)) → (jobs : List JobRow) (whole : List JobRows) → read_all (read_rows spans no_files) jobs ≡ Ok whole → AllFilled spans groups jobs whole
unfolding read_all
all_with_files spans groups g [] whole h = let none : [] ≡ whole = cc in ([], refl, ap rows_of none, sym (ap rows_of none))
all_with_files spans groups g (j ∷ jobs) whole h =
    one (λ xs more. all_with_files spans groups g jobs xs more) (read_rows spans no_files j) (read_all (read_rows spans no_files) jobs) refl refl h
  where
    one : ((xs : List JobRows) → read_all (read_rows spans no_files) jobs ≡ Ok xs → AllFilled spans groups jobs xs) → (q : Result JobRows ℕ) (rest : Result (List JobRows) ℕ) → read_rows spans no_files j ≡ q → read_all (read_rows spans no_files) jobs ≡ rest
        → (q >>= λ x. rest >>= λ xs. Ok (x ∷ xs)) ≡ Ok whole → AllFilled spans groups (j ∷ jobs) whole
    one fill (Err e) rest is more h = absurd cc
    one fill (Ok x) (Err e) is more h = absurd cc
    one fill (Ok x) (Ok xs) is more h =
        let it : x ∷ xs ≡ whole = cc in
        let first = with_files spans groups j x (g j.id) is in
        let later = fill xs more in (
          first.0 ∷ later.0,
          rw (first.1, later.1) refl,
          ap₂ (λ (y : JobRow) (ys : List JobRow). y ∷ ys) first.2 later.2 ∙ ap rows_of it,
          sym (ap rows_of it) ∙ ap₂ (λ (y : JobRow) (ys : List JobRow). y ∷ ys) first.3 later.3,
        )

-- ---- jobs that are apart

abbrev pub rows_clash : JobRow → JobRow → Bool
rows_clash j k = j.id == k.id || same_session j.session k.session

any_row : (j : JobRows) (jobs : List JobRows) → list_any (clash j) jobs ≡ list_any (rows_clash j.row) (rows_of jobs)
any_row j [] = refl
any_row j (k ∷ jobs) = ap (λ b. clash j k || b) (any_row j jobs)

pub apart_by_rows : (jobs : List JobRows) → no_pair clash jobs ≡ no_pair rows_clash (rows_of jobs)
unfolding no_pair
apart_by_rows [] = refl
apart_by_rows (j ∷ jobs) = ap₂ (λ a b. not a && b) (any_row j jobs) (apart_by_rows jobs)

-- ---- the whole

-- the rows that belong to each job
abbrev pub rows_by : List Row → ℕ → List Row
rows_by rows = λ id. filter (is_of id) rows

pub record ReadParts (jobs spans files : List Row) (whole : List JobRows) : Type 0 where
  pub rows : List JobRow
  pub are_jobs : read_all read_job jobs ≡ Ok rows
  pub spans_belong : list_all (load.has_job rows) spans ≡ true
  pub files_belong : list_all (load.has_job rows) files ≡ true
  pub are_whole : read_all (read_rows (rows_by spans) (rows_by files)) rows ≡ Ok whole
  pub apart : no_pair clash whole ≡ true

pub parts : (jobs spans files : List Row) (whole : List JobRows) → read_loaded jobs spans files ≡ Ok whole → ReadParts jobs spans files whole
unfolding read_loaded by_job if_apart
parts jobs spans files whole h = one (read_all read_job jobs) refl
  where
    one : (q : Result (List JobRow) ℕ) → read_all read_job jobs ≡ q → ReadParts jobs spans files whole
    one (Err e) is = absurd (let bad = rw is at h in cc)
    one (Ok js) is = two (list_all (load.has_job js) spans) (list_all (load.has_job js) files) refl refl
      where
        two : (a b : Bool) → list_all (load.has_job js) spans ≡ a → list_all (load.has_job js) files ≡ b → ReadParts jobs spans files whole
        two false b s f = absurd (let bad = rw (is, s) at h in cc)
        two true false s f = absurd (let bad = rw (is, s, f) at h in cc)
        two true true s f = three (read_all (read_rows (rows_by spans) (rows_by files)) js) refl
          where
            three : (q : Result (List JobRows) ℕ) → read_all (read_rows (rows_by spans) (rows_by files)) js ≡ q → ReadParts jobs spans files whole
            three (Err e) all_are = absurd (let bad = rw (is, s, f, all_are) at h in cc)
            three (Ok w) all_are = four (no_pair clash w) refl
              where
                four : (b : Bool) → no_pair clash w ≡ b → ReadParts jobs spans files whole
                four false bad = absurd (let wrong = rw (is, s, f, all_are, bad) at h in cc)
                four true good =
                    let all : ◌≡◌ {A = Result (List JobRows) ℕ} (Ok w) (Ok whole) = rw (is, s, f, all_are, good) at h in
                    let it : w ≡ whole = cc in
                    record { rows = js; are_jobs = is; spans_belong = s; files_belong = f; are_whole = all_are ∙ ap Ok it; apart = sym (ap (no_pair clash) it) ∙ good }

-- A history whose jobs were read without files is read with them, once each row was tested. It has as many jobs.
pub read_with_files : (jobs spans files : List Row) (whole : List JobRows) (seen : BTreeMap ℕ Indexes) → read_loaded jobs spans [] ≡ Ok whole → AreWhole (rows_of whole) seen files
    → (all : List JobRows) × (read_loaded jobs spans files ≡ Ok all) × (length all ≡ length whole)
unfolding read_loaded by_job if_apart
read_with_files jobs spans files whole seen h w =
    let p = parts jobs spans [] whole h in
    let groups = λ (id : ℕ). filter (is_of id) files in
    let grouped : (id : ℕ) → AreGrouped (groups id) = λ id. ((w.files id).files, (w.files id).read, (w.files id).valid, (w.files id).apart) in
    let all = all_with_files (rows_by spans) groups grouped p.rows whole p.are_whole in
    let dealt : list_all (load.has_job p.rows) files ≡ true = ap (λ js. list_all (load.has_job js) files) (sym all.3) ∙ w.belong in
    let apart : no_pair clash all.0 ≡ true = apart_by_rows all.0 ∙ ap (no_pair rows_clash) all.2 ∙ sym (apart_by_rows whole) ∙ p.apart in
    (all.0, rw (p.are_jobs, p.spans_belong, dealt, all.1, apart) refl, sym (length-map all.0 (λ (j : JobRows). j.row)) ∙ ap length all.2 ∙ length-map whole (λ (j : JobRows). j.row))
