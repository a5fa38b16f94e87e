-- What the rows of a history are, one by one.
use Rattle.std.proofs.Common.{◌≡◌, ◌≢◌, ℕ, ℤ, pos, negsuc, ◌<◌, ◌^◌, Bool, true, false, ◌&&◌, ◌==◌, List, [], ◌∷◌, ◌++◌, map, is_ok, nat_le, IsTrue, Option, Result, Ok, Err, inl, inr, refl, sym, ap, ap₂, subst, ◌∙◌, eqb-true}
use Rattle.std.specs.List.{AllByRecursion, list_all}
use Rattle.std.specs.Str.{is_utf8}
use Rattle.std.proofs.lemmas.Bool.{leb-false}
use Rattle.sqlite.specs.declared.types.Value.{Value}
use Rattle.sqlite.specs.declared.types.Value.TheVariants.{Blob, Int, Null, Real, Text}
use Rattle.sqlite.specs.Order.{Row, column}
use Rattle.sqlite.specs.Tree.{IsTable, Trees}
use Rattle.sqlite.specs.View.{is_int}
use Rattle.sqlite_rules.specs.Lists.{Has}
use Rattle.sqlite_rules.proofs.ListLemmas.{all_from, all_has, has_kept, some_has, test_has}
use Rattle.br_model.specs.Answer.{◌>>=◌}
use Rattle.br_model.specs.Job.{FileRow, JobRow, JobRows, Span, are_rows, checked_rows, clash, is_file_row, is_numbered, is_span, no_pair, overlaps, same_file}
use Rattle.br_model.specs.Name.{checked_path, is_path}
use Rattle.br_model.proofs.AnswerLaws.{bind_ok, ok_is}
use Rattle.br_catalog_rows.specs.Decode.{characters, digest, digest_in, letter_in, name_in, natural, path_in, read_file, read_job, read_span, small, string_in, volume_in}
use Rattle.br_catalog_rows.specs.Load.{by_job, by_number, if_apart, is_of, is_read, read_all, read_loaded, read_rows}
use Rattle.br_catalog_rows.specs.Load as load
use Rattle.br_catalog_tables.specs.declared.old_schema.OldLayout.{OldLayout}
use Rattle.br_store.specs.Held.{job_shown, name_at, span_shown}
use Rattle.br_catalog_files.specs.OldNames.{AreNames}
use Rattle.br_catalog_files.specs.OldRead.{files_in, jobs_in, spans_in}
use Rattle.br_catalog_files.specs.Refusals.{AreFilesFor, CanName, CanShowJob, CanShowSpan, CanTakeAll, FormHistory, IsFileLinked}
use Rattle.br_catalog_files.specs.declared.old_names.NameTable.{NameTable}
use Rattle.br_catalog_files.proofs.WholeLaws.{AreGrouped, apart_by_rows, bare, filled, no_files, parts, rows_by, rows_clash, rows_of}

-- ---- values

pub small_parts : (v : Value) (n : ℕ) → small v ≡ Ok n → (v ≡ Int (pos n)) × (n < 2 ^ 32)
unfolding small
small_parts Null n h = absurd cc
small_parts (Int (negsuc m)) n h = absurd cc
small_parts (Int (pos m)) n h = go (nat_le (2 ^ 32) m) refl
  where
    go : (b : Bool) → nat_le (2 ^ 32) m ≡ b → (Int (pos m) ≡ Int (pos n)) × (n < 2 ^ 32)
    go true e = absurd (let bad = rw e at h in cc)
    go false e =
        let same : m ≡ n = ok_is {E = ℕ} m n (rw e at h) in
        (ap (λ (k : ℕ). Int (pos k)) same, subst (λ (k : ℕ). k < 2 ^ 32) same (leb-false (2 ^ 32) m e))
small_parts (Real x) n h = absurd cc
small_parts (Text t) n h = absurd cc
small_parts (Blob b) n h = absurd cc

path_parts : (v w : Value) (p : List ℕ) → path_in v w ≡ Ok p → (front : List ℕ) × (rest : List ℕ) × (v ≡ Blob front) × (w ≡ Blob rest) × (is_path (front ++ rest) ≡ true)
unfolding path_in checked_path
path_parts Null w p h = absurd cc
path_parts (Int n) w p h = absurd cc
path_parts (Real x) w p h = absurd cc
path_parts (Text t) w p h = absurd cc
path_parts (Blob front) Null p h = absurd cc
path_parts (Blob front) (Int n) p h = absurd cc
path_parts (Blob front) (Real x) p h = absurd cc
path_parts (Blob front) (Text t) p h = absurd cc
path_parts (Blob front) (Blob rest) p h = go (is_path (front ++ rest)) refl
  where
    go : (b : Bool) → is_path (front ++ rest) ≡ b → (f : List ℕ) × (r : List ℕ) × (Blob front ≡ Blob f) × (Blob rest ≡ Blob r) × (is_path (f ++ r) ≡ true)
    go true e = (front, rest, refl, refl, e)
    go false e = absurd (let bad = rw e at h in cc)

string_parts : (v : Value) (t : List ℕ) → string_in v ≡ Ok t → (v ≡ Text t) × (is_utf8 t ≡ true)
unfolding string_in characters
string_parts Null t h = absurd cc
string_parts (Int n) t h = absurd cc
string_parts (Real x) t h = absurd cc
string_parts (Text u) t h = go (is_utf8 u) refl
  where
    go : (b : Bool) → is_utf8 u ≡ b → (Text u ≡ Text t) × (is_utf8 t ≡ true)
    go true e = let same : u ≡ t = ok_is {E = ℕ} u t (rw e at h) in (ap Text same, ap is_utf8 (sym same) ∙ e)
    go false e = absurd (let bad = rw e at h in cc)
string_parts (Blob b) t h = absurd cc

digest_parts : (v : Value) (d : Option (List ℕ)) → digest_in v ≡ Ok d → (t : List ℕ) × (v ≡ Text t) × (is_ok (digest t) ≡ true)
unfolding digest_in
digest_parts Null d h = absurd cc
digest_parts (Int n) d h = absurd cc
digest_parts (Real x) d h = absurd cc
digest_parts (Text t) d h = (t, refl, ap is_ok h)
digest_parts (Blob b) d h = absurd cc

-- ---- rows

-- the values of a row that shows a file
pub record FileParts (s : Row) (f : FileRow) : Type 0 where
  pub index_is : column s 1 ≡ Int (pos f.index)
  pub low : f.index < 2 ^ 32
  pub front : List ℕ
  pub rest : List ℕ
  pub front_is : column s 2 ≡ Blob front
  pub rest_is : column s 3 ≡ Blob rest
  pub path : is_path (front ++ rest) ≡ true
  pub lstat_is : column s 4 ≡ Text f.lstat
  pub characters_are : is_utf8 f.lstat ≡ true
  pub digits : List ℕ
  pub digits_are : column s 5 ≡ Text digits
  pub digest_is : is_ok (digest digits) ≡ true

pub file_parts : (s : Row) (f : FileRow) → read_file s ≡ Ok f → FileParts s f
unfolding read_file
file_parts s f h = one (small (column s 1)) refl
  where
    one : (q : Result ℕ ℕ) → small (column s 1) ≡ q → FileParts s f
    one (Err e) a = absurd (let bad = rw a at h in cc)
    one (Ok index) a = two (path_in (column s 2) (column s 3)) refl
      where
        two : (q : Result (List ℕ) ℕ) → path_in (column s 2) (column s 3) ≡ q → FileParts s f
        two (Err e) b = absurd (let bad = rw (a, b) at h in cc)
        two (Ok path) b = three (string_in (column s 4)) refl
          where
            three : (q : Result (List ℕ) ℕ) → string_in (column s 4) ≡ q → FileParts s f
            three (Err e) c = absurd (let bad = rw (a, b, c) at h in cc)
            three (Ok lstat) c = four (digest_in (column s 5)) refl
              where
                four : (q : Result (Option (List ℕ)) ℕ) → digest_in (column s 5) ≡ q → FileParts s f
                four (Err e) d = absurd (let bad = rw (a, b, c, d) at h in cc)
                four (Ok digits) d =
                    let made : FileRow = record { path = path; index = index; lstat = lstat; digest = digits } in
                    let same : made ≡ f = ok_is {E = ℕ} made f (rw (a, b, c, d) at h) in
                    let index_same : index ≡ f.index = ap (λ (g : FileRow). g.index) same in
                    let lstat_same : lstat ≡ f.lstat = ap (λ (g : FileRow). g.lstat) same in
                    let i = small_parts (column s 1) index a in
                    let p = path_parts (column s 2) (column s 3) path b in
                    let l = string_parts (column s 4) lstat c in
                    let m = digest_parts (column s 5) digits d in
                    record {
                      index_is = i.0 ∙ ap (λ (n : ℕ). Int (pos n)) index_same;
                      low = subst (λ (n : ℕ). n < 2 ^ 32) index_same i.1;
                      front = p.0;
                      rest = p.1;
                      front_is = p.2;
                      rest_is = p.3;
                      path = p.4;
                      lstat_is = l.0 ∙ ap Text lstat_same;
                      characters_are = ap is_utf8 (sym lstat_same) ∙ l.1;
                      digits = m.0;
                      digits_are = m.1;
                      digest_is = m.2;
                    }

-- a row of Job that is read has the name of its client
no_client : (a b c d e f g i : Value) (j : JobRow) → read_job (a ∷ b ∷ c ∷ Null ∷ d ∷ e ∷ f ∷ g ∷ i ∷ []) ≡ Ok j → ⊥
unfolding read_job name_in
no_client a b c d e f g i j h = one (small a) refl
  where
    one : (q : Result ℕ ℕ) → small a ≡ q → ⊥
    one (Err x) p = let bad = rw p at h in cc
    one (Ok id) p = two (id == 0) refl
      where
        two : (z : Bool) → (id == 0) ≡ z → ⊥
        two true z = let bad = rw (p, z) at h in cc
        two false z = three (letter_in b) (letter_in c) refl refl
          where
            three : (q r : Result ℕ ℕ) → letter_in b ≡ q → letter_in c ≡ r → ⊥
            three (Err x) r k l = let bad = rw (p, z, k) at h in cc
            three (Ok n) (Err x) k l = let bad = rw (p, z, k, l) at h in cc
            three (Ok n) (Ok m) k l = let bad = rw (p, z, k, l) at h in cc

-- and that of its file set
no_fileset : (a b c d e f g i : Value) (j : JobRow) → read_job (a ∷ b ∷ c ∷ d ∷ e ∷ f ∷ Null ∷ g ∷ i ∷ []) ≡ Ok j → ⊥
unfolding read_job name_in
no_fileset a b c d e f g i j h = one (small a) refl
  where
    one : (q : Result ℕ ℕ) → small a ≡ q → ⊥
    one (Err x) p = let bad = rw p at h in cc
    one (Ok id) p = two (id == 0) refl
      where
        two : (z : Bool) → (id == 0) ≡ z → ⊥
        two true z = let bad = rw (p, z) at h in cc
        two false z = three (letter_in b) (letter_in c) refl refl
          where
            three : (q r : Result ℕ ℕ) → letter_in b ≡ q → letter_in c ≡ r → ⊥
            three (Err x) r k l = let bad = rw (p, z, k) at h in cc
            three (Ok n) (Err x) k l = let bad = rw (p, z, k, l) at h in cc
            three (Ok n) (Ok m) k l = four (name_in d) (letter_in e) (natural f) refl refl refl
              where
                four : (q : Result (List ℕ) ℕ) (r s : Result ℕ ℕ) → name_in d ≡ q → letter_in e ≡ r → natural f ≡ s → ⊥
                four (Err x) r s u v w = let bad = rw (p, z, k, l, u) at h in cc
                four (Ok y) (Err x) s u v w = let bad = rw (p, z, k, l, u, v) at h in cc
                four (Ok y) (Ok t) (Err x) u v w = let bad = rw (p, z, k, l, u, v, w) at h in cc
                four (Ok y) (Ok t) (Ok o) u v w = let bad = rw (p, z, k, l, u, v, w) at h in cc

pub job_names : (cs fs : List Row) (r : Row) (j : JobRow) → read_job (job_shown cs fs r) ≡ Ok j → (name_at cs (column r 4) ≢ Null) × (name_at fs (column r 7) ≢ Null)
job_names cs fs r j h = (
  λ none. no_client (column r 0) (column r 2) (column r 3) (column r 5) (column r 6) (name_at fs (column r 7)) (column r 8) (column r 9) j (rw none at h),
  λ none. no_fileset (column r 0) (column r 2) (column r 3) (name_at cs (column r 4)) (column r 5) (column r 6) (column r 8) (column r 9) j (rw none at h),
)

-- a row of JobMedia that is read has the name of a volume
pub span_name : (ms : List Row) (r : Row) (s : Span) → read_span (span_shown ms r) ≡ Ok s → name_at ms (column r 3) ≢ Null
unfolding read_span volume_in
span_name ms r s h none = let bad = rw none at h in cc

-- ---- lists that are read

-- each row of a list that is read is read
pub read_one : {X : Type 0} (read : Row → Result X ℕ) (rows : List Row) (xs : List X) (r : Row) → read_all read rows ≡ Ok xs → Has rows r → (x : X) × (read r ≡ Ok x)
unfolding read_all
read_one read [] xs r h has = absurd has
read_one {X} read (a ∷ rows) xs r h has =
    let first = bind_ok (read a) (λ x. read_all read rows >>= λ ys. Ok (x ∷ ys)) xs h in
    let later = bind_ok (read_all read rows) (λ ys. Ok (first.0 ∷ ys)) xs first.2 in
    go has first.0 first.1 (λ there. read_one read rows later.0 r later.1 there)
  where
    go : Has (a ∷ rows) r → (x : X) → read a ≡ Ok x → (Has rows r → (x : X) × (read r ≡ Ok x)) → (x : X) × (read r ≡ Ok x)
    go (inl e) x is more = (x, ap read e ∙ is)
    go (inr there) x is more = more there

pub read_both : {A X : Type 0} (read : A → Result X ℕ) (a : A) (rows : List A) (x : X) (xs : List X) → read a ≡ Ok x → read_all read rows ≡ Ok xs → read_all read (a ∷ rows) ≡ Ok (x ∷ xs)
unfolding read_all
read_both read a rows x xs p q = rw (p, q) refl

-- a list that is read has an element for the row in its middle
pub read_around : {X : Type 0} (read : Row → Result X ℕ) (front back : List Row) (r : Row) (zs : List X) → read_all read (front ++ r ∷ back) ≡ Ok zs
    → (fs : List X) × (x : X) × (bs : List X) × (read_all read front ≡ Ok fs) × (read r ≡ Ok x) × (zs ≡ fs ++ x ∷ bs)
unfolding read_all
read_around {X} read [] back r zs h =
    let first = bind_ok (read r) (λ x. read_all read back >>= λ ys. Ok (x ∷ ys)) zs h in
    let later = bind_ok (read_all read back) (λ ys. Ok (first.0 ∷ ys)) zs first.2 in
    ([], first.0, later.0, refl, first.1, sym (ok_is {E = ℕ} (first.0 ∷ later.0) zs later.2))
read_around {X} read (a ∷ front) back r zs h =
    let first = bind_ok (read a) (λ x. read_all read (front ++ r ∷ back) >>= λ ys. Ok (x ∷ ys)) zs h in
    let later = bind_ok (read_all read (front ++ r ∷ back)) (λ ys. Ok (first.0 ∷ ys)) zs first.2 in
    let it = read_around read front back r later.0 later.1 in
    (first.0 ∷ it.0, it.1, it.2, read_both read a front first.0 it.0 first.1 it.3, it.4, sym (ok_is {E = ℕ} (first.0 ∷ later.0) zs later.2) ∙ ap (λ ys. first.0 ∷ ys) it.5)

-- ---- the rows of a job

pub of_id : (id : ℕ) (s : Row) → is_of id s ≡ true → small (column s 0) ≡ Ok id
of_id id s h = go (small (column s 0)) refl h
  where
    go : (q : Result ℕ ℕ) → small (column s 0) ≡ q → is_read id q ≡ true → small (column s 0) ≡ Ok id
    go (Ok m) is e = is ∙ ap Ok (sym (eqb-true id m e))
    go (Err x) is e = absurd cc

-- a row that belongs to one of these jobs is one of the rows of that job
pub job_of : (jobs : List JobRow) (rows : List Row) (s : Row) → list_all (load.has_job jobs) rows ≡ true → Has rows s → (j : JobRow) × Has jobs j × (is_of j.id s ≡ true)
job_of jobs rows s all has = some_has (λ (j : JobRow). is_of j.id s) jobs (test_has (load.has_job jobs) rows s all has)

-- the spans and the files of a job are read
abbrev pub IsRead : (ℕ → List Row) → (ℕ → List Row) → JobRow → Type 0
IsRead spans groups j = ((s : List Span) × (read_all read_span (spans j.id) ≡ Ok s)) × AreGrouped (groups j.id)

six : (a x y c d e : Bool) → (a && x && y && c && d && e) ≡ true → (x ≡ true) × (y ≡ true)
six true true true c d e h = (refl, refl)
six true true false c d e h = absurd cc
six true false y c d e h = absurd cc
six false x y c d e h = absurd cc

six_bare : (a x y c d e : Bool) → (a && x && y && c && d && e) ≡ true → (a && true && true && c && d && e) ≡ true
six_bare true true true c d e h = h
six_bare true true false c d e h = absurd cc
six_bare true false y c d e h = absurd cc
six_bare false x y c d e h = absurd cc

fit_files : (j : JobRow) (files : List FileRow) (spans : List Span) → are_rows (filled j files spans) ≡ true → (list_all is_file_row files ≡ true) × (no_pair same_file files ≡ true)
unfolding are_rows
fit_files j files spans h = six _ _ _ _ _ _ h

fit_bare : (j : JobRow) (files : List FileRow) (spans : List Span) → are_rows (filled j files spans) ≡ true → are_rows (bare j spans) ≡ true
unfolding are_rows no_pair
fit_bare j files spans h = six_bare (nat_le j.start 253402300799) (list_all is_file_row files) (no_pair same_file files) (list_all is_span spans) (is_numbered spans) (no_pair overlaps spans) h

-- a job that is read has its spans and files, and is read without its files, too
one_read : (spans groups : ℕ → List Row) (j : JobRow) (r : JobRows) → read_rows spans groups j ≡ Ok r → IsRead spans groups j × ((b : JobRows) × (read_rows spans no_files j ≡ Ok b) × (b.row ≡ j)) × (r.row ≡ j)
unfolding read_rows checked_rows read_all
one_read spans groups j r h = one (read_all read_span (spans j.id)) refl
  where
    one : (q : Result (List Span) ℕ) → read_all read_span (spans j.id) ≡ q → IsRead spans groups j × ((b : JobRows) × (read_rows spans no_files j ≡ Ok b) × (b.row ≡ j)) × (r.row ≡ j)
    one (Err e) a = absurd (let bad = rw a at h in cc)
    one (Ok s) a = two (read_all read_file (groups j.id)) refl
      where
        two : (q : Result (List FileRow) ℕ) → read_all read_file (groups j.id) ≡ q → IsRead spans groups j × ((b : JobRows) × (read_rows spans no_files j ≡ Ok b) × (b.row ≡ j)) × (r.row ≡ j)
        two (Err e) b = absurd (let bad = rw (a, b) at h in cc)
        two (Ok f) b = three (are_rows (filled j f (by_number s))) refl
          where
            three : (z : Bool) → are_rows (filled j f (by_number s)) ≡ z → IsRead spans groups j × ((b : JobRows) × (read_rows spans no_files j ≡ Ok b) × (b.row ≡ j)) × (r.row ≡ j)
            three false z = absurd (let bad = rw (a, b, z) at h in cc)
            three true z =
                let it : filled j f (by_number s) ≡ r = ok_is {E = ℕ} (filled j f (by_number s)) r (rw (a, b, z) at h) in
                let fit = fit_files j f (by_number s) z in
                (((s, a), (f, b, fit.0, fit.1)), (bare j (by_number s), rw (a, fit_bare j f (by_number s) z) refl, refl), sym (ap (λ (x : JobRows). x.row) it))

pub record AllRead (spans groups : ℕ → List Row) (jobs : List JobRow) (whole : List JobRows) : Type 0 where
  pub each : (j : JobRow) → Has jobs j → IsRead spans groups j
  pub bare_jobs : List JobRows
  pub are_bare : read_all (read_rows spans no_files) jobs ≡ Ok bare_jobs
  pub bare_rows : rows_of bare_jobs ≡ jobs
  pub whole_rows : rows_of whole ≡ jobs

all_read : (spans groups : ℕ → List Row) (jobs : List JobRow) (whole : List JobRows) → read_all (read_rows spans groups) jobs ≡ Ok whole → AllRead spans groups jobs whole
unfolding read_all
all_read spans groups [] whole h = record {
  each = λ j has. absurd has;
  bare_jobs = [];
  are_bare = refl;
  bare_rows = refl;
  whole_rows = ap rows_of (sym (ok_is {E = ℕ} [] whole h));
}
all_read spans groups (j ∷ jobs) whole h =
    let first = bind_ok (read_rows spans groups j) (λ x. read_all (read_rows spans groups) jobs >>= λ ys. Ok (x ∷ ys)) whole h in
    let later = bind_ok (read_all (read_rows spans groups) jobs) (λ ys. Ok (first.0 ∷ ys)) whole first.2 in
    let it : first.0 ∷ later.0 ≡ whole = ok_is {E = ℕ} (first.0 ∷ later.0) whole later.2 in
    let one = one_read spans groups j first.0 first.1 in
    let more = all_read spans groups jobs later.0 later.1 in
    record {
      each = λ k has. elim has [ inl e ↦ subst (IsRead spans groups) (sym e) one.0 | inr there ↦ more.each k there ];
      bare_jobs = one.1.0 ∷ more.bare_jobs;
      are_bare = read_both (read_rows spans no_files) j jobs one.1.0 more.bare_jobs one.1.1 more.are_bare;
      bare_rows = ap₂ (λ (y : JobRow) (ys : List JobRow). y ∷ ys) one.1.2 more.bare_rows;
      whole_rows = ap rows_of (sym it) ∙ ap₂ (λ (y : JobRow) (ys : List JobRow). y ∷ ys) one.2 more.whole_rows;
    }

read_whole : (jobs spans : List Row) (rows : List JobRow) (whole : List JobRows) → read_all read_job jobs ≡ Ok rows → list_all (load.has_job rows) spans ≡ true
    → read_all (read_rows (rows_by spans) no_files) rows ≡ Ok whole → no_pair clash whole ≡ true → read_loaded jobs spans [] ≡ Ok whole
unfolding read_loaded by_job if_apart
read_whole jobs spans rows whole are_jobs belong are_whole apart = rw (are_jobs, belong, are_whole, apart) refl

-- a history that is read with its files is read without them, too
pub read_bare : (jobs spans files : List Row) (whole : List JobRows) → read_loaded jobs spans files ≡ Ok whole → (b : List JobRows) × (read_loaded jobs spans [] ≡ Ok b)
read_bare jobs spans files whole h =
    let p = parts jobs spans files whole h in
    let all = all_read (rows_by spans) (rows_by files) p.rows whole p.are_whole in
    let apart : no_pair clash all.bare_jobs ≡ true = apart_by_rows all.bare_jobs ∙ ap (no_pair rows_clash) (all.bare_rows ∙ sym all.whole_rows) ∙ sym (apart_by_rows whole) ∙ p.apart in
    (all.bare_jobs, read_whole jobs spans p.rows all.bare_jobs p.are_jobs p.spans_belong all.are_bare apart)

-- the rows of spans and files belong to these jobs, and those of each are read
pub record AreDealt (spans files : List Row) (jobs : List JobRow) : Type 0 where
  pub spans_belong : list_all (load.has_job jobs) spans ≡ true
  pub files_belong : list_all (load.has_job jobs) files ≡ true
  pub each : (j : JobRow) → Has jobs j → IsRead (rows_by spans) (rows_by files) j

pub are_dealt : (jobs spans files : List Row) (whole history : List JobRows) → read_loaded jobs spans files ≡ Ok whole → read_loaded jobs spans [] ≡ Ok history → AreDealt spans files (rows_of history)
are_dealt jobs spans files whole history h g =
    let p = parts jobs spans files whole h in
    let q = parts jobs spans [] history g in
    let same : p.rows ≡ q.rows = ok_is {E = ℕ} p.rows q.rows (sym p.are_jobs ∙ q.are_jobs) in
    let is : rows_of history ≡ q.rows = (all_read (rows_by spans) (rows_by []) q.rows history q.are_whole).whole_rows in
    subst (AreDealt spans files) (same ∙ sym is) (record {
      spans_belong = p.spans_belong;
      files_belong = p.files_belong;
      each = (all_read (rows_by spans) (rows_by files) p.rows whole p.are_whole).each;
    })

-- ---- the rows of tables

pub has_map : (f : Row → Row) (rows : List Row) (r : Row) → Has rows r → Has (map f rows) (f r)
has_map f [] r has = absurd has
has_map f (a ∷ rows) r (inl e) = inl (ap f e)
has_map f (a ∷ rows) r (inr there) = inr (has_map f rows r there)

pub int_of : (v : Value) → IsTrue (is_int v) → (id : ℤ) × (v ≡ Int id)
int_of Null h = absurd cc
int_of (Int n) h = (n, refl)
int_of (Real x) h = absurd cc
int_of (Text t) h = absurd cc
int_of (Blob b) h = absurd cc

can_name : (names : NameTable) (rows : List Row) (v : Value) → AreNames names rows → IsTable rows → IsTrue (is_int v) → name_at rows v ≢ Null → CanName names v
can_name names rows v are up linked named =
    let it = int_of v linked in
    record { rows = rows; are = are; sorted = up; id = it.0; is = it.1; named = named }

module _ (l : OldLayout) (trees : Trees) (forms : FormHistory l trees) where
  -- the rows of Job have their names
  pub jobs_named : (clients filesets : NameTable) → AreNames clients (trees l.client) → AreNames filesets (trees l.fileset) → AllByRecursion (CanShowJob clients filesets) (trees l.job)
  jobs_named clients filesets are_clients are_filesets =
      let p = parts (jobs_in l trees) (spans_in l trees) (files_in l trees) forms.all forms.loaded in
      let shown = job_shown (trees l.client) (trees l.fileset) in
      all_from (CanShowJob clients filesets) (trees l.job) (λ r has.
      let read = read_one read_job (jobs_in l trees) p.rows (shown r) p.are_jobs (has_map shown (trees l.job) r has) in
      let names = job_names (trees l.client) (trees l.fileset) r read.0 read.1 in
      let linked = all_has (λ (q : Row). IsTrue (is_int (column q 4)) × IsTrue (is_int (column q 7))) (trees l.job) r forms.linked.jobs has in (
        can_name clients (trees l.client) (column r 4) are_clients forms.sorted.clients.0 linked.0 names.0,
        can_name filesets (trees l.fileset) (column r 7) are_filesets forms.sorted.filesets.0 linked.1 names.1,
      ))

  -- the rows of JobMedia have theirs
  pub spans_named : (media : NameTable) → AreNames media (trees l.media) → AllByRecursion (CanShowSpan media) (trees l.job_media)
  spans_named media are =
      let p = parts (jobs_in l trees) (spans_in l trees) (files_in l trees) forms.all forms.loaded in
      let all = all_read (rows_by (spans_in l trees)) (rows_by (files_in l trees)) p.rows forms.all p.are_whole in
      let shown = span_shown (trees l.media) in
      all_from (CanShowSpan media) (trees l.job_media) (λ r has.
      let there = has_map shown (trees l.job_media) r has in
      let of = job_of p.rows (spans_in l trees) (shown r) p.spans_belong there in
      let group = (all.each of.0 of.1).0 in
      let read = read_one read_span (rows_by (spans_in l trees) of.0.id) group.0 (shown r) group.1 (has_kept (is_of of.0.id) (spans_in l trees) (shown r) there of.2) in
      let linked = all_has (λ (q : Row). IsTrue (is_int (column q 3))) (trees l.job_media) r forms.linked.spans has in
      can_name media (trees l.media) (column r 3) are forms.sorted.media.0 linked (span_name (trees l.media) r read.0 read.1))

  -- the jobs are read without their files
  pub bare_read : (b : List JobRows) × (read_loaded (jobs_in l trees) (spans_in l trees) [] ≡ Ok b)
  bare_read = read_bare (jobs_in l trees) (spans_in l trees) (files_in l trees) forms.all forms.loaded

  files_linked : AllByRecursion IsFileLinked (trees l.file)
  files_linked =
      all_from IsFileLinked (trees l.file) (λ r has.
      let id = int_of (column r 0) (all_has (λ (q : Row). IsTrue (is_int (column q 0))) (trees l.file) r forms.sorted.files.1 has) in
      let linked = all_has (λ (q : Row). IsTrue (is_int (column q 4)) × IsTrue (is_int (column q 5))) (trees l.file) r forms.linked.files has in
      let path = int_of (column r 4) linked.0 in
      let name = int_of (column r 5) linked.1 in
      record { id = id.0; path = path.0; name = name.0; id_is = id.1; path_is = path.1; name_is = name.1 })

  -- and a history with these jobs can have the files
  pub files_taken : (history : List JobRows) (paths names : NameTable) → read_loaded (jobs_in l trees) (spans_in l trees) [] ≡ Ok history → AreNames paths (trees l.path) → AreNames names (trees l.filename)
      → CanTakeAll (rows_of history) paths names (trees l.file)
  files_taken history paths names read are_paths are_names =
      let d = are_dealt (jobs_in l trees) (spans_in l trees) (files_in l trees) forms.all history forms.loaded read in
      record {
        ps = trees l.path;
        ns = trees l.filename;
        paths_are = are_paths;
        names_are = are_names;
        paths_sorted = forms.sorted.paths.0;
        names_sorted = forms.sorted.names.0;
        linked = files_linked;
        belong = d.files_belong;
        files = λ id known.
            let it = some_has (λ (j : JobRow). j.id == id) (rows_of history) known in
            let group = (d.each it.0 it.1).1 in
            subst (AreFilesFor (files_in l trees)) (eqb-true it.0.id id it.2) (record { files = group.0; read = group.1; valid = group.2; apart = group.3 });
      }
