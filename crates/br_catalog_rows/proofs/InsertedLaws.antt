-- Jobs that were inserted one after another are loaded in order of their numbers.
use Rattle.std.proofs.Common.{◌≡◌, ℕ, ◌<◌, ◌+◌, ◌^◌, Bool, true, false, cond, not, ◌&&◌, ◌||◌, ◌==◌, nat_lt, nat_le, pos, List, [], ◌∷◌, ◌++◌, map, filter, Result, Ok, refl, sym, ap, ap₂, subst, inl, inr, MatchBool, arith, ◌∙◌}
use Rattle.std.specs.List.{AllByRecursion, list_all, list_any, enumerate_from}
use Rattle.std.specs.Ordering.{match_ordering}
use Rattle.std.specs.declared.cmp.Ordering.TheVariants.{Less, Equal, Greater}
use Rattle.std.proofs.lemmas.Bool.{and_from, and_parts, ltb-false, leb-false, or_parts, not-true}
use Rattle.std.proofs.lemmas.Bool.Decides.{Decides-eqb}
use Rattle.std.proofs.lemmas.List.Elements.{filter-append}
use Rattle.std.proofs.lemmas.List.Folds.{list_all-append}
use Rattle.sqlite.specs.declared.types.Value.TheVariants.{Int}
use Rattle.sqlite.specs.Order.{Row, column}
use Rattle.sqlite.specs.Tree.{put_row}
use Rattle.sqlite_rules.specs.Lists.{Has}
use Rattle.sqlite_value.proofs.OrderLemmas.{value_cmp-Int}
use Rattle.br_model.specs.Name.{same_session}
use Rattle.br_model.specs.Job.{JobRow, FileRow, Span, JobRows, are_rows, checked_rows, no_pair, clash, is_numbered}
use Rattle.br_catalog_rows.specs.Decode.{job_row, span_row, file_row, read_job, read_span, read_file, small}
use Rattle.br_catalog_rows.specs.Load.{read_all, is_of, is_read, has_job, by_job, put_span, by_number, read_rows, if_apart, read_loaded, read_history, check_first}
use Rattle.br_catalog_rows.specs.Rows.{Rows, with_rows}
use Rattle.br_catalog_rows.specs.Inserted.{rows_of, put_job, by_id, IsSpan, IsFileRow, IsWhole, IsNewIn, Adds, Tried, accepted}
use Rattle.br_catalog_rows.proofs.ReadLaws.{small_ok, id_fits, job_ok, span_ok, file_ok}
use Rattle.br_model.proofs.ListLaws.{none_pass}
use Rattle.std.proofs.lemmas.List.{append-nil}
use Rattle.br_catalog_rows.proofs.LoadLaws.{same_either}

-- ---- rows written are read

read_each : {A X : Type 0} (read : A → Result X ℕ) (write : X → A) (xs : List X) → AllByRecursion (λ x. read (write x) ≡ Ok x) xs → read_all read (map write xs) ≡ Ok xs
unfolding read_all
read_each read write [] h = refl
read_each read write (x ∷ xs) h = rw (h.0, read_each read write xs h.1) refl

weaken : {X : Type 0} {P Q : X → Type 0} → ((x : X) → P x → Q x) → (xs : List X) → AllByRecursion P xs → AllByRecursion Q xs
weaken f [] h = tt
weaken f (x ∷ xs) h = (f x h.0, weaken f xs h.1)

-- ---- spans that are numbered are in order

numbered_stay : (n : ℕ) (spans : List Span) → list_all (λ (s : ℕ × Span). s.1.vol_index == s.0) (enumerate_from n spans) ≡ true → by_number spans ≡ spans
unfolding by_number put_span
numbered_stay n [] h = refl
numbered_stay n (s ∷ []) h = refl
numbered_stay n (s ∷ t ∷ ts) h =
    let first = and_parts (s.vol_index == n) (list_all (λ (s : ℕ × Span). s.1.vol_index == s.0) (enumerate_from (n + 1) (t ∷ ts))) h in
    let second = and_parts (t.vol_index == n + 1) (list_all (λ (s : ℕ × Span). s.1.vol_index == s.0) (enumerate_from (n + 1 + 1) ts)) first.1 in
    let is : s.vol_index ≡ n = (Decides-eqb s.vol_index n).0 first.0 in
    let next : t.vol_index ≡ n + 1 = (Decides-eqb t.vol_index (n + 1)).0 second.0 in
    ap (put_span s) (numbered_stay (n + 1) (t ∷ ts) first.1) ∙ placed (nat_le s.vol_index t.vol_index) refl (omega (arith, is, next))
  where
    placed : (b : Bool) → nat_le s.vol_index t.vol_index ≡ b → s.vol_index < t.vol_index → cond b (s ∷ t ∷ ts) (t ∷ put_span s ts) ≡ s ∷ t ∷ ts
    placed true e lt = refl
    placed false e lt = absurd (omega (arith, lt, leb-false s.vol_index t.vol_index e))

-- ---- jobs in order

-- whether one of the jobs has this number
abbrev has_id : ℕ → List JobRows → Bool
has_id id jobs = list_any (λ (k : JobRows). k.row.id == id) jobs

abbrev row_of : JobRows → Row
row_of k = job_row k.row

apart_ways : (m n : ℕ) → nat_lt m n ≡ false → nat_lt n m ≡ false → (m == n) ≡ false → ⊥
apart_ways m n a b e =
    let same : m ≡ n = omega (arith, ltb-false m n a, ltb-false n m b) in
    absurd (let x = sym e ∙ (Decides-eqb m n).1 same in cc)

-- the row of a job is added at the place of the job
put_is : (j : JobRows) (jobs : List JobRows) → has_id j.row.id jobs ≡ false → put_row (row_of j) (map row_of jobs) ≡ map row_of (put_job j jobs)
unfolding put_job
put_is j [] none = refl
put_is j (k ∷ ks) none =
    let parts = or_parts (k.row.id == j.row.id) (has_id j.row.id ks) none in
    rw (value_cmp-Int (pos k.row.id) (pos j.row.id)) (go (nat_lt k.row.id j.row.id) (nat_lt j.row.id k.row.id) refl refl parts.0 (put_is j ks parts.1))
  where
    go : (a b : Bool) → nat_lt k.row.id j.row.id ≡ a → nat_lt j.row.id k.row.id ≡ b → (k.row.id == j.row.id) ≡ false → put_row (row_of j) (map row_of ks) ≡ map row_of (put_job j ks)
        → match_ordering (cond a Less (cond b Greater Equal)) (row_of k ∷ put_row (row_of j) (map row_of ks)) (row_of j ∷ map row_of ks) (row_of j ∷ row_of k ∷ map row_of ks)
        ≡ map row_of (cond a (k ∷ put_job j ks) (j ∷ k ∷ ks))
    go true b is on e later = ap (λ l. row_of k ∷ l) later
    go false true is on e later = refl
    go false false is on e later = absurd (apart_ways k.row.id j.row.id is on e)

put_all : (P : JobRows → Type 0) (j : JobRows) (jobs : List JobRows) → P j → AllByRecursion P jobs → AllByRecursion P (put_job j jobs)
unfolding put_job
put_all P j [] p h = (p, tt)
put_all P j (k ∷ ks) p h = go (nat_lt k.row.id j.row.id) (put_all P j ks p h.1)
  where
    go : (b : Bool) → AllByRecursion P (put_job j ks) → AllByRecursion P (cond b (k ∷ put_job j ks) (j ∷ k ∷ ks))
    go true later = (h.0, later)
    go false later = (p, h)

all_by_id : (P : JobRows → Type 0) (jobs : List JobRows) → AllByRecursion P jobs → AllByRecursion P (by_id jobs)
unfolding by_id
all_by_id P [] h = tt
all_by_id P (j ∷ jobs) h = put_all P j (by_id jobs) h.0 (all_by_id P jobs h.1)

swap : (a b c : Bool) → (a || (b || c)) ≡ (b || (a || c))
swap true true c = refl
swap true false c = refl
swap false true c = refl
swap false false c = refl

put_any : (p : JobRows → Bool) (j : JobRows) (jobs : List JobRows) → list_any p (put_job j jobs) ≡ (p j || list_any p jobs)
unfolding put_job
put_any p j [] = refl
put_any p j (k ∷ ks) = go (nat_lt k.row.id j.row.id) (put_any p j ks)
  where
    go : (b : Bool) → list_any p (put_job j ks) ≡ (p j || list_any p ks) → list_any p (cond b (k ∷ put_job j ks) (j ∷ k ∷ ks)) ≡ (p j || (p k || list_any p ks))
    go true later = ap (λ b. p k || b) later ∙ swap (p k) (p j) (list_any p ks)
    go false later = refl

any_by_id : (p : JobRows → Bool) (jobs : List JobRows) → list_any p (by_id jobs) ≡ list_any p jobs
unfolding by_id
any_by_id p [] = refl
any_by_id p (j ∷ jobs) = put_any p j (by_id jobs) ∙ ap (λ b. p j || b) (any_by_id p jobs)

-- ---- no two of one number or one session

clash_either : (j k : JobRows) → clash j k ≡ clash k j
clash_either j k = λ i.
    same_either j.row.id k.row.id i || (same_either j.row.session.id k.row.session.id i && same_either j.row.session.time k.row.session.time i)

any_same : (p q : JobRows → Bool) (jobs : List JobRows) → ((k : JobRows) → p k ≡ q k) → list_any p jobs ≡ list_any q jobs
any_same p q jobs same = ap (λ (r : JobRows → Bool). list_any r jobs) (λ i k. same k i)

put_apart : (j : JobRows) (jobs : List JobRows) → list_any (clash j) jobs ≡ false → no_pair clash jobs ≡ true → no_pair clash (put_job j jobs) ≡ true
unfolding put_job no_pair
put_apart j [] none apart = refl
put_apart j (k ∷ ks) none apart =
    let parts = or_parts (clash j k) (list_any (clash j) ks) none in
    let rest = and_parts (not (list_any (clash k) ks)) (no_pair clash ks) apart in
    go (nat_lt k.row.id j.row.id) (put_apart j ks parts.1 rest.1) (put_any (clash k) j ks ∙ ap (λ b. b || list_any (clash k) ks) (clash_either k j ∙ parts.0)) rest.0
  where
    go : (b : Bool) → no_pair clash (put_job j ks) ≡ true → list_any (clash k) (put_job j ks) ≡ list_any (clash k) ks → not (list_any (clash k) ks) ≡ true
        → no_pair clash (cond b (k ∷ put_job j ks) (j ∷ k ∷ ks)) ≡ true
    go true later one free = and_from (not (list_any (clash k) (put_job j ks))) (no_pair clash (put_job j ks)) (ap not one ∙ free) later
    go false later one free = and_from (not (list_any (clash j) (k ∷ ks))) (no_pair clash (k ∷ ks)) (ap not none) apart

apart_by_id : (jobs : List JobRows) → no_pair clash jobs ≡ true → no_pair clash (by_id jobs) ≡ true
unfolding by_id no_pair
apart_by_id [] h = refl
apart_by_id (j ∷ jobs) h =
    let parts = and_parts (not (list_any (clash j) jobs)) (no_pair clash jobs) h in
    put_apart j (by_id jobs) (any_by_id (clash j) jobs ∙ turned (list_any (clash j) jobs) parts.0) (apart_by_id jobs parts.1)
  where
    turned : (b : Bool) → not b ≡ true → b ≡ false
    turned true e = absurd cc
    turned false e = refl

-- ---- rows of spans or of files

-- the rows that jobs have, those of the last job of the list first
unfoldable gathered : {X : Type 0} → (ℕ → X → Row) → (JobRows → List X) → List JobRows → List Row
gathered write part [] = []
gathered write part (j ∷ jobs) = gathered write part jobs ++ map (write j.row.id) (part j)

merge : {X : Type 0} {P Q R : X → Type 0} → ((x : X) → P x → Q x → R x) → (xs : List X) → AllByRecursion P xs → AllByRecursion Q xs → AllByRecursion R xs
merge f [] h g = tt
merge f (x ∷ xs) h g = (f x h.0 g.0, merge f xs h.1 g.1)

any-map : {X Y : Type 0} (p : Y → Bool) (f : X → Y) (xs : List X) → list_any p (map f xs) ≡ list_any (λ x. p (f x)) xs
any-map p f [] = refl
any-map p f (x ∷ xs) = ap (λ b. p (f x) || b) (any-map p f xs)

abbrev Fits : JobRows → Type 0
Fits k = k.row.id < 2 ^ 32

free_id : (j : JobRows) (jobs : List JobRows) → list_any (clash j) jobs ≡ false → has_id j.row.id jobs ≡ false
free_id j [] none = refl
free_id j (k ∷ ks) none =
    let parts = or_parts (clash j k) (list_any (clash j) ks) none in
    let one = or_parts (j.row.id == k.row.id) (same_session j.row.session k.row.session) parts.0 in
    ap (λ b. b || has_id j.row.id ks) (same_either k.row.id j.row.id ∙ one.0) ∙ free_id j ks parts.1

module _ {X : Type 0} (write : ℕ → X → Row) (part : JobRows → List X) (shows : (id : ℕ) (x : X) → column (write id x) 0 ≡ Int (pos id)) where
  test_is : (q id : ℕ) (x : X) → id < 2 ^ 32 → is_of q (write id x) ≡ (q == id)
  test_is q id x below = ap (λ v. is_read q (small v)) (shows id x) ∙ ap (is_read q) (small_ok id below)

  own : (q id : ℕ) → id < 2 ^ 32 → (xs : List X) → filter (is_of q) (map (write id) xs) ≡ cond (q == id) (map (write id) xs) []
  own q id below [] = nothing (q == id)
    where
      nothing : (b : Bool) → ◌≡◌ {A = List Row} [] (cond b [] [])
      nothing true = refl
      nothing false = refl
  own q id below (x ∷ xs) =
      ap (λ b. cond b (write id x ∷ filter (is_of q) (map (write id) xs)) (filter (is_of q) (map (write id) xs))) (test_is q id x below) ∙ go (q == id) (own q id below xs)
    where
      go : (b : Bool) → filter (is_of q) (map (write id) xs) ≡ cond b (map (write id) xs) []
          → cond b (write id x ∷ filter (is_of q) (map (write id) xs)) (filter (is_of q) (map (write id) xs)) ≡ cond b (write id x ∷ map (write id) xs) []
      go true later = ap (λ l. write id x ∷ l) later
      go false later = later

  no_rows_of : (q : ℕ) (jobs : List JobRows) → has_id q jobs ≡ false → AllByRecursion Fits jobs → filter (is_of q) (gathered write part jobs) ≡ []
  unfolding gathered
  no_rows_of q [] none fit = refl
  no_rows_of q (j ∷ jobs) none fit =
      let parts = or_parts (j.row.id == q) (has_id q jobs) none in
      filter-append (is_of q) (gathered write part jobs) (map (write j.row.id) (part j))
      ∙ ap₂ ◌++◌ (no_rows_of q jobs parts.1 fit.1) (own q j.row.id fit.0 (part j) ∙ ap (λ b. cond b (map (write j.row.id) (part j)) []) (same_either q j.row.id ∙ parts.0))

  -- the rows of each job are its own
  each : (jobs : List JobRows) → no_pair clash jobs ≡ true → AllByRecursion Fits jobs
      → AllByRecursion (λ k. filter (is_of k.row.id) (gathered write part jobs) ≡ map (write k.row.id) (part k)) jobs
  unfolding gathered no_pair
  each [] apart fit = tt
  each (j ∷ jobs) apart fit =
      let parts = and_parts (not (list_any (clash j) jobs)) (no_pair clash jobs) apart in
      let free = free_id j jobs (not-true (list_any (clash j) jobs) parts.0) in
      let split = λ (q : ℕ). filter-append (is_of q) (gathered write part jobs) (map (write j.row.id) (part j)) in (
        split j.row.id
            ∙ ap₂ ◌++◌ (no_rows_of j.row.id jobs free fit.1)
            (own j.row.id j.row.id fit.0 (part j) ∙ ap (λ b. cond b (map (write j.row.id) (part j)) []) ((Decides-eqb j.row.id j.row.id).1 refl)),
        merge
            (λ k same other. split k.row.id
            ∙ ap₂ ◌++◌ same (own k.row.id j.row.id fit.0 (part j) ∙ ap (λ b. cond b (map (write j.row.id) (part j)) []) other)
            ∙ append-nil (map (write k.row.id) (part k)))
            jobs (each jobs parts.1 fit.1) (none_pass (λ (k : JobRows). k.row.id == j.row.id) jobs free),
      )

  all_or : (p q : Row → Bool) (rows : List Row) → list_all p rows ≡ true → list_all (λ r. q r || p r) rows ≡ true
  all_or p q [] h = refl
  all_or p q (r ∷ rows) h =
      let parts = and_parts (p r) (list_all p rows) h in
      and_from (q r || p r) (list_all (λ r. q r || p r) rows) (ap (λ b. q r || b) parts.0 ∙ every (q r)) (all_or p q rows parts.1)
    where
      every : (b : Bool) → (b || true) ≡ true
      every true = refl
      every false = refl

  all_own : (p : Row → Bool) (id : ℕ) → id < 2 ^ 32 → (xs : List X) → list_all (λ r. is_of id r || p r) (map (write id) xs) ≡ true
  all_own p id below [] = refl
  all_own p id below (x ∷ xs) =
      and_from (is_of id (write id x) || p (write id x)) (list_all (λ r. is_of id r || p r) (map (write id) xs))
      (ap (λ b. b || p (write id x)) (test_is id id x below ∙ (Decides-eqb id id).1 refl)) (all_own p id below xs)

  -- each row is of one of the jobs
  known : (jobs : List JobRows) → AllByRecursion Fits jobs → list_all (λ r. list_any (λ (k : JobRows). is_of k.row.id r) jobs) (gathered write part jobs) ≡ true
  unfolding gathered
  known [] fit = refl
  known (j ∷ jobs) fit =
      let p : Row → Bool = λ r. list_any (λ (k : JobRows). is_of k.row.id r) jobs in
      list_all-append (λ r. is_of j.row.id r || p r) (gathered write part jobs) (map (write j.row.id) (part j))
      ∙ and_from _ _ (all_or p (is_of j.row.id) (gathered write part jobs) (known jobs fit.1)) (all_own p j.row.id fit.0 (part j))

  dealt : (jobs : List JobRows) → AllByRecursion Fits jobs
      → by_job (map (λ (k : JobRows). k.row) (by_id jobs)) (gathered write part jobs) ≡ Ok (λ id. filter (is_of id) (gathered write part jobs))
  unfolding by_job
  dealt jobs fit =
      let same : (r : Row) → has_job (map (λ (k : JobRows). k.row) (by_id jobs)) r ≡ list_any (λ (k : JobRows). is_of k.row.id r) jobs =
      λ r. any-map (λ (j : JobRow). is_of j.id r) (λ (k : JobRows). k.row) (by_id jobs) ∙ any_by_id (λ (k : JobRows). is_of k.row.id r) jobs in
      rw (ap (λ (p : Row → Bool). list_all p (gathered write part jobs)) (λ i r. same r i) ∙ known jobs fit) refl

-- ---- whole jobs

are_numbered : (k : JobRows) → are_rows k ≡ true → is_numbered k.spans ≡ true
unfolding are_rows
are_numbered k fit =
    let all = and_parts _ _ fit in
    let most = and_parts _ _ all.0 in
    most.1

whole_is_read : (spans files : ℕ → List Row) (k : JobRows) → IsWhole k → spans k.row.id ≡ map (span_row k.row.id) k.spans → files k.row.id ≡ map (file_row k.row.id) k.files
    → read_rows spans files k.row ≡ Ok k
unfolding read_rows checked_rows
whole_is_read spans files k w s f =
    let spans_read = ap (read_all read_span) s ∙ read_each read_span (span_row k.row.id) k.spans (weaken (λ (x : Span) (i : IsSpan x). span_ok k.row.id x i) k.spans w.spans) in
    let files_read = ap (read_all read_file) f
    ∙ read_each read_file (file_row k.row.id) k.files (weaken (λ (x : FileRow) (i : IsFileRow x). file_ok k.row.id x i.index i.path i.lstat i.digest) k.files w.files) in
    rw (spans_read, files_read, numbered_stay 1 k.spans (are_numbered k w.fit), w.fit) refl

versions_are : (jobs : List JobRows) → (rows_of jobs).versions ≡ (Int (pos 2) ∷ []) ∷ []
unfolding rows_of
versions_are [] = refl
versions_are (j ∷ jobs) = versions_are jobs

jobs_are : (jobs : List JobRows) → no_pair clash jobs ≡ true → (rows_of jobs).jobs ≡ map row_of (by_id jobs)
unfolding rows_of by_id no_pair
jobs_are [] apart = refl
jobs_are (j ∷ jobs) apart =
    let parts = and_parts (not (list_any (clash j) jobs)) (no_pair clash jobs) apart in
    let free = free_id j jobs (not-true (list_any (clash j) jobs) parts.0) in
    ap (put_row (row_of j)) (jobs_are jobs parts.1) ∙ put_is j (by_id jobs) (any_by_id (λ (k : JobRows). k.row.id == j.row.id) jobs ∙ free)

spans_are : (jobs : List JobRows) → (rows_of jobs).spans ≡ gathered span_row (λ (k : JobRows). k.spans) jobs
unfolding rows_of gathered
spans_are [] = refl
spans_are (j ∷ jobs) = ap (λ l. l ++ map (span_row j.row.id) j.spans) (spans_are jobs)

files_are : (jobs : List JobRows) → (rows_of jobs).files ≡ gathered file_row (λ (k : JobRows). k.files) jobs
unfolding rows_of gathered
files_are [] = refl
files_are (j ∷ jobs) = ap (λ l. l ++ map (file_row j.row.id) j.files) (files_are jobs)

read_all_of : (ks : List JobRows) → AllByRecursion IsWhole ks → read_all read_job (map row_of ks) ≡ Ok (map (λ (k : JobRows). k.row) ks)
unfolding read_all
read_all_of [] h = refl
read_all_of (k ∷ ks) h = rw (job_ok k.row h.0.row, read_all_of ks h.1) refl

read_back : (spans files : ℕ → List Row) (ks : List JobRows) → AllByRecursion (λ k. read_rows spans files k.row ≡ Ok k) ks → read_all (read_rows spans files) (map (λ (k : JobRows). k.row) ks) ≡ Ok ks
unfolding read_all
read_back spans files [] h = refl
read_back spans files (k ∷ ks) h = rw (h.0, read_back spans files ks h.1) refl

-- jobs that were inserted are loaded
pub inserted_load : (jobs : List JobRows) → AllByRecursion IsWhole jobs → no_pair clash jobs ≡ true → read_history (rows_of jobs) ≡ Ok (by_id jobs)
unfolding read_history read_loaded check_first if_apart
inserted_load jobs whole apart =
    let fit = weaken (λ (k : JobRows) (w : IsWhole k). id_fits k.row w.row) jobs whole in
    let spans = gathered span_row (λ (k : JobRows). k.spans) jobs in
    let files = gathered file_row (λ (k : JobRows). k.files) jobs in
    let one : JobRows → JobRow = λ k. k.row in
    let read : read_all read_job (rows_of jobs).jobs ≡ Ok (map one (by_id jobs)) =
    ap (read_all read_job) (jobs_are jobs apart) ∙ read_all_of (by_id jobs) (all_by_id IsWhole jobs whole) in
    let each_of = merge (λ (k : JobRows) (w : IsWhole k) (own : (filter (is_of k.row.id) spans ≡ map (span_row k.row.id) k.spans) × (filter (is_of k.row.id) files ≡ map (file_row k.row.id) k.files)).
    whole_is_read (λ id. filter (is_of id) spans) (λ id. filter (is_of id) files) k w own.0 own.1)
    jobs whole (merge (λ (k : JobRows) (a : filter (is_of k.row.id) spans ≡ map (span_row k.row.id) k.spans) (b : filter (is_of k.row.id) files ≡ map (file_row k.row.id) k.files). (a, b)) jobs
    (each span_row (λ (k : JobRows). k.spans) (λ id x. refl) jobs apart fit) (each file_row (λ (k : JobRows). k.files) (λ id x. refl) jobs apart fit)) in
    rw (
      versions_are jobs,
      read,
      ap (by_job (map one (by_id jobs))) (spans_are jobs) ∙ dealt span_row (λ (k : JobRows). k.spans) (λ id x. refl) jobs fit,
      ap (by_job (map one (by_id jobs))) (files_are jobs) ∙ dealt file_row (λ (k : JobRows). k.files) (λ id x. refl) jobs fit,
      read_back (λ id. filter (is_of id) spans) (λ id. filter (is_of id) files) (by_id jobs) (all_by_id (λ k. read_rows (λ id. filter (is_of id) spans) (λ id. filter (is_of id) files) k.row ≡ Ok k) jobs each_of),
      apart_by_id jobs apart,
    ) refl

-- ---- jobs that were tried

has_shown : (k : JobRows) (ks : List JobRows) → Has ks k → Has (map row_of ks) (row_of k)
has_shown k [] h = absurd h
has_shown k (l ∷ ks) (inl same) = inl (ap row_of same)
has_shown k (l ∷ ks) (inr more) = inr (has_shown k ks more)

none_clash : (j : JobRows) (ks : List JobRows) → ((k : JobRows) → Has ks k → clash j k ≡ false) → list_any (clash j) ks ≡ false
none_clash j [] apart = refl
none_clash j (k ∷ ks) apart = ap₂ ◌||◌ (apart k (inl refl)) (none_clash j ks (λ l h. apart l (inr h)))

-- a job that is new among the rows of jobs clashes with none of them
apart_from : (j : JobRows) (jobs : List JobRows) (rows : Rows) → IsNewIn j.row rows → rows.jobs ≡ map row_of jobs → (k : JobRows) → Has jobs k → clash j k ≡ false
apart_from j jobs rows fresh are k h =
    let there : Has rows.jobs (row_of k) = subst (λ l. Has l (row_of k)) (sym are) (has_shown k jobs h) in
    ids (j.row.id == k.row.id) refl there
  where
    sessions : (a b : Bool) → (j.row.session.id == k.row.session.id) ≡ a → (j.row.session.time == k.row.session.time) ≡ b → Has rows.jobs (row_of k) → (a && b) ≡ false
    sessions false b x y there = refl
    sessions true false x y there = refl
    sessions true true x y there =
        absurd (fresh.session (row_of k) there (ap (λ n. Int (pos n)) (sym ((Decides-eqb j.row.session.id k.row.session.id).0 x))) (ap (λ n. Int (pos n)) (sym ((Decides-eqb j.row.session.time k.row.session.time).0 y))))

    ids : (a : Bool) → (j.row.id == k.row.id) ≡ a → Has rows.jobs (row_of k) → (a || same_session j.row.session k.row.session) ≡ false
    ids true x there = absurd (fresh.number (row_of k) there (ap (λ n. Int (pos n)) (sym ((Decides-eqb j.row.id k.row.id).0 x))))
    ids false x there = sessions (j.row.session.id == k.row.session.id) (j.row.session.time == k.row.session.time) refl refl there

abbrev pub IsReached : List JobRows → Rows → Type 0
IsReached jobs rows = (rows ≡ rows_of jobs) × AllByRecursion IsWhole jobs × (no_pair clash jobs ≡ true)

pub reached : (tries : List (JobRows × Bool)) (rows : Rows) → Tried tries rows → IsReached (accepted tries) rows
unfolding Tried accepted rows_of no_pair
reached [] rows h = (h, tt, refl)
reached ((j, was) ∷ tries) rows h = go was (reached tries h.0 h.1) h.2
  where
    go : (b : Bool) → IsReached (accepted tries) h.0 → MatchBool b (Adds j h.0 rows) (rows ≡ h.0) → IsReached (cond b (j ∷ accepted tries) (accepted tries)) rows
    go true so adds =
        let are : h.0.jobs ≡ map row_of (by_id (accepted tries)) = ap (λ (r : Rows). r.jobs) so.0 ∙ jobs_are (accepted tries) so.2 in
        let none : list_any (clash j) (accepted tries) ≡ false = sym (any_by_id (clash j) (accepted tries)) ∙ none_clash j (by_id (accepted tries)) (apart_from j (by_id (accepted tries)) h.0 adds.fresh are) in
        (adds.rows ∙ ap (with_rows j) so.0, (adds.whole, so.1), and_from (not (list_any (clash j) (accepted tries))) (no_pair clash (accepted tries)) (ap not none) so.2)
    go false so same = (same ∙ so.0, so.1, so.2)

-- the jobs that were taken are loaded
pub tried_load : (tries : List (JobRows × Bool)) (rows : Rows) → Tried tries rows → read_history rows ≡ Ok (by_id (accepted tries))
tried_load tries rows h = let so = reached tries rows h in ap read_history so.0 ∙ inserted_load (accepted tries) so.1 so.2
