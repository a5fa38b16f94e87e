-- Rows that are read one after another, and rows that are dealt out to jobs.
use Rattle.std.proofs.Common.{◌≡◌, ℕ, zero, suc, ◌<◌, ◌+◌, Bool, true, false, cond, not, ◌&&◌, ◌||◌, ◌==◌, List, [], ◌∷◌, ◌++◌, take, length, get_or, map, filter, Result, Ok, Err, refl, sym, ap, arith, ◌∙◌, Bor}
use Rattle.std.specs.List.{list_all, list_any}
use Rattle.std.proofs.lemmas.Bool.Decides.{Decides-eqb}
use Rattle.std.proofs.lemmas.List.{take_more, get_or-map, length-map}
use Rattle.std.proofs.lemmas.List.Elements.{filter-append}
use Rattle.std.proofs.lemmas.List.Folds.{list_all_at}
use Rattle.sqlite.specs.Order.{Row, column}
use Rattle.br_model.specs.Answer.{◌>>=◌, refuse_if, IsRefusal}
use Rattle.br_model.specs.Job.{JobRow, JobRows, pushed, no_pair, clash}
use Rattle.br_model.specs.Name.{same_session}
use Rattle.br_history.specs.Fault.{cause as history_cause}
use Rattle.br_history.specs.declared.fault.HistoryFault.{HistoryFault}
use Rattle.br_history.specs.declared.fault.HistoryFault.TheVariants as rows
use Rattle.br_catalog_rows.specs.declared.fault.RowsFault.{RowsFault}
use Rattle.br_catalog_rows.specs.declared.fault.RowsFault.TheVariants.{Memory, BadRows}
use Rattle.br_catalog_rows.specs.Fault.{rows_cause, of_history_fault}
use Rattle.br_catalog_rows.specs.Decode.{small}
use Rattle.br_catalog_rows.specs.Load.{read_all, is_read, is_of, has_job, by_job, if_apart}

-- ---- rows read

pub read_push : {A X : Type 0} (read : A → Result X ℕ) (rows : List A) (xs : List X) (a : A) (x : X) → read_all read rows ≡ Ok xs → read a ≡ Ok x → read_all read (rows ++ a ∷ []) ≡ Ok (xs ++ x ∷ [])
unfolding read_all
read_push {A} {X} read [] xs a x before is = rw is (ap (λ l. Ok (l ++ x ∷ [])) (none xs before))
  where
    none : (xs : List X) → ◌≡◌ {A = Result (List X) ℕ} (Ok []) (Ok xs) → [] ≡ xs
    none xs e = cc
read_push {A} {X} read (r ∷ rows) xs a x before is = first (read r) (read_all read rows) refl (λ ys same. read_push read rows ys a x same is) before
  where
    first : (q : Result X ℕ) (all : Result (List X) ℕ) → read_all read rows ≡ all
        → ((ys : List X) → read_all read rows ≡ Ok ys → read_all read (rows ++ a ∷ []) ≡ Ok (ys ++ x ∷ [])) → (q >>= λ y. all >>= λ ys. Ok (y ∷ ys)) ≡ Ok xs
        → (q >>= λ y. read_all read (rows ++ a ∷ []) >>= λ ys. Ok (y ∷ ys)) ≡ Ok (xs ++ x ∷ [])
    first (Err e) all same more h = absurd cc
    first (Ok y) (Err e) same more h = absurd cc
    first (Ok y) (Ok ys) same more h =
        ap (λ (p : Result (List X) ℕ). p >>= λ zs. Ok (y ∷ zs)) (more ys same) ∙ ap (λ (l : List X). Ok (l ++ x ∷ [])) (whole h)
      where
        whole : ◌≡◌ {A = Result (List X) ℕ} (Ok (y ∷ ys)) (Ok xs) → y ∷ ys ≡ xs
        whole e = cc

-- the next row is read
pub read_more : {A X : Type 0} (read : A → Result X ℕ) (rows : List A) (i : ℕ) (xs : List X) (a : A) (x : X) → i < length rows → a ≡ get_or rows i a
    → read_all read (take i rows) ≡ Ok xs → read a ≡ Ok x → read_all read (take (i + 1) rows) ≡ Ok (xs ++ x ∷ [])
read_more read rows i xs a x lt at before is =
    ap (read_all read) (take_more rows i a lt ∙ ap (λ r. take i rows ++ r ∷ []) (sym at)) ∙ read_push read (take i rows) xs a x before is

-- the next row can't be read
pub read_fails : {A X : Type 0} (read : A → Result X ℕ) (rows : List A) (i : ℕ) (xs : List X) (a : A) → i < length rows → a ≡ get_or rows i a
    → read_all read (take i rows) ≡ Ok xs → read a ≡ Err 47 → read_all read rows ≡ Err 47
unfolding read_all
read_fails read [] i xs a lt at before is = absurd (omega (arith, lt))
read_fails read (r ∷ rows) zero xs a lt at before is = rw (ap read (sym at) ∙ is) refl
read_fails {A} {X} read (r ∷ rows) (suc i) xs a lt at before is =
    first (read r) (read_all read (take i rows)) refl (λ ys same. read_fails read rows i ys a (omega arith) at same is) before
  where
    first : (q : Result X ℕ) (all : Result (List X) ℕ) → read_all read (take i rows) ≡ all → ((ys : List X) → read_all read (take i rows) ≡ Ok ys → read_all read rows ≡ Err 47)
        → (q >>= λ y. all >>= λ ys. Ok (y ∷ ys)) ≡ Ok xs
        → (q >>= λ y. read_all read rows >>= λ ys. Ok (y ∷ ys)) ≡ Err 47
    first (Err e) all same stops h = absurd cc
    first (Ok y) (Err e) same stops h = absurd cc
    first (Ok y) (Ok ys) same stops h = ap (λ (p : Result (List X) ℕ). p >>= λ zs. Ok (y ∷ zs)) (stops ys same)

-- a row after those that are read cannot be read
pub read_stops : {A X : Type 0} (read : A → Result X ℕ) (front rest : List A) (xs : List X) (a : A) → read_all read front ≡ Ok xs → read a ≡ Err 47 → read_all read (front ++ a ∷ rest) ≡ Err 47
unfolding read_all
read_stops read [] rest xs a before is = rw is refl
read_stops {A} {X} read (r ∷ front) rest xs a before is = first (read r) (read_all read front) refl (λ ys same. read_stops read front rest ys a same is) before
  where
    first : (q : Result X ℕ) (all : Result (List X) ℕ) → read_all read front ≡ all → ((ys : List X) → read_all read front ≡ Ok ys → read_all read (front ++ a ∷ rest) ≡ Err 47)
        → (q >>= λ y. all >>= λ ys. Ok (y ∷ ys)) ≡ Ok xs
        → (q >>= λ y. read_all read (front ++ a ∷ rest) >>= λ ys. Ok (y ∷ ys)) ≡ Err 47
    first (Err e) all same stops h = absurd cc
    first (Ok y) (Err e) same stops h = absurd cc
    first (Ok y) (Ok ys) same stops h = ap (λ (p : Result (List X) ℕ). p >>= λ zs. Ok (y ∷ zs)) (stops ys same)

now_at : (rows : List (Bor Row)) (i : ℕ) (b : Bor Row) → i < length rows → b ≡ get_or rows i b → b.now ≡ get_or (map (λ (b : Bor Row). b.now) rows) i b.now
now_at rows i b lt at = ap (λ (b : Bor Row). b.now) at ∙ sym (get_or-map (λ (b : Bor Row). b.now) rows i b b.now lt)

-- the same of borrowed rows
pub lent_more : {X : Type 0} (read : Row → Result X ℕ) (rows : List (Bor Row)) (i : ℕ) (xs : List X) (b : Bor Row) (x : X) → i < length rows → b ≡ get_or rows i b
    → read_all read (take i (map (λ (b : Bor Row). b.now) rows)) ≡ Ok xs → read b.now ≡ Ok x → read_all read (take (i + 1) (map (λ (b : Bor Row). b.now) rows)) ≡ Ok (xs ++ x ∷ [])
lent_more read rows i xs b x lt at before is =
    read_more read (map (λ (b : Bor Row). b.now) rows) i xs b.now x (omega (arith, lt, length-map rows (λ (b : Bor Row). b.now))) (now_at rows i b lt at) before is

pub lent_fails : {X : Type 0} (read : Row → Result X ℕ) (rows : List (Bor Row)) (i : ℕ) (xs : List X) (b : Bor Row) → i < length rows → b ≡ get_or rows i b
    → read_all read (take i (map (λ (b : Bor Row). b.now) rows)) ≡ Ok xs → read b.now ≡ Err 47 → read_all read (map (λ (b : Bor Row). b.now) rows) ≡ Err 47
lent_fails read rows i xs b lt at before is =
    read_fails read (map (λ (b : Bor Row). b.now) rows) i xs b.now (omega (arith, lt, length-map rows (λ (b : Bor Row). b.now))) (now_at rows i b lt at) before is

-- ---- refusals

-- if one refuses, so does the other
pub same_refusal : {X Y : Type 0} (e : RowsFault) (q : Result X ℕ) (p : Result Y ℕ) → (q ≡ Err 47 → p ≡ Err 47) → IsRefusal (rows_cause e) q → IsRefusal (rows_cause e) p
same_refusal Memory q p f h = tt
same_refusal BadRows q p f h = f h

pub refused_lacks : (b : Bool) → refuse_if {E = ℕ} (not b) 47 ≡ Err 47 → b ≡ false
refused_lacks true e = absurd cc
refused_lacks false e = refl

-- ---- jobs appended one after another

every : (b : Bool) → (b || true) ≡ true
every true = refl
every false = refl

never : (b : Bool) → (b && false) ≡ false
never true = refl
never false = refl

clash_found : (k j : JobRows) (ks rest : List JobRows) → clash k j ≡ true → list_any (clash k) (ks ++ j ∷ rest) ≡ true
clash_found k j [] rest is = rw is refl
clash_found k j (l ∷ ks) rest is = rw (clash_found k j ks rest is) (every (clash k l))

behind_a_clash : (front rest : List JobRows) (j : JobRows) → list_any (λ k. clash k j) front ≡ true → no_pair clash (front ++ j ∷ rest) ≡ false
unfolding no_pair
behind_a_clash [] rest j some = absurd cc
behind_a_clash (k ∷ ks) rest j some = go (clash k j) refl some (behind_a_clash ks rest j)
  where
    go : (b : Bool) → clash k j ≡ b → (b || list_any (λ k. clash k j) ks) ≡ true → (list_any (λ k. clash k j) ks ≡ true → no_pair clash (ks ++ j ∷ rest) ≡ false)
        → (not (list_any (clash k) (ks ++ j ∷ rest)) && no_pair clash (ks ++ j ∷ rest)) ≡ false
    go true is some later = rw (clash_found k j ks rest is) refl
    go false is some later = rw (later some) (never (not (list_any (clash k) (ks ++ j ∷ rest))))

either : (p q : JobRows → Bool) (ks : List JobRows) → list_any p ks ≡ true → list_any (λ k. p k || q k) ks ≡ true
either p q [] h = absurd cc
either p q (k ∷ ks) h = go (p k) h (either p q ks)
  where
    go : (b : Bool) → (b || list_any p ks) ≡ true → (list_any p ks ≡ true → list_any (λ k. p k || q k) ks ≡ true) → ((b || q k) || list_any (λ k. p k || q k) ks) ≡ true
    go true h later = refl
    go false h later = rw (later h) (every (q k))

or_else : (p q : JobRows → Bool) (ks : List JobRows) → list_any q ks ≡ true → list_any (λ k. p k || q k) ks ≡ true
or_else p q [] h = absurd cc
or_else p q (k ∷ ks) h = go (p k) (q k) h (or_else p q ks)
  where
    go : (a b : Bool) → (b || list_any q ks) ≡ true → (list_any q ks ≡ true → list_any (λ k. p k || q k) ks ≡ true) → ((a || b) || list_any (λ k. p k || q k) ks) ≡ true
    go true b h later = refl
    go false true h later = refl
    go false false h later = later h

neither : (p q : JobRows → Bool) (ks : List JobRows) → list_any p ks ≡ false → list_any q ks ≡ false → list_any (λ k. p k || q k) ks ≡ false
neither p q [] h g = refl
neither p q (k ∷ ks) h g = go (p k) (q k) h g (neither p q ks)
  where
    go : (a b : Bool) → (a || list_any p ks) ≡ false → (b || list_any q ks) ≡ false → (list_any p ks ≡ false → list_any q ks ≡ false → list_any (λ k. p k || q k) ks ≡ false)
        → ((a || b) || list_any (λ k. p k || q k) ks) ≡ false
    go true b h g later = absurd cc
    go false true h g later = absurd cc
    go false false h g later = later h g

abbrev push_tested : Bool → Bool → List JobRows → Result (List JobRows) ℕ
push_tested a b next = refuse_if a 40 >>= λ _. refuse_if b 41 >>= λ _. Ok next

-- a job that a history refuses clashes with one of its jobs
refused_clashes : (h : List JobRows) (j : JobRows) (n : ℕ) → pushed h j ≡ Err n → list_any (λ k. clash k j) h ≡ true
unfolding pushed
refused_clashes h j n e = go (list_any (λ (k : JobRows). k.row.id == j.row.id) h) (list_any (λ (k : JobRows). same_session k.row.session j.row.session) h) refl refl e
  where
    go : (a b : Bool) → list_any (λ (k : JobRows). k.row.id == j.row.id) h ≡ a → list_any (λ (k : JobRows). same_session k.row.session j.row.session) h ≡ b
        → push_tested a b (h ++ j ∷ []) ≡ Err n → list_any (λ k. clash k j) h ≡ true
    go true b is on e = either (λ (k : JobRows). k.row.id == j.row.id) (λ (k : JobRows). same_session k.row.session j.row.session) h is
    go false true is on e = or_else (λ (k : JobRows). k.row.id == j.row.id) (λ (k : JobRows). same_session k.row.session j.row.session) h on
    go false false is on e = absurd cc

-- a history that can't take the next job
pub apart_fails : (e : HistoryFault) (h rest : List JobRows) (j : JobRows) → IsRefusal (history_cause e) (pushed h j) → IsRefusal (rows_cause (of_history_fault e)) (if_apart (h ++ j ∷ rest))
unfolding if_apart
apart_fails rows.Memory h rest j is = tt
apart_fails rows.DuplicateJob h rest j is = rw (behind_a_clash h rest j (refused_clashes h j 40 is)) refl
apart_fails rows.DuplicateSession h rest j is = rw (behind_a_clash h rest j (refused_clashes h j 41 is)) refl
apart_fails rows.BadRow h rest j is = rw (behind_a_clash h rest j (refused_clashes h j 42 is)) refl

-- ---- rows dealt out

pub same_either : (m n : ℕ) → (m == n) ≡ (n == m)
same_either m n = go (m == n) refl (n == m) refl
  where
    go : (a : Bool) → (m == n) ≡ a → (b : Bool) → (n == m) ≡ b → a ≡ b
    go true e true f = refl
    go false e false f = refl
    go true e false f = absurd (let x = sym f ∙ (Decides-eqb n m).1 (sym ((Decides-eqb m n).0 e)) in cc)
    go false e true f = absurd (let x = sym e ∙ (Decides-eqb m n).1 (sym ((Decides-eqb n m).0 f)) in cc)

-- a row with a number is of the job with this number
number_is : (row : Row) (n : ℕ) → small (column row 0) ≡ Ok n → (q : ℕ) → is_of q row ≡ (n == q)
number_is row n is q = ap (is_read q) is ∙ same_either q n

-- a row is dealt out
pub dealt_more : (rows : List Row) (i n q : ℕ) (row : Row) → i < length rows → row ≡ get_or rows i row → small (column row 0) ≡ Ok n
    → filter (is_of q) (take (i + 1) rows) ≡ filter (is_of q) (take i rows) ++ cond (n == q) (row ∷ []) []
dealt_more rows i n q row lt at is =
    ap (filter (is_of q)) (take_more rows i row lt ∙ ap (λ r. take i rows ++ r ∷ []) (sym at)) ∙ filter-append (is_of q) (take i rows) (row ∷ [])
    ∙ ap (λ b. filter (is_of q) (take i rows) ++ cond b (row ∷ []) []) (number_is row n is q)

same_test : (jobs : List JobRow) (row : Row) (n : ℕ) → small (column row 0) ≡ Ok n → has_job jobs row ≡ list_any (λ (j : JobRow). j.id == n) jobs
same_test jobs row n is = ap (λ (p : ℕ → Bool). list_any (λ (j : JobRow). p j.id) jobs) (λ i q. ap (is_read q) is i)

no_test : (jobs : List JobRow) (row : Row) (e : ℕ) → small (column row 0) ≡ Err e → has_job jobs row ≡ false
no_test jobs row e is = ap (λ (p : ℕ → Bool). list_any (λ (j : JobRow). p j.id) jobs) (λ i q. ap (is_read q) is i) ∙ never jobs
  where
    never : (js : List JobRow) → list_any (λ (j : JobRow). false) js ≡ false
    never [] = refl
    never (j ∷ js) = never js

-- all rows are
pub dealt : (jobs : List JobRow) (rows : List Row) (groups : ℕ → List Row) → list_all (has_job jobs) rows ≡ true → ((id : ℕ) → groups id ≡ filter (is_of id) rows) → by_job jobs rows ≡ Ok groups
unfolding by_job
dealt jobs rows groups known same = rw known (ap Ok (λ i id. sym (same id) i))

-- the next row has no number
pub numberless : (jobs : List JobRow) (rows : List Row) (i e : ℕ) (row : Row) → i < length rows → row ≡ get_or rows i row → small (column row 0) ≡ Err e → by_job jobs rows ≡ Err 47
unfolding by_job
numberless jobs rows i e row lt at is = rw (list_all_at (has_job jobs) rows i row lt (ap (has_job jobs) (sym at) ∙ no_test jobs row e is)) refl

-- the next row is of none of the jobs
pub jobless : (jobs : List JobRow) (rows : List Row) (i n : ℕ) (row : Row) → i < length rows → row ≡ get_or rows i row → small (column row 0) ≡ Ok n
    → list_any (λ (j : JobRow). j.id == n) jobs ≡ false → by_job jobs rows ≡ Err 47
unfolding by_job
jobless jobs rows i n row lt at is unknown = rw (list_all_at (has_job jobs) rows i row lt (ap (has_job jobs) (sym at) ∙ same_test jobs row n is ∙ unknown)) refl
