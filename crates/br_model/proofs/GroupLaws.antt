-- The groups of a plan: which fragments each hits, and that no two of them hit one fragment.
use Rattle.std.proofs.Common.{◌≡◌, ℕ, ◌+◌, ◌<◌, ◌≤◌, Bool, true, false, not, ◌&&◌, ◌||◌, eqb, List, [], ◌∷◌, ◌++◌, map, filter, Some, Decides, refl, sym, ap, subst, ◌∙◌, inl, inr, ◌⊎◌, arith}
use Rattle.std.proofs.Math.Bool.{or-false}
use Rattle.std.proofs.Math.Nat.{zero-add}
use Rattle.std.proofs.lemmas.Bool.{and_parts, and_from, or_left, not-true, both_ways, eqb-true, eq-eqb, leb-true, le-leb, or_right}
use Rattle.std.proofs.lemmas.Slice.Eq.{bytes_eq-Decides}
use Rattle.std.proofs.lemmas.List.{map-append}
use Rattle.std.proofs.lemmas.Option.{slice_get-map}
use Rattle.std.specs.Prelude.{Contains, slice_get, flat_map, option_map, bytes_eq, nat_abs, nat_le}
use Rattle.std.specs.Int.{is_in_range, is_positive}
use Rattle.std.specs.List.{AllByRecursion, list_all, enumerate_from}
use Rattle.br_model.specs.Text.{is_empty}
use Rattle.br_model.specs.Name.{SessionKey, same_session}
use Rattle.br_model.specs.Block.{Fragment}
use Rattle.br_model.specs.Bootstrap.{Group, admits, hits}
use Rattle.br_model.specs.Meaning.{groups_on, first_hitting}
use Rattle.br_model.specs.Job.{Span, JobRows, is_span, overlaps, is_numbered, no_pair, are_rows, clash, is_history, is_file_row, same_file}
use Rattle.br_model.specs.View.{Entry}
use Rattle.br_model.specs.Plan.{ranges_of, indexes_in, span_group, job_groups, plan_groups}
use Rattle.br_model.proofs.AnswerLaws.{some_mapped}
use Rattle.br_model.proofs.RangeLaws.{admits_exactly}
use Rattle.br_model.proofs.PairLaws.{EachPair, pairs_weaker, pairs_filter, pairs_map, pairs_flat_map, no_pair_clashes, one_of_two, pairs_numbered, numbers_rise_by_place, find_filter, first_number, first_number_passes, Apart, first_number_is}
use Rattle.br_model.proofs.ListLaws.{all_among, all_any, all_at, all_filter, all_flat_map, all_map, all_numbered, all_pass, all_weaker, kept_pass, numbers_are_places, of_each, not_empty}
use mathlib.Core.List.{map-map}

-- ---- the group of a span

-- a fragment of a session, in a block of a span, with one of some indexes
pub record IsAsked (key : SessionKey) (s : Span) (indexes : List ℕ) (address : ℕ) (f : Fragment) : Type 0 where
  pub positive : is_positive f.index ≡ true
  pub session : f.session ≡ key
  pub inside : is_in_range s.start s.end address ≡ true
  pub among : Contains indexes (nat_abs f.index)

-- what a hit of a span's group says, whatever the indexes are
pub record IsNear (key : SessionKey) (s : Span) (indexes : List ℕ) (address : ℕ) (f : Fragment) : Type 0 where
  pub positive : is_positive f.index ≡ true
  pub session : f.session ≡ key
  pub inside : is_in_range s.start s.end address ≡ true
  pub admitted : admits (ranges_of indexes) (nat_abs f.index) ≡ true

one_admits : (k n : ℕ) → (is_in_range k k n || false) ≡ true → n ≡ k
one_admits k n e =
    let h = and_parts (nat_le k n) (nat_le n k) (sym (or-false (is_in_range k k n)) ∙ e) in
    let low : k ≤ n = leb-true k n h.0 in
    let high : n ≤ k = leb-true n k h.1 in
    omega arith

admits_one : (k n : ℕ) → n ≡ k → (is_in_range k k n || false) ≡ true
admits_one k n e = or_left (is_in_range k k n) false (and_from (nat_le k n) (nat_le n k) (le-leb k n (omega arith)) (le-leb n k (omega arith)))

same_key_is : (a b : SessionKey) → a.id ≡ b.id → a.time ≡ b.time → a ≡ b
same_key_is a b p q = λ t. record { id = p t; time = q t }

-- what the group of a span hits is near: of the session, and in a block of the span
pub hit_is_near : (key : SessionKey) (s : Span) (indexes : List ℕ) (address : ℕ) (f : Fragment) → hits (span_group key s indexes) address f ≡ true → IsNear key s indexes address f
unfolding hits
hit_is_near key s indexes address f e =
    let h8 = and_parts _ _ e in
    let h7 = and_parts _ _ h8.0 in
    let h6 = and_parts _ _ h7.0 in
    let h5 = and_parts _ _ h6.0 in
    let h4 = and_parts _ _ h5.0 in
    let h3 = and_parts _ _ h4.0 in
    let h2 = and_parts _ _ h3.0 in
    record {
      positive = h2.0;
      session = same_key_is f.session key (one_admits key.id f.session.id h2.1) (one_admits key.time f.session.time h3.1);
      inside = sym (or-false (is_in_range s.start s.end address)) ∙ h6.1;
      admitted = h7.1;
    }

-- what is near is hit
pub near_is_hit : (key : SessionKey) (s : Span) (indexes : List ℕ) (address : ℕ) (f : Fragment) → IsNear key s indexes address f → hits (span_group key s indexes) address f ≡ true
unfolding hits
near_is_hit key s indexes address f h =
    and_from _ _ (and_from _ _ (and_from _ _ (and_from _ _ (and_from _ _ (and_from _ _ (and_from _ _ h.positive (admits_one key.id f.session.id (ap (λ (k : SessionKey). k.id) h.session))) (admits_one key.time f.session.time (ap (λ (k : SessionKey). k.time) h.session))) refl) refl) (or_left (is_in_range s.start s.end address) false h.inside)) h.admitted) refl

-- the group of a span hits exactly the fragments of its session and its blocks with one of its indexes
pub hits_span_group : (key : SessionKey) (s : Span) (indexes : List ℕ) (address : ℕ) (f : Fragment) → is_empty indexes ≡ false
    → Decides (hits (span_group key s indexes) address f) (IsAsked key s indexes address f)
hits_span_group key s indexes address f e =
    let d = admits_exactly indexes (nat_abs f.index) e in (
      λ t. let h = hit_is_near key s indexes address f t in record { positive = h.positive; session = h.session; inside = h.inside; among = d.0 h.admitted },
      λ (h : IsAsked key s indexes address f). near_is_hit key s indexes address f (record { positive = h.positive; session = h.session; inside = h.inside; admitted = d.1 h.among }),
    )

-- ---- which job and which span a group is of

-- a span of a job, and the place of the job among the jobs
pub record Asked : Type 0 where
  pub place : ℕ
  pub job : JobRows
  pub span : Span

-- whether the span has a part of a selected file of its job
abbrev pub has_part : List Entry → JobRows → Span → Bool
has_part selected j s = not (is_empty (indexes_in selected j s))

-- the span of a job with its place
abbrev pub asked_at : ℕ × JobRows → Span → Asked
asked_at j s = record { place = j.0; job = j.1; span = s }

-- the spans of a job that have parts of selected files
abbrev pub asked_of_job : List Entry → ℕ × JobRows → List Asked
asked_of_job selected j = map (asked_at j) (filter (has_part selected j.1) j.1.spans)

-- the spans that have parts of selected files, in order of jobs and, in a job, of spans
abbrev pub asked_from : ℕ → List Entry → List JobRows → List Asked
asked_from n selected jobs = flat_map (asked_of_job selected) (enumerate_from n jobs)

-- the same with the places from 0
abbrev pub asked : List Entry → List JobRows → List Asked
asked selected jobs = asked_from 0 selected jobs

-- the group that a plan has for the span
abbrev pub group_of : List Entry → Asked → Group
group_of selected a = span_group a.job.row.session a.span (indexes_in selected a.job a.span)

groups_from : (n : ℕ) (selected : List Entry) (jobs : List JobRows) → flat_map (job_groups selected) jobs ≡ map (group_of selected) (asked_from n selected jobs)
groups_from n selected [] = refl
groups_from n selected (j ∷ js) =
    ap (λ gs. job_groups selected j ++ gs) (groups_from (n + 1) selected js)
    ∙ ap (λ gs. gs ++ map (group_of selected) (asked_from (n + 1) selected js)) (sym (map-map (group_of selected) (asked_at (n, j)) (filter (has_part selected j) j.spans)))
    ∙ sym (map-append (group_of selected) (asked_of_job selected (n, j)) (asked_from (n + 1) selected js))

-- the groups of a plan are those of the spans that have parts of selected files
pub plan_groups_are : (selected : List Entry) (jobs : List JobRows) → plan_groups selected jobs ≡ map (group_of selected) (asked selected jobs)
unfolding plan_groups
plan_groups_are selected jobs = groups_from 0 selected jobs

-- the span is one of the job at its place, and has a part of a selected file
pub record IsPart (selected : List Entry) (jobs : List JobRows) (a : Asked) : Type 0 where
  pub place : slice_get jobs a.place ≡ Some a.job
  pub span : Contains a.job.spans a.span
  pub part : is_empty (indexes_in selected a.job a.span) ≡ false

-- each of those spans is one
pub asked_are_parts : (selected : List Entry) (jobs : List JobRows) → AllByRecursion (IsPart selected jobs) (asked selected jobs)
asked_are_parts selected jobs =
    all_flat_map (IsPart selected jobs) (asked_of_job selected) (enumerate_from 0 jobs)
    (all_weaker (λ (j : ℕ × JobRows). (i : ℕ) × (j.0 ≡ 0 + i) × (slice_get jobs i ≡ Some j.1)) (λ j. AllByRecursion (IsPart selected jobs) (asked_of_job selected j)) of_job (enumerate_from 0 jobs) (numbers_are_places 0 jobs))
  where
    both : (P Q : Span → Type 0) (xs : List Span) → AllByRecursion P xs → AllByRecursion Q xs → AllByRecursion (λ s. P s × Q s) xs
    both P Q [] h k = tt
    both P Q (x ∷ xs) h k = ((h.0, k.0), both P Q xs h.1 k.1)

    of_job : (j : ℕ × JobRows) → (i : ℕ) × (j.0 ≡ 0 + i) × (slice_get jobs i ≡ Some j.1) → AllByRecursion (IsPart selected jobs) (asked_of_job selected j)
    of_job j h =
        let same : h.0 ≡ j.0 = omega (arith, h.1) in
        let place : slice_get jobs j.0 ≡ Some j.1 = subst (λ i. slice_get jobs i ≡ Some j.1) same h.2 in
        all_map (IsPart selected jobs) (asked_at j) (filter (has_part selected j.1) j.1.spans)
        (all_weaker (λ s. Contains j.1.spans s × (has_part selected j.1 s ≡ true)) (λ s. IsPart selected jobs (asked_at j s)) (λ s k. record { place = place; span = k.0; part = not-true _ k.1 }) (filter (has_part selected j.1) j.1.spans)
        (both (Contains j.1.spans) (λ s. has_part selected j.1 s ≡ true) (filter (has_part selected j.1) j.1.spans) (all_filter (Contains j.1.spans) (has_part selected j.1) j.1.spans (all_among j.1.spans)) (kept_pass (has_part selected j.1) j.1.spans)))

-- ---- consistent rows

-- what the rows of a job say
pub record AreRows (j : JobRows) : Type 0 where
  pub files_fit : list_all is_file_row j.files ≡ true
  pub files_apart : no_pair same_file j.files ≡ true
  pub spans_fit : list_all is_span j.spans ≡ true
  pub numbered : is_numbered j.spans ≡ true
  pub spans_apart : no_pair overlaps j.spans ≡ true

-- consistent rows are so part by part
pub rows_say : (j : JobRows) → are_rows j ≡ true → AreRows j
unfolding are_rows
rows_say j e =
    let h5 = and_parts _ _ e in
    let h4 = and_parts _ _ h5.0 in
    let h3 = and_parts _ _ h4.0 in
    let h2 = and_parts _ _ h3.0 in
    let h1 = and_parts _ _ h2.0 in
    record { files_fit = h1.1; files_apart = h2.1; spans_fit = h3.1; numbered = h4.1; spans_apart = h5.1 }

-- each job of a history has consistent rows
pub history_rows : (jobs : List JobRows) (j : JobRows) → is_history jobs ≡ true → Contains jobs j → AreRows j
history_rows jobs j e c = rows_say j (of_each (λ k. are_rows k ≡ true) jobs j (all_pass are_rows jobs (and_parts (list_all are_rows jobs) (no_pair clash jobs) e).0) c)

sessions_clash : (j k : JobRows) → j.row.session ≡ k.row.session → clash j k ≡ true
sessions_clash j k e =
    or_right (eqb j.row.id k.row.id) (same_session j.row.session k.row.session)
    (and_from (eqb j.row.session.id k.row.session.id) (eqb j.row.session.time k.row.session.time) (eq-eqb j.row.session.id k.row.session.id (ap (λ (s : SessionKey). s.id) e)) (eq-eqb j.row.session.time k.row.session.time (ap (λ (s : SessionKey). s.time) e)))

-- two jobs of a history with one session are one
pub one_job_of_session : (jobs : List JobRows) (j k : JobRows) → is_history jobs ≡ true → Contains jobs j → Contains jobs k → j.row.session ≡ k.row.session → j ≡ k
one_job_of_session jobs j k e c d same =
    one_of_two clash jobs j k (and_parts (list_all are_rows jobs) (no_pair clash jobs) e).1 c d (sessions_clash j k same) (sessions_clash k j (sym same))

-- two jobs of a history with one number are one
pub one_job_of_id : (jobs : List JobRows) (j k : JobRows) → is_history jobs ≡ true → Contains jobs j → Contains jobs k → j.row.id ≡ k.row.id → j ≡ k
one_job_of_id jobs j k e c d same =
    one_of_two clash jobs j k (and_parts (list_all are_rows jobs) (no_pair clash jobs) e).1 c d
    (or_left (eqb j.row.id k.row.id) (same_session j.row.session k.row.session) (eq-eqb j.row.id k.row.id same))
    (or_left (eqb k.row.id j.row.id) (same_session k.row.session j.row.session) (eq-eqb k.row.id j.row.id (sym same)))

spans_meet : (s t : Span) (address : ℕ) → s.volume ≡ t.volume → is_in_range s.start s.end address ≡ true → is_in_range t.start t.end address ≡ true → overlaps s t ≡ true
spans_meet s t address v p q =
    let a = and_parts (nat_le s.start address) (nat_le address s.end) p in
    let b = and_parts (nat_le t.start address) (nat_le address t.end) q in
    let below : address ≤ s.end = leb-true address s.end a.1 in
    let above : t.start ≤ address = leb-true t.start address b.0 in
    and_from (bytes_eq s.volume t.volume) (nat_le t.start s.end) ((bytes_eq-Decides s.volume t.volume).1 v) (le-leb t.start s.end (omega arith))

-- ---- the order of the groups

-- spans that are numbered from a number on rise in their numbers
spans_rise_from : (n : ℕ) (spans : List Span) → list_all (λ (s : ℕ × Span). eqb s.1.vol_index s.0) (enumerate_from n spans) ≡ true
    → AllByRecursion (λ (s : Span). n ≤ s.vol_index) spans × EachPair (λ (s t : Span). s.vol_index < t.vol_index) spans
spans_rise_from n [] e = (tt, tt)
spans_rise_from n (s ∷ ss) e =
    let h = and_parts _ _ e in
    let is : s.vol_index ≡ n = eqb-true s.vol_index n h.0 in
    let rest = spans_rise_from (n + 1) ss h.1 in (
      (omega arith, all_weaker (λ (t : Span). n + 1 ≤ t.vol_index) (λ (t : Span). n ≤ t.vol_index) (λ t le. omega arith) ss rest.0),
      (all_weaker (λ (t : Span). n + 1 ≤ t.vol_index) (λ (t : Span). s.vol_index < t.vol_index) (λ t le. omega arith) ss rest.0, rest.1),
    )

-- the spans of a job rise in their numbers
pub spans_rise : (j : JobRows) → AreRows j → EachPair (λ (s t : Span). s.vol_index < t.vol_index) j.spans
spans_rise j h = (spans_rise_from 1 j.spans h.numbered).1

-- of an earlier job, or of an earlier span of the same job
abbrev pub IsBefore : Asked → Asked → Type 0
IsBefore a b = (a.place < b.place) ⊎ ((a.place ≡ b.place) × (a.span.vol_index < b.span.vol_index))

-- what holds between spans of two jobs, and between two spans of one job, holds of each span and each later one
pub pairs_asked : (R : Asked → Asked → Type 0) (selected : List Entry) (js : List (ℕ × JobRows))
    → EachPair (λ j k. (s t : Span) → R (asked_at j s) (asked_at k t)) js → AllByRecursion (λ j. EachPair (λ s t. R (asked_at j s) (asked_at j t)) j.1.spans) js
    → EachPair R (flat_map (asked_of_job selected) js)
pairs_asked R selected js h k =
    pairs_flat_map R (asked_of_job selected) js
    (pairs_weaker (λ j k. (s t : Span) → R (asked_at j s) (asked_at k t)) (λ j k. AllByRecursion (λ a. AllByRecursion (R a) (asked_of_job selected k)) (asked_of_job selected j)) across js h)
    (all_weaker (λ j. EachPair (λ s t. R (asked_at j s) (asked_at j t)) j.1.spans) (λ j. EachPair R (asked_of_job selected j)) within js k)
  where
    across : (j k : ℕ × JobRows) → ((s t : Span) → R (asked_at j s) (asked_at k t)) → AllByRecursion (λ a. AllByRecursion (R a) (asked_of_job selected k)) (asked_of_job selected j)
    across j k f =
        all_map (λ a. AllByRecursion (R a) (asked_of_job selected k)) (asked_at j) (filter (has_part selected j.1) j.1.spans)
        (all_any (λ s. AllByRecursion (R (asked_at j s)) (asked_of_job selected k)) (λ s. all_map (R (asked_at j s)) (asked_at k) (filter (has_part selected k.1) k.1.spans) (all_any (λ t. R (asked_at j s) (asked_at k t)) (f s) (filter (has_part selected k.1) k.1.spans))) (filter (has_part selected j.1) j.1.spans))

    within : (j : ℕ × JobRows) → EachPair (λ s t. R (asked_at j s) (asked_at j t)) j.1.spans → EachPair R (asked_of_job selected j)
    within j h = pairs_map R (asked_at j) (filter (has_part selected j.1) j.1.spans) (pairs_filter (λ s t. R (asked_at j s) (asked_at j t)) (has_part selected j.1) j.1.spans h)

-- the groups of a plan are in order of jobs and, in a job, of spans
pub groups_in_order : (selected : List Entry) (jobs : List JobRows) → list_all are_rows jobs ≡ true → EachPair IsBefore (asked selected jobs)
groups_in_order selected jobs e =
    pairs_asked IsBefore selected (enumerate_from 0 jobs)
    (pairs_weaker (λ (j k : ℕ × JobRows). j.0 < k.0) (λ j k. (s t : Span) → IsBefore (asked_at j s) (asked_at k t)) (λ j k lt s t. inl lt) (enumerate_from 0 jobs) (numbers_rise_by_place 0 jobs))
    (all_weaker (λ (j : ℕ × JobRows). are_rows j.1 ≡ true) (λ j. EachPair (λ s t. IsBefore (asked_at j s) (asked_at j t)) j.1.spans) of_job (enumerate_from 0 jobs) (all_numbered (λ j. are_rows j ≡ true) 0 jobs (all_pass are_rows jobs e)))
  where
    of_job : (j : ℕ × JobRows) → are_rows j.1 ≡ true → EachPair (λ s t. IsBefore (asked_at j s) (asked_at j t)) j.1.spans
    of_job j h = pairs_weaker (λ (s t : Span). s.vol_index < t.vol_index) (λ s t. IsBefore (asked_at j s) (asked_at j t)) (λ s t lt. inr (refl, lt)) j.1.spans (spans_rise j.1 (rows_say j.1 h))

-- ---- which group hits a fragment first

-- whether a group is on the volume and hits the fragment
abbrev pub asks : List ℕ → ℕ → Fragment → Group → Bool
asks volume address f g = bytes_eq g.volume volume && hits g address f

-- the first group that hits is the first of all groups that is on the volume and hits
pub first_hitting_is_first : (groups : List Group) (volume : List ℕ) (address : ℕ) (f : Fragment) → first_hitting (groups_on groups volume) address f ≡ first_number (asks volume address f) 0 groups
unfolding first_hitting groups_on
first_hitting_is_first groups volume address f =
    ap (option_map (λ (g : ℕ × Group). g.0)) (find_filter (λ (g : ℕ × Group). hits g.1 address f) (λ (g : ℕ × Group). bytes_eq g.1.volume volume) (enumerate_from 0 groups))

apart_by_session : (selected : List Entry) (volume : List ℕ) (address : ℕ) (f : Fragment) (j k : ℕ × JobRows) → clash j.1 k.1 ≡ false
    → (s t : Span) → Apart (asks volume address f) (group_of selected (asked_at j s)) (group_of selected (asked_at k t))
apart_by_session selected volume address f j k e s t p q =
    let a = hit_is_near j.1.row.session s (indexes_in selected j.1 s) address f (and_parts _ _ p).1 in
    let b = hit_is_near k.1.row.session t (indexes_in selected k.1 t) address f (and_parts _ _ q).1 in
    both_ways (clash j.1 k.1) e (sessions_clash j.1 k.1 (sym a.session ∙ b.session))

apart_by_address : (selected : List Entry) (volume : List ℕ) (address : ℕ) (f : Fragment) (j : ℕ × JobRows) (s t : Span) → overlaps s t ≡ false
    → Apart (asks volume address f) (group_of selected (asked_at j s)) (group_of selected (asked_at j t))
apart_by_address selected volume address f j s t e p q =
    let p2 = and_parts _ _ p in
    let q2 = and_parts _ _ q in
    let a = hit_is_near j.1.row.session s (indexes_in selected j.1 s) address f p2.1 in
    let b = hit_is_near j.1.row.session t (indexes_in selected j.1 t) address f q2.1 in
    let v : s.volume ≡ t.volume = (bytes_eq-Decides s.volume volume).0 p2.0 ∙ sym ((bytes_eq-Decides t.volume volume).0 q2.0) in
    both_ways (overlaps s t) e (spans_meet s t address v a.inside b.inside)

-- no two groups of a plan hit one fragment at one place
pub groups_apart : (selected : List Entry) (jobs : List JobRows) (volume : List ℕ) (address : ℕ) (f : Fragment) → is_history jobs ≡ true
    → EachPair (Apart (asks volume address f)) (map (group_of selected) (asked selected jobs))
groups_apart selected jobs volume address f e =
    pairs_map (Apart (asks volume address f)) (group_of selected) (asked selected jobs)
    (pairs_asked R selected (enumerate_from 0 jobs)
    (pairs_weaker (λ (j k : ℕ × JobRows). clash j.1 k.1 ≡ false) (λ j k. (s t : Span) → R (asked_at j s) (asked_at k t)) (λ j k apart s t. apart_by_session selected volume address f j k apart s t) (enumerate_from 0 jobs) (pairs_numbered (λ j k. clash j k ≡ false) 0 jobs (no_pair_clashes clash jobs parts.1)))
    (all_weaker (λ (j : ℕ × JobRows). are_rows j.1 ≡ true) (λ j. EachPair (λ s t. R (asked_at j s) (asked_at j t)) j.1.spans) of_job (enumerate_from 0 jobs) (all_numbered (λ j. are_rows j ≡ true) 0 jobs (all_pass are_rows jobs parts.0))))
  where
    parts : (list_all are_rows jobs ≡ true) × (no_pair clash jobs ≡ true)
    parts = and_parts (list_all are_rows jobs) (no_pair clash jobs) e

    R : Asked → Asked → Type 0
    R a b = Apart (asks volume address f) (group_of selected a) (group_of selected b)

    of_job : (j : ℕ × JobRows) → are_rows j.1 ≡ true → EachPair (λ s t. R (asked_at j s) (asked_at j t)) j.1.spans
    of_job j h = pairs_weaker (λ (s t : Span). overlaps s t ≡ false) (λ s t. R (asked_at j s) (asked_at j t)) (λ s t apart. apart_by_address selected volume address f j s t apart) j.1.spans (no_pair_clashes overlaps j.1.spans (rows_say j.1 h).spans_apart)

first_of_plan : (selected : List Entry) (jobs : List JobRows) (volume : List ℕ) (address : ℕ) (f : Fragment)
    → first_hitting (groups_on (plan_groups selected jobs) volume) address f ≡ first_number (asks volume address f) 0 (map (group_of selected) (asked selected jobs))
first_of_plan selected jobs volume address f =
    first_hitting_is_first (plan_groups selected jobs) volume address f ∙ ap (first_number (asks volume address f) 0) (plan_groups_are selected jobs)

-- a fragment that is hit is asked for by the span of the group's number, on the volume
pub record IsAskedAt (selected : List Entry) (jobs : List JobRows) (volume : List ℕ) (address : ℕ) (f : Fragment) (n : ℕ) : Type 0 where
  pub of : Asked
  pub number : slice_get (asked selected jobs) n ≡ Some of
  pub part : IsPart selected jobs of
  pub volume_is : of.span.volume ≡ volume
  pub asks_it : IsAsked of.job.row.session of.span (indexes_in selected of.job of.span) address f

-- if a group hits a fragment first, the span with the group's number asks for it
pub first_hitting_says : (selected : List Entry) (jobs : List JobRows) (volume : List ℕ) (address : ℕ) (f : Fragment) (n : ℕ)
    → first_hitting (groups_on (plan_groups selected jobs) volume) address f ≡ Some n → IsAskedAt selected jobs volume address f n
first_hitting_says selected jobs volume address f n e =
    let h = first_number_passes (asks volume address f) 0 (map (group_of selected) (asked selected jobs)) n (sym (first_of_plan selected jobs volume address f) ∙ e) in
    let m = some_mapped (group_of selected) (slice_get (asked selected jobs) h.0) h.1 (sym (slice_get-map (group_of selected) (asked selected jobs) h.0) ∙ h.3) in
    let same : h.0 ≡ n = omega (arith, h.2) in
    let number : slice_get (asked selected jobs) n ≡ Some m.0 = subst (λ i. slice_get (asked selected jobs) i ≡ Some m.0) same m.1 in
    let part : IsPart selected jobs m.0 = all_at (IsPart selected jobs) (asked selected jobs) n m.0 (asked_are_parts selected jobs) number in
    let passes = and_parts (bytes_eq m.0.span.volume volume) (hits (group_of selected m.0) address f) (ap (asks volume address f) m.2 ∙ h.4) in
    record {
      of = m.0;
      number = number;
      part = part;
      volume_is = (bytes_eq-Decides m.0.span.volume volume).0 passes.0;
      asks_it = (hits_span_group m.0.job.row.session m.0.span (indexes_in selected m.0.job m.0.span) address f part.part).0 passes.1;
    }

-- a fragment that a span asks for is hit by the group of that span alone
pub first_hitting_is : (selected : List Entry) (jobs : List JobRows) (n : ℕ) (a : Asked) (address : ℕ) (f : Fragment) → is_history jobs ≡ true
    → slice_get (asked selected jobs) n ≡ Some a → IsAsked a.job.row.session a.span (indexes_in selected a.job a.span) address f
    → first_hitting (groups_on (plan_groups selected jobs) a.span.volume) address f ≡ Some n
first_hitting_is selected jobs n a address f e at h =
    let made : slice_get (map (group_of selected) (asked selected jobs)) n ≡ Some (group_of selected a) = slice_get-map (group_of selected) (asked selected jobs) n ∙ ap (option_map (group_of selected)) at in
    let some : is_empty (indexes_in selected a.job a.span) ≡ false = not_empty (indexes_in selected a.job a.span) (nat_abs f.index) h.among in
    let hit = (hits_span_group a.job.row.session a.span (indexes_in selected a.job a.span) address f some).1 h in
    first_of_plan selected jobs a.span.volume address f
    ∙ first_number_is (asks a.span.volume address f) 0 (map (group_of selected) (asked selected jobs)) n (group_of selected a) (groups_apart selected jobs a.span.volume address f e) made
    (and_from (bytes_eq a.span.volume a.span.volume) (hits (group_of selected a) address f) ((bytes_eq-Decides a.span.volume a.span.volume).1 refl) hit)
    ∙ ap Some (zero-add n)

-- ---- a fragment in a block of a job's span

-- the number of the group of a job's span
pub record IsNumberOf (selected : List Entry) (jobs : List JobRows) (j : JobRows) (s : Span) (n : ℕ) : Type 0 where
  pub of : Asked
  pub number : slice_get (asked selected jobs) n ≡ Some of
  pub job_is : of.job ≡ j
  pub span_is : of.span ≡ s
