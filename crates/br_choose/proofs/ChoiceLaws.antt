-- The model's choice, by one test of each job of a history.
use Rattle.std.proofs.Common.{◌≡◌, ℕ, Bool, true, false, ◌&&◌, eqb, List, [], ◌∷◌, ◌++◌, filter, Option, Some, None, Ok, Err, refl, sym, ap, ◌∙◌}
use Rattle.std.proofs.lemmas.Bool.{and_parts, eq-eqb, both_ways, or_left, or_parts, false_from_ne_true}
use Rattle.std.specs.Prelude.{option_to_list, unwrap_or, slice_index}
use Rattle.std.specs.Borrow.{Bor}
use Rattle.std.specs.Option.{option_copied}
use Rattle.std.specs.List.{IsDistinct, list_all, list_any, reduce}
use Rattle.std.specs.Ordering.{is_eq}
use Rattle.std.specs.declared.cmp.Ordering.{Ordering}
use Rattle.std.specs.declared.cmp.Ordering.TheVariants.{Less, Equal, Greater}
use Rattle.br_model.specs.Order.{in_order}
use Rattle.br_model.specs.Name.{same_session}
use Rattle.br_model.specs.Job.{JobRows, are_rows, no_pair, clash, is_history}
use Rattle.br_model.specs.Choice.{Request, job_rank, is_after, is_of_client, is_of_fileset, candidates, at_level, last_job, chosen_of, choose}
use Rattle.br_model.proofs.ChosenPlanLaws.{chosen_is_history}
use Rattle.br_model.proofs.GroupLaws.{one_job_of_id}
use Rattle.br_model.proofs.ListLaws.{filter_twice, from_kept}
use Rattle.br_model.proofs.OrderLaws.{rank_cmp, same_rank}
use Rattle.br_model.proofs.PairLaws.{EachPair, no_pair_clashes, no_pair_from, pairs_filter, pairs_weaker}
use Rattle.br_choose.specs.Wanted.{is_candidate, is_wanted, later}
use Rattle.br_choose.proofs.RankLaws.{HasEachRankOnce, ties, reduced_is_last}

-- ---- ranks of a history

same_number : (j k : JobRows) → job_rank j ≡ job_rank k → j.row.id ≡ k.row.id
same_number j k e = ap (λ (r : List ℕ). slice_index r 1) e

-- of a history each kept job has its rank alone
pub kept_once : (jobs : List JobRows) (p : JobRows → Bool) → is_history jobs ≡ true → HasEachRankOnce (filter p jobs)
kept_once jobs p is j k inside among e = one_job_of_id jobs j k is (from_kept p jobs j inside) (from_kept p jobs k among) (same_number j k e)

pub is_equal : (o : Ordering) → is_eq o ≡ true → o ≡ Equal
is_equal Less e = absurd cc
is_equal Equal e = refl
is_equal Greater e = absurd cc

apart : (j k : JobRows) → clash j k ≡ false → ties j k ≡ false
apart j k none =
    false_from_ne_true (ties j k) (λ tied.
    both_ways (clash j k) none (or_left (eqb j.row.id k.row.id) (same_session j.row.session k.row.session) (eq-eqb j.row.id k.row.id (same_number j k (same_rank (job_rank j) (job_rank k) (equal tied))))))
  where
    equal : ties j k ≡ true → rank_cmp (job_rank j) (job_rank k) ≡ Equal
    equal = is_equal (rank_cmp (job_rank j) (job_rank k))

distinct_pairs : (jobs : List JobRows) → EachPair (λ j k. ties j k ≡ false) jobs → IsDistinct ties jobs
unfolding IsDistinct
distinct_pairs [] h = tt
distinct_pairs (j ∷ jobs) h = (h.0, distinct_pairs jobs h.1)

-- of a history no two kept jobs have one rank
pub kept_distinct : (jobs : List JobRows) (p : JobRows → Bool) → is_history jobs ≡ true → IsDistinct ties (filter p jobs)
kept_distinct jobs p is =
    let pairs = no_pair_clashes clash jobs (and_parts (list_all are_rows jobs) (no_pair clash jobs) is).1 in
    distinct_pairs (filter p jobs) (pairs_weaker (λ j k. clash j k ≡ false) (λ j k. ties j k ≡ false) apart (filter p jobs) (pairs_filter (λ j k. clash j k ≡ false) p jobs pairs))

-- ---- one test for the model's three

and_true : (b : Bool) → (b && true) ≡ b
and_true true = refl
and_true false = refl

-- the candidates of a level
pub level_is : (q : Request) (level : ℕ) (history : List JobRows) → at_level level (candidates history q) ≡ filter (is_wanted q level None) history
unfolding candidates
level_is q level history =
    filter_twice (is_candidate q) (λ (j : JobRows). eqb j.row.level level) history
    ∙ ap (λ (f : JobRows → Bool). filter f history) (λ i j. sym (and_true (is_candidate q j && eqb j.row.level level)) i)

-- the candidates of a level after a job
pub level_after_is : (q : Request) (level : ℕ) (earlier : JobRows) (history : List JobRows)
    → filter (is_after earlier) (at_level level (candidates history q)) ≡ filter (is_wanted q level (Some earlier)) history
unfolding candidates
level_after_is q level earlier history =
    ap (filter (is_after earlier)) (filter_twice (is_candidate q) (λ (j : JobRows). eqb j.row.level level) history)
    ∙ filter_twice (λ j. is_candidate q j && eqb j.row.level level) (is_after earlier) history

-- ---- the choice

-- no job of the client
pub unknown_client : (history : List JobRows) (q : Request) → list_any (is_of_client q.client) history ≡ false → choose history q ≡ Err 53
unfolding choose
unknown_client history q none = rw none refl

-- none of the client's jobs is of the file set
pub unknown_fileset : (history : List JobRows) (q : Request) → list_any (is_of_client q.client) history ≡ true
    → list_any (λ j. is_of_client q.client j && is_of_fileset q.fileset j) history ≡ false → choose history q ≡ Err 54
unfolding choose
unknown_fileset history q some none = rw (some, none) refl

chosen_from : (history : List JobRows) (q : Request) → list_any (is_of_client q.client) history ≡ true
    → list_any (λ j. is_of_client q.client j && is_of_fileset q.fileset j) history ≡ true → choose history q ≡ chosen_of (candidates history q)
unfolding choose
chosen_from history q some both = rw (some, both) refl

no_full_of : (jobs : List JobRows) → last_job (at_level 70 jobs) ≡ None → chosen_of jobs ≡ Err 50
unfolding chosen_of
no_full_of jobs none = rw none refl

chosen_with : (jobs : List JobRows) (full : JobRows) (differential : Option JobRows) → last_job (at_level 70 jobs) ≡ Some full
    → last_job (filter (is_after full) (at_level 68 jobs)) ≡ differential
    → chosen_of jobs ≡ Ok (full ∷ option_to_list differential ++ in_order job_rank (filter (is_after (unwrap_or differential full)) (at_level 73 jobs)))
unfolding chosen_of
chosen_with jobs full differential is behind = rw (is, behind) refl

-- the last of the wanted jobs, by a walk that keeps the later one
last_of_wanted : (history : List JobRows) (p : JobRows → Bool) → is_history history ≡ true → last_job (filter p history) ≡ reduce later (filter p history)
last_of_wanted history p is = sym (reduced_is_last (filter p history) (kept_once history p is))

-- no good Full before the moment
pub no_full : (history : List JobRows) (q : Request) → is_history history ≡ true → list_any (is_of_client q.client) history ≡ true
    → list_any (λ j. is_of_client q.client j && is_of_fileset q.fileset j) history ≡ true → reduce later (filter (is_wanted q 70 None) history) ≡ None → choose history q ≡ Err 50
no_full history q is some both none =
    chosen_from history q some both
    ∙ no_full_of (candidates history q) (ap last_job (level_is q 70 history) ∙ last_of_wanted history (is_wanted q 70 None) is ∙ none)

-- the jobs that are chosen
pub chosen_is : (history : List JobRows) (q : Request) (full : JobRows) (differential : Option JobRows) (incrementals : List JobRows) → is_history history ≡ true
    → list_any (is_of_client q.client) history ≡ true → list_any (λ j. is_of_client q.client j && is_of_fileset q.fileset j) history ≡ true
    → reduce later (filter (is_wanted q 70 None) history) ≡ Some full → reduce later (filter (is_wanted q 68 (Some full)) history) ≡ differential
    → incrementals ≡ in_order job_rank (filter (is_wanted q 73 (Some (unwrap_or differential full))) history)
    → choose history q ≡ Ok (full ∷ option_to_list differential ++ incrementals)
chosen_is history q full differential incrementals is some both of_full of_differential of_incrementals =
    chosen_from history q some both
    ∙ chosen_with (candidates history q) full differential (ap last_job (level_is q 70 history) ∙ last_of_wanted history (is_wanted q 70 None) is ∙ of_full)
    (ap last_job (level_after_is q 68 full history) ∙ last_of_wanted history (is_wanted q 68 (Some full)) is ∙ of_differential)
    ∙ ap (λ (js : List JobRows). Ok (full ∷ option_to_list differential ++ js))
    (ap (in_order job_rank) (level_after_is q 73 (unwrap_or differential full) history) ∙ sym of_incrementals)

-- the later of a Full and a Differential, by reference
pub last_by_reference : (o : Option (Bor JobRows)) (full last : Bor JobRows) → last ≡ unwrap_or o full → last.now ≡ unwrap_or (option_copied o) full.now
last_by_reference None full last e = ap (λ (b : Bor JobRows). b.now) e
last_by_reference (Some b) full last e = ap (λ (b : Bor JobRows). b.now) e

-- ---- their numbers

-- two jobs of one number
abbrev pub one_number : JobRows → JobRows → Bool
one_number j k = eqb j.row.id k.row.id

-- of a history each job is chosen at most once
pub chosen_once : (history chosen : List JobRows) (q : Request) → is_history history ≡ true → choose history q ≡ Ok chosen → no_pair one_number chosen ≡ true
chosen_once history chosen q is e =
    let parts = and_parts (list_all are_rows chosen) (no_pair clash chosen) (chosen_is_history history chosen q is e) in
    no_pair_from one_number chosen
    (pairs_weaker (λ j k. clash j k ≡ false) (λ j k. one_number j k ≡ false) (λ j k none. (or_parts (one_number j k) (same_session j.row.session k.row.session) none).0) chosen
    (no_pair_clashes clash chosen parts.1))
