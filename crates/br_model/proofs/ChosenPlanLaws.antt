-- The chosen jobs of a history are a history.
use Rattle.std.proofs.Common.{◌≡◌, ℕ, Bool, true, false, not, ◌&&◌, ◌||◌, eqb, List, ◌∷◌, ◌++◌, filter, Option, Some, None, Ok, refl, sym, ap, subst, ◌∙◌, arith}
use Rattle.std.proofs.lemmas.Bool.{eqb-true, and_parts, false_from_ne_true}
use Rattle.std.specs.Prelude.{Contains, option_to_list, unwrap_or, nat_lt}
use Rattle.std.specs.List.{AllByRecursion, list_all, list_any}
use Rattle.std.specs.declared.cmp.Ordering.TheVariants.{Less}
use Rattle.br_model.specs.Answer.{some_or}
use Rattle.br_model.specs.Order.{in_order}
use Rattle.br_model.specs.Name.{same_session}
use Rattle.br_model.specs.Job.{JobRows, are_rows, no_pair, clash, is_history}
use Rattle.br_model.specs.Choice.{Request, job_rank, is_after, is_good, is_of_client, is_of_fileset, candidates, at_level, last_job, chosen_of, choose}
use Rattle.br_model.specs.PlanMeaning.{PlanMeansSelection, rows_of_jobs}
use Rattle.br_model.proofs.AnswerLaws.{some_or_ok, bind_ok, refuse_ok, ok_is}
use Rattle.br_model.proofs.EntryLaws.{from_last_job, chosen_are_jobs}
use Rattle.br_model.proofs.PairLaws.{EachPair, pairs_weaker, pairs_append, no_pair_from, pairs_with}
use Rattle.br_model.proofs.GroupLaws.{one_job_of_session, one_job_of_id}
use Rattle.br_model.proofs.PlanLaws.{plan_means_selection_of}
use Rattle.br_model.proofs.ListLaws.{of_option, all_append, all_pass, from_kept, holds_of_all, kept_pass, of_each, to_each}
use Rattle.br_model.proofs.OrderLaws.{not_below_itself, in_order_from, in_order_rises, rank_cmp}

-- two jobs that are not one
abbrev pub Differ : JobRows → JobRows → Type 0
Differ j k = j ≡ k → ⊥

-- a job at a level is of it
pub of_level : (level : ℕ) (jobs : List JobRows) (j : JobRows) → Contains (at_level level jobs) j → j.row.level ≡ level
of_level level jobs j inside =
    eqb-true j.row.level level (of_each (λ (k : JobRows). eqb k.row.level level ≡ true) (at_level level jobs) j (kept_pass (λ (k : JobRows). eqb k.row.level level) jobs) inside)

-- jobs of two levels are two
pub levels_differ : (j k : JobRows) (m n : ℕ) → (m ≡ n → ⊥) → j.row.level ≡ m → k.row.level ≡ n → Differ j k
levels_differ j k m n apart p q same = apart (sym p ∙ ap (λ (i : JobRows). i.row.level) same ∙ q)

-- jobs in order are each another
pub ordered_differ : (jobs : List JobRows) → EachPair Differ (in_order job_rank jobs)
ordered_differ jobs =
    pairs_weaker (λ (j k : JobRows). rank_cmp (job_rank j) (job_rank k) ≡ Less) Differ
    (λ j k less same. not_below_itself (job_rank j) (ap (λ (i : JobRows). rank_cmp (job_rank j) (job_rank i)) same ∙ less))
    (in_order job_rank jobs) (in_order_rises job_rank jobs)

-- the jobs that are chosen are each another
pub chosen_of_differ : (jobs chosen : List JobRows) → chosen_of jobs ≡ Ok chosen → EachPair Differ chosen
unfolding chosen_of
chosen_of_differ jobs chosen e =
    let behind : JobRows → Option JobRows = λ full. last_job (filter (is_after full) (at_level 68 jobs)) in
    let give : JobRows → List JobRows = λ full. full ∷ option_to_list (behind full) ++ in_order job_rank (filter (is_after (unwrap_or (behind full) full)) (at_level 73 jobs)) in
    let r = bind_ok (some_or {E = ℕ} (last_job (at_level 70 jobs)) 50) (λ full. Ok (give full)) chosen e in
    let full = r.0 in
    let full_level : full.row.level ≡ 70 = of_level 70 jobs full (from_last_job (at_level 70 jobs) full (some_or_ok (last_job (at_level 70 jobs)) 50 full r.1)) in
    let later = filter (is_after (unwrap_or (behind full) full)) (at_level 73 jobs) in
    let later_level : (j : JobRows) → Contains (in_order job_rank later) j → j.row.level ≡ 73 = λ j inside.
    of_level 73 jobs j (from_kept (is_after (unwrap_or (behind full) full)) (at_level 73 jobs) j (in_order_from job_rank later j inside)) in
    let behind_level : (j : JobRows) → behind full ≡ Some j → j.row.level ≡ 68 = λ j is.
    of_level 68 jobs j (from_kept (is_after full) (at_level 68 jobs) j (from_last_job (filter (is_after full) (at_level 68 jobs)) j is)) in
    let far : 70 ≡ 68 → ⊥ = λ h. omega (arith, h) in
    let farther : 70 ≡ 73 → ⊥ = λ h. omega (arith, h) in
    let between : 68 ≡ 73 → ⊥ = λ h. omega (arith, h) in
    subst (EachPair Differ) (ok_is (give full) chosen r.2) (
      all_append (Differ full) (option_to_list (behind full)) (in_order job_rank later)
          (of_option (Differ full) (behind full) (λ j is. levels_differ full j 70 68 far full_level (behind_level j is)))
          (to_each (Differ full) (in_order job_rank later) (λ j inside. levels_differ full j 70 73 farther full_level (later_level j inside))),
      pairs_append Differ (option_to_list (behind full)) (in_order job_rank later) (one_alone (behind full)) (ordered_differ later)
          (of_option (λ (j : JobRows). AllByRecursion (Differ j) (in_order job_rank later)) (behind full) (λ j is.
          to_each (Differ j) (in_order job_rank later) (λ k inside. levels_differ j k 68 73 between (behind_level j is) (later_level k inside)))),
    )
  where
    one_alone : (o : Option JobRows) → EachPair Differ (option_to_list o)
    one_alone None = tt
    one_alone (Some k) = (tt, tt)

-- each chosen job of a history is another
pub chosen_differ : (history chosen : List JobRows) (q : Request) → choose history q ≡ Ok chosen → EachPair Differ chosen
unfolding choose candidates
chosen_differ history chosen q e =
    let test : JobRows → Bool = λ j. is_good j && is_of_client q.client j && is_of_fileset q.fileset j && nat_lt j.row.start q.moment in
    let next = refuse_ok (not (list_any (is_of_client q.client) history)) 53 _ chosen e in
    let last = refuse_ok (not (list_any (λ j. is_of_client q.client j && is_of_fileset q.fileset j) history)) 54 _ chosen next.1 in
    chosen_of_differ (filter test history) chosen last.1

-- jobs of a history that clash are one
pub clashing_are_one : (history : List JobRows) (j k : JobRows) → is_history history ≡ true → Contains history j → Contains history k → clash j k ≡ true → j ≡ k
clashing_are_one history j k is j_in k_in e = go (eqb j.row.id k.row.id) refl e
  where
    go : (b : Bool) → eqb j.row.id k.row.id ≡ b → (b || same_session j.row.session k.row.session) ≡ true → j ≡ k
    go true same h = one_job_of_id history j k is j_in k_in (eqb-true j.row.id k.row.id same)
    go false other h =
        let parts = and_parts (eqb j.row.session.id k.row.session.id) (eqb j.row.session.time k.row.session.time) h in
        let id_is = eqb-true j.row.session.id k.row.session.id parts.0 in
        let time_is = eqb-true j.row.session.time k.row.session.time parts.1 in
        one_job_of_session history j k is j_in k_in (λ i. record { id = id_is i; time = time_is i })

-- jobs of a history that are each another do not clash
pub no_clash : (history jobs : List JobRows) → is_history history ≡ true → AllByRecursion (Contains history) jobs → EachPair Differ jobs → no_pair clash jobs ≡ true
no_clash history jobs is inside apart =
    no_pair_from clash jobs
    (pairs_with (Contains history) Differ (λ (j k : JobRows). clash j k ≡ false)
    (λ j k j_in k_in differ. false_from_ne_true (clash j k) (λ e. differ (clashing_are_one history j k is j_in k_in e))) jobs inside apart)

-- the chosen jobs of a history are a history
pub chosen_is_history : (history chosen : List JobRows) (q : Request) → is_history history ≡ true → choose history q ≡ Ok chosen → is_history chosen ≡ true
chosen_is_history history chosen q is e =
    let inside = chosen_are_jobs history chosen q e in
    let parts = and_parts (list_all are_rows history) (no_pair clash history) is in
    let each = all_pass are_rows history parts.0 in
    let fit : list_all are_rows chosen ≡ true =
    holds_of_all are_rows chosen (to_each (λ (j : JobRows). are_rows j ≡ true) chosen (λ j j_in.
    of_each (λ (k : JobRows). are_rows k ≡ true) history j each (of_each (Contains history) chosen j inside j_in))) in
    rw (fit, no_clash history chosen is inside (chosen_differ history chosen q e)) refl

-- what a plan promises holds
pub plan_means_selection_lem : PlanMeansSelection
plan_means_selection_lem jobs q marks chosen plan volumes later history are_jobs is_chosen is_plan stand extends =
    plan_means_selection_of jobs q marks chosen plan volumes later (chosen_is_history (rows_of_jobs jobs) chosen q history is_chosen) are_jobs is_chosen is_plan stand extends
