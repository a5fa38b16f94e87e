-- The groups of files are the plan's groups, and a plan step by step.
use Rattle.std.proofs.Common.{◌≡◌, ℕ, ◌<◌, Bool, true, false, not, ◌&&◌, cond, eqb, List, [], ◌∷◌, ◌++◌, length, map, filter, Result, Ok, Err, refl, sym, ap, subst, ◌∙◌, inl, inr, arith}
use Rattle.std.proofs.lemmas.Bool.{and_parts, eqb-true}
use Rattle.std.specs.Prelude.{Contains, flat_map, IfOk}
use Rattle.std.specs.Int.{is_in_range}
use Rattle.std.specs.List.Sorted.{IsStrictlySortedBy}
use Rattle.std.specs.Ordering.{nat_cmp, ordering_then}
use Rattle.std.specs.declared.cmp.Ordering.{Ordering}
use Rattle.std.specs.declared.cmp.Ordering.TheVariants.{Less, Equal, Greater}
use Rattle.br_model.specs.Answer.{Answers, IsRefusal}
use Rattle.br_model.specs.Order.{in_order}
use Rattle.br_model.specs.Text.{is_empty}
use Rattle.br_model.specs.Bootstrap.{Group}
use Rattle.br_model.specs.Job.{Span, JobRows, is_history}
use Rattle.br_model.specs.Choice.{Request, choose}
use Rattle.br_model.specs.View.{Entry, view_of}
use Rattle.br_model.specs.Plan.{Plan, selection, indexes_in, span_group, job_groups, plan_groups, plan_of}
use Rattle.br_model.specs.PlanMeaning.{PlanMeansSelection}
use Rattle.br_model.proofs.ChosenPlanLaws.{chosen_is_history}
use Rattle.br_model.proofs.ListLaws.{cons_not_empty, first_in, later_in, first_or_later, none_in, of_each, contains_filter, kept_passes, kept_pass, contains_map, from_image}
use Rattle.br_model.proofs.OrderLaws.{rank_cmp, in_order_from, in_order_rises, numbers_in_order}
use Rattle.br_model.proofs.PairLaws.{EachPair, pairs_weaker, pairs_with, pairs_filter, pairs_map}
use Rattle.br_choose.specs.declared.fault.ChooseFault.{ChooseFault}
use Rattle.br_choose.specs.declared.fault.ChooseFault.TheVariants as choosing
use Rattle.br_choose.specs.Fault as choice
use Rattle.br_plan.specs.Fault.{cause, from_choice}
use Rattle.br_view.specs.Shown.{shown_pair}
use Rattle.br_plan.specs.declared.fault.PlanFault.{PlanFault}
use Rattle.br_plan.specs.Selected.{FileOf, file_cmp, file_of, Pair, flags_in, selected_by}
use Rattle.br_plan.specs.Parts.{Rise, AreFiles, is_within, part_of, groups_of_job, groups_of_jobs}
use Rattle.br_plan.specs.Means.{plan_unless_empty, MeansSelection}
use Rattle.br_plan.proofs.SelectLaws.{selected_is}
use Rattle.br_plan.proofs.PartLaws.{lower, file_less}

-- ---- rising numbers

-- two rising lists of the same numbers are one
pub same_rising : (xs ys : List ℕ) → EachPair (λ x y. x < y) xs → EachPair (λ x y. x < y) ys → ((z : ℕ) → Contains xs z → Contains ys z) → ((z : ℕ) → Contains ys z → Contains xs z) → xs ≡ ys
same_rising [] [] p q f g = refl
same_rising [] (y ∷ ys) p q f g = absurd (none_in y (g y (first_in y ys y refl)))
same_rising (x ∷ xs) [] p q f g = absurd (none_in x (f x (first_in x xs x refl)))
same_rising (x ∷ xs) (y ∷ ys) p q f g =
    let same : x ≡ y =
    elim (first_or_later y ys x (f x (first_in x xs x refl))) [
      | inl e ↦ sym e
      | inr there ↦ elim (first_or_later x xs y (g y (first_in y ys y refl))) [
        | inl e ↦ e
        | inr here ↦ absurd (omega (arith, of_each (λ z. x < z) xs y p.0 here, of_each (λ z. y < z) ys x q.0 there))
      ]
    ] in
    let into : (z : ℕ) → Contains xs z → Contains ys z = λ z inside.
    elim (first_or_later y ys z (f z (later_in x xs z inside))) [
      | inl e ↦ absurd (omega (arith, e, same, of_each (λ w. x < w) xs z p.0 inside))
      | inr there ↦ there
    ] in
    let back : (z : ℕ) → Contains ys z → Contains xs z = λ z inside.
    elim (first_or_later x xs z (g z (later_in y ys z inside))) [
      | inl e ↦ absurd (omega (arith, e, same, of_each (λ w. y < w) ys z q.0 inside))
      | inr here ↦ here
    ] in
    ap (λ z. z ∷ xs) same ∙ ap (λ zs. y ∷ zs) (same_rising xs ys p.1 q.1 into back)

then_less : (o : Ordering) → ordering_then o Equal ≡ Less → o ≡ Less
then_less Less e = refl
then_less Equal e = absurd cc
then_less Greater e = absurd cc

numbers_rise : (xs : List ℕ) → EachPair (λ x y. x < y) (in_order (λ i. i ∷ []) xs)
numbers_rise xs =
    pairs_weaker (λ x y. rank_cmp (x ∷ []) (y ∷ []) ≡ Less) (λ x y. x < y) (λ x y less. lower x y (then_less (nat_cmp x y) less)) (in_order (λ i. i ∷ []) xs) (in_order_rises (λ i. i ∷ []) xs)

each_pair : (files : List FileOf) → Rise files → EachPair (λ a b. file_cmp a b ≡ Less) files
unfolding IsStrictlySortedBy
each_pair [] rise = tt
each_pair (f ∷ fs) rise = (rise.0, each_pair fs rise.1)

-- the indexes of a job's files in a span rise
part_rises : (files : List FileOf) (j : JobRows) (s : Span) → Rise files → EachPair (λ x y. x < y) (part_of files j s)
part_rises files j s rise =
    pairs_map (λ x y. x < y) (λ (f : FileOf). f.1) (filter (is_within j.row.id s) files)
    (pairs_with (λ (f : FileOf). is_within j.row.id s f ≡ true) (λ (a b : FileOf). file_cmp a b ≡ Less) (λ (a b : FileOf). a.1 < b.1) step (filter (is_within j.row.id s) files)
    (kept_pass (is_within j.row.id s) files) (pairs_filter (λ (a b : FileOf). file_cmp a b ≡ Less) (is_within j.row.id s) files (each_pair files rise)))
  where
    step : (a b : FileOf) → is_within j.row.id s a ≡ true → is_within j.row.id s b ≡ true → file_cmp a b ≡ Less → a.1 < b.1
    step a b p q less =
        let of_a = eqb-true a.0 j.row.id (and_parts (eqb a.0 j.row.id) (is_in_range s.first s.last a.1) p).0 in
        let of_b = eqb-true b.0 j.row.id (and_parts (eqb b.0 j.row.id) (is_in_range s.first s.last b.1) q).0 in
        elim (file_less a b less) [
          | inl lt ↦ absurd (omega (arith, lt, of_a, of_b))
          | inr both ↦ both.1
        ]

-- they are the selected indexes
pub part_is : (selected : List Entry) (files : List FileOf) (j : JobRows) (s : Span) → AreFiles selected files → part_of files j s ≡ indexes_in selected j s
part_is selected files j s are = same_rising (part_of files j s) (indexes_in selected j s) (part_rises files j s are.rise) (numbers_rise indexes) into back
  where
    of_span : Entry → Bool
    of_span e = eqb e.job j.row.id && is_in_range s.first s.last e.index

    indexes : List ℕ
    indexes = map (λ (e : Entry). e.index) (filter of_span selected)

    into : (z : ℕ) → Contains (part_of files j s) z → Contains (in_order (λ i. i ∷ []) indexes) z
    into z inside =
        let f = from_image (λ (g : FileOf). g.1) (filter (is_within j.row.id s) files) z inside in
        let kept = kept_passes (is_within j.row.id s) files f.0 f.1 in
        let e = from_image file_of selected f.0 (are.from f.0 kept.0) in
        let passes : of_span e.0 ≡ true = ap (is_within j.row.id s) e.2 ∙ kept.1 in
        let index_is : e.0.index ≡ z = ap (λ (g : FileOf). g.1) e.2 ∙ f.2 in
        numbers_in_order indexes z (subst (Contains indexes) index_is (contains_map (λ (d : Entry). d.index) (filter of_span selected) e.0 (contains_filter of_span selected e.0 e.1 passes)))

    back : (z : ℕ) → Contains (in_order (λ i. i ∷ []) indexes) z → Contains (part_of files j s) z
    back z inside =
        let e = from_image (λ (d : Entry). d.index) (filter of_span selected) z (in_order_from (λ i. i ∷ []) indexes z inside) in
        let kept = kept_passes of_span selected e.0 e.1 in
        let there = contains_filter (is_within j.row.id s) files (file_of e.0) (are.has (file_of e.0) (contains_map file_of selected e.0 kept.0)) kept.1 in
        subst (Contains (part_of files j s)) e.2 (contains_map (λ (g : FileOf). g.1) (filter (is_within j.row.id s) files) (file_of e.0) there)

-- ---- groups

-- a group for each span that has a part
each_group : (f : Span → List ℕ) (g : Span → List ℕ → Group) (spans : List Span)
    → flat_map (λ s. cond (is_empty (f s)) [] (g s (f s) ∷ [])) spans ≡ map (λ s. g s (f s)) (filter (λ s. not (is_empty (f s))) spans)
each_group f g [] = refl
each_group f g (s ∷ ss) = go (is_empty (f s)) (each_group f g ss)
  where
    rest : List Group
    rest = flat_map (λ t. cond (is_empty (f t)) [] (g t (f t) ∷ [])) ss

    kept : List Span
    kept = filter (λ t. not (is_empty (f t))) ss

    go : (b : Bool) → rest ≡ map (λ t. g t (f t)) kept → cond b [] (g s (f s) ∷ []) ++ rest ≡ map (λ t. g t (f t)) (cond (not b) (s ∷ kept) kept)
    go true h = h
    go false h = ap (λ (gs : List Group). g s (f s) ∷ gs) h

groups_of_job_are : (selected : List Entry) (files : List FileOf) (j : JobRows) → AreFiles selected files → groups_of_job files j ≡ job_groups selected j
groups_of_job_are selected files j are =
    ap (λ (f : Span → List ℕ). flat_map (λ s. cond (is_empty (f s)) [] (span_group j.row.session s (f s) ∷ [])) j.spans) (λ i s. part_is selected files j s are i)
    ∙ each_group (indexes_in selected j) (span_group j.row.session) j.spans

-- the groups of the jobs are the plan's
pub groups_are : (selected : List Entry) (files : List FileOf) (jobs : List JobRows) → AreFiles selected files → groups_of_jobs files jobs ≡ plan_groups selected jobs
unfolding plan_groups
groups_are selected files jobs are = ap (λ (f : JobRows → List Group). flat_map f jobs) (λ i j. groups_of_job_are selected files j are i)

-- ---- a plan

-- a choice that was refused
pub choice_refused : (history : List JobRows) (q : Request) (marks : List (List ℕ)) (why : ChooseFault) → IsRefusal (choice.cause why) (choose history q) → IsRefusal (cause (from_choice why)) (plan_of history q marks)
unfolding plan_of
choice_refused history q marks choosing.Memory e = tt
choice_refused history q marks choosing.NoFull e = rw e refl
choice_refused history q marks choosing.UnknownClient e = rw e refl
choice_refused history q marks choosing.UnknownFileSet e = rw e refl

-- the plan of what is selected by the flags of marks on the view of the chosen jobs
pub planned : (history : List JobRows) (q : Request) (marks : List (List ℕ)) (jobs : List JobRows) (pairs : List Pair) (flags : List Bool) → is_history history ≡ true → choose history q ≡ Ok jobs
    → map shown_pair pairs ≡ view_of jobs → flags ≡ flags_in marks (map shown_pair pairs) → plan_of history q marks ≡ plan_unless_empty (map shown_pair (selected_by pairs flags)) jobs
unfolding plan_of
planned history q marks jobs pairs flags is chosen viewed flagged =
    of_jobs ∙ ap (λ (s : List Entry). plan_unless_empty s jobs) (sym (selected_is jobs marks pairs flags (chosen_is_history history jobs q is chosen) viewed flagged))
  where
    of_jobs : plan_of history q marks ≡ plan_unless_empty (selection (view_of jobs) marks) jobs
    of_jobs = rw chosen refl

-- what is planned means the selection
pub plan_means : PlanMeansSelection → (history : List JobRows) (q : Request) (marks : List (List ℕ)) → is_history history ≡ true
    → (r : Result Plan PlanFault) → Answers (λ plan. plan) cause r (plan_of history q marks) → IfOk r (MeansSelection history q marks)
plan_means law history q marks valid (Err why) e = tt
plan_means law history q marks valid (Ok plan) e = λ jobs chosen volumes later same are is_chosen stand extends.
    law jobs q marks chosen plan volumes later (ap is_history same ∙ valid) are (ap (λ (h : List JobRows). choose h q) same ∙ is_chosen)
    (ap (λ (h : List JobRows). plan_of h q marks) same ∙ e) stand extends
