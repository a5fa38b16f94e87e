-- The files of a planned restore are the newest of their paths.
use Rattle.std.proofs.Common.{◌≡◌, ℕ, Bool, true, false, not, List, map, Option, Some, None, Ok, Err, refl, sym, ap, subst, ◌∙◌}
use Rattle.std.proofs.lemmas.Option.{same_Some}
use Rattle.std.proofs.lemmas.Slice.Eq.{bytes_eq-Decides}
use Rattle.std.specs.Prelude.{Contains, bytes_eq}
use Rattle.std.specs.FinMap.{entries}
use Rattle.std.specs.declared.cmp.Ordering.TheVariants.{Less}
use Rattle.br_model.specs.Order.{in_order, is_among}
use Rattle.br_model.specs.Name.{key_rank}
use Rattle.br_model.specs.File.{Item, Outcome, fault}
use Rattle.br_model.specs.Meaning.{Hits}
use Rattle.br_model.specs.Restored.{Planned, Restored, fragments_for, outcome_of, under_name, files_planned, files_listed, files}
use Rattle.br_model.specs.Job.{JobRows}
use Rattle.br_model.specs.Choice.{Request, choose}
use Rattle.br_model.specs.View.{Entry, view_of}
use Rattle.br_model.specs.Plan.{Plan, wanted, selection, planned_entry, plan_names, plan_of}
use Rattle.br_model.proofs.AnswerLaws.{bind_ok, refuse_ok, ok_is}
use Rattle.br_model.proofs.ListLaws.{from_given, from_image, from_kept, given_in, keeps_all, to_each}
use Rattle.br_model.proofs.OrderLaws.{in_order_from, not_below_itself, rank_cmp}
use Rattle.br_model.proofs.PairLaws.{one_if_unrelated}
use Rattle.br_model.proofs.PlanLaws.{plan_is}
use Rattle.br_model.proofs.ViewLaws.{view_rises}
use Rattle.br_types.specs.Newest.{Copy, copy_of, copies_of, is_older, is_current, is_newest, newest, PlannedAreNewest}
use Rattle.br_types.proofs.NewestLaws.{current_if_alone, not_older_itself}

-- ---- planned files

-- a file that is given under a name has this path
named_path : (path : List ℕ) (outcome : Outcome) (item : Item) → under_name path outcome ≡ Ok item → item.path ≡ path
unfolding under_name
named_path path outcome item is =
    let given = bind_ok outcome _ item is in
    let passed = refuse_ok (not (bytes_eq given.0.path path)) (fault 69) _ item given.2 in
    let one : given.0 ≡ item = ok_is given.0 item passed.1 in
    sym (ap (λ (i : Item). i.path) one) ∙ (bytes_eq-Decides given.0.path path).0 (go (bytes_eq given.0.path path) passed.0)
  where
    go : (b : Bool) → not b ≡ false → b ≡ true
    go true e = refl
    go false e = absurd cc

-- a file under its path that is given of a planned file has the key and the path of the plan
planned_copy : (p : Planned) (outcome : Outcome) (c : Copy) → copy_of (record { key = p.key; outcome = under_name p.path outcome }) ≡ Some c
    → (p.key ≡ c.key) × (p.path ≡ c.path)
planned_copy p outcome c is = go (under_name p.path outcome) refl is
  where
    go : (given : Outcome) → under_name p.path outcome ≡ given → copy_of (record { key = p.key; outcome = given }) ≡ Some c → (p.key ≡ c.key) × (p.path ≡ c.path)
    go (Err f) e h = absurd cc
    go (Ok item) e h =
        let one : record { key = p.key; path = item.path } ≡ c = same_Some (record { key = p.key; path = item.path }) c h in
        (ap (λ (d : Copy). d.key) one, sym (named_path p.path outcome item e) ∙ ap (λ (d : Copy). d.path) one)

-- each copy among the files of a plan is one of its names
copy_is_planned : (hits : Hits) (names : List Planned) (c : Copy) → Contains (copies_of (files hits (Some names))) c
    → (p : Planned) × Contains names p × (p.key ≡ c.key) × (p.path ≡ c.path)
unfolding files files_listed files_planned
copy_is_planned hits names c among =
    let found = from_given copy_of (files hits (Some names)) c among in
    let name = from_image restored_as (in_order (λ (p : Planned). key_rank p.key) names) found.0 found.1 in
    let is = planned_copy name.0 (outcome_of name.0.key (fragments_for name.0.key (entries hits))) c (ap copy_of name.2 ∙ found.2) in
    (name.0, in_order_from (λ (p : Planned). key_rank p.key) names name.0 name.1, is.0, is.1)
  where
    restored_as : Planned → Restored
    restored_as p = record { key = p.key; outcome = under_name p.path (outcome_of p.key (fragments_for p.key (entries hits))) }

-- ---- plans

-- no two names with one path have two keys
abbrev HaveOwnPaths : List Planned → Type 0
HaveOwnPaths names = (p q : Planned) → Contains names p → Contains names q → p.path ≡ q.path → p.key ≡ q.key

-- an entry of the view that a name is of
named_entry : (jobs : List JobRows) (marks : List (List ℕ)) (p : Planned) → Contains (plan_names (selection (view_of jobs) marks)) p
    → (e : Entry) × Contains (view_of jobs) e × (planned_entry e ≡ p)
unfolding plan_names selection
named_entry jobs marks p among =
    let view : List Entry = view_of jobs in
    let chosen : List Entry = selection view marks in
    let name = in_order_from (λ (n : Planned). key_rank n.key) (map planned_entry chosen) p among in
    let found = from_image planned_entry chosen p name in
    (found.0, from_kept (λ (e : Entry). is_among (wanted view marks) e.path) view found.0 found.1, found.2)

-- a plan names each path once
plan_has_own_paths : (jobs : List JobRows) (marks : List (List ℕ)) → HaveOwnPaths (plan_names (selection (view_of jobs) marks))
plan_has_own_paths jobs marks p q of_p of_q same =
    let d = named_entry jobs marks p of_p in
    let e = named_entry jobs marks q of_q in
    let path_of : Planned → List ℕ = λ n. n.path in
    let paths : d.0.path ≡ e.0.path = ap path_of d.2 ∙ same ∙ ap path_of (sym e.2) in
    let one : d.0 ≡ e.0 =
    one_if_unrelated (λ (x y : Entry). rank_cmp x.path y.path ≡ Less) (view_of jobs) d.0 e.0 (view_rises jobs) d.1 e.1
    (λ less. not_below_itself d.0.path (ap (rank_cmp d.0.path) paths ∙ less))
    (λ less. not_below_itself e.0.path (ap (rank_cmp e.0.path) (sym paths) ∙ less)) in
    ap (λ (n : Planned). n.key) (sym d.2 ∙ ap planned_entry one ∙ e.2)

-- the plan is that of the marks
plan_of_chosen : (history : List JobRows) (q : Request) (marks : List (List ℕ)) (plan : Plan) → plan_of history q marks ≡ Ok plan
    → (chosen : List JobRows) × (plan_names (selection (view_of chosen) marks) ≡ plan.names)
unfolding plan_of
plan_of_chosen history q marks plan is =
    let given = bind_ok (choose history q) _ plan is in
    (given.0, ap (λ (p : Plan). p.names) (plan_is history given.0 q marks plan given.1 is))

-- the files of names with paths of their own are the newest
own_paths_are_newest : (hits : Hits) (names : List Planned) → HaveOwnPaths names → newest (files hits (Some names)) ≡ files hits (Some names)
unfolding newest
own_paths_are_newest hits names own =
    keeps_all (is_newest rs) rs (to_each (λ (r : Restored). is_newest rs r ≡ true) rs (λ r among. go r among (copy_of r) refl))
  where
    rs : List Restored
    rs = files hits (Some names)

    go : (r : Restored) → Contains rs r → (o : Option Copy) → copy_of r ≡ o → is_current (copies_of rs) (copy_of r) ≡ true
    go r among None is = ap (is_current (copies_of rs)) is
    go r among (Some c) is =
        let name = copy_is_planned hits names c (given_in copy_of rs r c among is) in
        ap (is_current (copies_of rs)) is ∙ ap not (current_if_alone (copies_of rs) c (λ d inside same older.
        let other = copy_is_planned hits names d inside in
        let key : c.key ≡ d.key = sym name.2 ∙ own name.0 other.0 name.1 other.1 (name.3 ∙ sym same ∙ sym other.3) ∙ other.2 in
        not_older_itself c.key (ap (is_older c.key) key ∙ older)))

pub planned_are_newest_lem : PlannedAreNewest
planned_are_newest_lem history q marks plan hits is =
    let chosen = plan_of_chosen history q marks plan is in
    own_paths_are_newest hits plan.names (subst HaveOwnPaths chosen.1 (plan_has_own_paths chosen.0 marks))
