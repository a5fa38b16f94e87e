-- The entries that one test selects are the model's selection.
use Rattle.std.proofs.Common.{◌≡◌, ℕ, Bool, true, false, ◌&&◌, ◌||◌, cond, eqb, List, [], ◌∷◌, ◌++◌, map, filter, Option, Some, None, ℤ, pos, negsuc, refl, sym, ap, subst, ◌∙◌, append_assoc, inl, inr}
use Rattle.std.proofs.lemmas.Bool.{and_parts, and_from, or_cases, or_left, both_ways, eqb-true, or_right}
use Rattle.std.proofs.lemmas.Slice.Eq.{bytes_eq-Decides}
use Rattle.std.specs.Prelude.{Contains, bytes_eq, find, flat_map, option_to_list, nat_lt}
use Rattle.std.specs.BTreeSet.{BTreeSet}
use Rattle.std.specs.List.{AllByRecursion, list_any}
use Rattle.std.specs.declared.cmp.Ordering.TheVariants.{Less}
use Rattle.br_model.specs.Order.{in_order, is_among}
use Rattle.br_model.specs.Name.{key_rank}
use Rattle.br_model.specs.Job.{JobRows, is_history}
use Rattle.br_model.specs.View.{Entry, view_of}
use Rattle.br_model.specs.Plan.{is_linked, wanted, selection}
use Rattle.br_model.proofs.EntryLaws.{view_is_of_rows, one_entry_of_key}
use Rattle.br_model.proofs.GroupLaws.{one_job_of_id}
use Rattle.br_model.proofs.ListLaws.{first_in, later_in, first_or_later, none_in, contains_filter, kept_passes, contains_map, from_image, contains_flat_map, from_joined, some_passes, from_some, to_each}
use Rattle.br_model.proofs.OrderLaws.{rank_cmp, not_below_itself, in_order_from, in_order_has_each}
use Rattle.br_model.proofs.PairLaws.{one_if_unrelated}
use Rattle.br_model.proofs.ViewLaws.{view_rises}
use Rattle.std.proofs.lemmas.List.Elements.{Contains-append_left, Contains-append_right, Contains-append_cases}
use Rattle.br_view.specs.Shown.{shown_pair}
use Rattle.br_plan.specs.Selected.{FileOf, file_of, has_file, links_to, AddsIf, Pair, flags_in, is_linked_by, kept_of, selected_by, is_selected, selected_of}

-- ---- lists

filter_same : {X : Type 0} (p q : X → Bool) (xs : List X) → AllByRecursion (λ x. p x ≡ q x) xs → filter p xs ≡ filter q xs
filter_same p q [] h = refl
filter_same {X} p q (x ∷ xs) h = ap (λ b. cond b (x ∷ filter p xs) (filter p xs)) h.0 ∙ ap (λ (ys : List X). cond (q x) (x ∷ ys) ys) (filter_same p q xs h.1)

both_imply : (a b : Bool) → (a ≡ true → b ≡ true) → (b ≡ true → a ≡ true) → a ≡ b
both_imply true b f g = sym (f refl)
both_imply false true f g = g refl
both_imply false false f g = refl

-- what is found is there and passes the test
pub found_passes : {X : Type 0} (p : X → Bool) (xs : List X) (x : X) → find p xs ≡ Some x → Contains xs x × (p x ≡ true)
found_passes p [] x e = absurd cc
found_passes {X} p (y ∷ ys) x e = go (p y) refl e (found_passes p ys x)
  where
    go : (b : Bool) → p y ≡ b → cond b (Some y) (find p ys) ≡ Some x → (find p ys ≡ Some x → Contains ys x × (p x ≡ true)) → Contains (y ∷ ys) x × (p x ≡ true)
    go true is h rest = let same : y ≡ x = cc in (first_in y ys x same, ap p (sym same) ∙ is)
    go false is h rest = let r = rest h in (later_in y ys x r.0, r.1)

-- if an element passes a test, one is found
pub finds_one : {X : Type 0} (p : X → Bool) (xs : List X) (x : X) → Contains xs x → p x ≡ true → (y : X) × (find p xs ≡ Some y)
finds_one p [] x inside e = absurd (none_in x inside)
finds_one {X} p (y ∷ ys) x inside e = go (p y) refl (λ later. finds_one p ys x later e)
  where
    go : (b : Bool) → p y ≡ b → (Contains ys x → (z : X) × (find p ys ≡ Some z)) → (z : X) × (cond b (Some y) (find p ys) ≡ Some z)
    go true is rest = (y, refl)
    go false is rest =
        elim (first_or_later y ys x inside) [
          | inl same ↦ absurd (both_ways (p y) is (ap p same ∙ e))
          | inr later ↦ rest later
        ]

from_option : {X : Type 0} (o : Option X) (x : X) → Contains (option_to_list o) x → o ≡ Some x
from_option None x inside = absurd (none_in x inside)
from_option (Some y) x inside = elim (first_or_later y [] x inside) [ inl same ↦ ap Some same | inr none ↦ absurd (none_in x none) ]

-- whether a path is among paths
pub is_among-true : (paths : List (List ℕ)) (p : List ℕ) → is_among paths p ≡ true → Contains paths p
is_among-true paths p e = let r = from_some (bytes_eq p) paths e in subst (Contains paths) (sym ((bytes_eq-Decides p r.0).0 r.2)) r.1

pub among_is : (paths : List (List ℕ)) (p : List ℕ) → Contains paths p → is_among paths p ≡ true
among_is paths p inside = some_passes (bytes_eq p) paths p inside ((bytes_eq-Decides p p).1 refl)

-- ---- entries and flags, one after another

or_none : (b : Bool) → (b || false) ≡ b
or_none true = refl
or_none false = refl

or_grouped : (a b c : Bool) → ((a || b) || c) ≡ (a || (b || c))
or_grouped true b c = refl
or_grouped false b c = refl

-- a link more, of those that are left
pub link_more : (before after : BTreeSet FileOf) (rest : List Pair) (left : List Bool) (p : Pair) (more : List Pair) (flag : Bool) (others : List Bool) (total : FileOf → Bool)
    → ((q : FileOf) → (has_file before q || is_linked_by rest left q) ≡ total q) → rest ≡ p ∷ more → left ≡ flag ∷ others → AddsIf before flag p.1 after
    → (q : FileOf) → (has_file after q || is_linked_by more others q) ≡ total q
link_more before after rest left p more flag others total h is_rest is_left adds q =
    ap (λ b. b || is_linked_by more others q) (adds q) ∙ or_grouped (has_file before q) (flag && links_to q (shown_pair p)) (is_linked_by more others q)
    ∙ ap (λ r. has_file before q || is_linked_by r (flag ∷ others) q) (sym is_rest) ∙ ap (λ fs. has_file before q || is_linked_by rest fs q) (sym is_left) ∙ h q

-- an entry more that may be kept, of those that are left
pub kept_more : (linked : FileOf → Bool) (items new : List Pair) (rest : List Pair) (left : List Bool) (p : Pair) (more : List Pair) (flag wanted : Bool) (others : List Bool) (total : List Pair)
    → items ++ kept_of linked rest left ≡ total → rest ≡ p ∷ more → left ≡ flag ∷ others → wanted ≡ (flag || linked (file_of (shown_pair p))) → new ≡ items ++ cond wanted (p ∷ []) []
    → new ++ kept_of linked more others ≡ total
kept_more linked items new rest left p more flag wanted others total h is_rest is_left is_wanted is_new =
    ap (λ is. is ++ kept_of linked more others) (is_new ∙ ap (λ b. items ++ cond b (p ∷ []) []) is_wanted)
    ∙ append_assoc items (cond (flag || linked (file_of (shown_pair p))) (p ∷ []) []) (kept_of linked more others)
    ∙ ap (λ r. items ++ kept_of linked r (flag ∷ others)) (sym is_rest) ∙ ap (λ fs. items ++ kept_of linked rest fs) (sym is_left) ∙ h

-- ---- flags of marks

-- a flagged entry is a hard link to the file if a marked one is
linked_by_marks : (marks : List (List ℕ)) (pairs : List Pair) (q : FileOf)
    → is_linked_by pairs (flags_in marks (map shown_pair pairs)) q ≡ list_any (λ (d : Entry). is_among marks d.path && links_to q d) (map shown_pair pairs)
linked_by_marks marks [] q = refl
linked_by_marks marks (p ∷ ps) q = ap (λ b. is_among marks p.0.now && links_to q (shown_pair p) || b) (linked_by_marks marks ps q)

kept_by_marks : (marks : List (List ℕ)) (linked : FileOf → Bool) (pairs : List Pair)
    → map shown_pair (kept_of linked pairs (flags_in marks (map shown_pair pairs))) ≡ filter (λ (e : Entry). is_among marks e.path || linked (file_of e)) (map shown_pair pairs)
kept_by_marks marks linked [] = refl
kept_by_marks marks linked (p ∷ ps) = go (is_among marks p.0.now || linked (file_of (shown_pair p))) (kept_by_marks marks linked ps)
  where
    left : List Pair
    left = kept_of linked ps (flags_in marks (map shown_pair ps))

    passing : List Entry
    passing = filter (λ (e : Entry). is_among marks e.path || linked (file_of e)) (map shown_pair ps)

    go : (b : Bool) → map shown_pair left ≡ passing → map shown_pair (cond b (p ∷ []) [] ++ left) ≡ cond b (shown_pair p ∷ passing) passing
    go true h = ap (λ (es : List Entry). shown_pair p ∷ es) h
    go false h = h

-- entries that are selected by the flags of marks
selected_by_marks : (marks : List (List ℕ)) (pairs : List Pair) (flags : List Bool) → flags ≡ flags_in marks (map shown_pair pairs) → map shown_pair (selected_by pairs flags) ≡ selected_of marks (map shown_pair pairs)
selected_by_marks marks pairs flags is =
    ap (λ (fs : List Bool). map shown_pair (selected_by pairs fs)) is
    ∙ kept_by_marks marks (is_linked_by pairs (flags_in marks (map shown_pair pairs))) pairs
    ∙ ap (λ (linked : FileOf → Bool). filter (λ (e : Entry). is_among marks e.path || linked (file_of e)) (map shown_pair pairs)) (λ i q. linked_by_marks marks pairs q i)

-- ---- entries of a view

-- an entry with another link
linked_is : (d e : Entry) → is_linked d e ≡ links_to (file_of e) d
linked_is d e = go d.link_index
  where
    go : (z : ℤ) → is_linked (record d { link_index = z }) e ≡ links_to (file_of e) (record d { link_index = z })
    go (pos n) = refl
    go (negsuc n) = refl

-- in the view of a history two entries of one file are one
pub one_file : (jobs : List JobRows) (d e : Entry) → is_history jobs ≡ true → Contains (view_of jobs) d → Contains (view_of jobs) e → d.job ≡ e.job → d.index ≡ e.index → d ≡ e
one_file jobs d e history d_in e_in job_is index_is =
    let p = view_is_of_rows jobs d d_in in
    let q = view_is_of_rows jobs e e_in in
    let same : p.job ≡ q.job =
    one_job_of_id jobs p.job q.job history p.among q.among (sym (ap (λ (g : Entry). g.job) p.entry_is) ∙ job_is ∙ ap (λ (g : Entry). g.job) q.entry_is) in
    let session_is : d.session ≡ e.session = ap (λ (g : Entry). g.session) p.entry_is ∙ ap (λ (j : JobRows). j.row.session) same ∙ sym (ap (λ (g : Entry). g.session) q.entry_is) in
    one_entry_of_key jobs d e history p q (λ i. key_rank (record { session = session_is i; index = index_is i }))

-- and two of one path
pub one_path : (jobs : List JobRows) (d e : Entry) → Contains (view_of jobs) d → Contains (view_of jobs) e → d.path ≡ e.path → d ≡ e
one_path jobs d e d_in e_in same =
    one_if_unrelated (λ (a b : Entry). rank_cmp a.path b.path ≡ Less) (view_of jobs) d e (view_rises jobs) d_in e_in
    (λ less. not_below_itself d.path (ap (rank_cmp d.path) same ∙ less)) (λ less. not_below_itself e.path (ap (rank_cmp e.path) (sym same) ∙ less))

-- the numbers of the file to which an entry is a link
file_numbers : (d e f : Entry) → is_linked d e ≡ true → is_linked d f ≡ true → (e.job ≡ f.job) × (e.index ≡ f.index)
file_numbers d e f p q = go d.link_index p q
  where
    go : (z : ℤ) → is_linked (record d { link_index = z }) e ≡ true → is_linked (record d { link_index = z }) f ≡ true → (e.job ≡ f.job) × (e.index ≡ f.index)
    go (pos n) a b =
        let r = and_parts (nat_lt 0 n && eqb e.index n) (eqb e.job d.job) a in
        let s = and_parts (nat_lt 0 n && eqb f.index n) (eqb f.job d.job) b in
        let t = and_parts (nat_lt 0 n) (eqb e.index n) r.0 in
        let u = and_parts (nat_lt 0 n) (eqb f.index n) s.0 in
        (eqb-true e.job d.job r.1 ∙ sym (eqb-true f.job d.job s.1), eqb-true e.index n t.1 ∙ sym (eqb-true f.index n u.1))
    go (negsuc n) a b = absurd cc

-- ---- the selection

-- the entries that one test selects of a history's view are the selection
pub selection_is : (jobs : List JobRows) (marks : List (List ℕ)) → is_history jobs ≡ true → selected_of marks (view_of jobs) ≡ selection (view_of jobs) marks
unfolding selection wanted
selection_is jobs marks history =
    filter_same (is_selected marks view) (λ (e : Entry). is_among (wanted view marks) e.path) view
    (to_each (λ (e : Entry). is_selected marks view e ≡ is_among (wanted view marks) e.path) view (λ e inside. both_imply (is_selected marks view e) (is_among (wanted view marks) e.path) (into e inside) (back e inside)))
  where
    view : List Entry
    view = view_of jobs

    is_marked : Entry → Bool
    is_marked e = is_among marks e.path

    marked : List Entry
    marked = filter is_marked view

    link_of : Entry → List Entry
    link_of d = option_to_list (find (is_linked d) view)

    all : List Entry
    all = marked ++ flat_map link_of marked

    path : Entry → List ℕ
    path e = e.path

    wants : (e : Entry) → Contains all e → is_among (in_order (λ p. p) (map path all)) e.path ≡ true
    wants e among = among_is (in_order (λ p. p) (map path all)) e.path (in_order_has_each (λ p. p) (map path all) (λ p q a b same. same) e.path (contains_map path all e among))

    into : (e : Entry) → Contains view e → is_selected marks view e ≡ true → is_among (in_order (λ p. p) (map path all)) e.path ≡ true
    into e inside given =
        elim (or_cases (is_marked e) (list_any (λ (d : Entry). is_marked d && links_to (file_of e) d) view) given) [
          | inl here ↦ wants e (Contains-append_left marked (flat_map link_of marked) e (contains_filter is_marked view e inside here))
          | inr there ↦
              let d = from_some (λ (g : Entry). is_marked g && links_to (file_of e) g) view there in
              let tests = and_parts (is_marked d.0) (links_to (file_of e) d.0) d.2 in
              let is : is_linked d.0 e ≡ true = linked_is d.0 e ∙ tests.1 in
              let found = finds_one (is_linked d.0) view e inside is in
              let in_view = found_passes (is_linked d.0) view found.0 found.1 in
              let numbers = file_numbers d.0 found.0 e in_view.1 is in
              let same : found.0 ≡ e = one_file jobs found.0 e history in_view.0 inside numbers.0 numbers.1 in
              let linked : Contains (link_of d.0) e = subst (λ (o : Option Entry). Contains (option_to_list o) e) (sym found.1) (first_in found.0 [] e same) in
              wants e (Contains-append_right marked (flat_map link_of marked) e (contains_flat_map link_of marked d.0 e (contains_filter is_marked view d.0 d.1 tests.0) linked))
        ]

    back : (e : Entry) → Contains view e → is_among (in_order (λ p. p) (map path all)) e.path ≡ true → is_selected marks view e ≡ true
    back e inside given =
        let r = from_image path all e.path (in_order_from (λ p. p) (map path all) e.path (is_among-true (in_order (λ p. p) (map path all)) e.path given)) in
        elim (Contains-append_cases marked (flat_map link_of marked) r.0 r.1) [
          | inl here ↦
              let kept = kept_passes is_marked view r.0 here in
              or_left (is_marked e) (list_any (λ (d : Entry). is_marked d && links_to (file_of e) d) view) (ap (is_among marks) (sym r.2) ∙ kept.1)
          | inr there ↦
              let d = from_joined link_of marked r.0 there in
              let kept = kept_passes is_marked view d.0 d.1 in
              let found = found_passes (is_linked d.0) view r.0 (from_option (find (is_linked d.0) view) r.0 d.2) in
              let same : r.0 ≡ e = one_path jobs r.0 e found.0 inside r.2 in
              let links : links_to (file_of e) d.0 ≡ true = sym (linked_is d.0 e) ∙ ap (is_linked d.0) (sym same) ∙ found.1 in
              or_right (is_marked e) (list_any (λ (g : Entry). is_marked g && links_to (file_of e) g) view)
              (some_passes (λ (g : Entry). is_marked g && links_to (file_of e) g) view d.0 kept.0 (and_from (is_marked d.0) (links_to (file_of e) d.0) kept.1 links))
        ]

-- what is selected by the flags of marks on the view of a history is the selection
pub selected_is : (jobs : List JobRows) (marks : List (List ℕ)) (pairs : List Pair) (flags : List Bool) → is_history jobs ≡ true → map shown_pair pairs ≡ view_of jobs → flags ≡ flags_in marks (map shown_pair pairs)
    → map shown_pair (selected_by pairs flags) ≡ selection (view_of jobs) marks
selected_is jobs marks pairs flags history viewed flagged = selected_by_marks marks pairs flags flagged ∙ ap (selected_of marks) viewed ∙ selection_is jobs marks history
