-- The entries of the copies that a map has are the view.
use Rattle.std.proofs.Common.{◌≡◌, ℕ, true, false, cond, List, [], ◌∷◌, map, Option, Some, None, refl, sym, ap, subst, ◌∙◌, inl, inr}
use Rattle.std.proofs.lemmas.Bool.{both_ways}
use Rattle.std.proofs.lemmas.Slice.Eq.{bytes_eq-Decides}
use Rattle.std.specs.Prelude.{Contains, filter_map, flat_map, option_map, option_and_then}
use Rattle.std.specs.Borrow.{Bor}
use Rattle.std.specs.List.{AllByRecursion, cons_option}
use Rattle.std.specs.List.Sorted.{IsStrictlySortedBy}
use Rattle.std.specs.Map.{lookup, keys_of}
use Rattle.std.specs.BTreeMap.{BTreeMap, is_at}
use Rattle.std.specs.Cmp.{tied_itself}
use Rattle.std.specs.Cmp.Lexicographic.{nat_list_cmp_total}
use Rattle.std.specs.Ordering.{is_eq, ordering_reverse}
use Rattle.std.specs.declared.cmp.Ordering.{Ordering}
use Rattle.std.specs.declared.cmp.Ordering.TheVariants.{Less, Equal, Greater}
use Rattle.br_model.specs.Job.{FileRow, JobRows, no_pair}
use Rattle.br_model.specs.View.{is_row_of, entry_of, paths_of, view_of}
use Rattle.br_model.proofs.ListLaws.{first_or_later, none_in, of_each, to_each, all_map, contains_map, contains_flat_map, from_image, from_joined, first_in, later_in}
use Rattle.br_model.proofs.OrderLaws.{rank_cmp, same_rank, in_order_from, in_order_has_each, in_order_rises}
use Rattle.br_model.proofs.PairLaws.{EachPair}
use Rattle.br_choose.proofs.ChoiceLaws.{one_number}
use Rattle.br_choose.proofs.InOrderLaws.{below_one_way, same_rising}
use Rattle.br_view.specs.Newest.{Copy, Kept, copy_of, copies, newest, IsNewest, AreOrdered}
use Rattle.br_view.specs.Shown.{shown}
use Rattle.br_view.proofs.NewestLaws.{kept_at}
use Rattle.br_view.proofs.CopyLaws.{Found, newest_is_found, copy_in, copy_from, newest_is_entry}

-- what is kept under a path
abbrev Under : Type 0
Under = Bor (List ℕ) × Kept

-- ---- look-ups

-- each entry of a map whose paths ascend is found under its path
entry_found : (es : List Under) (e : Under) → IsStrictlySortedBy (λ p q. rank_cmp p.now q.now) (keys_of es) → Contains es e → lookup (is_at (λ (k : Bor (List ℕ)). rank_cmp e.0.now k.now)) es ≡ Some e.1
unfolding IsStrictlySortedBy
entry_found [] e sorted inside = absurd (none_in e inside)
entry_found (d ∷ ds) e sorted inside =
    elim (first_or_later d ds e inside) [
      | inl same ↦ let tied : is_eq (rank_cmp e.0.now d.0.now) ≡ true = ap (λ (c : Under). is_eq (rank_cmp e.0.now c.0.now)) same ∙ ap is_eq (tied_itself nat_list_cmp_total e.0.now) in
          ap (λ b. cond b (Some d.1) (lookup (is_at (λ (k : Bor (List ℕ)). rank_cmp e.0.now k.now)) ds)) tied ∙ ap (λ (c : Under). Some c.1) same
      | inr later ↦
          let below : rank_cmp d.0.now e.0.now ≡ Less = of_each (λ (k : Bor (List ℕ)). rank_cmp d.0.now k.now ≡ Less) (keys_of ds) e.0 sorted.0 (contains_map (λ (c : Under). c.0) ds e later) in
          let apart : is_eq (rank_cmp e.0.now d.0.now) ≡ false = ap is_eq (nat_list_cmp_total.antisymm e.0.now d.0.now ∙ ap ordering_reverse below) in
          ap (λ b. cond b (Some d.1) (lookup (is_at (λ (k : Bor (List ℕ)). rank_cmp e.0.now k.now)) ds)) apart ∙ entry_found ds e sorted.1 later
    ]

-- what is found under a path is an entry with the path
found_entry : (es : List Under) (path : List ℕ) (v : Kept) → lookup (is_at (λ (k : Bor (List ℕ)). rank_cmp path k.now)) es ≡ Some v → (e : Under) × Contains es e × (e.0.now ≡ path)
found_entry [] path v is = absurd cc
found_entry (d ∷ ds) path v is = go (rank_cmp path d.0.now) refl is (found_entry ds path v)
  where
    go : (o : Ordering) → rank_cmp path d.0.now ≡ o → cond (is_eq o) (Some d.1) (lookup (is_at (λ (k : Bor (List ℕ)). rank_cmp path k.now)) ds) ≡ Some v
        → (lookup (is_at (λ (k : Bor (List ℕ)). rank_cmp path k.now)) ds ≡ Some v → (e : Under) × Contains ds e × (e.0.now ≡ path)) → (e : Under) × Contains (d ∷ ds) e × (e.0.now ≡ path)
    go Less at h rest = let r = rest h in (r.0, later_in d ds r.0 r.1, r.2)
    go Greater at h rest = let r = rest h in (r.0, later_in d ds r.0 r.1, r.2)
    go Equal at h rest = (d, first_in d ds d refl, sym (same_rank path d.0.now at))

-- ---- paths

under_keys : (P : Bor (List ℕ) → Type 0) (es : List Under) → AllByRecursion P (keys_of es) → AllByRecursion (λ (e : Under). P e.0) es
under_keys P [] h = tt
under_keys P (e ∷ es) h = (h.0, under_keys P es h.1)

paths_rise : (es : List Under) → IsStrictlySortedBy (λ p q. rank_cmp p.now q.now) (keys_of es) → EachPair (λ p q. rank_cmp p q ≡ Less) (map (λ (e : Under). e.0.now) es)
unfolding IsStrictlySortedBy
paths_rise [] sorted = tt
paths_rise (e ∷ es) sorted = (
  all_map (λ q. rank_cmp e.0.now q ≡ Less) (λ (d : Under). d.0.now) es (under_keys (λ k. rank_cmp e.0.now k.now ≡ Less) es sorted.0),
  paths_rise es sorted.1,
)

newest_under : (jobs : List JobRows) (m : BTreeMap (Bor (List ℕ)) Kept) (e : Under) → IsNewest jobs m → AreOrdered m → Contains m.entries e → newest e.0.now None (copies jobs) ≡ Some (copy_of e.1)
newest_under jobs m e is ordered inside = sym (is.at_path e.0.now) ∙ ap (option_map copy_of) (entry_found m.entries e ordered inside)

-- the paths of the map are those of the jobs
paths_same : (jobs : List JobRows) (m : BTreeMap (Bor (List ℕ)) Kept) → IsNewest jobs m → AreOrdered m → map (λ (e : Under). e.0.now) m.entries ≡ paths_of jobs
unfolding paths_of
paths_same jobs m is ordered =
    same_rising (λ p q. rank_cmp p q ≡ Less) below_one_way (map (λ (e : Under). e.0.now) m.entries) (paths_of jobs) (paths_rise m.entries ordered) (in_order_rises (λ p. p) (flat_map of_job jobs)) into back
  where
    of_job : JobRows → List (List ℕ)
    of_job j = map (λ (f : FileRow). f.path) j.files

    into : (z : List ℕ) → Contains (map (λ (e : Under). e.0.now) m.entries) z → Contains (paths_of jobs) z
    into z inside =
        let e = from_image (λ (e : Under). e.0.now) m.entries z inside in
        let found : Found e.0.0.now (copies jobs) (Some (copy_of e.0.1)) = subst (Found e.0.0.now (copies jobs)) (newest_under jobs m e.0 is ordered e.1) (newest_is_found e.0.0.now (copies jobs)) in
        let c = copy_of e.0.1 in
        let from = copy_from jobs c found.0 in
        let path : c.1.path ≡ z = (bytes_eq-Decides c.1.path e.0.0.now).0 found.1 ∙ e.2 in
        let listed : Contains (flat_map of_job jobs) z = contains_flat_map of_job jobs c.0 z from.0 (subst (Contains (of_job c.0)) path (contains_map (λ (f : FileRow). f.path) c.0.files c.1 from.1)) in
        in_order_has_each (λ p. p) (flat_map of_job jobs) (λ p q a b same. same) z listed

    back : (z : List ℕ) → Contains (paths_of jobs) z → Contains (map (λ (e : Under). e.0.now) m.entries) z
    back z inside =
        let j = from_joined of_job jobs z (in_order_from (λ p. p) (flat_map of_job jobs) z inside) in
        let f = from_image (λ (f : FileRow). f.path) j.0.files z j.2 in
        go (kept_at z m) refl (copy_in jobs j.0 f.0 j.1 f.1) ((bytes_eq-Decides f.0.path z).1 f.2)
      where
        go : {c : Copy} (o : Option Kept) → kept_at z m ≡ o → Contains (copies jobs) c → is_row_of z c.1 ≡ true → Contains (map (λ (e : Under). e.0.now) m.entries) z
        go {c} None at among of_path =
            let none : newest z None (copies jobs) ≡ None = sym (is.at_path z) ∙ ap (option_map copy_of) at in
            let found : Found z (copies jobs) None = subst (Found z (copies jobs)) none (newest_is_found z (copies jobs)) in
            absurd (both_ways (is_row_of z c.1) (of_each (λ (d : Copy). is_row_of z d.1 ≡ false) (copies jobs) c found among) of_path)
        go {c} (Some v) at among of_path =
            let e = found_entry m.entries z v at in
            subst (Contains (map (λ (d : Under). d.0.now) m.entries)) e.2 (contains_map (λ (d : Under). d.0.now) m.entries e.0 e.1)

-- ---- entries

given_same : {X Y Z : Type 0} (f : X → Option Z) (g : Y → Option Z) (h : X → Y) (xs : List X) → AllByRecursion (λ x. f x ≡ g (h x)) xs → filter_map f xs ≡ filter_map g (map h xs)
given_same f g h [] all = refl
given_same f g h (x ∷ xs) all = ap (λ o. cons_option o (filter_map f xs)) all.0 ∙ ap (cons_option (g (h x))) (given_same f g h xs all.1)

-- the entries of what the map keeps are the view
pub view_is : (jobs : List JobRows) (m : BTreeMap (Bor (List ℕ)) Kept) → no_pair one_number jobs ≡ true → IsNewest jobs m → AreOrdered m
    → filter_map (λ (e : Under). shown (copy_of e.1)) m.entries ≡ view_of jobs
unfolding view_of
view_is jobs m distinct is ordered =
    given_same (λ (e : Under). shown (copy_of e.1)) (entry_of jobs) (λ (e : Under). e.0.now) m.entries
    (to_each (λ (e : Under). shown (copy_of e.1) ≡ entry_of jobs e.0.now) m.entries (λ e inside.
    ap (option_and_then shown) (sym (newest_under jobs m e is ordered inside)) ∙ newest_is_entry jobs e.0.now distinct is.valid))
    ∙ ap (filter_map (entry_of jobs)) (paths_same jobs m is ordered)
