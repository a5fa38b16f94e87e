-- Finding the entry of a path among pairs in order.
use Rattle.std.proofs.Common.{◌≡◌, ℕ, zero, suc, ◌+◌, ◌<◌, true, false, cond, List, [], ◌∷◌, length, get_or, map, Some, None, refl, sym, ap, subst, ◌∙◌, inl, inr, arith}
use Rattle.std.proofs.lemmas.Bool.{cases_order, false_from_ne_true}
use Rattle.std.proofs.lemmas.List.Elements.{recursion_from_All, All-from_recursion}
use Rattle.std.proofs.lemmas.List.Sorted.{searchable_from_sorted}
use Rattle.std.proofs.lemmas.Slice.Eq.{bytes_eq-Decides}
use Rattle.std.specs.Prelude.{Contains, bytes_eq, find}
use Rattle.std.specs.Borrow.{Bor}
use Rattle.std.specs.List.{AllByRecursion, HoldsAt}
use Rattle.std.specs.List.Sorted.{IsSortedBy, IsNonDecreasingBy, IsPartitionPoint}
use Rattle.std.specs.Cmp.{tied_itself}
use Rattle.std.specs.Cmp.Lexicographic.{nat_list_cmp_total}
use Rattle.std.specs.Ordering.{is_lt, ordering_index, ordering_reverse}
use Rattle.std.specs.declared.cmp.Ordering.{Ordering}
use Rattle.std.specs.declared.cmp.Ordering.TheVariants.{Less, Equal, Greater}
use Rattle.br_model.specs.View as model
use Rattle.br_model.specs.View.{entry_at, IsView}
use Rattle.br_model.proofs.ListLaws.{first_or_later, none_in, of_each, contains_map}
use Rattle.br_model.proofs.OrderLaws.{rank_cmp, same_rank, not_below_itself, in_order_rises}
use Rattle.br_model.proofs.PairLaws.{EachPair}
use Rattle.br_view.specs.declared.entry.Entry.{Entry}
use Rattle.br_view.specs.Shown.{entry_with, shown_pair}

-- a path with its entry
abbrev pub Pair : Type 0
Pair = Bor (List ℕ) × Entry

-- how the path of a pair compares with another
abbrev pub compares : List ℕ → Pair → Ordering
compares path p = rank_cmp p.0.now path

-- ---- pairs in order

unmapped : {X Y : Type 0} (P : Y → Type 0) (f : X → Y) (xs : List X) → AllByRecursion P (map f xs) → AllByRecursion (λ x. P (f x)) xs
unmapped P f [] h = tt
unmapped P f (x ∷ xs) h = (h.0, unmapped P f xs h.1)

pairs_unmapped : {X Y : Type 0} (R : Y → Y → Type 0) (f : X → Y) (xs : List X) → EachPair R (map f xs) → EachPair (λ x y. R (f x) (f y)) xs
pairs_unmapped R f [] h = tt
pairs_unmapped R f (x ∷ xs) h = (unmapped (R (f x)) f xs h.0, pairs_unmapped R f xs h.1)

view_rises : (view : List model.Entry) → IsView view → EachPair (λ (d e : model.Entry). rank_cmp d.path e.path ≡ Less) view
view_rises view is = subst (EachPair (λ (d e : model.Entry). rank_cmp d.path e.path ≡ Less)) is (in_order_rises (λ (e : model.Entry). e.path) view)

pub at_places : {X : Type 0} (R : X → X → Type 0) (xs : List X) → EachPair R xs → (i j : ℕ) (d : X) → i < j → j < length xs → R (get_or xs i d) (get_or xs j d)
at_places R [] h i j d below lt = absurd (omega arith)
at_places R (x ∷ xs) h i zero d below lt = absurd (omega arith)
at_places R (x ∷ xs) h zero (suc j) d below lt = All-from_recursion (R x) xs h.0 j d (omega arith)
at_places R (x ∷ xs) h (suc i) (suc j) d below lt = at_places R xs h.1 i j d (omega arith) (omega arith)

-- pairs in order can be searched by halves
pub searchable : (xs : List Pair) (path : List ℕ) → IsView (map shown_pair xs) → IsNonDecreasingBy (λ p. ordering_index (compares path p)) xs
searchable xs path is = searchable_from_sorted nat_list_cmp_total (λ (p : Pair). p.0.now) xs path sorted
  where
    rises : EachPair (λ (p q : Pair). rank_cmp p.0.now q.0.now ≡ Less) xs
    rises = pairs_unmapped (λ (d e : model.Entry). rank_cmp d.path e.path ≡ Less) shown_pair xs (view_rises (map shown_pair xs) is)

    sorted : IsSortedBy (λ (p q : Pair). is_lt (rank_cmp p.0.now q.0.now)) xs
    sorted k d low lt =
        let p = get_or xs k d in
        let q = get_or xs (k + 1) d in
        ap is_lt (nat_list_cmp_total.antisymm q.0.now p.0.now ∙ ap ordering_reverse (at_places (λ (a b : Pair). rank_cmp a.0.now b.0.now ≡ Less) xs rises k (k + 1) d (omega arith) lt))

-- ---- found

find_rising : (view : List model.Entry) (e : model.Entry) → EachPair (λ (d f : model.Entry). rank_cmp d.path f.path ≡ Less) view → Contains view e → find (λ (d : model.Entry). bytes_eq d.path e.path) view ≡ Some e
find_rising [] e rises inside = absurd (none_in e inside)
find_rising (d ∷ ds) e rises inside =
    elim (first_or_later d ds e inside) [
      | inl same ↦
          let tied : bytes_eq d.path e.path ≡ true = (bytes_eq-Decides d.path e.path).1 (ap (λ (f : model.Entry). f.path) same) in
          ap (λ b. cond b (Some d) (find (λ (f : model.Entry). bytes_eq f.path e.path) ds)) tied ∙ ap (λ (f : model.Entry). Some f) same
      | inr later ↦
          let below : rank_cmp d.path e.path ≡ Less = of_each (λ (f : model.Entry). rank_cmp d.path f.path ≡ Less) ds e rises.0 later in
          let apart : bytes_eq d.path e.path ≡ false =
          false_from_ne_true (bytes_eq d.path e.path) (λ t. not_below_itself e.path (subst (λ (q : List ℕ). rank_cmp q e.path ≡ Less) ((bytes_eq-Decides d.path e.path).0 t) below)) in
          ap (λ b. cond b (Some d) (find (λ (f : model.Entry). bytes_eq f.path e.path) ds)) apart ∙ find_rising ds e rises.1 later
    ]

-- the pair at a place with the path is the entry at the path
pub found_at : (xs : List Pair) (path : List ℕ) (i : ℕ) (p : Pair) → IsView (map shown_pair xs) → i < length xs → p ≡ get_or xs i p → HoldsAt (λ q. compares path q ≡ Equal) xs i
    → Some (entry_with path p.1) ≡ entry_at (map shown_pair xs) path
unfolding entry_at
found_at xs path i p is lt at equal =
    let same : p.0.now ≡ path = same_rank p.0.now path (ap (compares path) at ∙ equal p) in
    let inside : Contains (map shown_pair xs) (shown_pair p) = contains_map shown_pair xs p (i, lt, sym at) in
    let view = map shown_pair xs in
    ap (λ q. Some (entry_with q p.1)) (sym same) ∙ sym (find_rising view (shown_pair p) (view_rises view is) inside)
    ∙ ap (λ q. find (λ (d : model.Entry). bytes_eq d.path q) view) same

-- ---- not found

none_found : (xs : List Pair) (path : List ℕ) → AllByRecursion (λ (p : Pair). bytes_eq p.0.now path ≡ false) xs → find (λ (d : model.Entry). bytes_eq d.path path) (map shown_pair xs) ≡ None
none_found [] path none = refl
none_found (p ∷ ps) path none = ap (λ b. cond b (Some (shown_pair p)) (find (λ (d : model.Entry). bytes_eq d.path path) (map shown_pair ps))) none.0 ∙ none_found ps path none.1

less_apart : (o : Ordering) → o ≡ Less → o ≡ Equal → ⊥
less_apart o is e = let both : Less ≡ Equal = sym is ∙ e in absurd cc

greater_apart : (o : Ordering) → o ≡ Greater → o ≡ Equal → ⊥
greater_apart o is e = let both : Greater ≡ Equal = sym is ∙ e in absurd cc

-- if all paths are below or above the path, it has no entry
pub not_found : (xs : List Pair) (path : List ℕ) (i : ℕ) → IsPartitionPoint (λ p. compares path p ≡ Less) (λ p. compares path p ≡ Greater) xs i → None ≡ entry_at (map shown_pair xs) path
unfolding entry_at
not_found xs path i parts = sym (none_found xs path (recursion_from_All (λ (p : Pair). bytes_eq p.0.now path ≡ false) xs apart))
  where
    other : (p : Pair) → (compares path p ≡ Equal → ⊥) → bytes_eq p.0.now path ≡ false
    other p ne =
        false_from_ne_true (bytes_eq p.0.now path) (λ t.
        ne (ap (λ (q : List ℕ). rank_cmp q path) ((bytes_eq-Decides p.0.now path).0 t) ∙ tied_itself nat_list_cmp_total path))

    apart : (k : ℕ) (d : Pair) → k < length xs → bytes_eq (get_or xs k d).0.now path ≡ false
    apart k d lt =
        let p = get_or xs k d in
        elim (cases_order k i) [
          | inl same ↦ other p (λ e. greater_apart (compares path p) (parts.1 k d (omega (arith, same)) lt) e)
          | inr order ↦ elim order [
            | inl below ↦ other p (λ e. less_apart (compares path p) (parts.0 k d (omega arith) below) e)
            | inr above ↦ other p (λ e. greater_apart (compares path p) (parts.1 k d (omega (arith, above)) lt) e)
          ]
        ]
