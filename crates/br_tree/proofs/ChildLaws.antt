-- The children of a directory run by run, and the sign of a path.
use Rattle.std.proofs.Common.{◌≡◌, ℕ, zero, suc, ◌+◌, ◌-◌, ◌<◌, ◌≤◌, Bool, true, false, not, ◌&&◌, ◌||◌, cond, List, [], ◌∷◌, ◌++◌, length, map, filter, take, drop, refl, sym, ap, subst, ◌∙◌, inl, inr, append-nil, length-append, length-drop, take-append-drop, arith}
use Rattle.std.proofs.lemmas.List.{drop-drop, nil_from_length}
use Rattle.std.proofs.lemmas.Bool.{both_ways, false_from_ne_true}
use Rattle.std.proofs.lemmas.List.Elements.{Contains-append_right, Contains-append_cases}
use Rattle.std.proofs.lemmas.Slice.Eq.{bytes_eq-Decides}
use Rattle.std.specs.Prelude.{Contains, bytes_eq}
use Rattle.std.specs.List.{list_any}
use Rattle.std.specs.Cmp.Lexicographic.{nat_list_cmp_total}
use Rattle.std.specs.Ordering.{is_lt, ordering_reverse}
use Rattle.std.specs.declared.cmp.Ordering.{Ordering}
use Rattle.std.specs.declared.cmp.Ordering.TheVariants.{Less, Equal, Greater}
use Rattle.br_model.specs.Text.{is_empty}
use Rattle.br_model.specs.Name.{is_directory}
use Rattle.br_model.specs.Order.{in_order, is_among}
use Rattle.br_model.specs.Console.{begins_with, is_below, child_of, children, sign}
use Rattle.br_model.proofs.ListLaws.{none_in, first_in, later_in, first_or_later, of_each, to_each, cons_not_empty}
use Rattle.br_model.proofs.OrderLaws.{rank_cmp, same_rank, in_order_rises}
use Rattle.br_choose.proofs.InOrderLaws.{below_one_way, same_rising}
use Rattle.br_tree.specs.Seen.{flagged}
use Rattle.br_tree.specs.Walk.{some_name, AllPassing, NonePassing, IsFirstChild, IsRun}
use Rattle.br_tree.proofs.FlagLaws.{Below, Rises}
use Rattle.br_tree.proofs.RunLaws.{not_less}
use Rattle.br_tree.proofs.MeantLaws.{child_in, child_from}
use Rattle.br_tree.proofs.StepLaws.{less_not_own, none_from_any}
use Rattle.br_tree.proofs.PickLaws.{child_below, not_below, with_child}

-- ---- the children of a run and of what is after it

pub children_rise_too : (ps : List (List ℕ)) (d : List ℕ) → Rises (children ps d)
unfolding children
children_rise_too ps d = in_order_rises (λ name. name) _

-- neither before nor the same: after
above : (name z : List ℕ) → is_lt (rank_cmp z name) ≡ false → bytes_eq z name ≡ false → Below name z
above name z from other = go (rank_cmp name z) refl
  where
    go : (o : Ordering) → rank_cmp name z ≡ o → rank_cmp name z ≡ Less
    go Less is = is
    go Equal is = absurd (both_ways (bytes_eq z name) other ((bytes_eq-Decides z name).1 (sym (same_rank name z is))))
    go Greater is = absurd (not_less z name from (nat_list_cmp_total.antisymm z name ∙ ap ordering_reverse is))

module _ (d name : List ℕ) (ps : List (List ℕ)) (n : ℕ) (p : List ℕ) (begins : AllPassing (λ q. begins_with q d) ps) (from : NonePassing (λ q. is_lt (rank_cmp (child_of d q) name)) ps)
    (within : AllPassing (λ q. bytes_eq (child_of d q) name) (take n ps)) (after : NonePassing (λ q. bytes_eq (child_of d q) name) (drop n ps)) (first : Contains ps p) (named : child_of d p ≡ name) where
  in_front : (q : List ℕ) → Contains (drop n ps) q → Contains ps q
  in_front q inside = subst (λ zs. Contains zs q) (take-append-drop n ps) (Contains-append_right (take n ps) (drop n ps) q inside)

  either : (q : List ℕ) → Contains ps q → (child_of d q ≡ name → ⊥) → Contains (drop n ps) q
  either q inside other =
      elim (Contains-append_cases (take n ps) (drop n ps) q (subst (λ zs. Contains zs q) (sym (take-append-drop n ps)) inside)) [
        | inl here ↦ absurd (other ((bytes_eq-Decides (child_of d q) name).0 (of_each (λ r. bytes_eq (child_of d r) name ≡ true) (take n ps) q within here)))
        | inr there ↦ there
      ]

  -- a child that has a name is the first, and the others come after it
  pub named_child : (name ≡ [] → ⊥) → children ps d ≡ name ∷ children (drop n ps) d
  named_child some =
      same_rising Below below_one_way (children ps d) (name ∷ children (drop n ps) d) (children_rise_too ps d) (
        to_each (Below name) (children (drop n ps) d) (λ z inside.
            let q = child_from (drop n ps) d z inside in
            subst (Below name) q.3 (above name (child_of d q.0) (of_each (λ r. is_lt (rank_cmp (child_of d r) name) ≡ false) ps q.0 from (in_front q.0 q.1)) (of_each (λ r. bytes_eq (child_of d r) name ≡ false) (drop n ps) q.0 after q.1))),
        children_rise_too (drop n ps) d,
      )
      (λ z inside.
      let q = child_from ps d z inside in
      at z q (bytes_eq (child_of d q.0) name) refl)
      (λ z inside. elim (first_or_later name (children (drop n ps) d) z inside) [
        | inl same ↦ subst (Contains (children ps d)) (named ∙ same) (child_in ps d p first (child_below d p (of_each (λ q. begins_with q d ≡ true) ps p begins first) (λ none. some (sym named ∙ none))))
        | inr later ↦ let q = child_from (drop n ps) d z later in subst (Contains (children ps d)) q.3 (child_in ps d q.0 (in_front q.0 q.1) q.2)
      ])
    where
      at : (z : List ℕ) (q : (q : List ℕ) × Contains ps q × (is_below d q ≡ true) × (child_of d q ≡ z)) (b : Bool) → bytes_eq (child_of d q.0) name ≡ b → Contains (name ∷ children (drop n ps) d) z
      at z q true e = first_in name (children (drop n ps) d) z (sym ((bytes_eq-Decides (child_of d q.0) name).0 e) ∙ q.3)
      at z q false e =
          later_in name (children (drop n ps) d) z
          (subst (Contains (children (drop n ps) d)) q.3 (child_in (drop n ps) d q.0 (either q.0 q.1 (λ same. both_ways (bytes_eq (child_of d q.0) name) e ((bytes_eq-Decides (child_of d q.0) name).1 same))) q.2))

  -- the directory itself is no child
  pub own_is_no_child : name ≡ [] → children ps d ≡ children (drop n ps) d
  own_is_no_child none =
      same_rising Below below_one_way (children ps d) (children (drop n ps) d) (children_rise_too ps d) (children_rise_too (drop n ps) d)
      (λ z inside.
      let q = child_from ps d z inside in
      subst (Contains (children (drop n ps) d)) q.3 (child_in (drop n ps) d q.0 (either q.0 q.1 (λ same. both_ways (is_below d q.0) (not_below d q.0 (same ∙ none)) q.2)) q.2))
      (λ z inside. let q = child_from (drop n ps) d z inside in subst (Contains (children ps d)) q.3 (child_in ps d q.0 (in_front q.0 q.1) q.2))

-- ---- marks in a run

front_any_flag : (test : List ℕ → Bool) (r : ℕ) (ps : List (List ℕ)) (fs : List Bool) → AllPassing test (take r ps) → NonePassing test (drop r ps) → r ≤ length ps → length fs ≡ length ps
    → list_any test (flagged ps fs) ≡ list_any (λ f. f) (take r fs)
front_any_flag test zero [] fs within after bound long = refl
front_any_flag test zero (p ∷ ps) [] within after bound long = refl
front_any_flag test zero (p ∷ ps) (true ∷ fs) within after bound long =
    ap (λ b. b || list_any test (flagged ps fs)) after.0 ∙ front_any_flag test zero ps fs tt after.1 (omega arith) (omega (arith, long))
front_any_flag test zero (p ∷ ps) (false ∷ fs) within after bound long = front_any_flag test zero ps fs tt after.1 (omega arith) (omega (arith, long))
front_any_flag test (suc r) [] fs within after bound long = absurd (omega (arith, bound))
front_any_flag test (suc r) (p ∷ ps) [] within after bound long = absurd (omega (arith, long))
front_any_flag test (suc r) (p ∷ ps) (true ∷ fs) within after bound long = ap (λ b. b || list_any test (flagged ps fs)) within.0
front_any_flag test (suc r) (p ∷ ps) (false ∷ fs) within after bound long = front_any_flag test r ps fs within.1 after (omega (arith, bound)) (omega (arith, long))

-- whether a path that passes is marked, if those that pass are in a run
pub any_flag : (test : List ℕ → Bool) (a r : ℕ) (ps : List (List ℕ)) (fs : List Bool) → NonePassing test (take a ps) → AllPassing test (take r (drop a ps)) → NonePassing test (drop r (drop a ps))
    → r ≤ length (drop a ps) → length fs ≡ length ps → list_any test (flagged ps fs) ≡ list_any (λ f. f) (take r (drop a fs))
any_flag test zero r ps fs before within after bound long = front_any_flag test r ps fs within after bound long
any_flag test (suc a) r [] [] before within after bound long = front_any_flag test r [] [] within after bound refl
any_flag test (suc a) r [] (f ∷ fs) before within after bound long = absurd (omega (arith, long))
any_flag test (suc a) r (p ∷ ps) [] before within after bound long = absurd (omega (arith, long))
any_flag test (suc a) r (p ∷ ps) (true ∷ fs) before within after bound long =
    ap (λ b. b || list_any test (flagged ps fs)) before.0 ∙ any_flag test a r ps fs before.1 within after bound (omega (arith, long))
any_flag test (suc a) r (p ∷ ps) (false ∷ fs) before within after bound long = any_flag test a r ps fs before.1 within after bound (omega (arith, long))

-- whether a path is marked
pub own_flag : (d : List ℕ) (a r : ℕ) (ps : List (List ℕ)) (fs : List Bool) → AllPassing (λ q. is_lt (rank_cmp q d)) (take a ps) → AllPassing (bytes_eq d) (take r (drop a ps)) → NonePassing (bytes_eq d) (drop r (drop a ps))
    → r ≤ length (drop a ps) → length fs ≡ length ps → is_among (flagged ps fs) d ≡ list_any (λ f. f) (take (a + r - a) (drop a fs))
own_flag d a r ps fs before within after bound long =
    any_flag (bytes_eq d) a r ps fs (less_not_own d (take a ps) before) within after bound long
    ∙ (let e : r ≡ a + r - a = omega arith in ap (λ k. list_any (λ f. f) (take k (drop a fs))) e)

-- whether a path of a run is
pub run_flag : (test : List ℕ → Bool) (a b : ℕ) (ps : List (List ℕ)) (fs : List Bool) → IsRun test ps a b → length fs ≡ length ps → list_any test (flagged ps fs) ≡ list_any (λ f. f) (take (b - a) (drop a fs))
run_flag test a b ps fs run long =
    any_flag test a (b - a) ps fs run.before run.within
    (subst (NonePassing test) (sym (drop-drop (b - a) a ps ∙ (let e : a + (b - a) ≡ b = omega (arith, run.ordered) in ap (λ k. drop k ps) e))) run.after)
    (omega (arith, length-drop a ps, run.bound, run.ordered)) long

-- if a path is none of them, those below it are those that begin with it
below_begins : (d : List ℕ) (zs : List (List ℕ)) → NonePassing (bytes_eq d) zs → list_any (is_below d) zs ≡ list_any (λ z. begins_with z d) zs
below_begins d [] none = refl
below_begins d (z ∷ zs) none =
    ap (λ b. (begins_with z d && not b) || list_any (is_below d) zs) other
    ∙ ap (λ b. b || list_any (is_below d) zs) (and_true (begins_with z d))
    ∙ ap (λ b. begins_with z d || b) (below_begins d zs none.1)
  where
    other : bytes_eq z d ≡ false
    other = false_from_ne_true (bytes_eq z d) (λ e. both_ways (bytes_eq d z) none.0 ((bytes_eq-Decides d z).1 (sym ((bytes_eq-Decides z d).0 e))))

    and_true : (b : Bool) → (b && true) ≡ b
    and_true true = refl
    and_true false = refl

-- the sign of a path
module _ (marked : List (List ℕ)) (p : List ℕ) where
  pub sign_other : is_among marked p ≡ false → cond (is_directory p && list_any (λ z. begins_with z p) marked) 43 32 ≡ sign marked p
  sign_other other =
      ap (λ b. cond (is_directory p && b) 43 32) (sym (below_begins p marked (none_from_any (bytes_eq p) marked other)))
      ∙ sym (ap (λ b. cond b 42 (cond (is_directory p && list_any (is_below p) marked) 43 32)) other)

-- ---- the names of a run

filter_none : (test : List ℕ → Bool) (ps : List (List ℕ)) → NonePassing test ps → filter test ps ≡ []
filter_none test [] h = refl
filter_none test (p ∷ ps) h = ap (λ b. cond b (p ∷ filter test ps) (filter test ps)) h.0 ∙ filter_none test ps h.1

filter_front : (test : List ℕ → Bool) (n : ℕ) (ps : List (List ℕ)) → NonePassing test (drop n ps) → filter test (take n ps) ≡ filter test ps
filter_front test zero ps h = sym (filter_none test ps h)
filter_front test (suc n) [] h = refl
filter_front test (suc n) (p ∷ ps) h = ap (λ zs. cond (test p) (p ∷ zs) zs) (filter_front test n ps h)

filter_behind : (test : List ℕ → Bool) (n : ℕ) (ps : List (List ℕ)) → NonePassing test (take n ps) → filter test (drop n ps) ≡ filter test ps
filter_behind test zero ps h = refl
filter_behind test (suc n) [] h = refl
filter_behind test (suc n) (p ∷ ps) h = filter_behind test n ps h.1 ∙ sym (ap (λ b. cond b (p ∷ filter test ps) (filter test ps)) h.0)

none_below : (d : List ℕ) (ps : List (List ℕ)) → NonePassing (λ p. begins_with p d) ps → NonePassing (is_below d) ps
none_below d [] h = tt
none_below d (p ∷ ps) h = (ap (λ b. b && not (bytes_eq p d)) h.0, none_below d ps h.1)

-- the names in a directory are those of the paths that begin with it
pub run_names : (d : List ℕ) (ps : List (List ℕ)) (a b : ℕ) → IsRun (λ p. begins_with p d) ps a b → children (take (b - a) (drop a ps)) d ≡ children ps d
unfolding children
run_names d ps a b run =
    ap (λ zs. in_order (λ name. name) (map (child_of d) zs))
    (filter_front (is_below d) (b - a) (drop a ps)
    (none_below d (drop (b - a) (drop a ps)) (subst (NonePassing (λ p. begins_with p d)) (sym (drop-drop (b - a) a ps ∙ (let e : a + (b - a) ≡ b = omega (arith, run.ordered) in ap (λ k. drop k ps) e))) run.after))
    ∙ filter_behind (is_below d) a ps (none_below d (take a ps) run.before))

no_names : (d : List ℕ) → children [] d ≡ []
no_names d = go (children [] d) refl
  where
    go : (zs : List (List ℕ)) → children [] d ≡ zs → children [] d ≡ []
    go [] is = is
    go (z ∷ zs) is = let q = child_from [] d z (subst (λ l. Contains l z) (sym is) (first_in z zs z refl)) in absurd (none_in q.0 q.1)

-- the first child of a list, and those after its paths
pub first_names : (d : List ℕ) (ps : List (List ℕ)) (p : List ℕ) (qs : List (List ℕ)) (path name : List ℕ) (n : ℕ) → ps ≡ p ∷ qs → path ≡ p → name ≡ child_of d path → AllPassing (λ q. begins_with q d) ps
    → NonePassing (λ q. is_lt (rank_cmp (child_of d q) name)) ps → n ≤ length ps → AllPassing (λ q. bytes_eq (child_of d q) name) (take n ps) → NonePassing (λ q. bytes_eq (child_of d q) name) (drop n ps)
    → IsFirstChild d ps path n
first_names d ps p qs path name n shape path_is name_is begins from bound within after = record {
  some = go n after;
  bound = bound;
  begins = subst (λ z. begins_with z d ≡ true) (sym path_is) (subst (AllPassing (λ q. begins_with q d)) shape begins).0;
  names = at name refl ∙ ap (λ z. some_name z ++ children (drop n ps) d) name_is;
}
  where
    first : Contains ps p
    first = subst (λ zs. Contains zs p) (sym shape) (first_in p qs p refl)

    named : child_of d p ≡ name
    named = sym (name_is ∙ ap (child_of d) path_is)

    go : (n : ℕ) → NonePassing (λ q. bytes_eq (child_of d q) name) (drop n ps) → 0 < n
    go zero none = absurd (both_ways (bytes_eq (child_of d p) name) (subst (NonePassing (λ q. bytes_eq (child_of d q) name)) shape none).0 ((bytes_eq-Decides (child_of d p) name).1 named))
    go (suc n) none = omega arith

    at : (z : List ℕ) → name ≡ z → children ps d ≡ some_name name ++ children (drop n ps) d
    at [] is = own_is_no_child d name ps n p begins from within after first named is ∙ sym (ap (λ z. some_name z ++ children (drop n ps) d) is)
    at (c ∷ cs) is =
        named_child d name ps n p begins from within after first named (λ none. omega (arith, ap length (sym is ∙ none)))
        ∙ sym (ap (λ b. cond b [] (name ∷ []) ++ children (drop n ps) d) (ap is_empty is ∙ cons_not_empty c cs))

-- nothing is left
pub names_end : {X : Type 0} (sign : List ℕ → X) (all : List X) (d : List ℕ) (rest : List (List ℕ)) (total : List X) → all ++ map sign (children rest d) ≡ total → length rest ≡ 0 → all ≡ total
names_end sign all d rest total h none = sym (append-nil all) ∙ ap (λ zs. all ++ map sign zs) (sym (ap (λ qs. children qs d) (nil_from_length rest none) ∙ no_names d)) ∙ h

-- a path of a child has the child's path in front
pub front_is : (d p name : List ℕ) → begins_with p d ≡ true → name ≡ child_of d p → take (length d + length name) p ≡ d ++ name
front_is d p name begins is =
    let m = with_child d p begins in
    let shape : p ≡ (d ++ name) ++ m.0 = m.1 ∙ ap (λ n. (d ++ n) ++ m.0) (sym is) in
    ap (take (length d + length name)) shape ∙ ap (λ k. take k ((d ++ name) ++ m.0)) (sym (length-append d name)) ∙ take_front (d ++ name) m.0
  where
    take_front : (xs ys : List ℕ) → take (length xs) (xs ++ ys) ≡ xs
    take_front [] ys = refl
    take_front (x ∷ xs) ys = ap (λ zs. x ∷ zs) (take_front xs ys)
