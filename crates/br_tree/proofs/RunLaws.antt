-- Runs of paths in order.
use Rattle.std.proofs.Common.{◌≡◌, ℕ, zero, suc, ◌+◌, ◌-◌, ◌≤◌, Bool, true, false, eqb, List, [], ◌∷◌, ◌++◌, length, get_or, map, take, drop, refl, sym, ap, subst, ◌∙◌, inl, inr, arith}
use Rattle.std.proofs.lemmas.Bool.{both_ways, cases_order, false_from_ne_true, eqb-true, eq-eqb}
use Rattle.std.proofs.lemmas.List.{drop-drop}
use Rattle.std.proofs.lemmas.Slice.Eq.{bytes_eq-Decides, starts_is}
use Rattle.std.specs.Prelude.{bytes_eq}
use Rattle.std.specs.Bool.{Decides}
use Rattle.std.specs.List.{AllByRecursion, AllWithin}
use Rattle.std.specs.List.Sorted.{IsPartitionedBy}
use Rattle.std.specs.Cmp.Lexicographic.{nat_list_cmp_total}
use Rattle.std.specs.Ordering.{is_lt, ordering_reverse}
use Rattle.std.specs.declared.cmp.Ordering.{Ordering}
use Rattle.std.specs.declared.cmp.Ordering.TheVariants.{Less, Equal, Greater}
use Rattle.br_model.specs.View.{IsView, view_paths}
use Rattle.br_model.specs.Console.{begins_with, child_of}
use Rattle.br_model.proofs.ListLaws.{all_weaker}
use Rattle.br_model.proofs.OrderLaws.{rank_cmp, same_rank, not_below_itself}
use Rattle.br_model.proofs.PairLaws.{EachPair, pairs_with}
use Rattle.br_view.specs.Shown.{shown_pair}
use Rattle.br_tree.specs.Walk.{Pair, seen_paths, first_part, IsRising, IsRun, AllPassing, NonePassing}
use Rattle.br_tree.proofs.FlagLaws.{Below, Rises, view_rises}
use Rattle.br_tree.proofs.PartLaws.{part, part_is, parts_rise, same_front, front_first, between}
use Rattle.br_view.proofs.FindLaws.{at_places}

-- ---- paths that rise

pub to_pairs : (ps : List (List ℕ)) → IsRising ps → Rises ps
to_pairs [] h = tt
to_pairs (p ∷ ps) h = (h.0, to_pairs ps h.1)

pub from_pairs : (ps : List (List ℕ)) → Rises ps → IsRising ps
from_pairs [] h = tt
from_pairs (p ∷ ps) h = (h.0, from_pairs ps h.1)

pub same_paths : (xs : List Pair) → view_paths (map shown_pair xs) ≡ seen_paths xs
same_paths [] = refl
same_paths (x ∷ xs) = ap (λ ps. x.0.now ∷ ps) (same_paths xs)

-- the paths of a view rise
pub seen_rise : (xs : List Pair) → IsView (map shown_pair xs) → IsRising (seen_paths xs)
seen_rise xs is = from_pairs (seen_paths xs) (subst Rises (same_paths xs) (view_rises (map shown_pair xs) is))

pub seen_drop : (n : ℕ) (xs : List Pair) → seen_paths (drop n xs) ≡ drop n (seen_paths xs)
seen_drop zero xs = refl
seen_drop (suc n) [] = refl
seen_drop (suc n) (x ∷ xs) = seen_drop n xs

pub seen_take : (n : ℕ) (xs : List Pair) → seen_paths (take n xs) ≡ take n (seen_paths xs)
seen_take zero xs = refl
seen_take (suc n) [] = refl
seen_take (suc n) (x ∷ xs) = ap (λ ps. x.0.now ∷ ps) (seen_take n xs)

pub seen_push : (xs : List Pair) (x : Pair) → seen_paths (xs ++ x ∷ []) ≡ seen_paths xs ++ x.0.now ∷ []
seen_push [] x = refl
seen_push (y ∷ xs) x = ap (λ ps. y.0.now ∷ ps) (seen_push xs x)

pub seen_part : (a b : ℕ) (xs : List Pair) → seen_paths (take (b - a) (drop a xs)) ≡ take (b - a) (drop a (seen_paths xs))
seen_part a b xs = seen_take (b - a) (drop a xs) ∙ ap (take (b - a)) (seen_drop a xs)

pub seen_length : (xs : List Pair) → length (seen_paths xs) ≡ length xs
seen_length [] = refl
seen_length (x ∷ xs) = omega (arith, seen_length xs)

pub all_dropped : {X : Type 0} (P : X → Type 0) (n : ℕ) (xs : List X) → AllByRecursion P xs → AllByRecursion P (drop n xs)
all_dropped P zero xs h = h
all_dropped P (suc n) [] h = tt
all_dropped P (suc n) (x ∷ xs) h = all_dropped P n xs h.1

pub all_taken : {X : Type 0} (P : X → Type 0) (n : ℕ) (xs : List X) → AllByRecursion P xs → AllByRecursion P (take n xs)
all_taken P zero xs h = tt
all_taken P (suc n) [] h = tt
all_taken P (suc n) (x ∷ xs) h = (h.0, all_taken P n xs h.1)

pub rising_drop : (n : ℕ) (ps : List (List ℕ)) → IsRising ps → IsRising (drop n ps)
rising_drop zero ps h = h
rising_drop (suc n) [] h = tt
rising_drop (suc n) (p ∷ ps) h = rising_drop n ps h.1

pub rising_take : (n : ℕ) (ps : List (List ℕ)) → IsRising ps → IsRising (take n ps)
rising_take zero ps h = tt
rising_take (suc n) [] h = tt
rising_take (suc n) (p ∷ ps) h = (all_taken (Below p) n ps h.0, rising_take n ps h.1)

-- ---- searching by halves

-- what passes for a later path passes for an earlier one
abbrev pub Falls : (List ℕ → Bool) → List ℕ → List ℕ → Type 0
Falls test p q = test q ≡ true → test p ≡ true

of_seen : (R : List ℕ → List ℕ → Type 0) (xs : List Pair) → EachPair R (seen_paths xs) → EachPair (λ (x y : Pair). R x.0.now y.0.now) xs
of_seen R [] h = tt
of_seen R (x ∷ xs) h = (go xs h.0, of_seen R xs h.1)
  where
    go : (ys : List Pair) → AllByRecursion (R x.0.now) (seen_paths ys) → AllByRecursion (λ (y : Pair). R x.0.now y.0.now) ys
    go [] h = tt
    go (y ∷ ys) h = (h.0, go ys h.1)

pub parted : (test : List ℕ → Bool) (xs : List Pair) → EachPair (Falls test) (seen_paths xs) → IsPartitionedBy (λ (x : Pair). test x.0.now) xs
parted test xs falls i j d le lt passes =
    elim (cases_order i j) [
      | inl same ↦ subst (λ k. test (get_or xs k d).0.now ≡ true) (sym same) passes
      | inr order ↦ elim order [
        | inl below ↦ at_places (λ (x y : Pair). Falls test x.0.now y.0.now) xs (of_seen (Falls test) xs falls) i j d below lt passes
        | inr above ↦ absurd (omega (arith, le, above))
      ]
    ]

pub passing_taken : (test : List ℕ → Bool) (xs : List Pair) (i : ℕ) → AllWithin (λ (x : Pair). test x.0.now ≡ true) xs 0 i → AllPassing test (take i (seen_paths xs))
passing_taken test xs zero h = tt
passing_taken test [] (suc i) h = tt
passing_taken test (x ∷ xs) (suc i) h = (h 0 x (omega arith) (omega arith), passing_taken test xs i (λ k d low high. h (suc k) d (omega arith) (omega (arith, high))))

pub none_dropped : (test : List ℕ → Bool) (xs : List Pair) (i : ℕ) → AllWithin (λ (x : Pair). test x.0.now ≡ false) xs i (length xs) → NonePassing test (drop i (seen_paths xs))
none_dropped test [] zero h = tt
none_dropped test [] (suc i) h = tt
none_dropped test (x ∷ xs) zero h = (h 0 x (omega arith) (omega arith), none_dropped test xs zero (λ k d low high. h (suc k) d (omega arith) (omega (arith, high))))
none_dropped test (x ∷ xs) (suc i) h = none_dropped test xs i (λ k d low high. h (suc k) d (omega (arith, low)) (omega (arith, high)))

-- ---- fronts

eqb_decides : (a b : ℕ) → Decides (eqb a b) (a ≡ b)
eqb_decides a b = (eqb-true a b, eq-eqb a b)

-- what begins with a text is the text and more
pub begins_to : (s f : List ℕ) → begins_with s f ≡ true → s ≡ f ++ drop (length f) s
begins_to s f e = (starts_is eqb_decides s f (begins_with s f) refl).0 e

pub begins_from : (s f r : List ℕ) → s ≡ f ++ r → begins_with s f ≡ true
begins_from s f r e = (starts_is eqb_decides s f (begins_with s f) refl).1 r e

pub one_way : (p q : List ℕ) → Below p q → Below q p → ⊥
one_way p q a b = not_below_itself p (nat_list_cmp_total.trans p q p a b)

pub is_less : (p q : List ℕ) → is_lt (rank_cmp p q) ≡ true → Below p q
is_less p q e = go (rank_cmp p q) refl e
  where
    go : (o : Ordering) → rank_cmp p q ≡ o → is_lt o ≡ true → rank_cmp p q ≡ Less
    go Less is h = is
    go Equal is h = absurd cc
    go Greater is h = absurd cc

pub not_less : (p q : List ℕ) → is_lt (rank_cmp p q) ≡ false → Below p q → ⊥
not_less p q e less = both_ways (is_lt (rank_cmp p q)) e (ap is_lt less)

-- paths of which neither is below the other are one
pub neither_less : (p q : List ℕ) → (Below p q → ⊥) → (Below q p → ⊥) → p ≡ q
neither_less p q f g = go (rank_cmp p q) refl
  where
    go : (o : Ordering) → rank_cmp p q ≡ o → p ≡ q
    go Less is = absurd (f is)
    go Equal is = same_rank p q is
    go Greater is = absurd (g (nat_list_cmp_total.antisymm q p ∙ ap ordering_reverse is))

-- ---- the three tests that fall

pub before_falls : (text : List ℕ) (ps : List (List ℕ)) → IsRising ps → EachPair (Falls (λ p. is_lt (rank_cmp p text))) ps
before_falls text ps rises =
    pairs_with (λ p. Unit {0}) Below (Falls (λ p. is_lt (rank_cmp p text))) (λ p q u v less e. ap is_lt (nat_list_cmp_total.trans p q text less (is_less q text e)))
    ps (all_unit ps) (to_pairs ps rises)
  where
    all_unit : (qs : List (List ℕ)) → AllByRecursion (λ q. Unit {0}) qs
    all_unit [] = tt
    all_unit (q ∷ qs) = (tt, all_unit qs)

pub fronts_fall : (text : List ℕ) (ps : List (List ℕ)) → IsRising ps → NonePassing (λ p. is_lt (rank_cmp p text)) ps → EachPair (Falls (λ p. begins_with p text)) ps
fronts_fall text ps rises none =
    pairs_with (λ p. is_lt (rank_cmp p text) ≡ false) Below (Falls (λ p. begins_with p text)) (λ p q u v less e.
    let r = drop (length text) q in
    let m = between text p r (not_less p text u) (λ back. one_way p q less (subst (λ z. Below z p) (sym (begins_to q text e)) back)) in
    begins_from p text m.0 m.1)
    ps none (to_pairs ps rises)

pub drop_front : (d r : List ℕ) → drop (length d) (d ++ r) ≡ r
drop_front [] r = refl
drop_front (c ∷ d) r = drop_front d r

-- what a path is in a directory that it begins with
pub child_is : (d r : List ℕ) → child_of d (d ++ r) ≡ part r
child_is d r = ap first_part (drop_front d r) ∙ part_is r

pub child_at : (d p : List ℕ) → child_of d p ≡ part (drop (length d) p)
child_at d p = part_is (drop (length d) p)

-- children of later paths do not come before
pub children_rise : (d p q : List ℕ) → begins_with p d ≡ true → begins_with q d ≡ true → Below p q → Below (child_of d q) (child_of d p) → ⊥
children_rise d p q of_p of_q less e =
    parts_rise (drop (length d) p) (drop (length d) q)
    (sym (same_front d (drop (length d) p) (drop (length d) q)) ∙ ap (λ z. rank_cmp z (d ++ drop (length d) q)) (sym (begins_to p d of_p)) ∙ ap (rank_cmp p) (sym (begins_to q d of_q)) ∙ less)
    (ap (λ z. rank_cmp z (part (drop (length d) p))) (sym (child_at d q)) ∙ ap (rank_cmp (child_of d q)) (sym (child_at d p)) ∙ e)

record InRun (d name p : List ℕ) : Type 0 where
  begins : begins_with p d ≡ true
  above : is_lt (rank_cmp (child_of d p) name) ≡ false

pub children_fall : (d name : List ℕ) (ps : List (List ℕ)) → IsRising ps → AllPassing (λ p. begins_with p d) ps → NonePassing (λ p. is_lt (rank_cmp (child_of d p) name)) ps
    → EachPair (Falls (λ p. bytes_eq (child_of d p) name)) ps
children_fall d name ps rises begins above =
    pairs_with (InRun d name) Below (Falls (λ p. bytes_eq (child_of d p) name)) (λ p q u v less e.
    let same : child_of d q ≡ name = (bytes_eq-Decides (child_of d q) name).0 e in
    (bytes_eq-Decides (child_of d p) name).1 (neither_less (child_of d p) name (not_less (child_of d p) name u.above)
    (λ back. children_rise d p q u.begins v.begins less (subst (λ n. Below n (child_of d p)) (sym same) back))))
    ps (both ps begins above) (to_pairs ps rises)
  where
    both : (qs : List (List ℕ)) → AllPassing (λ p. begins_with p d) qs → NonePassing (λ p. is_lt (rank_cmp (child_of d p) name)) qs → AllByRecursion (InRun d name) qs
    both [] a b = tt
    both (q ∷ qs) a b = (record { begins = a.0; above = b.0 }, both qs a.1 b.1)

-- ---- a run of paths that begin alike

pub front_run : (text : List ℕ) (ps : List (List ℕ)) (first n : ℕ) → first ≤ length ps → n ≤ length ps - first
    → AllPassing (λ p. is_lt (rank_cmp p text)) (take first ps)
    → AllPassing (λ p. begins_with p text) (take n (drop first ps)) → NonePassing (λ p. begins_with p text) (drop n (drop first ps))
    → IsRun (λ p. begins_with p text) ps first (first + n)
front_run text ps first n bound more before within after = record {
  ordered = omega arith;
  bound = omega (arith, bound, more);
  before = all_weaker (λ p. is_lt (rank_cmp p text) ≡ true) (λ p. begins_with p text ≡ false) (λ p less. none p (is_less p text less)) (take first ps) before;
  within = subst (λ k. AllPassing (λ p. begins_with p text) (take k (drop first ps))) (omega arith) within;
  after = subst (NonePassing (λ p. begins_with p text)) (drop-drop n first ps) after;
}
  where
    none : (p : List ℕ) → Below p text → begins_with p text ≡ false
    none p less = false_from_ne_true (begins_with p text) (λ e. front_first text (drop (length text) p) (subst (λ z. Below z text) (begins_to p text e) less))
