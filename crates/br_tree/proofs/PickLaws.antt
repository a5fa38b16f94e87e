-- Which paths of a child are meant.
use Rattle.std.proofs.Common.{◌≡◌, ℕ, zero, suc, ◌<◌, ◌≤◌, Bool, true, false, not, ◌&&◌, ◌||◌, cond, List, [], ◌∷◌, ◌++◌, length, take, drop, refl, sym, ap, subst, ◌∙◌, append_assoc, arith}
use Rattle.std.proofs.lemmas.Bool.{both_ways, and_parts, and_from, false_from_ne_true}
use Rattle.std.proofs.lemmas.Slice.Eq.{bytes_eq-Decides}
use Rattle.std.specs.Prelude.{bytes_eq}
use Rattle.std.specs.List.{AllByRecursion}
use Rattle.std.specs.Ordering.{is_lt}
use Rattle.br_model.specs.Text.{is_empty}
use Rattle.br_model.specs.Name.{is_directory}
use Rattle.br_model.specs.Console.{begins_with, is_below, child_of}
use Rattle.br_model.proofs.OrderLaws.{rank_cmp, not_below_itself}
use Rattle.br_model.proofs.ListLaws.{all_weaker, cons_not_empty}
use Rattle.br_tree.specs.Walk.{is_own, is_picked, picks, reach, AllPassing, NonePassing, IsRising, IsStep}
use Rattle.br_tree.proofs.MatchLaws.{either_way}
use Rattle.br_tree.proofs.FlagLaws.{Below}
use Rattle.br_tree.proofs.PartLaws.{part, behind, part_splits, front_first}
use Rattle.br_tree.proofs.RunLaws.{begins_to, children_rise, all_taken, drop_front, is_less}
use Rattle.br_tree.proofs.MeantLaws.{below_is, below_from, child_named, fits}

-- ---- paths of a child

-- a path in the directory, of the child
pub record InRun (d name p : List ℕ) : Type 0 where
  pub begins : begins_with p d ≡ true
  pub named : child_of d p ≡ name

pub in_run : (d name : List ℕ) (n : ℕ) (ps : List (List ℕ)) → AllPassing (λ p. begins_with p d) ps → AllPassing (λ p. bytes_eq (child_of d p) name) (take n ps) → AllByRecursion (InRun d name) (take n ps)
in_run d name zero ps begins named = tt
in_run d name (suc n) [] begins named = tt
in_run d name (suc n) (p ∷ ps) begins named = (record { begins = begins.0; named = (bytes_eq-Decides (child_of d p) name).0 named.0 }, in_run d name n ps begins.1 named.1)

-- no child of later paths comes before that of the first
pub first_child : (d p : List ℕ) (qs : List (List ℕ)) → IsRising (p ∷ qs) → AllPassing (λ q. begins_with q d) (p ∷ qs) → NonePassing (λ q. is_lt (rank_cmp (child_of d q) (child_of d p))) (p ∷ qs)
first_child d p qs rises begins =
    (false_from_ne_true (is_lt (rank_cmp (child_of d p) (child_of d p))) (λ e. not_below_itself (child_of d p) (is_less (child_of d p) (child_of d p) e)), later qs rises.0 begins.1)
  where
    later : (qs : List (List ℕ)) → AllByRecursion (Below p) qs → AllPassing (λ q. begins_with q d) qs → NonePassing (λ q. is_lt (rank_cmp (child_of d q) (child_of d p))) qs
    later [] a b = tt
    later (q ∷ qs) a b = (false_from_ne_true (is_lt (rank_cmp (child_of d q) (child_of d p))) (λ e. children_rise d p q begins.0 b.0 a.0 (is_less (child_of d q) (child_of d p) e)), later qs a.1 b.1)

-- the first child has a path
pub has_first : (d p : List ℕ) (qs : List (List ℕ)) (n : ℕ) → NonePassing (λ q. bytes_eq (child_of d q) (child_of d p)) (drop n (p ∷ qs)) → 0 < n
has_first d p qs zero none = absurd (both_ways (bytes_eq (child_of d p) (child_of d p)) none.0 ((bytes_eq-Decides (child_of d p) (child_of d p)).1 refl))
has_first d p qs (suc n) none = omega arith

-- ---- whether they are below the directory

pub not_below : (d p : List ℕ) → child_of d p ≡ [] → is_below d p ≡ false
not_below d p none = false_from_ne_true (is_below d p) (λ e. let b = below_is d p e in absurd (apart (sym (child_named d p (b.first ∷ b.more) b.is) ∙ none)))
  where
    apart : {c : ℕ} {cs : List ℕ} → c ∷ cs ≡ [] → ⊥
    apart e = omega (arith, ap length e)

pub child_below : (d p : List ℕ) → begins_with p d ≡ true → (child_of d p ≡ [] → ⊥) → is_below d p ≡ true
child_below d p begins some = go (drop (length d) p) (begins_to p d begins)
  where
    go : (r : List ℕ) → p ≡ d ++ r → is_below d p ≡ true
    go [] is = absurd (some (child_named d p [] is))
    go (c ∷ cs) is = below_from d p c cs is

-- ---- a directory's own path

-- the own path is the directory and the child
pub own_is : (d p : List ℕ) → begins_with p d ≡ true → bytes_eq (drop (length d) p) (child_of d p) ≡ bytes_eq p (d ++ child_of d p)
own_is d p begins =
    either_way (bytes_eq (drop (length d) p) (child_of d p)) (bytes_eq p (d ++ child_of d p))
    (λ e. (bytes_eq-Decides p (d ++ child_of d p)).1 (begins_to p d begins ∙ ap (λ r. d ++ r) ((bytes_eq-Decides (drop (length d) p) (child_of d p)).0 e)))
    (λ e. (bytes_eq-Decides (drop (length d) p) (child_of d p)).1 (ap (drop (length d)) ((bytes_eq-Decides p (d ++ child_of d p)).0 e) ∙ drop_front d (child_of d p)))

-- a path of the child begins with the directory and the child
pub with_child : (d p : List ℕ) → begins_with p d ≡ true → (more : List ℕ) × (p ≡ (d ++ child_of d p) ++ more)
with_child d p begins =
    let r = drop (length d) p in
    let is = begins_to p d begins in
    (behind r, is ∙ ap (λ s. d ++ s) (part_splits r) ∙ sym (append_assoc d (part r) (behind r)) ∙ ap (λ s. (d ++ s) ++ behind r) (sym (child_named d p r is)))

-- a later path of a child is not its own
pub later_not_own : (d name p q : List ℕ) → InRun d name p → InRun d name q → Below p q → is_own d q ≡ false
later_not_own d name p q of_p of_q less =
    false_from_ne_true (is_own d q) (λ e.
    let is : q ≡ d ++ child_of d q = (bytes_eq-Decides q (d ++ child_of d q)).0 (and_parts (is_directory q) (bytes_eq q (d ++ child_of d q)) e).1 in
    let m = with_child d p of_p.begins in
    let front : q ≡ d ++ child_of d p = is ∙ ap (λ n. d ++ n) (of_q.named ∙ sym of_p.named) in
    front_first (d ++ child_of d p) m.0 (subst (λ z. Below z (d ++ child_of d p)) m.1 (subst (Below p) front less)))

-- ---- how far the meant ones reach

and_none : (a b : Bool) → b ≡ false → (a && b) ≡ false
and_none true b e = e
and_none false b e = refl

unfit : (deep : Bool) (d pattern name p : List ℕ) → InRun d name p → (not (is_empty name) && fits pattern name) ≡ false → is_picked deep d pattern p ≡ false
unfit deep d pattern name p in_it e = go name refl e
  where
    go : (n : List ℕ) → name ≡ n → (not (is_empty n) && fits pattern n) ≡ false → is_picked deep d pattern p ≡ false
    go [] is h = ap (λ b. b && picks deep d pattern p) (not_below d p (in_it.named ∙ is))
    go (c ∷ cs) is h =
        and_none (is_below d p) (picks deep d pattern p) (and_none (deep || is_own d p) (fits pattern (child_of d p))
        (ap (fits pattern) (in_it.named ∙ is) ∙ sym (ap (λ b. not b && fits pattern (c ∷ cs)) (cons_not_empty c cs)) ∙ h))

record Fit (d pattern name p : List ℕ) : Type 0 where
  below : is_below d p ≡ true
  fit : fits pattern (child_of d p) ≡ true

fit_of : (d pattern name p : List ℕ) → InRun d name p → (not (is_empty name) && fits pattern name) ≡ true → Fit d pattern name p
fit_of d pattern name p in_it e =
    let parts = and_parts (not (is_empty name)) (fits pattern name) e in
    record {
      below = child_below d p in_it.begins (λ none. some name parts.0 (sym in_it.named ∙ none));
      fit = ap (fits pattern) in_it.named ∙ parts.1;
    }
  where
    some : (n : List ℕ) → not (is_empty n) ≡ true → n ≡ [] → ⊥
    some [] h is = absurd cc
    some (c ∷ cs) h is = omega (arith, ap length is)

picked_deep : (d pattern name p : List ℕ) → InRun d name p → (not (is_empty name) && fits pattern name) ≡ true → is_picked true d pattern p ≡ true
picked_deep d pattern name p in_it e = let f = fit_of d pattern name p in_it e in and_from (is_below d p) (picks true d pattern p) f.below f.fit

picked_own : (d pattern name p : List ℕ) → InRun d name p → (not (is_empty name) && fits pattern name) ≡ true → is_own d p ≡ true → is_picked false d pattern p ≡ true
picked_own d pattern name p in_it e own =
    let f = fit_of d pattern name p in_it e in and_from (is_below d p) (picks false d pattern p) f.below (and_from (is_own d p) (fits pattern (child_of d p)) own f.fit)

not_own : (d pattern p : List ℕ) → is_own d p ≡ false → is_picked false d pattern p ≡ false
not_own d pattern p none = and_none (is_below d p) (picks false d pattern p) (ap (λ b. b && fits pattern (child_of d p)) none)

drop_all : (n : ℕ) (ps : List (List ℕ)) → drop n (take n ps) ≡ []
drop_all zero ps = refl
drop_all (suc n) [] = refl
drop_all (suc n) (p ∷ ps) = drop_all n ps

-- the paths of the first child, and how far they are meant
pub is_step : (deep : Bool) (d pattern p : List ℕ) (qs : List (List ℕ)) (n : ℕ) → IsRising (p ∷ qs) → AllPassing (λ q. begins_with q d) (p ∷ qs) → 0 < n → n ≤ length (p ∷ qs)
    → AllPassing (λ q. bytes_eq (child_of d q) (child_of d p)) (take n (p ∷ qs)) → IsStep (is_picked deep d pattern) (p ∷ qs) (reach deep d pattern (child_of d p) p n) n
is_step deep d pattern p qs zero rises begins some bound named = absurd (omega (arith, some))
is_step deep d pattern p qs (suc n) rises begins some bound named = go deep (not (is_empty name) && fits pattern name) refl (is_own d p) refl
  where
    name : List ℕ
    name = child_of d p

    run : AllByRecursion (InRun d (child_of d p)) (take (suc n) (p ∷ qs))
    run = in_run d (child_of d p) (suc n) (p ∷ qs) begins named

    later : AllByRecursion (λ q. is_own d q ≡ false) (take n qs)
    later = each (take n qs) (all_taken (Below p) n qs rises.0) run.1
      where
        each : (zs : List (List ℕ)) → AllByRecursion (Below p) zs → AllByRecursion (InRun d (child_of d p)) zs → AllByRecursion (λ q. is_own d q ≡ false) zs
        each [] a b = tt
        each (z ∷ zs) a b = (later_not_own d (child_of d p) p z run.0 b.0 a.0, each zs a.1 b.1)

    go : (deep b : Bool) → (not (is_empty (child_of d p)) && fits pattern (child_of d p)) ≡ b → (o : Bool) → is_own d p ≡ o
        → IsStep (is_picked deep d pattern) (p ∷ qs) (cond b (cond deep (suc n) (cond o 1 0)) 0) (suc n)
    go deep false e o own = record {
      some = some;
      ordered = omega arith;
      bound = bound;
      within = tt;
      after = all_weaker (InRun d (child_of d p)) (λ q. is_picked deep d pattern q ≡ false) (λ q in_it. unfit deep d pattern (child_of d p) q in_it e) (take (suc n) (p ∷ qs)) run;
    }
    go true true e o own = record {
      some = some;
      ordered = omega arith;
      bound = bound;
      within = all_weaker (InRun d (child_of d p)) (λ q. is_picked true d pattern q ≡ true) (λ q in_it. picked_deep d pattern (child_of d p) q in_it e) (take (suc n) (p ∷ qs)) run;
      after = subst (NonePassing (is_picked true d pattern)) (sym (drop_all (suc n) (p ∷ qs))) tt;
    }
    go false true e true own = record {
      some = some;
      ordered = omega arith;
      bound = bound;
      within = (picked_own d pattern (child_of d p) p run.0 e own, tt);
      after = all_weaker (λ q. is_own d q ≡ false) (λ q. is_picked false d pattern q ≡ false) (λ q none. not_own d pattern q none) (take n qs) later;
    }
    go false true e false own = record {
      some = some;
      ordered = omega arith;
      bound = bound;
      within = tt;
      after = (not_own d pattern p own, all_weaker (λ q. is_own d q ≡ false) (λ q. is_picked false d pattern q ≡ false) (λ q none. not_own d pattern q none) (take n qs) later);
    }

-- the same of a list of which these are the first path and its child
module _ (deep : Bool) (d pattern : List ℕ) (ps : List (List ℕ)) (p : List ℕ) (qs : List (List ℕ)) (path name : List ℕ) (shape : ps ≡ p ∷ qs) (path_is : path ≡ p) (name_is : name ≡ child_of d path)
    (rises : IsRising ps) (begins : AllPassing (λ q. begins_with q d) ps) where
  of_first : name ≡ child_of d p
  of_first = name_is ∙ ap (child_of d) path_is

  pub none_before : NonePassing (λ q. is_lt (rank_cmp (child_of d q) name)) ps
  none_before =
      subst (λ zs. NonePassing (λ q. is_lt (rank_cmp (child_of d q) name)) zs) (sym shape)
      (subst (λ z. NonePassing (λ q. is_lt (rank_cmp (child_of d q) z)) (p ∷ qs)) (sym of_first)
      (first_child d p qs (subst IsRising shape rises) (subst (AllPassing (λ q. begins_with q d)) shape begins)))

  pub step_is : (n r : ℕ) → n ≤ length ps → AllPassing (λ q. bytes_eq (child_of d q) name) (take n ps) → NonePassing (λ q. bytes_eq (child_of d q) name) (drop n ps) → r ≡ reach deep d pattern name path n
      → IsStep (is_picked deep d pattern) ps r n
  step_is n r bound within after is =
      subst (λ zs. IsStep (is_picked deep d pattern) zs r n) (sym shape)
      (subst (λ k. IsStep (is_picked deep d pattern) (p ∷ qs) k n) (sym (is ∙ ap (λ z. reach deep d pattern z path n) of_first ∙ ap (λ z. reach deep d pattern (child_of d p) z n) path_is))
      (is_step deep d pattern p qs n (subst IsRising shape rises) (subst (AllPassing (λ q. begins_with q d)) shape begins)
      (has_first d p qs n (subst (λ z. NonePassing (λ q. bytes_eq (child_of d q) z) (drop n (p ∷ qs))) of_first (subst (λ zs. NonePassing (λ q. bytes_eq (child_of d q) name) (drop n zs)) shape after)))
      (subst (λ zs. n ≤ length zs) shape bound)
      (subst (λ z. AllPassing (λ q. bytes_eq (child_of d q) z) (take n (p ∷ qs))) of_first (subst (λ zs. AllPassing (λ q. bytes_eq (child_of d q) name) (take n zs)) shape within))))
