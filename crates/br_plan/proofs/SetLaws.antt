-- Sets of paths and of files that grow by one.
use Rattle.std.proofs.Common.{◌≡◌, ℕ, Bool, true, false, ◌&&◌, ◌||◌, cond, eqb, List, [], ◌∷◌, ℤ, pos, negsuc, int_lt, nat_abs, refl, sym, ap, ◌∙◌}
use Rattle.std.proofs.lemmas.Bool.{both_ways, false_from_ne_true}
use Rattle.std.proofs.lemmas.Slice.Eq.{bytes_eq-Decides}
use Rattle.std.specs.Prelude.{bytes_eq}
use Rattle.std.specs.Borrow.{Bor}
use Rattle.std.specs.BTreeSet.{BTreeSet, insert_key}
use Rattle.std.specs.Cmp.{tied_itself, unsigned_tied}
use Rattle.std.specs.Cmp.Lexicographic.{nat_list_cmp_total}
use Rattle.std.specs.List.{list_any}
use Rattle.std.specs.Ordering.{nat_cmp, is_eq, ordering_then, match_ordering}
use Rattle.std.specs.declared.cmp.Ordering.{Ordering}
use Rattle.std.specs.declared.cmp.Ordering.TheVariants.{Less, Equal, Greater}
use Rattle.br_model.proofs.OrderLaws.{rank_cmp, same_rank}
use Rattle.br_plan.specs.Selected.{FileOf, file_cmp, has_file, AddsLink}
use Rattle.br_plan.proofs.RangeLaws.{eqb_turned}
use Rattle.br_choose.proofs.ChoiceLaws.{is_equal}

-- ---- paths

-- lists that compare alike are equal
pub paths_tied : (p q : List ℕ) → is_eq (rank_cmp p q) ≡ bytes_eq p q
paths_tied p q = go (bytes_eq p q) refl
  where
    go : (b : Bool) → bytes_eq p q ≡ b → is_eq (rank_cmp p q) ≡ bytes_eq p q
    go true e = ap is_eq (ap (rank_cmp p) (sym ((bytes_eq-Decides p q).0 e)) ∙ tied_itself nat_list_cmp_total p) ∙ sym e
    go false e = false_from_ne_true (is_eq (rank_cmp p q)) (λ t. both_ways (bytes_eq p q) e ((bytes_eq-Decides p q).1 (same_rank p q (is_equal (rank_cmp p q) t)))) ∙ sym e

or_turned : (a b c : Bool) → (a || (b || c)) ≡ ((b || c) || a)
or_turned true true c = refl
or_turned true false true = refl
or_turned true false false = refl
or_turned false true c = refl
or_turned false false true = refl
or_turned false false false = refl

-- a path more in a list of paths by reference
pub path_put : (ks : List (Bor (List ℕ))) (k : Bor (List ℕ)) (q : List ℕ)
    → list_any (λ (x : Bor (List ℕ)). is_eq (rank_cmp q x.now)) (insert_key (λ x y. rank_cmp x.now y.now) ks k) ≡ (list_any (λ (x : Bor (List ℕ)). is_eq (rank_cmp q x.now)) ks || is_eq (rank_cmp q k.now))
path_put [] k q = go (is_eq (rank_cmp q k.now))
  where
    go : (b : Bool) → (b || false) ≡ b
    go true = refl
    go false = refl
path_put (x ∷ xs) k q = go (rank_cmp k.now x.now) refl (path_put xs k q)
  where
    has : List (Bor (List ℕ)) → Bool
    has ys = list_any (λ (y : Bor (List ℕ)). is_eq (rank_cmp q y.now)) ys

    two : (a b : Bool) → (a || b) ≡ ((a || b) || a)
    two true b = refl
    two false true = refl
    two false false = refl

    assoc : (a b c : Bool) → (a || (b || c)) ≡ ((a || b) || c)
    assoc true b c = refl
    assoc false b c = refl

    go : (o : Ordering) → rank_cmp k.now x.now ≡ o → has (insert_key (λ x y. rank_cmp x.now y.now) xs k) ≡ (has xs || is_eq (rank_cmp q k.now))
        → has (match_ordering o (k ∷ x ∷ xs) (x ∷ xs) (x ∷ insert_key (λ x y. rank_cmp x.now y.now) xs k)) ≡ (has (x ∷ xs) || is_eq (rank_cmp q k.now))
    go Less e h = or_turned (is_eq (rank_cmp q k.now)) (is_eq (rank_cmp q x.now)) (has xs)
    go Equal e h = two (is_eq (rank_cmp q x.now)) (has xs) ∙ ap (λ (p : List ℕ). has (x ∷ xs) || is_eq (rank_cmp q p)) (sym (same_rank k.now x.now e))
    go Greater e h = ap (λ b. is_eq (rank_cmp q x.now) || b) h ∙ assoc (is_eq (rank_cmp q x.now)) (has xs) (is_eq (rank_cmp q k.now))

-- ---- files

then_tied : (o p : Ordering) → is_eq (ordering_then o p) ≡ (is_eq o && is_eq p)
then_tied Less p = refl
then_tied Equal p = refl
then_tied Greater p = refl

-- files that compare alike have equal numbers
pub files_tied : (a b : FileOf) → is_eq (file_cmp a b) ≡ (eqb a.0 b.0 && eqb a.1 b.1)
files_tied a b =
    then_tied (nat_cmp a.0 b.0) (nat_cmp a.1 b.1) ∙ ap (λ t. t && is_eq (nat_cmp a.1 b.1)) (unsigned_tied a.0 b.0) ∙ ap (λ t. eqb a.0 b.0 && t) (unsigned_tied a.1 b.1)

by_cases : (t old r s : Bool) → t ≡ (r && s) → cond t true old ≡ (old || (s && r))
by_cases t true true true e = rw e refl
by_cases t true true false e = rw e refl
by_cases t true false true e = rw e refl
by_cases t true false false e = rw e refl
by_cases t false true true e = rw e refl
by_cases t false true false e = rw e refl
by_cases t false false true e = rw e refl
by_cases t false false false e = rw e refl

-- a link above 0 that was inserted into a set of files
pub link_put : (old new : BTreeSet FileOf) (job : ℕ) (link : ℤ) (n : ℕ) → int_lt (pos 0) link ≡ true → n ≡ nat_abs link
    → ((q : FileOf) → has_file new q ≡ cond (is_eq (file_cmp (job, n) q)) true (has_file old q)) → AddsLink old job link new
link_put old new job (pos m) n some is puts q =
    puts q
    ∙ by_cases (is_eq (file_cmp (job, n) q)) (has_file old q) (eqb q.0 job) (eqb q.1 m)
    (files_tied (job, n) q ∙ ap (λ t. t && eqb n q.1) (eqb_turned job q.0) ∙ ap (λ t. eqb q.0 job && t) (ap (λ k. eqb k q.1) is ∙ eqb_turned m q.1))
    ∙ ap (λ t. has_file old q || (t && eqb q.1 m && eqb q.0 job)) (sym some)
link_put old new job (negsuc m) n some is puts q = absurd cc
