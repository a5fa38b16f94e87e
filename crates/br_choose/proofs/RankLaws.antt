-- Jobs in the order of their ranks: the last of some, and those that are sorted.
use Rattle.std.proofs.Common.{◌≡◌, ℕ, suc, ◌<◌, Bool, true, false, cond, List, [], ◌∷◌, length, get_or, map, Some, refl, sym, ap, subst, ◌∙◌, inl, inr, ◌⊎◌, arith}
use Rattle.std.proofs.lemmas.Bool.{both_ways}
use Rattle.std.proofs.lemmas.Cmp.{on_total, then_total}
use Rattle.std.proofs.lemmas.List.Elements.{recursion_from_All}
use Rattle.std.proofs.lemmas.List.Sorted.{ranks_by, sorted_far, IsPermutation-sym, IsPermutation-map, Contains-permutation}
use Rattle.std.proofs.lemmas.Map.Keys.{IsDistinct-IsPermutation}
use Rattle.std.specs.Prelude.{Contains}
use Rattle.std.specs.Borrow.{Bor}
use Rattle.std.specs.List.{AllByRecursion, IsDistinct, fold, reduce}
use Rattle.std.specs.List.Sorted.{IsPermutation, IsSortedBy, IsSortedByKey}
use Rattle.std.specs.Cmp.{IsTotalOrder, IsStrictWeakOrder, nat_cmp_total}
use Rattle.std.specs.Cmp.Lexicographic.{nat_list_cmp_total}
use Rattle.std.specs.Ordering.{nat_cmp, is_lt, is_eq, ordering_then, ordering_reverse}
use Rattle.std.specs.declared.cmp.Ordering.{Ordering}
use Rattle.std.specs.declared.cmp.Ordering.TheVariants.{Less, Equal, Greater}
use Rattle.br_model.specs.Order.{in_order, ranked, put_all}
use Rattle.br_model.specs.Job.{JobRows}
use Rattle.br_model.specs.Choice.{job_rank, is_after, last_job}
use Rattle.br_model.proofs.ListLaws.{first_in, later_in}
use Rattle.br_model.proofs.OrderLaws.{rank_cmp, in_order_from, in_order_has_each, in_order_rises}
use Rattle.br_model.proofs.PairLaws.{EachPair, pairs_map, pairs_weaker}
use Rattle.br_choose.specs.Wanted.{later}
use Rattle.br_choose.proofs.InOrderLaws.{never_itself, below_one_way, last_like, same_rising}

-- ---- pairs of numbers

-- the order of pairs
abbrev pub pair_cmp : ℕ × ℕ → ℕ × ℕ → Ordering
pair_cmp a b = ordering_then (nat_cmp a.0 b.0) (nat_cmp a.1 b.1)

-- start time and number of a job
abbrev pub rank_pair : JobRows → ℕ × ℕ
rank_pair j = (j.row.start, j.row.id)

then_equal : (o : Ordering) → ordering_then o Equal ≡ o
then_equal Less = refl
then_equal Equal = refl
then_equal Greater = refl

-- jobs are ordered as their pairs are
pub ordered_as_pairs : (j k : JobRows) → rank_cmp (job_rank j) (job_rank k) ≡ pair_cmp (rank_pair j) (rank_pair k)
ordered_as_pairs j k = ap (ordering_then (nat_cmp j.row.start k.row.start)) (then_equal (nat_cmp j.row.id k.row.id))

pub pairs_total : IsTotalOrder pair_cmp
pairs_total = then_total (on_total (λ (p : ℕ × ℕ). p.0) nat_cmp_total) (on_total (λ (p : ℕ × ℕ). p.1) nat_cmp_total)

-- ---- the last of some jobs

-- no two jobs of the list have one rank
abbrev pub HasEachRankOnce : List JobRows → Type 0
HasEachRankOnce jobs = (j k : JobRows) → Contains jobs j → Contains jobs k → job_rank j ≡ job_rank k → j ≡ k

-- a job after which none comes is the last one
pub last_is : (jobs : List JobRows) (j : JobRows) → HasEachRankOnce jobs → Contains jobs j → AllByRecursion (λ k. is_after j k ≡ false) jobs → last_job jobs ≡ Some j
unfolding last_job
last_is jobs j once inside none =
    let last = last_like job_rank jobs j inside none in
    last.last ∙ ap Some (once last.element j last.among inside last.same)

-- which of two jobs comes after the other is a strict order
pub after_order : IsStrictWeakOrder is_after
after_order = ranks_by nat_list_cmp_total job_rank

-- neither of two jobs comes after the later one
later_is_last : (j k : JobRows) → (is_after (later j k) j ≡ false) × (is_after (later j k) k ≡ false)
later_is_last j k = go (is_after j k) refl
  where
    go : (b : Bool) → is_after j k ≡ b → (is_after (cond b k j) j ≡ false) × (is_after (cond b k j) k ≡ false)
    go true is = (after_order.one_way j k is, never_itself is_after after_order k)
    go false is = (never_itself is_after after_order j, is)

later_is_one : (j k : JobRows) → (later j k ≡ j) ⊎ (later j k ≡ k)
later_is_one j k = go (is_after j k)
  where
    go : (b : Bool) → (cond b k j ≡ j) ⊎ (cond b k j ≡ k)
    go true = inr refl
    go false = inl refl

-- what a walk that keeps the later job ends with
record IsLatest (first : JobRows) (jobs : List JobRows) (last : JobRows) : Type 0 where
  among : (first ≡ last) ⊎ Contains jobs last
  behind_first : is_after last first ≡ false
  behind_all : AllByRecursion (λ k. is_after last k ≡ false) jobs

latest : (first : JobRows) (jobs : List JobRows) → IsLatest first jobs (fold later first jobs)
latest first [] = record { among = inl refl; behind_first = never_itself is_after after_order first; behind_all = tt }
latest first (j ∷ jobs) =
    let rest = latest (later first j) jobs in
    let last = fold later (later first j) jobs in
    let two = later_is_last first j in
    record {
      among = elim rest.among [
        | inl same ↦ elim (later_is_one first j) [
          | inl kept ↦ inl (sym kept ∙ same)
          | inr taken ↦ inr (first_in j jobs last (sym taken ∙ same))
        ]
        | inr more ↦ inr (later_in j jobs last more)
      ];
      behind_first = after_order.chain last (later first j) first rest.behind_first two.0;
      behind_all = (after_order.chain last (later first j) j rest.behind_first two.1, rest.behind_all);
    }

-- to keep the later job ends with the last one
pub reduced_is_last : (jobs : List JobRows) → HasEachRankOnce jobs → reduce later jobs ≡ last_job jobs
unfolding last_job in_order ranked put_all
reduced_is_last [] once = refl
reduced_is_last (j ∷ jobs) once =
    let r = latest j jobs in
    let last = fold later j jobs in
    let inside : Contains (j ∷ jobs) last = elim r.among [ inl same ↦ first_in j jobs last same | inr more ↦ later_in j jobs last more ] in
    sym (last_is (j ∷ jobs) last once inside (r.behind_first, r.behind_all))

-- ---- sorted jobs

-- in a sorted list no later element is below an earlier one
pairs_of_places : {X : Type 0} (R : X → X → Type 0) (xs : List X) → ((i j : ℕ) (d : X) → i < j → j < length xs → R (get_or xs i d) (get_or xs j d)) → EachPair R xs
pairs_of_places R [] h = tt
pairs_of_places R (x ∷ xs) h = (
  recursion_from_All (R x) xs (λ k d lt. h 0 (suc k) d (omega arith) (omega arith)),
  pairs_of_places R xs (λ i j d lt in_list. h (suc i) (suc j) d (omega arith) (omega arith)),
)

pub sorted_pairs : {X : Type 0} (lt : X → X → Bool) → IsStrictWeakOrder lt → (xs : List X) → IsSortedBy lt xs → EachPair (λ x y. lt y x ≡ false) xs
sorted_pairs lt o xs sorted = pairs_of_places (λ x y. lt y x ≡ false) xs (λ i j d below in_list. sorted_far lt o xs sorted i j d (omega arith) in_list)

-- whether two jobs have one rank
abbrev pub ties : JobRows → JobRows → Bool
ties j k = is_eq (rank_cmp (job_rank j) (job_rank k))

reverse_equal : (o : Ordering) → is_eq o ≡ is_eq (ordering_reverse o)
reverse_equal Less = refl
reverse_equal Equal = refl
reverse_equal Greater = refl

ties_both_ways : (j k : JobRows) → ties j k ≡ ties k j
ties_both_ways j k = ap is_eq (nat_list_cmp_total.antisymm (job_rank j) (job_rank k)) ∙ sym (reverse_equal (rank_cmp (job_rank k) (job_rank j)))

strictly : (j k : JobRows) → is_after k j ≡ false → ties j k ≡ false → rank_cmp (job_rank j) (job_rank k) ≡ Less
strictly j k after tied = go (rank_cmp (job_rank j) (job_rank k)) refl
  where
    go : (o : Ordering) → rank_cmp (job_rank j) (job_rank k) ≡ o → rank_cmp (job_rank j) (job_rank k) ≡ Less
    go Less is = is
    go Equal is = absurd (both_ways (ties j k) tied (ap is_eq is))
    go Greater is = absurd (both_ways (is_after k j) after (ap is_lt (nat_list_cmp_total.antisymm (job_rank k) (job_rank j) ∙ ap ordering_reverse is)))

rising : (jobs : List JobRows) → EachPair (λ j k. is_after k j ≡ false) jobs → IsDistinct ties jobs → EachPair (λ j k. rank_cmp (job_rank j) (job_rank k) ≡ Less) jobs
unfolding IsDistinct
rising [] sorted distinct = tt
rising (j ∷ jobs) sorted distinct = (each jobs sorted.0 distinct.0, rising jobs sorted.1 distinct.1)
  where
    each : (ks : List JobRows) → AllByRecursion (λ k. is_after k j ≡ false) ks → AllByRecursion (λ k. ties j k ≡ false) ks → AllByRecursion (λ k. rank_cmp (job_rank j) (job_rank k) ≡ Less) ks
    each [] a b = tt
    each (k ∷ ks) a b = (strictly j k a.0 b.0, each ks a.1 b.1)

-- jobs that were sorted by rank are those in order of rank
pub sorted_is_in_order : (jobs sorted : List JobRows) → IsPermutation jobs sorted → EachPair (λ j k. is_after k j ≡ false) sorted → IsDistinct ties jobs → HasEachRankOnce jobs
    → sorted ≡ in_order job_rank jobs
sorted_is_in_order jobs sorted moved by_rank distinct once =
    same_rising (λ j k. rank_cmp (job_rank j) (job_rank k) ≡ Less) (λ j k. below_one_way (job_rank j) (job_rank k)) sorted (in_order job_rank jobs)
    (rising sorted by_rank (IsDistinct-IsPermutation ties ties_both_ways jobs sorted moved distinct)) (in_order_rises job_rank jobs)
    (λ j inside. in_order_has_each job_rank jobs once j (Contains-permutation sorted jobs j (IsPermutation-sym jobs sorted moved) inside))
    (λ j inside. Contains-permutation jobs sorted j moved (in_order_from job_rank jobs j inside))

-- jobs that were found by reference and sorted by their pairs
pub sorted_by_pairs : (jobs : List JobRows) (found sorted : List (Bor JobRows)) → map (λ (b : Bor JobRows). b.now) found ≡ jobs → IsPermutation found sorted
    → IsSortedByKey (λ (b : Bor JobRows). rank_pair b.now) pair_cmp sorted → IsDistinct ties jobs → HasEachRankOnce jobs → map (λ (b : Bor JobRows). b.now) sorted ≡ in_order job_rank jobs
sorted_by_pairs jobs found sorted are moved by_key distinct once =
    let lt : Bor JobRows → Bor JobRows → Bool = λ a b. is_lt (pair_cmp (rank_pair a.now) (rank_pair b.now)) in
    let by_rank : EachPair (λ j k. is_after k j ≡ false) (map (λ (b : Bor JobRows). b.now) sorted) =
    pairs_map (λ j k. is_after k j ≡ false) (λ (b : Bor JobRows). b.now) sorted
    (pairs_weaker (λ a b. lt b a ≡ false) (λ (a b : Bor JobRows). is_after b.now a.now ≡ false) (λ a b e. ap is_lt (ordered_as_pairs b.now a.now) ∙ e) sorted
    (sorted_pairs lt (ranks_by pairs_total (λ (b : Bor JobRows). rank_pair b.now)) sorted by_key)) in
    let moved_jobs : IsPermutation jobs (map (λ (b : Bor JobRows). b.now) sorted) =
    subst (λ (js : List JobRows). IsPermutation js (map (λ (b : Bor JobRows). b.now) sorted)) are (IsPermutation-map (λ (b : Bor JobRows). b.now) found sorted moved) in
    sorted_is_in_order jobs (map (λ (b : Bor JobRows). b.now) sorted) moved_jobs by_rank distinct once
