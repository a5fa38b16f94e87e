-- The steps of the list keep its rule.
use Rattle.std.proofs.Common.{◌≡◌, ℕ, zero, suc, ◌+◌, ◌<◌, ◌≤◌, ◌==◌, Bool, true, false, List, [], ◌∷◌, ◌++◌, length, set, refl, ap, sym, subst, ◌∙◌, arith, inl, inr, length-append, length-set, None}
use Rattle.std.proofs.lemmas.List.{append-nil}
use Rattle.std.proofs.lemmas.Bool.{both_ways, cases_lt, eq-eqb, eqb-true}
use mathlib.Core.List.{IsPrefix}
use prog.Atomic.{either}
use Rattle.logbook.specs.Pages.{Away, Cell, Goes, Moves, Nib, adds, cell, gives, keeps, may_make, may_write, nib, no_nib, step}
use Rattle.br_model.specs.Job.{JobRows}
use Rattle.br_keeper.specs.Beginnings.{Adds, AddsCell, IsKept, IsWhole}
use Rattle.br_keeper.proofs.BeginningLaws.{prefix_whole}

abbrev pub shown : List JobRows → List JobRows
shown log = []

abbrev pub moved : List JobRows → List JobRows → ℕ → Type 0
moved xs ys n = Unit {0}

-- ---- cells

-- a cell that is at home stays while others come after it
home_append : (cs more : List Cell) (k : ℕ) → (cell cs k).1 ≡ true → (cell (cs ++ more) k).1 ≡ true
home_append [] more k h = absurd cc
home_append (c ∷ cs) more zero h = h
home_append (c ∷ cs) more (suc k) h = home_append cs more k h

-- a cell comes home
home_here : (cs : List Cell) (k n : ℕ) → k < length cs → (cell (set cs k (n, true)) k).1 ≡ true
home_here [] k n lt = absurd (omega (arith, lt))
home_here (c ∷ cs) zero n lt = refl
home_here (c ∷ cs) (suc k) n lt = home_here cs k n (omega (arith, lt))

-- those before it stay
home_before : (cs : List Cell) (at k : ℕ) (y : Cell) → k < at → (cell cs k).1 ≡ true → (cell (set cs at y) k).1 ≡ true
home_before [] at k y lt h = absurd cc
home_before (c ∷ cs) zero k y lt h = absurd (omega (arith, lt))
home_before (c ∷ cs) (suc at) zero y lt h = h
home_before (c ∷ cs) (suc at) (suc k) y lt h = home_before cs at k y (omega (arith, lt)) h

-- an exchange for the same number
same_number : (m n : ℕ) → either (m == n) n m ≡ m
same_number m n = go (m == n) refl
  where
    go : (b : Bool) → (m == n) ≡ b → either b n m ≡ m
    go true e = sym (eqb-true m n e)
    go false e = refl

-- the cells under the rule
abbrev ruled : List JobRows → List Cell → List Cell
ruled log tail = (length log, true) ∷ (length tail, true) ∷ tail

-- who has the pen of the cell after so many jobs knows that there are no more
no_more : (log : List JobRows) (tail : List Cell) (n : ℕ) (p : Nib) → p.right ≡ may_write → p.key ≡ n + 2
    → ((k : ℕ) → k < length log → (cell tail k).1 ≡ true) → Away p (ruled log tail) → (n < length tail) × (length log ≤ n)
no_more log tail n p right key home away =
    let same : p.key ≡ suc (suc n) = omega (arith, key) in
    let a = subst (λ (k : ℕ). (k < length (ruled log tail)) × ((cell (ruled log tail) k).1 ≡ false)) same (away right) in
    let out : (cell tail n).1 ≡ false = a.1 in (
      omega (arith, a.0),
      elim (cases_lt n (length log)) [
        | inl lt ↦ absurd (both_ways (cell tail n).1 out (home n lt))
        | inr le ↦ le
      ],
    )

-- ---- a cell more

cell_goes : (v log : List JobRows) (tail : List Cell) (e : JobRows) (old : ℕ) → ((k : ℕ) → k < length log → (cell tail k).1 ≡ true)
    → (b : Bool) → (length tail == old) ≡ b
    → Goes IsKept shown moved 1 (v, (no_nib, None)) (λ n. either (n == old) (old + 1) n) (AddsCell (step 1 old (old + 1) e) (v, (no_nib, None))) (ruled log tail) log
cell_goes v log tail e old home true is =
    let here : length tail ≡ old = eqb-true (length tail) old is in
    let all : log ++ [] ≡ log = append-nil log in
    let more : List Cell = tail ++ (0, false) ∷ [] in
    let count : either (length tail == old) (old + 1) (length tail) ≡ length more = rw is (omega (arith, here, length-append tail ((0, false) ∷ []))) in
    let key : suc (suc (length tail)) ≡ old + 2 = omega (arith, here) in (
      adds,
      [],
      None,
      tt,
      record {
        tail = more;
        words = ap (λ (n : ℕ). (length log, true) ∷ (n, true) ∷ more) count ∙ ap (λ (l : List JobRows). (length l, true) ∷ (length more, true) ∷ more) (sym all);
        home = λ k lt. home_append tail ((0, false) ∷ []) k (home k (omega (arith, lt, ap length all)));
      },
      inl (refl, refl),
      rw is (ap (λ (n : ℕ). nib may_make n 0) key),
    )
cell_goes v log tail e old home false is =
    let all : log ++ [] ≡ log = append-nil log in
    let count : either (length tail == old) (old + 1) (length tail) ≡ length tail = rw is refl in (
      keeps,
      [],
      None,
      tt,
      record {
        tail = tail;
        words = ap (λ (n : ℕ). (length log, true) ∷ (n, true) ∷ tail) count ∙ ap (λ (l : List JobRows). (length l, true) ∷ (length tail, true) ∷ tail) (sym all);
        home = λ k lt. home k (omega (arith, lt, ap length all));
      },
      inl (refl, refl),
      rw is tt,
    )

pub cell_moves : (v : List JobRows) (e : JobRows) (old : ℕ)
    → Moves IsKept shown moved 1 (v, (no_nib, None)) (λ n. either (n == old) (old + 1) n) (AddsCell (step 1 old (old + 1) e) (v, (no_nib, None)))
cell_moves v e old cs log kept pre away =
    let P : List Cell → Type 0 = λ c. (1 < length c) × ((cell c 1).1 ≡ true) × Goes IsKept shown moved 1 (v, (no_nib, None)) (λ n. either (n == old) (old + 1) n) (AddsCell (step 1 old (old + 1) e) (v, (no_nib, None))) c log in
    subst P (sym kept.words) (omega arith, refl, cell_goes v log kept.tail e old kept.home (length kept.tail == old) refl)

-- ---- a job more

adds_goes : (v log : List JobRows) (tail : List Cell) (e : JobRows) (old : ℕ) (p : Nib) → length v ≡ old → p.right ≡ may_write → p.key ≡ old + 2
    → ((k : ℕ) → k < length log → (cell tail k).1 ≡ true) → IsPrefix v log → Away p (ruled log tail)
    → Goes IsKept shown moved 0 (v, (p, None)) (λ n. either (n == old) (old + 1) n) (Adds (step 0 old (old + 1) e) (v, (p, None))) (ruled log tail) log
adds_goes v log tail e old p len right key home pre away =
    let few = no_more log tail old p right key home away in
    let same : v ≡ log = prefix_whole v log pre (omega (arith, few.1, len)) in
    let long : length log ≡ old = omega (arith, ap length same, len) in
    let is : (length log == old) ≡ true = eq-eqb (length log) old long in
    let at : p.key ≡ suc (suc old) = omega (arith, key) in
    let now : List Cell = set tail old (p.value, true) in
    let longer = length-append log (e ∷ []) in
    let number : either (length log == old) (old + 1) (length log) ≡ length (log ++ e ∷ []) = rw is (omega (arith, longer, long)) in (
      gives,
      e ∷ [],
      None,
      right,
      record {
        tail = now;
        words =
            ap (λ (k : ℕ). set ((either (length log == old) (old + 1) (length log), true) ∷ (length tail, true) ∷ tail) k (p.value, true)) at
            ∙ ap (λ (n : ℕ). (n, true) ∷ (length tail, true) ∷ now) number
            ∙ ap (λ (n : ℕ). (length (log ++ e ∷ []), true) ∷ (n, true) ∷ now) (sym (length-set tail old (p.value, true)));
        home = λ k lt. elim (cases_lt k old) [
          | inl less ↦ home_before tail old k (p.value, true) less (home k (omega (arith, less, long)))
          | inr le ↦
              let last : old ≡ k = omega (arith, lt, le, longer, long) in
              subst (λ (i : ℕ). (cell now i).1 ≡ true) last (home_here tail old p.value few.0)
        ];
      },
      inl (refl, refl),
      ap (λ (l : List JobRows). l ++ e ∷ []) (sym same),
    )

pub adds_moves : (v : List JobRows) (e : JobRows) (old : ℕ) (p : Nib) → length v ≡ old → p.right ≡ may_write → p.key ≡ old + 2
    → Moves IsKept shown moved 0 (v, (p, None)) (λ n. either (n == old) (old + 1) n) (Adds (step 0 old (old + 1) e) (v, (p, None)))
adds_moves v e old p len right key cs log kept pre away =
    let P : List Cell → Type 0 = λ c. (0 < length c) × ((cell c 0).1 ≡ true) × Goes IsKept shown moved 0 (v, (p, None)) (λ n. either (n == old) (old + 1) n) (Adds (step 0 old (old + 1) e) (v, (p, None))) c log in
    let there = subst (λ (c : List Cell). Away p c) kept.words away in
    subst P (sym kept.words) (omega arith, refl, adds_goes v log kept.tail e old p len right key kept.home pre there)

-- ---- no job more

whole_goes : (v log : List JobRows) (tail : List Cell) (e : JobRows) (n : ℕ) (p : Nib) → p.right ≡ may_write → p.key ≡ n + 2
    → ((k : ℕ) → k < length log → (cell tail k).1 ≡ true) → Away p (ruled log tail)
    → Goes IsKept shown moved 0 (v, (p, None)) (λ m. either (m == n) n m) (IsWhole (step 0 n n e) (v, (p, None))) (ruled log tail) log
whole_goes v log tail e n p right key home away =
    let few = no_more log tail n p right key home away in
    let all : log ++ [] ≡ log = append-nil log in (
      keeps,
      [],
      None,
      tt,
      record {
        tail = tail;
        words = ap (λ (m : ℕ). (m, true) ∷ (length tail, true) ∷ tail) (same_number (length log) n ∙ ap length (sym all));
        home = λ k lt. home k (omega (arith, lt, ap length all));
      },
      inl (refl, refl),
      (omega (arith, few.1, ap length all), refl),
    )

pub whole_moves : (v : List JobRows) (e : JobRows) (n : ℕ) (p : Nib) → p.right ≡ may_write → p.key ≡ n + 2
    → Moves IsKept shown moved 0 (v, (p, None)) (λ m. either (m == n) n m) (IsWhole (step 0 n n e) (v, (p, None)))
whole_moves v e n p right key cs log kept pre away =
    let P : List Cell → Type 0 = λ c. (0 < length c) × ((cell c 0).1 ≡ true) × Goes IsKept shown moved 0 (v, (p, None)) (λ m. either (m == n) n m) (IsWhole (step 0 n n e) (v, (p, None))) c log in
    let there = subst (λ (c : List Cell). Away p c) kept.words away in
    subst P (sym kept.words) (omega arith, refl, whole_goes v log kept.tail e n p right key kept.home there)
