-- Flags that are set from a place to another.
use Rattle.std.proofs.Common.{◌≡◌, ◌≤◌, ◌+◌, ◌-◌, ℕ, zero, suc, Bool, true, false, cond, List, [], ◌∷◌, ◌++◌, length, take, drop, replicate, min, zero-add, refl, sym, ap, ◌∙◌, append_assoc, take-append-drop, arith}
use Rattle.std.proofs.lemmas.List.Sums.{sum_by-cons, count_by-le-length}
use Rattle.std.proofs.lemmas.List.{drop-drop}
use Rattle.std.specs.Prelude.{count_by}
use Rattle.br_tree.specs.Sums.{set_in, painted, repainted, moved}
use Rattle.br_tree.specs.Walk.{differs}

-- ---- the number of set flags

pub set_in-le : (fs : List Bool) → set_in fs ≤ length fs
set_in-le fs = count_by-le-length (λ f. f) fs

-- those before a place are those before an earlier one and those between
pub set_before : (a e : ℕ) (fs : List Bool) → a ≤ e → set_in (take a fs) + set_in (take (e - a) (drop a fs)) ≡ set_in (take e fs)
set_before zero e fs le = zero-add (set_in (take (e - 0) fs)) ∙ (let h : e - 0 ≡ e = omega arith in ap (λ k. set_in (take k fs)) h)
set_before (suc a) zero fs le = absurd (omega (arith, le))
set_before (suc a) (suc e) [] le = zero-add (set_in (take (suc e - suc a) [])) ∙ none (suc e - suc a)
  where
    none : (n : ℕ) → set_in (take n []) ≡ 0
    none zero = refl
    none (suc n) = refl
set_before (suc a) (suc e) (f ∷ fs) le =
    let h : suc e - suc a ≡ e - a = omega arith in
    ap (λ k. set_in (f ∷ take a fs) + set_in (take k (drop a fs))) h
    ∙ omega (arith, sum_by-cons (λ g. cond g 1 0) f (take a fs), sum_by-cons (λ g. cond g 1 0) f (take e fs), set_before a e fs (omega (arith, le)))

-- ---- where flags are set

pub painted-length : (a b : ℕ) (v : Bool) (fs : List Bool) → length (painted a b v fs) ≡ length fs
painted-length a b v [] = refl
painted-length a zero v (f ∷ fs) = refl
painted-length zero (suc b) v (f ∷ fs) = omega (arith, painted-length zero b v fs)
painted-length (suc a) (suc b) v (f ∷ fs) = omega (arith, painted-length a b v fs)

pub painted_none : (a b : ℕ) (v : Bool) (fs : List Bool) → b ≤ a → painted a b v fs ≡ fs
painted_none a b v [] le = refl
painted_none a zero v (f ∷ fs) le = refl
painted_none zero (suc b) v (f ∷ fs) le = absurd (omega (arith, le))
painted_none (suc a) (suc b) v (f ∷ fs) le = ap (λ gs. f ∷ gs) (painted_none a b v fs (omega (arith, le)))

pub painted_past : (a b : ℕ) (v : Bool) (fs : List Bool) → length fs ≤ a → painted a b v fs ≡ fs
painted_past a b v [] le = refl
painted_past a zero v (f ∷ fs) le = refl
painted_past zero (suc b) v (f ∷ fs) le = absurd (omega (arith, le))
painted_past (suc a) (suc b) v (f ∷ fs) le = ap (λ gs. f ∷ gs) (painted_past a b v fs (omega (arith, le)))

pub repainted_none : (a b : ℕ) (v : Bool) (fs : List Bool) → b ≤ a → repainted a b v fs ≡ 0
repainted_none a b v [] le = refl
repainted_none a zero v (f ∷ fs) le = refl
repainted_none zero (suc b) v (f ∷ fs) le = absurd (omega (arith, le))
repainted_none (suc a) (suc b) v (f ∷ fs) le = repainted_none a b v fs (omega (arith, le))

pub repainted_past : (a b : ℕ) (v : Bool) (fs : List Bool) → length fs ≤ a → repainted a b v fs ≡ 0
repainted_past a b v [] le = refl
repainted_past a zero v (f ∷ fs) le = refl
repainted_past zero (suc b) v (f ∷ fs) le = absurd (omega (arith, le))
repainted_past (suc a) (suc b) v (f ∷ fs) le = repainted_past a b v fs (omega (arith, le))

pub repainted-le : (a b : ℕ) (v : Bool) (fs : List Bool) → repainted a b v fs ≤ length fs
repainted-le a b v [] = omega arith
repainted-le a zero v (f ∷ fs) = omega arith
repainted-le zero (suc b) v (f ∷ fs) = go (differs v f) (repainted-le zero b v fs)
  where
    go : (t : Bool) → repainted zero b v fs ≤ length fs → cond t 1 0 + repainted zero b v fs ≤ suc (length fs)
    go true le = omega (arith, le)
    go false le = omega (arith, le)
repainted-le (suc a) (suc b) v (f ∷ fs) = omega (arith, repainted-le a b v fs)

-- ---- before a cut and after it

pub painted_parts : (c a b : ℕ) (v : Bool) (fs : List Bool) → painted a b v (take c fs) ++ painted (a - c) (b - c) v (drop c fs) ≡ painted a b v fs
painted_parts zero a b v fs = let h : a - 0 ≡ a = omega arith in let k : b - 0 ≡ b = omega arith in ap (λ n. painted n (b - 0) v fs) h ∙ ap (λ n. painted a n v fs) k
painted_parts (suc c) a b v [] = refl
painted_parts (suc c) a zero v (f ∷ fs) =
    ap (λ gs. (f ∷ take c fs) ++ gs) (painted_none (a - suc c) (0 - suc c) v (drop c fs) (omega arith)) ∙ ap (λ gs. f ∷ gs) (take-append-drop c fs)
painted_parts (suc c) zero (suc b) v (f ∷ fs) =
    (let h : 0 - suc c ≡ 0 - c = omega arith in let k : suc b - suc c ≡ b - c = omega arith in
    ap (λ n. (v ∷ painted zero b v (take c fs)) ++ painted n (suc b - suc c) v (drop c fs)) h
    ∙ ap (λ n. (v ∷ painted zero b v (take c fs)) ++ painted (0 - c) n v (drop c fs)) k)
    ∙ ap (λ gs. v ∷ gs) (painted_parts c zero b v fs)
painted_parts (suc c) (suc a) (suc b) v (f ∷ fs) =
    (let h : suc a - suc c ≡ a - c = omega arith in let k : suc b - suc c ≡ b - c = omega arith in
    ap (λ n. (f ∷ painted a b v (take c fs)) ++ painted n (suc b - suc c) v (drop c fs)) h
    ∙ ap (λ n. (f ∷ painted a b v (take c fs)) ++ painted (a - c) n v (drop c fs)) k)
    ∙ ap (λ gs. f ∷ gs) (painted_parts c a b v fs)

pub repainted_parts : (c a b : ℕ) (v : Bool) (fs : List Bool) → repainted a b v (take c fs) + repainted (a - c) (b - c) v (drop c fs) ≡ repainted a b v fs
repainted_parts zero a b v fs = zero-add (repainted (a - 0) (b - 0) v fs) ∙ (let h : a - 0 ≡ a = omega arith in let k : b - 0 ≡ b = omega arith in ap (λ n. repainted n (b - 0) v fs) h ∙ ap (λ n. repainted a n v fs) k)
repainted_parts (suc c) a b v [] = refl
repainted_parts (suc c) a zero v (f ∷ fs) = zero-add (repainted (a - suc c) (0 - suc c) v (drop c fs)) ∙ repainted_none (a - suc c) (0 - suc c) v (drop c fs) (omega arith)
repainted_parts (suc c) zero (suc b) v (f ∷ fs) =
    (let h : 0 - suc c ≡ 0 - c = omega arith in let k : suc b - suc c ≡ b - c = omega arith in
    ap (λ n. cond (differs v f) 1 0 + repainted zero b v (take c fs) + repainted n (suc b - suc c) v (drop c fs)) h
    ∙ ap (λ n. cond (differs v f) 1 0 + repainted zero b v (take c fs) + repainted (0 - c) n v (drop c fs)) k)
    ∙ omega (arith, repainted_parts c zero b v fs)
repainted_parts (suc c) (suc a) (suc b) v (f ∷ fs) =
    (let h : suc a - suc c ≡ a - c = omega arith in let k : suc b - suc c ≡ b - c = omega arith in
    ap (λ n. repainted a b v (take c fs) + repainted n (suc b - suc c) v (drop c fs)) h
    ∙ ap (λ n. repainted a b v (take c fs) + repainted (a - c) n v (drop c fs)) k)
    ∙ repainted_parts c a b v fs

-- ---- what that does to the number of set flags

gained : (a b : ℕ) (fs : List Bool) → set_in (painted a b true fs) ≡ set_in fs + repainted a b true fs
gained a b [] = refl
gained a zero (f ∷ fs) = omega arith
gained zero (suc b) (true ∷ fs) =
    omega (arith, sum_by-cons (λ g. cond g 1 0) true (painted zero b true fs), sum_by-cons (λ g. cond g 1 0) true fs, gained zero b fs)
gained zero (suc b) (false ∷ fs) =
    omega (arith, sum_by-cons (λ g. cond g 1 0) true (painted zero b true fs), sum_by-cons (λ g. cond g 1 0) false fs, gained zero b fs)
gained (suc a) (suc b) (f ∷ fs) =
    omega (arith, sum_by-cons (λ g. cond g 1 0) f (painted a b true fs), sum_by-cons (λ g. cond g 1 0) f fs, gained a b fs)

lost : (a b : ℕ) (fs : List Bool) → set_in (painted a b false fs) + repainted a b false fs ≡ set_in fs
lost a b [] = refl
lost a zero (f ∷ fs) = omega arith
lost zero (suc b) (true ∷ fs) =
    omega (arith, sum_by-cons (λ g. cond g 1 0) false (painted zero b false fs), sum_by-cons (λ g. cond g 1 0) true fs, lost zero b fs)
lost zero (suc b) (false ∷ fs) =
    omega (arith, sum_by-cons (λ g. cond g 1 0) false (painted zero b false fs), sum_by-cons (λ g. cond g 1 0) false fs, lost zero b fs)
lost (suc a) (suc b) (f ∷ fs) =
    omega (arith, sum_by-cons (λ g. cond g 1 0) f (painted a b false fs), sum_by-cons (λ g. cond g 1 0) f fs, lost a b fs)

pub painted_sets : (a b : ℕ) (v : Bool) (fs : List Bool) → moved v (set_in fs) (repainted a b v fs) ≡ set_in (painted a b v fs)
painted_sets a b true fs = sym (gained a b fs)
painted_sets a b false fs = omega (arith, lost a b fs)

-- ---- a part that is put back

pub put_is_painted : (a b : ℕ) (v : Bool) (fs : List Bool) → a ≤ b → a ≤ length fs → take a fs ++ (replicate (min b (length fs) - a) v ++ drop (min b (length fs) - a) (drop a fs)) ≡ painted a b v fs
put_is_painted a b v [] le within = none a _ (let h : min b 0 - a ≡ 0 = omega arith in h)
  where
    none : (n k : ℕ) → k ≡ 0 → take n [] ++ (replicate k v ++ drop k (drop n [])) ≡ []
    none zero k is = ap (λ j. replicate j v ++ drop j []) is
    none (suc n) k is = ap (λ j. replicate j v ++ drop j []) is
put_is_painted zero zero v (f ∷ fs) le within = let h : min 0 (suc (length fs)) - 0 ≡ 0 = omega arith in ap (λ j. replicate j v ++ drop j (f ∷ fs)) h
put_is_painted (suc a) zero v (f ∷ fs) le within = absurd (omega (arith, le))
put_is_painted zero (suc b) v (f ∷ fs) le within =
    (let h : min (suc b) (suc (length fs)) - 0 ≡ suc (min b (length fs) - 0) = omega arith in ap (λ j. replicate j v ++ drop j (f ∷ fs)) h)
    ∙ ap (λ gs. v ∷ gs) (put_is_painted zero b v fs (omega arith) (omega arith))
put_is_painted (suc a) (suc b) v (f ∷ fs) le within =
    (let h : min (suc b) (suc (length fs)) - suc a ≡ min b (length fs) - a = omega arith in ap (λ j. (f ∷ take a fs) ++ (replicate j v ++ drop j (drop a fs))) h)
    ∙ ap (λ gs. f ∷ gs) (put_is_painted a b v fs (omega (arith, le)) (omega (arith, within)))

pub count_is_repainted : (a b : ℕ) (v : Bool) (fs : List Bool) → a ≤ b → a ≤ length fs → count_by (λ f. differs v f) (take (min b (length fs) - a) (drop a fs)) ≡ repainted a b v fs
count_is_repainted a b v [] le within = none a _ (let h : min b 0 - a ≡ 0 = omega arith in h)
  where
    none : (n k : ℕ) → k ≡ 0 → count_by (λ f. differs v f) (take k (drop n [])) ≡ 0
    none zero k is = ap (λ j. count_by (λ f. differs v f) (take j [])) is
    none (suc n) k is = ap (λ j. count_by (λ f. differs v f) (take j [])) is
count_is_repainted zero zero v (f ∷ fs) le within = let h : min 0 (suc (length fs)) - 0 ≡ 0 = omega arith in ap (λ j. count_by (λ f. differs v f) (take j (f ∷ fs))) h
count_is_repainted (suc a) zero v (f ∷ fs) le within = absurd (omega (arith, le))
count_is_repainted zero (suc b) v (f ∷ fs) le within =
    (let h : min (suc b) (suc (length fs)) - 0 ≡ suc (min b (length fs) - 0) = omega arith in ap (λ j. count_by (λ f. differs v f) (take j (f ∷ fs))) h)
    ∙ sum_by-cons (λ g. cond (differs v g) 1 0) f (take (min b (length fs) - 0) fs)
    ∙ ap (λ n. cond (differs v f) 1 0 + n) (count_is_repainted zero b v fs (omega arith) (omega arith))
count_is_repainted (suc a) (suc b) v (f ∷ fs) le within =
    (let h : min (suc b) (suc (length fs)) - suc a ≡ min b (length fs) - a = omega arith in ap (λ j. count_by (λ f. differs v f) (take j (drop a fs))) h)
    ∙ count_is_repainted a b v fs (omega (arith, le)) (omega (arith, within))

pub painted_is : (a b : ℕ) (v : Bool) (fs : List Bool) → a ≤ b → b ≤ length fs → painted a b v fs ≡ take a fs ++ replicate (b - a) v ++ drop b fs
painted_is a b v fs le within =
    sym (put_is_painted a b v fs le (omega (arith, le, within)))
    ∙ (let h : min b (length fs) - a ≡ b - a = omega (arith, within) in ap (λ k. take a fs ++ (replicate k v ++ drop k (drop a fs))) h)
    ∙ ap (λ gs. take a fs ++ (replicate (b - a) v ++ gs)) (drop-drop (b - a) a fs ∙ (let h : a + (b - a) ≡ b = omega (arith, le) in ap (λ k. drop k fs) h))
    ∙ sym (append_assoc (take a fs) (replicate (b - a) v) (drop b fs))

pub repainted_is : (a b : ℕ) (v : Bool) (fs : List Bool) → a ≤ b → b ≤ length fs → repainted a b v fs ≡ count_by (λ f. differs v f) (take (b - a) (drop a fs))
repainted_is a b v fs le within =
    sym (count_is_repainted a b v fs le (omega (arith, le, within)))
    ∙ (let h : min b (length fs) - a ≡ b - a = omega (arith, within) in ap (λ k. count_by (λ f. differs v f) (take k (drop a fs))) h)
