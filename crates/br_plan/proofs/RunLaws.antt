-- Runs of files whose indexes follow one another.
use Rattle.std.proofs.Common.{◌≡◌, ℕ, zero, suc, ◌+◌, ◌-◌, ◌<◌, ◌≤◌, Bool, true, false, cond, eqb, List, [], ◌∷◌, ◌++◌, length, take, drop, refl, sym, ap, subst, ◌∙◌, append-nil, append_assoc, length-drop, arith}
use Rattle.std.specs.Prelude.{reverse}
use Rattle.std.proofs.lemmas.Bool.{eqb-true}
use Rattle.std.proofs.lemmas.List.{drop-drop, reverse-append, map-append}
use Rattle.br_model.specs.Bootstrap.{Range}
use Rattle.br_model.specs.Plan.{ranges_of}
use Rattle.br_plan.specs.Selected.{FileOf}
use Rattle.br_plan.specs.Parts.{indexes_of, with_number, with_run}
use Rattle.br_plan.specs.Runs.{AreNext, AreRuns, IsFirstRun, longest}
use Rattle.br_plan.proofs.RangeLaws.{ranges_more, with_run_more}

-- ---- as the runs are found

-- the runs of some files, of which the first has this run, which begins with this index
pub record RunsSoFar (files : List FileOf) (next len : ℕ) (runs : List ℕ) : Type 0 where
  pub so_far : AreRuns files runs
  pub first : AreNext next len files

next_fewer : (i m n : ℕ) (files : List FileOf) → m ≤ n → AreNext i n files → AreNext i m files
next_fewer i zero n files le h = tt
next_fewer i (suc m) zero files le h = absurd (omega (arith, le))
next_fewer i (suc m) (suc n) [] le h = tt
next_fewer i (suc m) (suc n) (f ∷ fs) le h = (h.0, next_fewer (i + 1) m n fs (omega (arith, le)) h.1)

-- a run that begins with one more file
run_longer : (f : FileOf) (fs : List FileOf) (next len n : ℕ) → AreNext next len fs → 0 < n → n ≤ longest f.1 next len → AreNext f.1 n (f ∷ fs)
run_longer f fs next len zero h some most = absurd (omega (arith, some))
run_longer f fs next len (suc n) h some most = (refl, go (eqb (f.1 + 1) next) refl most)
  where
    go : (b : Bool) → eqb (f.1 + 1) next ≡ b → suc n ≤ cond b (len + 1) 1 → AreNext (f.1 + 1) n fs
    go true is le = subst (λ i. AreNext i n fs) (sym (eqb-true (f.1 + 1) next is)) (next_fewer next n len fs (omega (arith, le)) h)
    go false is le = next_fewer (f.1 + 1) n 0 fs (omega (arith, le)) tt

-- one more file before them
in_front : (files : List FileOf) (runs : List ℕ) (next len n : ℕ) (f : FileOf) → 0 < n → n ≤ longest f.1 next len → RunsSoFar files next len runs → RunsSoFar (f ∷ files) f.1 n (n ∷ runs)
in_front files runs next len n f some most s =
    let run = run_longer f files next len n s.first some most in
    record { so_far = (some, run, s.so_far); first = run }

-- the same if the runs come in the other order
pub runs_more : (files : List FileOf) (pushed : List ℕ) (next len n : ℕ) (f : FileOf) → 0 < n → n ≤ longest f.1 next len → RunsSoFar files next len (reverse pushed)
    → RunsSoFar (f ∷ files) f.1 n (reverse (pushed ++ n ∷ []))
runs_more files pushed next len n f some most s = rw (reverse-append pushed (n ∷ [])) (in_front files (reverse pushed) next len n f some most s)

-- ---- parts

pub runs_long : (files : List FileOf) (runs : List ℕ) → AreRuns files runs → length runs ≡ length files
runs_long [] [] h = refl
runs_long [] (n ∷ ns) h = absurd h
runs_long (f ∷ fs) [] h = absurd h
runs_long (f ∷ fs) (n ∷ ns) h = omega (arith, runs_long fs ns h.2)

pub runs_dropped : (k : ℕ) (files : List FileOf) (runs : List ℕ) → AreRuns files runs → AreRuns (drop k files) (drop k runs)
runs_dropped zero files runs h = h
runs_dropped (suc k) [] [] h = tt
runs_dropped (suc k) [] (n ∷ ns) h = absurd h
runs_dropped (suc k) (f ∷ fs) [] h = absurd h
runs_dropped (suc k) (f ∷ fs) (n ∷ ns) h = runs_dropped k fs ns h.2

next_taken : (i n k : ℕ) (files : List FileOf) → AreNext i n files → AreNext i n (take k files)
next_taken i zero k files h = tt
next_taken i (suc n) zero files h = tt
next_taken i (suc n) (suc k) [] h = tt
next_taken i (suc n) (suc k) (f ∷ fs) h = (h.0, next_taken (i + 1) n k fs h.1)

pub runs_taken : (k : ℕ) (files : List FileOf) (runs : List ℕ) → AreRuns files runs → AreRuns (take k files) (take k runs)
runs_taken zero files runs h = tt
runs_taken (suc k) [] [] h = tt
runs_taken (suc k) [] (n ∷ ns) h = absurd h
runs_taken (suc k) (f ∷ fs) [] h = absurd h
runs_taken (suc k) (f ∷ fs) (n ∷ ns) h = (h.0, next_taken f.1 n (suc k) (f ∷ fs) h.1, runs_taken k fs ns h.2)

-- ---- the run at a place

index_later : (i n k : ℕ) (files : List FileOf) (last : FileOf) (rest : List FileOf) → k < n → AreNext i n files → drop k files ≡ last ∷ rest → last.1 ≡ i + k
index_later i zero k files last rest lt h at = absurd (omega (arith, lt))
index_later i (suc n) zero [] last rest lt h at = absurd cc
index_later i (suc n) zero (f ∷ fs) last rest lt h at = let same : f ≡ last = cc in sym (ap (λ (g : FileOf). g.1) same) ∙ h.0 ∙ omega arith
index_later i (suc n) (suc k) [] last rest lt h at = absurd cc
index_later i (suc n) (suc k) (f ∷ fs) last rest lt h at = index_later (i + 1) n k fs last rest (omega (arith, lt)) h.1 at ∙ omega arith

-- the run at a place
pub run_of : (files : List FileOf) (runs : List ℕ) (place n : ℕ) (f : FileOf) (more : List FileOf) (others : List ℕ) → AreRuns files runs → drop place files ≡ f ∷ more → drop place runs ≡ n ∷ others
    → (0 < n) × AreNext f.1 n (drop place files)
run_of files runs place n f more others are at is =
    let here : AreRuns (f ∷ more) (n ∷ others) = subst (AreRuns (f ∷ more)) is (subst (λ fs. AreRuns fs (drop place runs)) at (runs_dropped place files runs are)) in
    (here.0, subst (AreNext f.1 n) (sym at) here.1)

-- as far as an end
pub run_is : (files : List FileOf) (place n end : ℕ) (f last : FileOf) (rest : List FileOf) → AreNext f.1 n (drop place files) → place < end → end ≤ n + place → end ≤ length files
    → drop (end - 1) files ≡ last ∷ rest → IsFirstRun (drop place files) f.1 last.1 (end - place)
run_is files place n end f last rest next after fits within at =
    let len = end - place in
    let there : drop (len - 1) (drop place files) ≡ last ∷ rest = drop-drop (len - 1) place files ∙ (let e : place + (len - 1) ≡ end - 1 = omega (arith, after) in ap (λ k. drop k files) e) ∙ at in
    let is = index_later f.1 n (len - 1) (drop place files) last rest (omega (arith, after, fits)) next there in
    record {
      some = omega (arith, after);
      bound = omega (arith, within, length-drop place files);
      next = next_fewer f.1 len n (drop place files) (omega (arith, fits)) next;
      last = omega (arith, is, after);
    }

-- ---- ranges

take_none : {X : Type 0} (n : ℕ) → ◌≡◌ {A = List X} [] (take n [])
take_none zero = refl
take_none (suc n) = refl

take_both : {X : Type 0} (p n : ℕ) (xs : List X) → take (p + n) xs ≡ take p xs ++ take n (drop p xs)
take_both zero n xs = (let e : zero + n ≡ n = omega arith in ap (λ m. take m xs) e)
take_both (suc p) n [] = (let e : suc p + n ≡ suc (p + n) = omega arith in ap (λ m. take m []) e) ∙ take_none n
take_both (suc p) n (x ∷ xs) = (let e : suc p + n ≡ suc (p + n) = omega arith in ap (λ m. take m (x ∷ xs)) e) ∙ ap (λ ys. x ∷ ys) (take_both p n xs)

run_pushed : (rs : List Range) (i h : ℕ) (xs : List ℕ) (n : ℕ) (files : List FileOf) → ranges_of xs ≡ with_run rs i h → AreNext (h + 1) n files → n ≤ length files
    → ranges_of (xs ++ indexes_of (take n files)) ≡ with_run rs i (h + n)
run_pushed rs i h xs zero files is next le = ap ranges_of (append-nil xs) ∙ is ∙ (let e : h ≡ h + zero = omega arith in ap (with_run rs i) e)
run_pushed rs i h xs (suc n) [] is next le = absurd (omega (arith, le))
run_pushed rs i h xs (suc n) (f ∷ fs) is next le =
    let more : ranges_of (xs ++ f.1 ∷ []) ≡ with_run rs i (h + 1) = ranges_more xs f.1 ∙ ap (λ rs'. with_number rs' f.1) is ∙ ap (with_number (with_run rs i h)) next.0 ∙ with_run_more rs i h in
    ap ranges_of (sym (append_assoc xs (f.1 ∷ []) (indexes_of (take n fs))))
    ∙ run_pushed rs i (h + 1) (xs ++ f.1 ∷ []) n fs more next.1 (omega (arith, le))
    ∙ (let e : (h + 1) + n ≡ h + suc n = omega arith in ap (with_run rs i) e)

some_pushed : (xs : List ℕ) (i h n : ℕ) (files : List FileOf) → AreNext i n files → 0 < n → n ≤ length files → h + 1 ≡ i + n
    → ranges_of (xs ++ indexes_of (take n files)) ≡ with_run (ranges_of xs) i h
some_pushed xs i h zero files next some le last = absurd (omega (arith, some))
some_pushed xs i h (suc n) [] next some le last = absurd (omega (arith, le))
some_pushed xs i h (suc n) (f ∷ fs) next some le last =
    let more : ranges_of (xs ++ f.1 ∷ []) ≡ with_run (ranges_of xs) i i = ranges_more xs f.1 ∙ ap (with_number (ranges_of xs)) next.0 in
    ap ranges_of (sym (append_assoc xs (f.1 ∷ []) (indexes_of (take n fs))))
    ∙ run_pushed (ranges_of xs) i i (xs ++ f.1 ∷ []) n fs more next.1 (omega (arith, le))
    ∙ (let e : i + n ≡ h = omega (arith, last) in ap (with_run (ranges_of xs) i) e)

-- the ranges of the files up to a place, and of a run after them
pub ranges_on : (files : List FileOf) (place low high end : ℕ) (old new : List Range) → IsFirstRun (drop place files) low high (end - place) → place < end
    → old ≡ ranges_of (indexes_of (take place files)) → new ≡ with_run old low high → new ≡ ranges_of (indexes_of (take end files))
ranges_on files place low high end old new run after before pushed =
    let len = end - place in
    let whole : place + len ≡ end = omega (arith, after) in
    pushed ∙ ap (λ (rs : List Range). with_run rs low high) before
    ∙ sym (some_pushed (indexes_of (take place files)) low high len (drop place files) run.next run.some run.bound run.last)
    ∙ ap ranges_of (sym (map-append (λ (g : FileOf). g.1) (take place files) (take len (drop place files))) ∙ ap indexes_of (sym (take_both place len files)))
    ∙ ap (λ k. ranges_of (indexes_of (take k files))) whole
