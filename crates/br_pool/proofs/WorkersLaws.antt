-- What the workers answered, each with its drive, as what all drives answered.
use Rattle.std.proofs.Common.{◌≡◌, ℕ, zero, suc, ◌+◌, ◌<◌, ◌⊎◌, inl, inr, Bool, true, false, cond, List, [], ◌∷◌, ◌++◌, map, flat_map, length, Option, refl, ap, sym, subst, ◌∙◌, arith, eqb, eqb-true, eq-eqb}
use Rattle.std.specs.List.{AllByRecursion, AllZip}
use Rattle.atomic_table.specs.Seated.{TableId}
use Rattle.br_model.specs.Volume.{Volume}
use Rattle.br_model.specs.Meaning.{Piece}
use Rattle.br_claim.specs.Claims.{Seated, AllOf, some_ended, times_in}
use Rattle.br_claim.specs.Rule.{times}
use Rattle.br_pool.specs.Pool.{StandsTold}
use Rattle.br_pool.specs.Workers.{Answer, EachHolds, AreAllAnswered, HasWorkedBy, HaveWorkedBy, count_in, number_at, numbers_of}
use Rattle.br_pool.proofs.AnswerLaws.{each_so}
use Rattle.br_pool.proofs.FlagLaws.{Stay, Same, fewer_or_same}
use Rattle.std.proofs.lemmas.Bool.{or_right, or_left}

all_append : {A : Type 0} (P : A → Type 0) (xs ys : List A) → AllByRecursion P xs → AllByRecursion P ys → AllByRecursion P (xs ++ ys)
all_append P [] ys p q = q
all_append P (x ∷ xs) ys p q = (p.0, all_append P xs ys p.1 q)

times_append : (x : ℕ) (xs ys : List ℕ) → times x (xs ++ ys) ≡ times x xs + times x ys
times_append x [] ys = let e : times x ys ≡ 0 + times x ys = omega arith in e
times_append x (y ∷ xs) ys =
    let more = times_append x xs ys in let e : cond (eqb y x) 1 0 + times x (xs ++ ys) ≡ (cond (eqb y x) 1 0 + times x xs) + times x ys = omega (arith, more) in e

-- what is in a list is in the list of its images
times_map : (f : ℕ → ℕ) (x : ℕ) (xs : List ℕ) → 0 < times x xs → 0 < times (f x) (map f xs)
times_map f x [] some = absurd (omega (arith, some))
times_map f x (y ∷ xs) some = parted (λ more. times_map f x xs more) (eqb y x) refl some
  where
    parted : (0 < times x xs → 0 < times (f x) (map f xs)) → (b : Bool) → eqb y x ≡ b → 0 < cond b 1 0 + times x xs → 0 < cond (eqb (f y) (f x)) 1 0 + times (f x) (map f xs)
    parted behind true e more = let is : eqb (f y) (f x) ≡ true = eq-eqb (f y) (f x) (ap f (eqb-true y x e)) in subst (λ b. 0 < cond b 1 0 + times (f x) (map f xs)) (sym is) (omega arith)
    parted behind false e more = let later = behind (omega (arith, more)) in omega (arith, later)

numbers_append : (xs ys : List (ℕ × Answer)) → numbers_of (xs ++ ys) ≡ numbers_of xs ++ numbers_of ys
numbers_append [] ys = refl
numbers_append (x ∷ xs) ys = ap (λ l. x.0 ∷ l) (numbers_append xs ys)

module _ {W : Type 0} (claims : TableId) (pieces : List Piece) (left : List ℕ) (is : W → W → Piece → Answer → Type 0) (shows : W → Option (List Volume)) (fails : W → ℕ) (out : W → Bool) (seat : W → Seated) (answers : W → List (ℕ × Answer)) where
  -- a worker before and after its run
  abbrev pub Ran : W → W → Type 0
  Ran w v = HasWorkedBy (is w v) claims pieces left (shows w) (shows v) (fails w) (fails v) (out w) (out v) (seat v) (answers v)

  -- what holds of the answers of each worker holds of all answers
  each_of : (all : Piece → Answer → Type 0) (ws vs : List W) → AllZip Ran ws vs → AllZip (λ (w v : W). (p : Piece) (a : Answer) → is w v p a → all p a) ws vs
      → EachHolds all pieces (flat_map answers vs)
  each_of all [] [] z so = tt
  each_of all [] (v ∷ vs) z so = absurd z
  each_of all (w ∷ ws) [] z so = absurd z
  each_of all (w ∷ ws) (v ∷ vs) z so =
      all_append _ (answers v) (flat_map answers vs) (each_so (is w v) all so.0 pieces (answers v) z.0.each) (each_of all ws vs z.1 so.1)

  claims_of : (ws vs : List W) → AllZip Ran ws vs → AllOf claims (map seat vs)
  claims_of [] [] z = tt
  claims_of [] (v ∷ vs) z = absurd z
  claims_of (w ∷ ws) [] z = absurd z
  claims_of (w ∷ ws) (v ∷ vs) z = (z.0.claims_are, claims_of ws vs z.1)

  stay_of : (ws vs : List W) → AllZip Ran ws vs → Stay (map out ws) (map out vs)
  stay_of [] [] z = tt
  stay_of [] (v ∷ vs) z = absurd z
  stay_of (w ∷ ws) [] z = absurd z
  stay_of (w ∷ ws) (v ∷ vs) z = (z.0.served.stays, stay_of ws vs z.1)

  -- one that is not out drew until none was left
  ended_of : (ws vs : List W) → AllZip Ran ws vs → Same (map out ws) (map out vs) → 0 < count_in (map out ws) → some_ended (map seat vs) ≡ true
  ended_of [] vs z same some = absurd (omega (arith, some))
  ended_of (w ∷ ws) [] z same some = absurd z
  ended_of (w ∷ ws) (v ∷ vs) z same some = parted (λ more. ended_of ws vs z.1 same.1 more) (out w) refl some
    where
      parted : (0 < count_in (map out ws) → some_ended (map seat vs) ≡ true) → (b : Bool) → out w ≡ b → 0 < count_in (b ∷ map out ws) → some_ended (map seat (v ∷ vs)) ≡ true
      parted behind true e more = or_right (seat v).ended (some_ended (map seat vs)) (behind more)
      parted behind false e more = or_left (seat v).ended (some_ended (map seat vs)) (z.0.ended (same.0 ∙ e))

  -- if none went out, what was drawn was answered
  answered_of : (ws vs : List W) → AllZip Ran ws vs → Same (map out ws) (map out vs) → (x : ℕ) → 0 < times_in x (map (λ (s : Seated). s.drawn) (map seat vs))
      → 0 < times (number_at left x) (numbers_of (flat_map answers vs))
  answered_of [] [] z same x some = absurd (omega (arith, some))
  answered_of [] (v ∷ vs) z same x some = absurd z
  answered_of (w ∷ ws) [] z same x some = absurd z
  answered_of (w ∷ ws) (v ∷ vs) z same x some = parted (λ more. answered_of ws vs z.1 same.1 x more) (times x (seat v).drawn) refl some
    where
      y : ℕ
      y = number_at left x

      both : times y (numbers_of (answers v ++ flat_map answers vs)) ≡ times y (numbers_of (answers v)) + times y (numbers_of (flat_map answers vs))
      both = ap (times y) (numbers_append (answers v) (flat_map answers vs)) ∙ times_append y (numbers_of (answers v)) (numbers_of (flat_map answers vs))

      parted : (0 < times_in x (map (λ (s : Seated). s.drawn) (map seat vs)) → 0 < times y (numbers_of (flat_map answers vs))) → (n : ℕ) → times x (seat v).drawn ≡ n
          → 0 < n + times_in x (map (λ (s : Seated). s.drawn) (map seat vs)) → 0 < times y (numbers_of (answers v ++ flat_map answers vs))
      parted behind zero e more = let later = behind (omega (arith, more)) in let q = both in omega (arith, later, q)
      parted behind (suc n) e more =
          let here = times_map (number_at left) x (seat v).drawn (omega (arith, e)) in
          let same_here : times y (numbers_of (answers v)) ≡ times y (map (number_at left) (seat v).drawn) = ap (times y) (z.0.answered same.0) in
          let q = both in
          omega (arith, here, same_here, q)

  pub have_worked : (all : Piece → Answer → Type 0) (ws vs : List W) → AllZip Ran ws vs → AllZip (λ (w v : W). (p : Piece) (a : Answer) → is w v p a → all p a) ws vs
      → HaveWorkedBy all claims pieces left (map out ws) (map out vs) (map seat vs) (flat_map answers vs)
  have_worked all ws vs z so = record {
    claims_are = claims_of ws vs z;
    each = each_of all ws vs z so;
    progress = λ some. step some (fewer_or_same (map out ws) (map out vs) (stay_of ws vs z));
  }
    where
      step : 0 < count_in (map out ws) → (count_in (map out vs) < count_in (map out ws)) ⊎ Same (map out ws) (map out vs)
          → (count_in (map out vs) < count_in (map out ws)) ⊎ AreAllAnswered left (map seat vs) (flat_map answers vs)
      step some (inl fewer) = inl fewer
      step some (inr same) = inr (ended_of ws vs z same some, answered_of ws vs z same)

-- what all may be taken to show, each may
pub told_each : {W : Type 0} (pieces : List Piece) (shows : W → Option (List Volume)) (over : List Volume → Type 0) (ws vs : List W) → length vs ≡ length ws
    → ((volumes : List Volume) → over volumes → AllZip (StandsTold pieces volumes) (map shows ws) (map shows vs))
    → AllZip (λ (w v : W). (volumes : List Volume) → over volumes → StandsTold pieces volumes (shows w) (shows v)) ws vs
told_each pieces shows over [] [] len told = tt
told_each pieces shows over [] (v ∷ vs) len told = absurd (omega (arith, len))
told_each pieces shows over (w ∷ ws) [] len told = absurd (omega (arith, len))
told_each pieces shows over (w ∷ ws) (v ∷ vs) len told = (
  λ volumes given. (told volumes given).0,
  told_each pieces shows over ws vs (omega (arith, len)) (λ volumes given. (told volumes given).1),
)
