-- Sums that are kept for flags.
use Rattle.std.proofs.Common.{◌≡◌, ◌≤◌, ◌<◌, ◌+◌, ◌-◌, ◌*◌, ℕ, zero, suc, Bool, true, false, cond, List, [], ◌∷◌, ◌++◌, length, get_or, take, drop, replicate, set, zero-add, refl, sym, ap, subst, ◌∙◌, append_assoc, append-nil, length-append, length-drop, arith}
use Rattle.std.proofs.lemmas.List.{get_or_at, take_at, drop_at, set_at, drop_more, drop_all, length_push, length-take-le, length-replicate, take_rest}
use Rattle.std.proofs.lemmas.List.Sums.{sum_by-cons}
use Rattle.std.specs.List.{AllByRecursion, list_any}
use Rattle.std.specs.Prelude.{nat_lt}
use Rattle.std.proofs.lemmas.Bool.{lt-ltb}
use borrow.Rule.Slice.PartMut.{put_mid}
use Rattle.br_tree.proofs.RunLaws.{all_dropped, all_taken}
use Rattle.br_tree.specs.Sums.{set_in, middle, cut, AreSumsTo, AreSums}

-- ---- a sum and both halves

module _ (sums : List ℕ) (flags : List Bool) (are : AreSums sums flags) (some : 0 < length sums) where
  pub middle_fits : middle sums + 1 ≤ length sums
  middle_fits = omega (arith, some)

  pub cut_fits : cut sums ≤ length flags
  cut_fits = omega (arith, middle_fits, are.room)

  pub middle_counts : get_or sums (middle sums) 0 ≡ set_in (take (cut sums) flags)
  middle_counts = (are.counted 1).0 some

  pub front_sums : AreSums (take (middle sums) sums) (take (cut sums) flags)
  front_sums = record {
    counted = λ depth. (are.counted (suc depth)).1;
    room = omega (arith, length-take-le (middle sums) sums (omega (arith, middle_fits)), length-take-le (cut sums) flags cut_fits);
  }

  pub back_sums : AreSums (drop (middle sums + 1) sums) (drop (cut sums) flags)
  back_sums = record {
    counted = λ depth. (are.counted (suc depth)).2;
    room = omega (arith, length-drop (middle sums + 1) sums, length-drop (cut sums) flags, middle_fits, cut_fits, are.room);
  }

-- ---- joined again

module _ (front back : List ℕ) (sum : ℕ) (first rest : List Bool) (half : middle (front ++ sum ∷ back) ≡ length front) (long : length first ≡ 16 * (length front + 1)) (is : sum ≡ set_in first) (of_first : AreSums front first)
    (of_rest : AreSums back rest) where
  behind : drop (length front + 1) (front ++ sum ∷ back) ≡ back
  behind = ap (drop (length front + 1)) (sym (append_assoc front (sum ∷ []) back)) ∙ drop_at (front ++ sum ∷ []) back (length front + 1) (length_push front sum)

  abbrev Level : ℕ → ℕ → Type 0
  Level depth m =
      (0 < length (front ++ sum ∷ back) → get_or (front ++ sum ∷ back) m 0 ≡ set_in (take (16 * (m + 1)) (first ++ rest)))
      × AreSumsTo depth (take m (front ++ sum ∷ back)) (take (16 * (m + 1)) (first ++ rest))
      × AreSumsTo depth (drop (m + 1) (front ++ sum ∷ back)) (drop (16 * (m + 1)) (first ++ rest))

  at_half : (depth : ℕ) → Level depth (length front)
  at_half depth = (
    λ some. get_or_at front sum back 0 (length front) refl ∙ is ∙ ap set_in (sym (take_at first rest (16 * (length front + 1)) long)),
    subst (λ ss. AreSumsTo depth ss (take (16 * (length front + 1)) (first ++ rest))) (sym (take_at front (sum ∷ back) (length front) refl))
        (subst (AreSumsTo depth front) (sym (take_at first rest (16 * (length front + 1)) long)) (of_first.counted depth)),
    subst (λ ss. AreSumsTo depth ss (drop (16 * (length front + 1)) (first ++ rest))) (sym behind)
        (subst (AreSumsTo depth back) (sym (drop_at first rest (16 * (length front + 1)) long)) (of_rest.counted depth)),
  )

  pub joined_sums : AreSums (front ++ sum ∷ back) (first ++ rest)
  joined_sums = record { counted = go; room = omega (arith, length-append front (sum ∷ back), length-append first rest, long, of_rest.room) }
    where
      go : (depth : ℕ) → AreSumsTo depth (front ++ sum ∷ back) (first ++ rest)
      go zero = tt
      go (suc depth) = subst (Level depth) (sym half) (at_half depth)

-- ---- no sums, and sums of nothing

pub sums_of_any : (flags : List Bool) → AreSums [] flags
sums_of_any flags = record { counted = λ depth. go depth [] flags refl; room = omega arith }
  where
    go : (depth : ℕ) (sums : List ℕ) (flags : List Bool) → sums ≡ [] → AreSumsTo depth sums flags
    go zero sums flags is = tt
    go (suc depth) sums flags is = (λ some. absurd (omega (arith, some, ap length is)), go depth _ _ (ap (take (middle sums)) is ∙ taken (middle sums)), go depth _ _ (ap (drop (middle sums + 1)) is ∙ dropped (middle sums + 1)))
      where
        taken : (n : ℕ) → take {A = ℕ} n [] ≡ []
        taken zero = refl
        taken (suc n) = refl

        dropped : (n : ℕ) → drop {A = ℕ} n [] ≡ []
        dropped zero = refl
        dropped (suc n) = refl

abbrev AllZero : List ℕ → Type 0
AllZero sums = AllByRecursion (λ s. s ≡ 0) sums

abbrev AllFalse : List Bool → Type 0
AllFalse flags = AllByRecursion (λ f. f ≡ false) flags

all_replicate : {X : Type 0} (P : X → Type 0) (n : ℕ) (x : X) → P x → AllByRecursion P (replicate n x)
all_replicate P zero x h = tt
all_replicate P (suc n) x h = (h, all_replicate P n x h)

zero_at : (sums : List ℕ) (i : ℕ) → AllZero sums → get_or sums i 0 ≡ 0
zero_at [] i h = refl
zero_at (s ∷ sums) zero h = h.0
zero_at (s ∷ sums) (suc i) h = zero_at sums i h.1

none_set_in : (flags : List Bool) → AllFalse flags → set_in flags ≡ 0
none_set_in [] h = refl
none_set_in (f ∷ flags) h = sum_by-cons (λ g. cond g 1 0) f flags ∙ ap (λ g. cond g 1 0 + set_in flags) h.0 ∙ zero-add (set_in flags) ∙ none_set_in flags h.1

zeros_count : (depth : ℕ) (sums : List ℕ) (flags : List Bool) → AllZero sums → AllFalse flags → AreSumsTo depth sums flags
zeros_count zero sums flags zeros unset = tt
zeros_count (suc depth) sums flags zeros unset = (
  λ some. zero_at sums (middle sums) zeros ∙ sym (none_set_in (take (cut sums) flags) (all_taken (λ f. f ≡ false) (cut sums) flags unset)),
  zeros_count depth (take (middle sums) sums) (take (cut sums) flags) (all_taken (λ s. s ≡ 0) (middle sums) sums zeros) (all_taken (λ f. f ≡ false) (cut sums) flags unset),
  zeros_count depth (drop (middle sums + 1) sums) (drop (cut sums) flags) (all_dropped (λ s. s ≡ 0) (middle sums + 1) sums zeros) (all_dropped (λ f. f ≡ false) (cut sums) flags unset),
)

pub sums_of_none : (n k : ℕ) → 16 * n ≤ k → AreSums (replicate n 0) (replicate k false)
sums_of_none n k room = record {
  counted = λ depth. zeros_count depth (replicate n 0) (replicate k false) (all_replicate (λ s. s ≡ 0) n 0 refl) (all_replicate (λ f. f ≡ false) k false refl);
  room = omega (arith, length-replicate {A = ℕ} n 0, length-replicate k false, room);
}

-- ---- parts that are put back

pub put_back : {X : Type 0} (first rest new : List X) (n : ℕ) → length first ≡ n → put_mid n (length (first ++ rest) - n) (first ++ rest) new ≡ first ++ new
put_back first rest new n long =
    ap (λ zs. zs ++ (new ++ drop (length (first ++ rest) - n) (drop n (first ++ rest)))) (take_at first rest n long)
    ∙ ap (λ zs. first ++ (new ++ drop (length (first ++ rest) - n) zs)) (drop_at first rest n long)
    ∙ ap (λ zs. first ++ (new ++ zs)) (drop_all (length (first ++ rest) - n) rest (omega (arith, length-append first rest, long)))
    ∙ ap (λ zs. first ++ zs) (append-nil new)

-- a sum that is set
pub set_middle : (front sums : List ℕ) (m sum : ℕ) → m < length sums → length front ≡ m → set (front ++ drop m sums) m sum ≡ (front ++ sum ∷ []) ++ drop (m + 1) sums
set_middle front sums m sum lt long =
    ap (λ zs. set (front ++ zs) m sum) (drop_more sums m 0 lt) ∙ set_at front (get_or sums m 0) (drop (m + 1) sums) sum m long ∙ sym (append_assoc front (sum ∷ []) (drop (m + 1) sums))

-- ---- one step: both parts are changed, and the middle one is what the first part has now

module _ (sums : List ℕ) (flags : List Bool) (are : AreSums sums flags) (some : 0 < length sums) (front : List ℕ) (front_len : length front ≡ middle sums) (first : List Bool) (first_len : length first ≡ cut sums) where
  lt : middle sums < length sums
  lt = omega (arith, some)

  pub old_sum : get_or (front ++ drop (middle sums) sums) (middle sums) 0 ≡ set_in (take (cut sums) flags)
  old_sum =
      ap (λ zs. get_or (front ++ zs) (middle sums) 0) (drop_more sums (middle sums) 0 lt)
      ∙ get_or_at front (get_or sums (middle sums) 0) (drop (middle sums + 1) sums) 0 (middle sums) front_len
      ∙ middle_counts sums flags are some

  pub rest_flags : take (length (first ++ drop (cut sums) flags) - cut sums) (drop (cut sums) (first ++ drop (cut sums) flags)) ≡ drop (cut sums) flags
  rest_flags = take_rest (first ++ drop (cut sums) flags) (cut sums) ∙ drop_at first (drop (cut sums) flags) (cut sums) first_len

  pub new_flags : (rest : List Bool) → put_mid (cut sums) (length (first ++ drop (cut sums) flags) - cut sums) (first ++ drop (cut sums) flags) rest ≡ first ++ rest
  new_flags rest = put_back first (drop (cut sums) flags) rest (cut sums) first_len

  module _ (sum : ℕ) where
    with_sum : set (front ++ drop (middle sums) sums) (middle sums) sum ≡ (front ++ sum ∷ []) ++ drop (middle sums + 1) sums
    with_sum = set_middle front sums (middle sums) sum lt front_len

    with_len : length (front ++ sum ∷ []) ≡ middle sums + 1
    with_len = omega (arith, length_push front sum, front_len)

    pub rest_sums : take (length (set (front ++ drop (middle sums) sums) (middle sums) sum) - (middle sums + 1)) (drop (middle sums + 1) (set (front ++ drop (middle sums) sums) (middle sums) sum)) ≡ drop (middle sums + 1) sums
    rest_sums =
        take_rest (set (front ++ drop (middle sums) sums) (middle sums) sum) (middle sums + 1)
        ∙ ap (drop (middle sums + 1)) with_sum
        ∙ drop_at (front ++ sum ∷ []) (drop (middle sums + 1) sums) (middle sums + 1) with_len

    pub rest_are : AreSums (take (length (set (front ++ drop (middle sums) sums) (middle sums) sum) - (middle sums + 1)) (drop (middle sums + 1) (set (front ++ drop (middle sums) sums) (middle sums) sum)))
        (take (length (first ++ drop (cut sums) flags) - cut sums) (drop (cut sums) (first ++ drop (cut sums) flags)))
    rest_are =
        subst (λ zs. AreSums zs (take (length (first ++ drop (cut sums) flags) - cut sums) (drop (cut sums) (first ++ drop (cut sums) flags)))) (sym rest_sums)
        (subst (AreSums (drop (middle sums + 1) sums)) (sym rest_flags) (back_sums sums flags are some))

    pub new_sums : (back : List ℕ) → put_mid (middle sums + 1) (length (set (front ++ drop (middle sums) sums) (middle sums) sum) - (middle sums + 1)) (set (front ++ drop (middle sums) sums) (middle sums) sum) back ≡ front ++ sum ∷ back
    new_sums back =
        ap (λ zs. put_mid (middle sums + 1) (length zs - (middle sums + 1)) zs back) with_sum
        ∙ put_back (front ++ sum ∷ []) (drop (middle sums + 1) sums) back (middle sums + 1) with_len
        ∙ append_assoc front (sum ∷ []) back

    pub step_sums : (back : List ℕ) (rest : List Bool) → length back ≡ length sums - (middle sums + 1) → sum ≡ set_in first → AreSums front first → AreSums back rest
        → AreSums (put_mid (middle sums + 1) (length (set (front ++ drop (middle sums) sums) (middle sums) sum) - (middle sums + 1)) (set (front ++ drop (middle sums) sums) (middle sums) sum) back)
        (put_mid (cut sums) (length (first ++ drop (cut sums) flags) - cut sums) (first ++ drop (cut sums) flags) rest)
    step_sums back rest back_len is of_first of_rest =
        subst (λ ss. AreSums ss (put_mid (cut sums) (length (first ++ drop (cut sums) flags) - cut sums) (first ++ drop (cut sums) flags) rest)) (sym (new_sums back))
        (subst (AreSums (front ++ sum ∷ back)) (sym (new_flags rest))
        (joined_sums front back sum first rest (omega (arith, length-append front (sum ∷ back), front_len, back_len, lt)) (omega (arith, front_len, first_len)) is of_first of_rest))

-- a flag is set if the number of those that are is above 0
pub any_counted : (flags : List Bool) → list_any (λ f. f) flags ≡ nat_lt 0 (set_in flags)
any_counted [] = refl
any_counted (true ∷ flags) = sym (lt-ltb 0 (set_in (true ∷ flags)) (omega (arith, sum_by-cons (λ f. cond f 1 0) true flags)))
any_counted (false ∷ flags) = any_counted flags ∙ (let e : set_in flags ≡ set_in (false ∷ flags) = omega (arith, sum_by-cons (λ f. cond f 1 0) false flags) in ap (nat_lt 0) e)
