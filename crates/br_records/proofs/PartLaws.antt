-- The bytes of fragments, read from one on.
use Rattle.std.proofs.Common.{◌≡◌, ℕ, zero, suc, ◌+◌, ◌-◌, ◌<◌, ◌≤◌, Bool, true, false, not, ◌&&◌, eqb, List, [], ◌∷◌, ◌++◌, length, get_or, take, drop, min, bytes_eq, refl, sym, ap, ◌∙◌, arith, append_assoc}
use Rattle.std.proofs.lemmas.List.{at_drop_more, at_drop_all}
use Rattle.br_model.specs.Meaning.{Hit}
use Rattle.br_records.specs.Records.{bytes_in}

-- from a fragment on its bytes come, and then those after it
pub bytes_more : (parts : List Hit) (i : ℕ) (x : Hit) → i < length parts → x ≡ get_or parts i x → bytes_in (drop i parts) ≡ x.fragment.bytes ++ bytes_in (drop (i + 1) parts)
bytes_more parts i x within is = at_drop_more bytes_in parts i x within ∙ ap (λ (h : Hit). h.fragment.bytes ++ bytes_in (drop (i + 1) parts)) (sym is)

-- there are none after the last
pub bytes_done : (parts : List Hit) (i : ℕ) → length parts ≤ i → bytes_in (drop i parts) ≡ []
bytes_done parts i past = at_drop_all bytes_in parts i past

-- ---- without the first bytes

pub drop_of_two : (n : ℕ) (xs ys : List ℕ) → drop n (xs ++ ys) ≡ drop (min n (length xs)) xs ++ drop (n - min n (length xs)) ys
drop_of_two zero xs ys = let none : min 0 (length xs) ≡ 0 = omega arith in rw none refl
drop_of_two (suc n) [] ys =
    let none : min (suc n) 0 ≡ 0 = omega arith in
    let all : suc n - 0 ≡ suc n = omega arith in
    rw (none, all) refl
drop_of_two (suc n) (x ∷ xs) ys =
    let least : min (suc n) (suc (length xs)) ≡ suc (min n (length xs)) = omega arith in
    let left : suc n - suc (min n (length xs)) ≡ n - min n (length xs) = omega arith in
    rw (least, left) (drop_of_two n xs ys)

-- the step of a walk that leaves out the first bytes
pub pushed_more : (before front rest held now : List ℕ) (left skipped : ℕ) → held ≡ front → skipped ≡ min left (length held) → now ≡ before ++ drop skipped held
    → now ++ drop (left - skipped) rest ≡ before ++ drop left (front ++ rest)
pushed_more before front rest held now left skipped same least is =
    let all : skipped ≡ min left (length front) = least ∙ ap (λ (xs : List ℕ). min left (length xs)) same in
    let pushed : now ≡ before ++ drop (min left (length front)) front = is ∙ ap (λ (xs : List ℕ). before ++ drop skipped xs) same ∙ ap (λ (n : ℕ). before ++ drop n front) all in
    ap (λ (xs : List ℕ). xs ++ drop (left - skipped) rest) pushed
    ∙ ap (λ (n : ℕ). (before ++ drop (min left (length front)) front) ++ drop (left - n) rest) all
    ∙ append_assoc before (drop (min left (length front)) front) (drop (left - min left (length front)) rest)
    ∙ ap (λ (xs : List ℕ). before ++ xs) (sym (drop_of_two left front rest))

-- ---- compared with other bytes

eq_two : (xs ys zs : List ℕ) → bytes_eq (xs ++ ys) zs ≡ (bytes_eq xs (take (length xs) zs) && bytes_eq ys (drop (length xs) zs))
eq_two [] ys zs = refl
eq_two (x ∷ xs) ys [] = refl
eq_two (x ∷ xs) ys (z ∷ zs) = go (eqb x z) (eq_two xs ys zs)
  where
    go : (b : Bool) → bytes_eq (xs ++ ys) zs ≡ (bytes_eq xs (take (length xs) zs) && bytes_eq ys (drop (length xs) zs))
        → (b && bytes_eq (xs ++ ys) zs) ≡ ((b && bytes_eq xs (take (length xs) zs)) && bytes_eq ys (drop (length xs) zs))
    go true same = same
    go false same = refl

unless : (b test : Bool) → test ≡ not b → test ≡ true → b ≡ false
unless true test is e = absurd cc
unless false test is e = refl

unless_not : (b test : Bool) → test ≡ not b → test ≡ false → b ≡ true
unless_not true test is e = refl
unless_not false test is e = absurd cc

-- bytes that begin otherwise are not equal
pub eq_other : (xs ys zs : List ℕ) (differ : Bool) → differ ≡ not (bytes_eq xs (take (length xs) zs)) → differ ≡ true → bytes_eq (xs ++ ys) zs ≡ false
eq_other xs ys zs differ is e =
    let other = unless (bytes_eq xs (take (length xs) zs)) differ is e in
    eq_two xs ys zs ∙ ap (λ (b : Bool). b && bytes_eq ys (drop (length xs) zs)) other

-- after an equal front the rest decides
pub eq_more : (xs ys zs : List ℕ) (differ : Bool) → differ ≡ not (bytes_eq xs (take (length xs) zs)) → differ ≡ false → bytes_eq (xs ++ ys) zs ≡ bytes_eq ys (drop (length xs) zs)
eq_more xs ys zs differ is e =
    let same = unless_not (bytes_eq xs (take (length xs) zs)) differ is e in
    eq_two xs ys zs ∙ ap (λ (b : Bool). b && bytes_eq ys (drop (length xs) zs)) same

-- fewer bytes are not equal
pub eq_short : (xs ys zs : List ℕ) → length zs < length xs → bytes_eq (xs ++ ys) zs ≡ false
eq_short [] ys zs less = absurd (omega arith)
eq_short (x ∷ xs) ys [] less = refl
eq_short (x ∷ xs) ys (z ∷ zs) less = go (eqb x z) (eq_short xs ys zs (omega arith))
  where
    go : (b : Bool) → bytes_eq (xs ++ ys) zs ≡ false → (b && bytes_eq (xs ++ ys) zs) ≡ false
    go true short = short
    go false short = refl
