-- What several writes append, one after the other.
use Rattle.std.proofs.Common.{◌≡◌, ℕ, ◌+◌, ◌-◌, ◌≤◌, List, [], ◌++◌, length, take, drop, min, refl, sym, ap, subst, ◌∙◌, arith, append_assoc, Option, Result, Ok, Err, IfOk, OnErr}
use Rattle.std.proofs.Math.Seq.{take-add}
use Rattle.std.proofs.lemmas.List.{append-nil, take-append-drop, take_all, take-take, take-replicate, replicate-append-replicate, length-replicate}
use Rattle.std.specs.Io.KnownBytes.{Appends, WriteAppends}
use Rattle.std.proofs.KnownBytes.{Appends-nil, Appends-trans}
use Rattle.br_data.specs.BodyWritten.{AppendsFront}
use Rattle.br_data.proofs.BodyPartLaws.{zeros}

-- ---- one write

-- what is in a front of the bytes is in them
pub fits_front : {E : Type 0} (result : Result ℕ E) (bytes : List ℕ) (len : ℕ) → len ≤ length bytes → IfOk result (λ n. n ≤ len) → IfOk result (λ n. n ≤ length bytes)
fits_front (Ok n) bytes len within fits = omega (arith, within, fits)
fits_front (Err e) bytes len within fits = tt

-- a write of a front of the bytes is one of them
pub of_front : {E : Type 0} (result : Result ℕ E) (a b : Option (List ℕ)) (bytes : List ℕ) (len : ℕ) → IfOk result (λ n. n ≤ len)
    → WriteAppends a b result (take len bytes) → WriteAppends a b result bytes
of_front (Ok n) a b bytes len fits written = rw (take-take n len bytes fits) at written
of_front (Err e) a b bytes len fits written = written

-- ---- writes one after the other

-- a front of what follows is one of all
pub front_more : (a b c : Option (List ℕ)) (first some rest all : List ℕ) → first ++ (some ++ rest) ≡ all → Appends a b first → AppendsFront b c some
    → AppendsFront a c all
front_more a b c first some rest all whole so_far (front, left, parted, more) = (
  first ++ front,
  left ++ rest,
  append_assoc first front (left ++ rest) ∙ ap (λ (l : List ℕ). first ++ l) (sym (append_assoc front left rest) ∙ ap (λ (l : List ℕ). l ++ rest) parted) ∙ whole,
  Appends-trans a b c first front so_far more,
)

-- after the first bytes, the next ones
pub bytes_more : (a b c : Option (List ℕ)) (bytes next : List ℕ) (done n : ℕ) → next ≡ take n (drop done bytes) → Appends a b (take done bytes)
    → Appends b c next → Appends a c (take (done + n) bytes)
bytes_more a b c bytes next done n is so_far more =
    rw (take-add done n bytes) (Appends-trans a b c (take done bytes) (take n (drop done bytes)) so_far (rw is at more))

-- the first bytes are a front, also if nothing follows
pub bytes_front : (a b c : Option (List ℕ)) (bytes : List ℕ) (done : ℕ) → Appends a b (take done bytes) → Appends b c [] → AppendsFront a c bytes
bytes_front a b c bytes done so_far none = (
  take done bytes,
  drop done bytes,
  take-append-drop done bytes,
  subst (Appends a c) (append-nil (take done bytes)) (Appends-trans a b c (take done bytes) [] so_far none),
)

pub bytes_all : (a b : Option (List ℕ)) (bytes : List ℕ) (done : ℕ) → length bytes ≤ done → Appends a b (take done bytes) → Appends a b bytes
bytes_all a b bytes done all written = rw (take_all done bytes all) at written

-- nothing is a front of any bytes
pub none_front : (a : Option (List ℕ)) (bytes : List ℕ) → AppendsFront a a bytes
none_front a bytes = ([], bytes, refl, Appends-nil a)

-- ---- zeros

-- the first zeros of a block of them
first_zeros : (left next n : ℕ) (some : List ℕ) → next ≡ min left 4096 → some ≡ take next (zeros 4096) → n ≤ length some → take n some ≡ zeros n
first_zeros left next n some least is fits =
    let few : next ≤ 4096 = omega (arith, least) in
    let all : some ≡ zeros next = is ∙ take-replicate {X = ℕ} next 4096 0 few in
    ap (take n) all ∙ take-replicate {X = ℕ} n next 0 (subst (λ (m : ℕ). n ≤ m) (ap length all ∙ length-replicate next 0) fits)

-- what was written, with some zeros more
pub zeros_more : (a b c : Option (List ℕ)) (some : List ℕ) (count left next n : ℕ) → left ≤ count → next ≡ min left 4096 → some ≡ take next (zeros 4096)
    → n ≤ length some → n ≤ left → Appends a b (zeros (count - left)) → Appends b c (take n some) → Appends a c (zeros (count - (left - n)))
zeros_more a b c some count left next n le least is fits within so_far more =
    let adds : count - left + n ≡ count - (left - n) = omega (arith, le, within) in
    subst (Appends a c)
    (ap (λ (xs : List ℕ). zeros (count - left) ++ xs) (first_zeros left next n some least is fits) ∙ replicate-append-replicate {A = ℕ} (count - left) n 0 ∙ ap zeros adds)
    (Appends-trans a b c (zeros (count - left)) (take n some) so_far more)

-- the zeros so far are a front, also if nothing follows
pub zeros_front : (a b c : Option (List ℕ)) (count left : ℕ) → left ≤ count → Appends a b (zeros (count - left)) → Appends b c [] → AppendsFront a c (zeros count)
zeros_front a b c count left le so_far none = (
  zeros (count - left),
  zeros left,
  let all : count - left + left ≡ count = omega (arith, le) in replicate-append-replicate {A = ℕ} (count - left) left 0 ∙ ap zeros all,
  subst (Appends a c) (append-nil (zeros (count - left))) (Appends-trans a b c (zeros (count - left)) [] so_far none),
)

-- what holds of a refusal if it holds anyway
pub on_err : {A E P : Type 0} (answer : Result A E) → P → OnErr answer P
on_err (Ok x) p = tt
on_err (Err e) p = p
