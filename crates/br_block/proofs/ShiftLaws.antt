-- A register that is shifted is linear: what comes of `a` exclusive or `b` is what comes of both, exclusive or. So bytes may be taken in
-- together.
use Rattle.std.proofs.Common.{◌≡◌, ◌∙◌, ℕ, zero, suc, ◌+◌, ◌-◌, ◌*◌, ◌/◌, ◌%◌, ◌^◌, ◌<◌, ◌≤◌, List, [], ◌∷◌, length, get_or, take, drop, refl, sym, ap, arith}
use Rattle.std.specs.Prelude.{bit_xor}
use Rattle.std.specs.Int.{from_le_bytes, w64}
use Rattle.std.proofs.Math.Nat.{mul_assoc, pow-suc}
use Rattle.std.proofs.Math.Seq.{take-add}
use Rattle.std.proofs.lemmas.Nat.{shr_below, xor_comm, xor_mod, xor_shr}
use Rattle.std.proofs.lemmas.List.{length-drop, length-take}
use Rattle.std.proofs.lemmas.List.Sums.{fold-append}
use lib.Bits.{xor_assoc, xor_shifted, xor_zero_r}
use Rattle.br_block.specs.Crc.{after, next, shifted, shifted_by, taken}

-- ---- sums of bits

-- the second and the third of four change places
crossed : (a b c d : ℕ) → bit_xor (bit_xor a b) (bit_xor c d) ≡ bit_xor (bit_xor a c) (bit_xor b d)
crossed a b c d =
    xor_assoc a b (bit_xor c d) ∙ ap (bit_xor a) (sym (xor_assoc b c d) ∙ ap (λ x. bit_xor x d) (xor_comm b c) ∙ xor_assoc c b d) ∙ sym (xor_assoc a c (bit_xor b d))

taken_xor : (x y : ℕ) → x < 2 → y < 2 → taken (bit_xor x y) ≡ bit_xor (taken x) (taken y)
taken_xor zero zero p q = refl
taken_xor zero (suc zero) p q = refl
taken_xor (suc zero) zero p q = refl
taken_xor (suc zero) (suc zero) p q = refl
taken_xor zero (suc (suc y)) p q = absurd (omega (arith, q))
taken_xor (suc zero) (suc (suc y)) p q = absurd (omega (arith, q))
taken_xor (suc (suc x)) y p q = absurd (omega (arith, p))

shifted_xor : (a b : ℕ) → shifted (bit_xor a b) ≡ bit_xor (shifted a) (shifted b)
unfolding shifted
shifted_xor a b =
    ap (λ x. bit_xor x (taken (bit_xor a b % 2))) (xor_shr a b 1) ∙ ap (λ x. bit_xor (bit_xor (a / 2) (b / 2)) (taken x)) (xor_mod a b 1)
    ∙ ap (bit_xor (bit_xor (a / 2) (b / 2))) (taken_xor (a % 2) (b % 2) (omega arith) (omega arith)) ∙ crossed (a / 2) (b / 2) (taken (a % 2)) (taken (b % 2))

shifted_by_xor : (n a b : ℕ) → shifted_by n (bit_xor a b) ≡ bit_xor (shifted_by n a) (shifted_by n b)
unfolding shifted_by
shifted_by_xor zero a b = refl
shifted_by_xor (suc n) a b = ap (shifted_by n) (shifted_xor a b) ∙ shifted_by_xor n (shifted a) (shifted b)

-- ---- numbers of bits

-- one bit first
one_first : (n k r : ℕ) → k ≡ suc n → shifted_by k r ≡ shifted_by n (shifted r)
unfolding shifted_by
one_first n zero r is = absurd (omega (arith, is))
one_first n (suc k) r is = let e : k ≡ n = omega (arith, is) in ap (λ j. shifted_by j (shifted r)) e

-- none
pub none_left : (k r : ℕ) → k ≡ 0 → shifted_by k r ≡ r
unfolding shifted_by
none_left zero r is = refl
none_left (suc k) r is = absurd (omega (arith, is))

-- some bits, and then others
some_first : (m n k r : ℕ) → k ≡ m + n → shifted_by k r ≡ shifted_by n (shifted_by m r)
unfolding shifted_by
some_first zero n k r is = let e : k ≡ n = omega (arith, is) in ap (λ j. shifted_by j r) e
some_first (suc m) n k r is = one_first (m + n) k r (omega (arith, is)) ∙ some_first m n (m + n) (shifted r) refl

shifted_double : (x : ℕ) → shifted (x * 2) ≡ x
unfolding shifted
shifted_double x =
    let half : x * 2 / 2 ≡ x = omega arith in
    let even : x * 2 % 2 ≡ 0 = omega arith in
    ap (λ y. bit_xor y (taken (x * 2 % 2))) half ∙ ap (λ y. bit_xor x (taken y)) even ∙ xor_zero_r x

-- bits that are 0 only move those above them
moved_down : (n x : ℕ) → shifted_by n (x * 2 ^ n) ≡ x
unfolding shifted_by
moved_down zero x = omega arith
moved_down (suc n) x =
    let twice : x * 2 ^ suc n ≡ x * 2 ^ n * 2 = ap (λ p. x * p) (pow-suc 2 n) ∙ sym (mul_assoc x (2 ^ n) 2) in
    ap (λ y. shifted_by n (shifted y)) twice ∙ ap (shifted_by n) (shifted_double (x * 2 ^ n)) ∙ moved_down n x

-- ---- the lowest byte

-- a number is its lowest byte and the others
parted : (x : ℕ) → x ≡ bit_xor (x / 256 * 256) (x % 256)
parted x = let whole : bit_xor (x / 256 * 256) (x % 256) ≡ x / 256 * 256 + x % 256 = xor_shifted (x / 256) 8 (x % 256) (omega arith) in omega (arith, whole)

-- The lowest byte and the others may be shifted apart: the others are moved down first.
byte_first : (n k x : ℕ) → k ≡ 8 + n → shifted_by k x ≡ bit_xor (shifted_by n (x / 256)) (shifted_by k (x % 256))
byte_first n k x is =
    ap (shifted_by k) (parted x) ∙ shifted_by_xor k (x / 256 * 256) (x % 256)
    ∙ ap (λ y. bit_xor y (shifted_by k (x % 256))) (some_first 8 n k (x / 256 * 256) is ∙ ap (shifted_by n) (moved_down 8 (x / 256)))

-- ---- bytes that are taken in together

-- bytes as a number, the lowest first
unfoldable low_first : List ℕ → ℕ
low_first [] = 0
low_first (b ∷ bs) = b + low_first bs * 256

-- Some bytes may be taken in at once, and then all their bits shifted.
at_once : (k r : ℕ) (bs : List ℕ) → ((i : ℕ) → get_or bs i 0 < 256) → k ≡ 8 * length bs → after r bs ≡ shifted_by k (bit_xor r (low_first bs))
unfolding low_first
at_once k r [] below is = sym (none_left k (bit_xor r 0) (omega (arith, is)) ∙ xor_zero_r r)
at_once k r (b ∷ bs) below is =
    let n = low_first bs in
    let first : b < 256 = below 0 in
    let joined : bit_xor (n * 256) b ≡ b + n * 256 = omega (arith, xor_shifted n 8 b first) in
    let both : bit_xor (bit_xor r b) (n * 256) ≡ bit_xor r (b + n * 256) = xor_assoc r b (n * 256) ∙ ap (bit_xor r) (xor_comm b (n * 256) ∙ joined) in
    at_once (8 * length bs) (next r b) bs (λ i. below (suc i)) refl
    ∙ ap (λ x. shifted_by (8 * length bs) (bit_xor (next r b) x)) (sym (moved_down 8 n))
    ∙ ap (shifted_by (8 * length bs)) (sym (shifted_by_xor 8 (bit_xor r b) (n * 256)))
    ∙ sym (some_first 8 (8 * length bs) k (bit_xor (bit_xor r b) (n * 256)) (omega (arith, is)))
    ∙ ap (shifted_by k) both

-- eight bytes are a number of 64 bits
word_is : (bs : List ℕ) → length bs ≡ 8 → from_le_bytes w64 bs ≡ low_first bs
unfolding low_first
word_is (b0 ∷ b1 ∷ b2 ∷ b3 ∷ b4 ∷ b5 ∷ b6 ∷ b7 ∷ []) is = omega arith
word_is bs is = absurd (omega (arith, is))

-- bytes from the front of bytes, and those after it
front_below : (n : ℕ) (bs : List ℕ) → ((i : ℕ) → get_or bs i 0 < 256) → (i : ℕ) → get_or (take n bs) i 0 < 256
front_below zero bs below i = omega arith
front_below (suc n) [] below i = below i
front_below (suc n) (b ∷ bs) below zero = below 0
front_below (suc n) (b ∷ bs) below (suc i) = front_below n bs (λ j. below (suc j)) i

rest_below : (n : ℕ) (bs : List ℕ) → ((i : ℕ) → get_or bs i 0 < 256) → (i : ℕ) → get_or (drop n bs) i 0 < 256
rest_below zero bs below i = below i
rest_below (suc n) [] below i = below i
rest_below (suc n) (b ∷ bs) below i = rest_below n bs (λ j. below (suc j)) i

-- eight bytes are taken in at once
pub word_taken_in : (r at : ℕ) (bytes : List ℕ) → at + 8 ≤ length bytes → ((i : ℕ) → get_or bytes i 0 < 256)
    → shifted_by 64 (bit_xor r (from_le_bytes w64 (take 8 (drop at bytes)))) ≡ after r (take 8 (drop at bytes))
word_taken_in r at bytes inside below =
    let bs = take 8 (drop at bytes) in
    let eight : length bs ≡ 8 = omega (arith, inside, length-take 8 (drop at bytes), length-drop at bytes) in
    ap (λ n. shifted_by 64 (bit_xor r n)) (word_is bs eight) ∙ sym (at_once 64 r bs (front_below 8 (drop at bytes) (rest_below at bytes below)) (omega (arith, eight)))

-- ---- what the functions keep

-- one bit more
pub bit_more : (bits count r first : ℕ) → count < bits → shifted_by (bits - count) r ≡ shifted_by bits first → shifted_by (bits - (count + 1)) (shifted r) ≡ shifted_by bits first
bit_more bits count r first inside is = sym (one_first (bits - (count + 1)) (bits - count) r (omega (arith, inside))) ∙ is

-- one byte by the first row
pub byte_taken_in : (r b : ℕ) → bit_xor (bit_xor r b / 256) (shifted_by 8 (bit_xor r b % 256)) ≡ next r b
byte_taken_in r b =
    ap (λ x. bit_xor x (shifted_by 8 (bit_xor r b % 256))) (sym (none_left 0 (bit_xor r b / 256) refl)) ∙ sym (byte_first 0 8 (bit_xor r b) refl)

-- one byte of a word by its row
pub row_taken : (row r left e word : ℕ) → row < 8 → e ≡ shifted_by (8 * (7 - row + 1)) (left % 256) → bit_xor r (shifted_by (8 * (8 - row)) left) ≡ shifted_by 64 word
    → bit_xor (bit_xor r e) (shifted_by (8 * (8 - (row + 1))) (left / 256)) ≡ shifted_by 64 word
row_taken row r left e word inside is both =
    let n = 8 * (8 - (row + 1)) in
    let k = 8 * (8 - row) in
    let rows : 8 * (7 - row + 1) ≡ k = omega (arith, inside) in
    xor_assoc r e (shifted_by n (left / 256))
    ∙ ap (bit_xor r)
    (xor_comm e (shifted_by n (left / 256)) ∙ ap (bit_xor (shifted_by n (left / 256))) (is ∙ ap (λ j. shifted_by j (left % 256)) rows)
    ∙ sym (byte_first n k left (omega (arith, inside)))) ∙ both

-- what is left of a word
pub row_left : (row left : ℕ) → row < 8 → left < 2 ^ (8 * (8 - row)) → left / 256 < 2 ^ (8 * (8 - (row + 1)))
row_left row left inside low =
    let parts : 8 * (8 - row) ≡ 8 * (8 - (row + 1)) + 8 = omega (arith, inside) in
    shr_below left (8 * (8 - (row + 1))) 8 (omega (arith, low, ap (λ j. 2 ^ j) parts))

-- at the end nothing is left
pub rows_end : (row r left word : ℕ) → 8 ≤ row → left < 2 ^ (8 * (8 - row)) → bit_xor r (shifted_by (8 * (8 - row)) left) ≡ shifted_by 64 word → r ≡ shifted_by 64 word
rows_end row r left word ended low both =
    let bits : 8 * (8 - row) ≡ 0 = omega (arith, ended) in
    let nothing : left ≡ 0 = omega (arith, low, ap (λ j. 2 ^ j) bits) in
    sym (xor_zero_r r) ∙ ap (bit_xor r) (sym (none_left (8 * (8 - row)) left bits ∙ nothing)) ∙ both

-- one word more
pub word_more : (r place : ℕ) (bytes : List ℕ) → after (after r (take (place * 8) bytes)) (take 8 (drop (place * 8) bytes)) ≡ after r (take ((place + 1) * 8) bytes)
word_more r place bytes =
    let more : place * 8 + 8 ≡ (place + 1) * 8 = omega arith in
    sym (fold-append next r (take (place * 8) bytes) (take 8 (drop (place * 8) bytes)))
    ∙ ap (after r) (sym (take-add (place * 8) 8 bytes) ∙ ap (λ n. take n bytes) more)
