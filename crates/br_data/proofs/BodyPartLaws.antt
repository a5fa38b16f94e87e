-- The parts of a file, one after another, and zeros, block by block.
use Rattle.std.proofs.Common.{◌≡◌, ℕ, zero, suc, ◌+◌, ◌-◌, ◌<◌, ◌≤◌, List, [], ◌∷◌, ◌++◌, length, get_or, slice_set, take, drop, min, replicate, sym, ap, ◌∙◌, arith, append_assoc}
use Rattle.std.proofs.lemmas.Grind.{flat_map-append}
use Rattle.std.proofs.lemmas.List.{append-nil, take_more, take-replicate, replicate-append-replicate, take-append-drop}
use Rattle.br_data.specs.declared.body_part.Part.{Part}
use Rattle.br_data.specs.BodyParts.{part_bytes, joined}

-- the bytes of one part more
pub joined_more : (parts : List Part) (i : ℕ) (x : Part) → i < length parts → x ≡ get_or parts i x → joined (take (i + 1) parts) ≡ joined (take i parts) ++ part_bytes x
joined_more parts i x within is =
    ap joined (take_more parts i x within) ∙ flat_map-append part_bytes (take i parts) (get_or parts i x ∷ [])
    ∙ ap (λ (bytes : List ℕ). joined (take i parts) ++ bytes) (append-nil (part_bytes (get_or parts i x)) ∙ ap part_bytes (sym is))

-- bytes after others, with one part more
pub pushed_one : (parts : List Part) (i : ℕ) (x : Part) (first before now : List ℕ) → i < length parts → x ≡ get_or parts i x
    → before ≡ first ++ joined (take i parts) → now ≡ before ++ part_bytes x → now ≡ first ++ joined (take (i + 1) parts)
pushed_one parts i x first before now within is so_far more =
    more ∙ ap (λ (bytes : List ℕ). bytes ++ part_bytes x) so_far ∙ append_assoc first (joined (take i parts)) (part_bytes x)
    ∙ ap (λ (bytes : List ℕ). first ++ bytes) (sym (joined_more parts i x within is))

-- the parts before one, this one and those after it
pub joined_around : (parts : List Part) (i : ℕ) (x : Part) → i < length parts → x ≡ get_or parts i x
    → joined (take i parts) ++ (part_bytes x ++ joined (drop (i + 1) parts)) ≡ joined parts
joined_around parts i x within is =
    sym (append_assoc (joined (take i parts)) (part_bytes x) (joined (drop (i + 1) parts)))
    ∙ ap (λ (bytes : List ℕ). bytes ++ joined (drop (i + 1) parts)) (sym (joined_more parts i x within is))
    ∙ sym (flat_map-append part_bytes (take (i + 1) parts) (drop (i + 1) parts)) ∙ ap joined (take-append-drop (i + 1) parts)

-- ---- zeros

abbrev pub zeros : ℕ → List ℕ
zeros n = replicate n 0

-- zeros so far, and some more
zeros_more : (count left next : ℕ) → left ≤ count → next ≡ min left 4096 → zeros (count - left) ++ zeros next ≡ zeros (count - (left - next))
zeros_more count left next le least =
    let adds : count - left + next ≡ count - (left - next) = omega (arith, le, least) in
    replicate-append-replicate {A = ℕ} (count - left) next 0 ∙ ap zeros adds

-- some zeros of a block
some_zeros : (left next : ℕ) (some : List ℕ) → next ≡ min left 4096 → some ≡ take next (zeros 4096) → some ≡ zeros next
some_zeros left next some least is = let few : next ≤ 4096 = omega (arith, least) in is ∙ take-replicate {X = ℕ} next 4096 0 few

-- a message with some zeros more
pub message_more : (m some : List ℕ) (count left next : ℕ) → left ≤ count → next ≡ min left 4096 → some ≡ take next (zeros 4096)
    → (m ++ zeros (count - left)) ++ some ≡ m ++ zeros (count - (left - next))
message_more m some count left next le least is =
    append_assoc m (zeros (count - left)) some
    ∙ ap (λ (xs : List ℕ). m ++ xs) (ap (λ (xs : List ℕ). zeros (count - left) ++ xs) (some_zeros left next some least is) ∙ zeros_more count left next le least)

-- if none are left, all are done
pub none_left : (count left : ℕ) → left ≤ 0 → zeros (count - left) ≡ zeros count
none_left count left past = let all : count - left ≡ count = omega (arith, past) in ap zeros all

pub none_done : (count : ℕ) → zeros (count - count) ≡ []
none_done count = let none : count - count ≡ 0 = omega arith in ap zeros none

-- a part in the place of one with the same bytes
pub joined_set : (parts : List Part) (i : ℕ) (x y : Part) → i < length parts → x ≡ get_or parts i x → part_bytes y ≡ part_bytes x → joined (slice_set parts i y) ≡ joined parts
joined_set [] i x y within is same = absurd (omega (arith, within))
joined_set (p ∷ ps) zero x y within is same = ap (λ (bytes : List ℕ). bytes ++ joined ps) (same ∙ ap part_bytes is)
joined_set (p ∷ ps) (suc i) x y within is same = ap (λ (bytes : List ℕ). part_bytes p ++ bytes) (joined_set ps i x y (omega (arith, within)) is same)
