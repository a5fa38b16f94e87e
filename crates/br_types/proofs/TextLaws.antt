-- Texts to which a part is appended for each element of a list.
use Rattle.std.proofs.Common.{◌≡◌, ℕ, ◌+◌, ◌<◌, ◌≤◌, List, [], ◌∷◌, ◌++◌, length, take, get_or, flat_map, Result, Ok, Err, OnErr, ap, sym, ◌∙◌, append_assoc}
use Rattle.std.proofs.Math.Seq.{take-append_seam}
use Rattle.std.proofs.lemmas.List.{append-nil, take_all, take_more}
use Rattle.std.proofs.lemmas.Grind.{flat_map-append}

-- the parts of one element more
pub lines_more : {X : Type 0} (part : X → List ℕ) (xs : List X) (i : ℕ) (d : X) → i < length xs
    → flat_map part (take (i + 1) xs) ≡ flat_map part (take i xs) ++ part (get_or xs i d)
lines_more part xs i d less =
    ap (flat_map part) (take_more xs i d less) ∙ flat_map-append part (take i xs) (get_or xs i d ∷ [])
    ∙ ap (λ (more : List ℕ). flat_map part (take i xs) ++ more) (append-nil (part (get_or xs i d)))

-- a text after one element more
pub pushed_more : {X : Type 0} (part : X → List ℕ) (xs : List X) (i : ℕ) (d : X) (before now new : List ℕ) → i < length xs
    → now ≡ before ++ flat_map part (take i xs) → new ≡ now ++ part (get_or xs i d) → new ≡ before ++ flat_map part (take (i + 1) xs)
pushed_more part xs i d before now new less so_far pushed =
    pushed ∙ ap (λ (text : List ℕ). text ++ part (get_or xs i d)) so_far
    ∙ append_assoc before (flat_map part (take i xs)) (part (get_or xs i d))
    ∙ ap (λ (more : List ℕ). before ++ more) (sym (lines_more part xs i d less))

-- a text after the last element
pub pushed_all : {X : Type 0} (part : X → List ℕ) (xs : List X) (i : ℕ) (before now : List ℕ) → length xs ≤ i
    → now ≡ before ++ flat_map part (take i xs) → now ≡ before ++ flat_map part xs
pushed_all {X} part xs i before now end so_far = so_far ∙ ap (λ (done : List X). before ++ flat_map part done) (take_all i xs end)

-- what was there before stays
pub kept_before : (before more now : List ℕ) → now ≡ before ++ more → take (length before) now ≡ before
kept_before before more now is = ap (take (length before)) is ∙ take-append_seam before more

-- a fact holds of an error, too
pub of_error : {T E : Type 0} {P : Type 0} (result : Result T E) → P → OnErr result P
of_error (Ok x) holds = tt
of_error (Err e) holds = holds
