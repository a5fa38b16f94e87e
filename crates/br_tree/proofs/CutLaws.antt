-- Tests that the first ones of some paths pass, and no later one.
use Rattle.std.proofs.Common.{◌≡◌, ℕ, zero, suc, Bool, true, false, not, List, [], ◌∷◌, ◌++◌, take, drop, refl, sym}
use Rattle.std.proofs.lemmas.Bool.{both_ways, false_from_ne_true}
use Rattle.std.specs.List.{AllByRecursion}
use Rattle.br_model.proofs.PairLaws.{EachPair}
use Rattle.br_tree.specs.Walk.{AllPassing, NonePassing}
use Rattle.br_tree.specs.Cut.{IsFalling}
use Rattle.br_tree.proofs.RunLaws.{Falls, all_taken}

pub falling : (test : List ℕ → Bool) (ps : List (List ℕ)) → EachPair (Falls test) ps → IsFalling test ps
falling test [] h = tt
falling test (p ∷ ps) h = (h.0, falling test ps h.1)

pub pairs_fall : (test : List ℕ → Bool) (ps : List (List ℕ)) → IsFalling test ps → EachPair (Falls test) ps
pairs_fall test [] h = tt
pairs_fall test (p ∷ ps) h = (h.0, pairs_fall test ps h.1)

pub falling_taken : (test : List ℕ → Bool) (n : ℕ) (ps : List (List ℕ)) → IsFalling test ps → IsFalling test (take n ps)
falling_taken test zero ps h = tt
falling_taken test (suc n) [] h = tt
falling_taken test (suc n) (p ∷ ps) h = (all_taken (λ later. test later ≡ true → test p ≡ true) n ps h.0, falling_taken test n ps h.1)

pub falling_dropped : (test : List ℕ → Bool) (n : ℕ) (ps : List (List ℕ)) → IsFalling test ps → IsFalling test (drop n ps)
falling_dropped test zero ps h = h
falling_dropped test (suc n) [] h = tt
falling_dropped test (suc n) (p ∷ ps) h = falling_dropped test n ps h.1

at_last : (P : List ℕ → Type 0) (ps : List (List ℕ)) (p : List ℕ) → AllByRecursion P (ps ++ p ∷ []) → P p
at_last P [] p h = h.0
at_last P (q ∷ ps) p h = at_last P ps p h.1

-- if the last one passes, all do
pub last_all : (test : List ℕ → Bool) (ps : List (List ℕ)) (p : List ℕ) → IsFalling test (ps ++ p ∷ []) → test p ≡ true → AllPassing test (ps ++ p ∷ [])
last_all test [] p h e = (e, tt)
last_all test (q ∷ ps) p h e = (at_last (λ later. test later ≡ true → test q ≡ true) ps p h.0 e, last_all test ps p h.1 e)

-- if the first one fails, all do
pub first_none : (test : List ℕ → Bool) (p : List ℕ) (ps : List (List ℕ)) → IsFalling test (p ∷ ps) → test p ≡ false → NonePassing test (p ∷ ps)
first_none test p ps h e = (e, go ps h.0)
  where
    go : (qs : List (List ℕ)) → AllByRecursion (λ later. test later ≡ true → test p ≡ true) qs → NonePassing test qs
    go [] all = tt
    go (q ∷ qs) all = (false_from_ne_true (test q) (λ t. both_ways (test p) e (all.0 t)), go qs all.1)

pub false_from_not : (b : Bool) → not b ≡ true → b ≡ false
false_from_not true e = sym e
false_from_not false e = refl
