-- A part of the groups of a piece that contains all groups that cover an address.
use Rattle.std.specs.Prelude.{◌≡◌, ℕ, ◌<◌, ◌^◌, ◌++◌, false, List, length}
use Rattle.std.specs.List.{AllZip, slice_index_or}
use Rattle.std.specs.List.Sorted.{IsNonDecreasingBy}
use Rattle.br_model.specs.Bootstrap.{Group}
use Rattle.br_model.specs.Meaning.{covers}

-- the group covers no address above this one
abbrev pub EndsBy : ℕ × Group → ℕ → Type 0
EndsBy g end = (n : ℕ) → end < n → n < 2 ^ 64 → covers g.1 n ≡ false

-- the group covers no address below this one
abbrev pub BeginsAt : ℕ × Group → ℕ → Type 0
BeginsAt g start = (n : ℕ) → n < start → covers g.1 n ≡ false

-- for each group an address above which it covers none; as these do not fall, no group before it
-- covers one there either
pub record AreEnds (groups : List (ℕ × Group)) (ends : List ℕ) : Type 0 where
  pub rising : IsNonDecreasingBy (λ (n : ℕ). n) ends
  pub each : AllZip EndsBy groups ends

-- for each group an address below which it covers none; as these do not fall, no group after it
-- covers one there either
pub record AreStarts (groups : List (ℕ × Group)) (starts : List ℕ) : Type 0 where
  pub rising : IsNonDecreasingBy (λ (n : ℕ). n) starts
  pub each : AllZip BeginsAt groups starts

-- both for the groups of a piece
pub record IsBounded (groups : List (ℕ × Group)) (ends starts : List ℕ) : Type 0 where
  pub ended : AreEnds groups ends
  pub begun : AreStarts groups starts

-- the groups before some of them, and those after these, do not cover the address
pub record IsAround (address : ℕ) (groups near : List (ℕ × Group)) : Type 0 where
  pub before : List (ℕ × Group)
  pub after : List (ℕ × Group)
  pub all : groups ≡ before ++ (near ++ after)
  pub ended : (k : ℕ) (d : ℕ × Group) → k < length before → covers (slice_index_or before k d).1 address ≡ false
  pub begun : (k : ℕ) (d : ℕ × Group) → k < length after → covers (slice_index_or after k d).1 address ≡ false
