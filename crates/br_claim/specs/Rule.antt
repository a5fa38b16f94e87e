-- The rule of the claim word: what was drawn are the numbers below the word, each once.
use Rattle.std.specs.Prelude.{◌≡◌, ℕ, suc, ◌+◌, ◌<◌, ◌≤◌, ◌==◌, ltb, cond, List, [], ◌∷◌, ◌++◌, MatchBool}
use mathlib.Core.Option.{some}
use lib.ListN.{get_elem?}
use Rattle.br_claim.specs.declared.rule.Hand.{Hand}

abbrev pub hand : ℕ → ℕ → List ℕ → ℕ → Hand
hand limit parts drawn past = record { limit = limit; parts = parts; drawn = drawn; past = past }

-- the view of a seat that was joined; it belongs to no claims
abbrev pub nobody : Hand
nobody = hand 0 0 [] 0

-- the number of times that x is in the list
abbrev pub times : ℕ → List ℕ → ℕ
times x [] = 0
times x (y ∷ ys) = cond (y == x) 1 0 + times x ys

-- the sum of f of each
abbrev pub total : (Hand → ℕ) → List Hand → ℕ
total f [] = 0
total f (v ∷ vs) = f v + total f vs

-- 1 for the numbers below k, else 0
abbrev pub once_below : ℕ → ℕ → ℕ
once_below x k = cond (ltb x k) 1 0

-- each is at least `low`, and greater than those before it
abbrev pub RisesFrom : ℕ → List ℕ → Type 0
RisesFrom low [] = Unit {0}
RisesFrom low (x ∷ xs) = (low ≤ x) × RisesFrom (suc x) xs

abbrev pub AllUnder : ℕ → List ℕ → Type 0
AllUnder n [] = Unit {0}
AllUnder n (x ∷ xs) = (x < n) × AllUnder n xs

-- A seat that is not spent knows the limit. A seat without parts has drawn nothing, and one that
-- drew past the end knows that the word is there.
pub record FitsHand (n word : ℕ) (v : Hand) : Type 0 where
  pub limit : 0 < v.parts → v.limit ≡ n
  pub past : v.past ≤ v.parts
  pub idle : v.parts ≡ 0 → v.drawn ≡ []
  pub ended : 0 < v.past → n ≤ word

pub record IsGiven (n word : ℕ) (views : List Hand) : Type 0 where
  pub parts : total (λ v. v.parts) views ≡ 65536
  pub each : (x : ℕ) → total (λ v. times x v.drawn) views ≡ cond (ltb x word) (once_below x n) 0
  pub bound : word ≤ n + total (λ v. v.past) views
  pub fits : (j : ℕ) (v : Hand) → get_elem? views j ≡ some v → FitsHand n word v

abbrev pub Given : ℕ → List ℕ → List Hand → Type 0
Given n [] views = ⊥
Given n (word ∷ []) views = IsGiven n word views
Given n (word ∷ other ∷ words) views = ⊥

-- a draw: the number found is the seat's, and above all that it drew, or the end is reached
abbrev pub Drew : Hand → ℕ → Hand → Type 0
Drew v found w = MatchBool (ltb found v.limit)
    ((w ≡ hand v.limit v.parts (v.drawn ++ found ∷ []) v.past) × AllUnder found v.drawn)
    (w ≡ hand v.limit v.parts v.drawn (v.past + 1))

-- it drew the numbers below some k up to the limit, each once
abbrev pub KnowsAll : Hand → Type 0
KnowsAll v = (k : ℕ) × (k ≤ v.limit) × ((x : ℕ) → times x v.drawn ≡ once_below x k) × (0 < v.past → k ≡ v.limit)
