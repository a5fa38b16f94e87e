-- How callers see claims and their seats.
use Rattle.std.specs.Prelude.{◌≡◌, ℕ, ◌≤◌, ◌+◌, Bool, true, false, cond, List, [], ◌∷◌, ◌++◌, Option, MatchOption}
use Rattle.std.specs.List.{AllByRecursion, list_any}
use Rattle.atomic_table.specs.Seated.{TableId}
use Rattle.br_claim.specs.declared.rule.Hand.{Hand}
use Rattle.br_claim.specs.Rule.{hand, times, once_below, RisesFrom}

-- the claims of the word, and the numbers' limit
pub record Counted : Type 0 where
  pub claims : TableId
  pub limit : ℕ

-- the claims' identity, the numbers' limit, and the number of seats made
pub record Claimed : Type 0 where
  pub claims : TableId
  pub limit : ℕ
  pub seats : ℕ

-- the claims from which it draws, their limit, the numbers that it drew, and whether it found that
-- none is left
pub record Seated : Type 0 where
  pub claims : TableId
  pub limit : ℕ
  pub drawn : List ℕ
  pub ended : Bool

-- a seat that has not drawn yet
abbrev pub fresh_seat : Claimed → Seated
fresh_seat c = record { claims = c.claims; limit = c.limit; drawn = []; ended = false }

-- the seat after it drew one more number
abbrev pub with_number : Seated → ℕ → Seated
with_number s x = record s { drawn = s.drawn ++ x ∷ [] }

-- the seat after it found that none is left
abbrev pub told_none : Seated → Seated
told_none s = record s { ended = true }

-- A draw gave one more number to a seat that had not ended, or the seat ended.
abbrev pub HasDrawn : Seated → Seated → Option ℕ → Type 0
HasDrawn before after result = MatchOption result (after ≡ told_none before) (λ x. (before.ended ≡ false) × (after ≡ with_number before x))

-- each number is greater than the one before it
abbrev pub IsAscending : List ℕ → Type 0
IsAscending xs = RisesFrom 0 xs

-- the number of times that x is in the lists
abbrev pub times_in : ℕ → List (List ℕ) → ℕ
times_in x [] = 0
times_in x (xs ∷ lists) = times x xs + times_in x lists

-- each list ascends
abbrev pub AllAscending : List (List ℕ) → Type 0
AllAscending lists = AllByRecursion IsAscending lists

-- whether some seat found that none is left
abbrev pub some_ended : List Seated → Bool
some_ended seats = list_any (λ (s : Seated). s.ended) seats

-- the seats draw from these claims
abbrev pub AllOf : TableId → List Seated → Type 0
AllOf claims seats = AllByRecursion (λ (s : Seated). s.claims ≡ claims) seats

-- The lists have the numbers below some k up to n, each once and ascending in each list: all
-- numbers below n if a seat found that none is left.
pub record AreDealt (n : ℕ) (ended : Bool) (lists : List (List ℕ)) : Type 0 where
  pub ascending : AllAscending lists
  pub each : (k : ℕ) × (k ≤ n) × ((x : ℕ) → times_in x lists ≡ once_below x k) × (ended ≡ true → k ≡ n)

-- the claims' own view after a seat is joined
abbrev pub with_seat : Hand → Seated → Hand
with_seat v s = hand v.limit (v.parts + 1) (v.drawn ++ s.drawn) (v.past + cond s.ended 1 0)

-- the view after several seats are joined, one after the other
abbrev pub with_seats : Hand → List Seated → Hand
with_seats v [] = v
with_seats v (s ∷ ss) = with_seats (with_seat v s) ss
