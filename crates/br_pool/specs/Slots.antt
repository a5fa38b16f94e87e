-- Answers in the slots of their pieces.
use Rattle.std.specs.Prelude.{◌≡◌, ℕ, suc, ◌<◌, cond, if◌then◌else◌, Bool, true, false, List, [], ◌∷◌, ◌++◌, map, slice_set, Vec, Option, Some, None, Result, Ok, Err, ⊤}
use Rattle.std.specs.Global.{Global}
use Rattle.std.specs.List.{AllByRecursion, list_any}
use Rattle.br_model.specs.Volume.{Volume}
use Rattle.br_model.specs.Meaning.{Piece}
use Rattle.br_match.specs.declared.hit.Found.{Found}
use Rattle.br_match.specs.declared.fault.PieceFault.{PieceFault}
use Rattle.br_match.specs.declared.fault.PieceFault.TheVariants as piece
use Rattle.br_pool.specs.Workers.{Answer, EachHolds, IsAnswer, count_in}
use Rattle.br_pool.specs.declared.fault.PoolFault.{PoolFault}
use Rattle.br_pool.specs.declared.fault.PoolFault.TheVariants.{Memory, Piece as OfPiece, NoDriveLeft}

-- ---- slots that are filled

-- the slots, with each answer in the slot of its number
abbrev pub with_each : List (Option Answer) → List (ℕ × Answer) → List (Option Answer)
with_each slots [] = slots
with_each slots (a ∷ answers) = with_each (slice_set slots a.0 (Some a.1)) answers

-- each number is below n
abbrev pub AllBelow : ℕ → List (ℕ × Answer) → Type 0
AllBelow n answers = AllByRecursion (λ (a : ℕ × Answer). a.0 < n) answers

-- this holds of the piece and of the answer in its slot, if there is an answer
abbrev pub FillsBy : (Piece → Answer → Type 0) → Piece → Option Answer → Type 0
FillsBy is p None = ⊤
FillsBy is p (Some a) = is p a

-- a filled slot has the answer for its piece
abbrev pub Fills : (List Volume → Type 0) → Piece → Option Answer → Type 0
Fills over = FillsBy (IsAnswer over)

-- answers for which this holds were put into their slots
abbrev pub AddsBy : (Piece → Answer → Type 0) → List Piece → List (Option Answer) → List (Option Answer) → Type 0
AddsBy is pieces before after = (answers : List (ℕ × Answer)) × (after ≡ with_each before answers) × EachHolds is pieces answers

-- answers were put into their slots
abbrev pub Adds : (List Volume → Type 0) → List Piece → List (Option Answer) → List (Option Answer) → Type 0
Adds over = AddsBy (IsAnswer over)

-- ---- slots that are empty

-- the piece has no answer yet
abbrev pub is_empty : Option Answer → Bool
is_empty None = true
is_empty (Some a) = false

-- the places of the empty slots, counted from k
abbrev pub empties : ℕ → List (Option Answer) → List ℕ
empties k [] = []
empties k (s ∷ slots) = (if is_empty s then k ∷ [] else []) ++ empties (suc k) slots

-- The greatest number of rounds that can follow: none if no slot is empty. Each round takes a drive
-- out or leaves no slot empty.
abbrev pub rounds_left : List Bool → List (Option Answer) → ℕ
rounds_left flags slots = cond (list_any is_empty slots) (suc (count_in flags)) 0

-- ---- the result

-- memory ran out during the reading of the piece
abbrev pub is_memory : Option Answer → Bool
is_memory None = false
is_memory (Some (Ok found)) = false
is_memory (Some (Err piece.Memory)) = true
is_memory (Some (Err (piece.Block why vol addr))) = false

-- slots with what was found
abbrev pub full_of : List Found → List (Option Answer)
full_of founds = map (λ (f : Found). Some (Ok f)) founds

-- a slot has this refusal, and the slots before it have what was found
pub record IsFirstFault (slots : List (Option Answer)) (why : PieceFault) : Type 0 where
  pub front : List Found
  pub rest : List (Option Answer)
  pub parted : slots ≡ full_of front ++ Some (Err why) ∷ rest

-- The result contains what all slots have, in their order. Else memory ran out, here or during the
-- reading of a piece; or else a slot is empty; or else it is the first refusal.
abbrev pub IsListed : List (Option Answer) → Result (Vec Found Global) PoolFault → Type 0
IsListed slots (Ok founds) = slots ≡ full_of founds.items
IsListed slots (Err Memory) = ⊤
IsListed slots (Err NoDriveLeft) = (list_any is_memory slots ≡ false) × (list_any is_empty slots ≡ true)
IsListed slots (Err (OfPiece why)) = (list_any is_memory slots ≡ false) × IsFirstFault slots why
