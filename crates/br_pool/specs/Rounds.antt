-- Rounds of reading, one after the other.
use Rattle.std.specs.Prelude.{◌≡◌, ◌&&◌, not, Bool, true, List, Option}
use Rattle.std.specs.List.{AllByRecursion, AllZip, list_any}
use Rattle.br_model.specs.Volume.{Volume}
use Rattle.br_model.specs.Meaning.{Piece}
use Rattle.br_pool.specs.Pool.{StandsTold}
use Rattle.br_pool.specs.Slots.{Adds, Fills, is_empty}
use Rattle.br_pool.specs.Workers.{Answer, shown_by}
use Rattle.br_pool.specs.declared.worker.Reader.{Reader}

-- each of the readers may be taken to show these volumes
abbrev pub OverAll : {D : Type 0} → (D → Option (List Volume)) → List Piece → List (Reader D) → List (Reader D) → List Volume → Type 0
OverAll shows pieces before after volumes = AllZip (StandsTold pieces volumes) (shown_by shows before) (shown_by shows after)

-- answers over what the readers showed meanwhile were put into their slots
abbrev pub AddsOver : {D : Type 0} → (D → Option (List Volume)) → List Piece → List (Reader D) → List (Reader D) → List (Option Answer) → List (Option Answer) → Type 0
AddsOver shows pieces before after slots filled = Adds (OverAll shows pieces before after) pieces slots filled

-- each filled slot has the answer for its piece, over what the readers showed meanwhile
abbrev pub FilledOver : {D : Type 0} → (D → Option (List Volume)) → List Piece → List (Reader D) → List (Reader D) → List (Option Answer) → Type 0
FilledOver shows pieces before after slots = AllZip (Fills (OverAll shows pieces before after)) pieces slots

-- if a slot is empty, each drive is out
abbrev pub AreLeftAtEnd : List Bool → List (Option Answer) → Type 0
AreLeftAtEnd flags slots = list_any is_empty slots ≡ true → AllByRecursion (λ flag. flag ≡ true) flags

-- another round is to follow: a slot is empty, and a drive is not out
abbrev pub is_turn : {D : Type 0} → List (Reader D) → List (Option Answer) → Bool
is_turn {D} readers slots = list_any is_empty slots && list_any (λ (r : Reader D). not r.out) readers
