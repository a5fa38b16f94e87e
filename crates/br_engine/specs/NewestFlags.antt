-- Outcomes as copies of their paths, and which of them are the newest.
use Rattle.std.specs.Prelude.{◌≡◌, Bool, false, List, [], ◌∷◌, map}
use Rattle.br_model.specs.Name.{FileKey}
use Rattle.br_model.specs.Restored.{Restored}
use Rattle.br_join.specs.Outcome.{restored}
use Rattle.br_join.specs.declared.item.Outcome.{Outcome}
use Rattle.br_types.specs.Newest.{AreNoted, Copy, copies_of, copy_of, is_current, is_newest}
use Rattle.br_types.specs.declared.newest.NewestCopies.{NewestCopies}

-- whichever outcomes are noted, one more is noted, at the front
abbrev pub NotesFirst : NewestCopies → NewestCopies → Restored → Type 0
NotesFirst before after r = (rs : List Restored) → AreNoted before (copies_of rs) → AreNoted after (copies_of (r ∷ rs))

-- whichever copies are noted, the result is true if the outcome is current among them
abbrev pub SaysCurrent : NewestCopies → Restored → Bool → Type 0
SaysCurrent noted r answer = (copies : List Copy) → AreNoted noted copies → answer ≡ is_current copies (copy_of r)

-- the flag at the front, false if there is none
abbrev pub front_flag : List Bool → Bool
front_flag [] = false
front_flag (flag ∷ flags) = flag

-- for each of the outcomes, true if it is among the newest
abbrev pub newest_flags : List (FileKey × Outcome) → List Bool
newest_flags outcomes = map (λ o. is_newest (map restored outcomes) (restored o)) outcomes
