-- Calls of a drive for the pieces of a bootstrap, one after the other.
use Rattle.std.specs.Prelude.{◌≡◌, ℕ, List, [], ◌∷◌, ◌++◌, flat_map}
use Rattle.br_model.specs.Meaning.{Piece}
use Rattle.br_check.specs.Shown.{Moment, Shown}

-- One call for each piece: the first begins at the first moment, each begins at the moment at which
-- the one before it ended, and the last ends at the last moment. `Call` says what a call gives for
-- its piece between two moments.
abbrev pub InTurn : {B : Type 0} → (Moment → Moment → Piece → B → Type 0) → Moment → Moment → List Piece → List B → Type 0
InTurn Call first last [] [] = last ≡ first
InTurn Call first last [] (given ∷ more) = ⊥
InTurn Call first last (piece ∷ pieces) [] = ⊥
InTurn Call first last (piece ∷ pieces) (given ∷ more) = (next : Moment) × Call first next piece given × InTurn Call next last pieces more

-- the lines that such calls give were appended
abbrev pub AppendsInTurn : (Moment → Moment → Piece → List ℕ → Type 0) → Shown → List Piece → List ℕ → List ℕ → Type 0
AppendsInTurn Call s pieces before after =
    (told : List (List ℕ)) × InTurn Call s.earlier s.later pieces told × (after ≡ before ++ flat_map (λ lines. lines) told)
