-- The contents of a writer after a write that failed.
use Rattle.std.specs.Prelude.{◌≡◌, ℕ, List, ◌++◌, Option}
use Rattle.std.specs.Io.KnownBytes.{Appends}

-- the first of the bytes are appended, maybe none of them
abbrev pub AppendsFront : Option (List ℕ) → Option (List ℕ) → List ℕ → Type 0
AppendsFront earlier later bytes = (front rest : List ℕ) × (front ++ rest ≡ bytes) × Appends earlier later front
