-- Lines that are written as they are found.
use Rattle.std.specs.Prelude.{◌≡◌, ℕ, List, ◌++◌, length, Option}
use Rattle.std.specs.Io.KnownBytes.{Appends}

-- what was appended to a text was written, too
abbrev pub TellsMore : Option (List ℕ) → Option (List ℕ) → List ℕ → List ℕ → Type 0
TellsMore held holds before after = (more : List ℕ) × (after ≡ before ++ more) × Appends held holds more

-- what a text has after this number of bytes was written
abbrev pub TellsFrom : ℕ → Option (List ℕ) → Option (List ℕ) → List ℕ → Type 0
TellsFrom from held holds text = (front more : List ℕ) → text ≡ front ++ more → from ≡ length front → Appends held holds more
