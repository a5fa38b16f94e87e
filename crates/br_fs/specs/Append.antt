-- What several writes append.
use Rattle.std.specs.Prelude.{◌≡◌, ℕ, ◌⊎◌, List, ◌++◌, Option}
use Rattle.br_fs.specs.Tree.{Tree}
use Rattle.br_fs.specs.Calls.{Appends}

-- nothing is changed, or the first of the bytes are appended
abbrev pub AppendsInPart : List ℕ → List ℕ → Option Tree → Option Tree → Type 0
AppendsInPart path bytes earlier later =
    (later ≡ earlier) ⊎ ((front rest : List ℕ) × (front ++ rest ≡ bytes) × Appends path front earlier later)
