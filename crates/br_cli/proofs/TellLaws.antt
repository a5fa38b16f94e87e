-- Findings that are written as they are found.
use Rattle.std.proofs.Common.{◌≡◌, ℕ, List, ◌++◌, Option, subst, sym}
use Rattle.std.proofs.KnownBytes.{Appends-trans}
use Rattle.std.specs.Io.KnownBytes.{Appends}
use Rattle.br_check.specs.Told.{TellsMore}

-- a text was written, and then what was appended to it
pub tells_after : (held now holds : Option (List ℕ)) (before after : List ℕ) → Appends held now before → TellsMore now holds before after → Appends held holds after
tells_after held now holds before after first told = subst (λ (xs : List ℕ). Appends held holds xs) (sym told.1) (Appends-trans held now holds before told.0 first told.2)
