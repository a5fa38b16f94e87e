-- What a store appends, and what stays true of the volumes that it tells.
use Rattle.std.specs.Prelude.{◌≡◌, ℕ, ◌+◌, ◌<◌, ◌⊎◌, List, [], ◌∷◌, ◌++◌, length, Option, Some, None, ⊤}
use Rattle.br_model.specs.Volume.{Volume, Extends}
use Rattle.br_model.specs.SessionHolds.{bytes_of_volume, AreAppended}
-- The later volumes are the earlier ones with bytes appended to one of them, which is made if it
-- was not there.
pub use Rattle.br_fs.specs.Tree.{AreLonger as IsAppended}
-- What is durable of a volume, what stays durable, and what a crash may leave.
pub use Rattle.br_fs.specs.Durable.{IsDurable, Lasts, MayBeLeft}

-- the calls of a store that have failed: their number, and the volume at which the last of them did
pub record Failures : Type 0 where
  pub number : ℕ
  pub volume : Option (List ℕ)

-- no call has failed
abbrev pub no_failures : Failures
no_failures = record { number = 0; volume = None }

-- one more call has failed, at this volume
abbrev pub one_more : List ℕ → Failures → Failures
one_more volume before = record { number = before.number + 1; volume = Some volume }

-- more calls have failed, the last of them at this volume
abbrev pub FailsOn : List ℕ → Failures → Failures → Type 0
FailsOn volume before after = (before.number < after.number) × (after.volume ≡ Some volume)

-- nothing is changed, or the first of the bytes are appended
abbrev pub IsAppendedInPart : List ℕ → List ℕ → List Volume → List Volume → Type 0
IsAppendedInPart volume bytes earlier later =
    (later ≡ earlier) ⊎ ((front rest : List ℕ) × (front ++ rest ≡ bytes) × IsAppended volume front earlier later)

-- A store tells its volumes always or never. If it tells them, the bytes are appended.
abbrev pub AppendsTo : List ℕ → List ℕ → Option (List Volume) → Option (List Volume) → Type 0
AppendsTo volume bytes None None = ⊤
AppendsTo volume bytes (Some earlier) (Some later) = IsAppended volume bytes earlier later
AppendsTo volume bytes None (Some later) = ⊥
AppendsTo volume bytes (Some earlier) None = ⊥

-- A store tells its volumes always or never. If it tells them, at most the first of the bytes are
-- appended.
abbrev pub AppendsInPartTo : List ℕ → List ℕ → Option (List Volume) → Option (List Volume) → Type 0
AppendsInPartTo volume bytes None None = ⊤
AppendsInPartTo volume bytes (Some earlier) (Some later) = IsAppendedInPart volume bytes earlier later
AppendsInPartTo volume bytes None (Some later) = ⊥
AppendsInPartTo volume bytes (Some earlier) None = ⊥

-- if the store tells its volumes, this is the length of one of them; 0 if it does not exist
abbrev pub IsLengthIn : Option (List Volume) → List ℕ → ℕ → Type 0
IsLengthIn None volume n = ⊤
IsLengthIn (Some volumes) volume n = n ≡ length (bytes_of_volume volumes volume)

-- if the store tells its volumes and what is durable, all bytes of this volume are durable
abbrev pub IsDurableIn : Option (List Volume) → Option (List Volume) → List ℕ → Type 0
IsDurableIn None durable volume = ⊤
IsDurableIn (Some volumes) None volume = ⊤
IsDurableIn (Some volumes) (Some durable) volume = IsDurable volumes durable volume

-- blocks, each with the name of its volume, are appended one after another
abbrev pub AreAppendedInTurn : List (List ℕ × List ℕ) → List Volume → List Volume → Type 0
AreAppendedInTurn [] earlier later = later ≡ earlier
AreAppendedInTurn (b ∷ bs) earlier later =
    (middle : List Volume) × IsAppended b.0 b.1 earlier middle × AreAppendedInTurn bs middle later

-- Blocks that are appended one after another are all appended, each to its volume, and each volume
-- only grows at its end.
abbrev pub AppendsAddUp : Type 0
AppendsAddUp =
    (blocks : List (List ℕ × List ℕ)) (earlier later : List Volume) → AreAppendedInTurn blocks earlier later
    → AreAppended blocks earlier later × Extends later earlier
