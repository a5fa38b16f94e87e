-- From the text of a bootstrap and volumes to the files.
use Rattle.std.specs.Prelude.{◌≡◌, ℕ, List, map, Option, Some, None, Result, Ok, ⊤}
use Rattle.std.specs.Io.KnownBytes.{Keeps}
use Rattle.br_model.specs.Answer.{refused_as, Answers, ◌>>=◌}
use Rattle.br_model.specs.Volume.{Volume}
use Rattle.br_model.specs.Bootstrap.{Group}
use Rattle.br_model.specs.BootstrapText.{read_bootstrap}
use Rattle.br_model.specs.Meaning.{pieces_of}
use Rattle.br_model.specs.Restored.{Planned, Restored}
use Rattle.br_join.specs.Outcome.{restored}
use Rattle.br_engine.specs.Fault.{Refusal, OfLine, OfPiece, cause}
use Rattle.br_engine.specs.Restoring.{Told, AllStand, Outcomes, restored_files}
use Rattle.br_engine.specs.declared.fault.ExtractFault.{ExtractFault}
use Rattle.br_engine.specs.declared.fault.ExtractFault.TheVariants.{Memory, Bootstrap, Piece, Changed, Io, NoEnd}

-- the files that the bootstrap in a text gives over volumes; or its first refused line, or the
-- first fault of a piece
unfoldable pub extracted : List ℕ → List Volume → Result (List Restored) Refusal
extracted text volumes = do
  groups ← refused_as OfLine (read_bootstrap text)
  refused_as OfPiece (restored_files groups None volumes)

-- ---- what holds of the files, whatever happens to the volumes of the drives meanwhile

-- a predicate for the files that are given, and one for the refusal
abbrev pub Said : Type 1
Said = Result (List Restored) Refusal → Type 0

-- This holds of what a bootstrap gives (the planned files if there is a plan) over all volumes that
-- each of the drives may be taken to show.
abbrev pub OverVolumes : Told → Told → List Group → Option (List Planned) → Said → Type 0
OverVolumes earlier later groups names holds =
    (volumes : List Volume) → AllStand earlier later (pieces_of groups) volumes → holds (refused_as OfPiece (restored_files groups names volumes))

-- each of the drives may be taken to show these volumes, for the pieces of the bootstrap in a text
abbrev pub AllStandForText : Told → Told → List ℕ → List Volume → Type 0
AllStandForText earlier later text volumes = (groups : List Group) → read_bootstrap text ≡ Ok groups → AllStand earlier later (pieces_of groups) volumes

-- if the text is known, this holds of what its bootstrap gives over all such volumes
abbrev pub OverText : Option (List ℕ) → Told → Told → Said → Type 0
OverText (Some text) earlier later holds = (volumes : List Volume) → AllStandForText earlier later text volumes → holds (extracted text volumes)
OverText None earlier later holds = ⊤

-- if the text is known, there are no volumes that each of the drives may be taken to show
abbrev pub NoneStandForText : Option (List ℕ) → Told → Told → Type 0
NoneStandForText (Some text) earlier later = (volumes : List Volume) → AllStandForText earlier later text volumes → ⊥
NoneStandForText None earlier later = ⊤

-- ---- what a refusal leaves

-- nothing was written, unless reading or writing failed
abbrev pub WritesNothing : Option (List ℕ) → Option (List ℕ) → ExtractFault → Type 0
WritesNothing before after Memory = Keeps before after
WritesNothing before after (Bootstrap fault) = Keeps before after
WritesNothing before after (Piece fault) = Keeps before after
WritesNothing before after Changed = Keeps before after
WritesNothing before after (Io fault) = ⊤
WritesNothing before after (NoEnd turns) = Keeps before after

-- the outcomes of a restore are the files that a bootstrap gives, or the refusal is the expected
-- one
abbrev pub GivesOver : Told → Told → List Group → Option (List Planned) → Result Outcomes ExtractFault → Type 0
GivesOver earlier later groups names result =
    OverVolumes earlier later groups names (Answers (λ (os : Outcomes). map restored os.items) cause result)
