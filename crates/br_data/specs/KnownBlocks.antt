-- The block that was read last, and its fragments.
use Rattle.std.specs.Prelude.{◌≡◌, ◌==◌, ◌&&◌, if◌then◌else◌, ℕ, Bool, false, List, length, bytes_eq, slice_get, Option, Some, None, Result, Ok, Err, ⊤}
use Rattle.br_model.specs.Answer.{◌>>=◌, some_or}
use Rattle.br_model.specs.Block.{Fragment, fragments_of}
use Rattle.br_model.specs.Volume.{Volume}
use Rattle.br_data.specs.KeptData.{Kept}
use Rattle.br_data.specs.StandingHits.{FragmentPlace, ShowsAll, ShowsBlock, Stands}
use Rattle.br_data.specs.declared.reread_fault.AgainFault.{AgainFault}
use Rattle.br_data.specs.declared.reread_fault.AgainFault.TheVariants.{Changed}

-- a block of a volume, and its address
pub record KnownBlock : Type 0 where
  pub volume : List ℕ
  pub address : ℕ
  pub bytes : List ℕ

-- If the drive tells its volumes, they have the block that was read last.
abbrev pub IsKnown : Option (List Volume) → Option KnownBlock → Type 0
IsKnown shown None = ⊤
IsKnown shown (Some known) = ShowsBlock shown known.volume known.address known.bytes

-- whether it is the block of the place
abbrev pub knows : FragmentPlace → Option KnownBlock → Bool
knows place None = false
knows place (Some known) = bytes_eq known.volume place.volume && known.address == place.address

-- the fragment of the block with this number of fragments before it
abbrev pub fragment_of : Option KnownBlock → ℕ → Result Fragment AgainFault
fragment_of None ordinal = Err Changed
fragment_of (Some known) ordinal = some_or (slice_get (fragments_of known.bytes) ordinal) Changed

-- the bytes in memory, or else those of the fragment in the block, if their number is equal
abbrev pub bytes_of : Option KnownBlock → ℕ → Kept → Result (List ℕ) AgainFault
bytes_of known ordinal kept = if kept.held then Ok kept.bytes else do
  fragment ← fragment_of known ordinal
  if length fragment.bytes == length kept.bytes then Ok fragment.bytes else Err Changed

-- this holds for all fragments that the drive may be taken to have at the place
abbrev pub OfFragment : Option (List Volume) → FragmentPlace → (Fragment → Type 0) → Type 0
OfFragment shown place P = (volumes : List Volume) (fragment : Fragment) → ShowsAll shown volumes → Stands volumes place fragment → P fragment

-- The bytes are given, or read from the block, if they are those of the fragment at the place.
abbrev pub GivesBytes : Option (List Volume) → FragmentPlace → Kept → Option KnownBlock → Type 0
GivesBytes shown place kept known =
    OfFragment shown place (λ fragment. fragment.bytes ≡ kept.bytes → bytes_of known place.ordinal kept ≡ Ok kept.bytes)
