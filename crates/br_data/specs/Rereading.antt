-- What is reread from a volume.
use Rattle.std.specs.Prelude.{◌≡◌, ℕ, List, ◌++◌, length, take, drop, Option, Some, None, Result, Err, ⊤}
use Rattle.br_model.specs.Volume.{Volume, volume_bytes}
use Rattle.br_data.specs.StandingHits.{IsBlockAt, ShowsAll}
use Rattle.br_data.specs.declared.reread_fault.AgainFault.{AgainFault}
use Rattle.br_data.specs.declared.reread_fault.AgainFault.TheVariants.{Changed}

-- this holds for all blocks that the drive may be taken to have at the address
abbrev pub OfBlock : Option (List Volume) → List ℕ → ℕ → (List ℕ → Type 0) → Type 0
OfBlock shown name address P = (volumes : List Volume) (block : List ℕ) → ShowsAll shown volumes → IsBlockAt volumes name address block → P block

-- a refusal says that the volume was changed only if there is no block at the address
abbrev pub IsGone : {A : Type 0} → Option (List Volume) → List ℕ → ℕ → Result A AgainFault → Type 0
IsGone shown name address result = result ≡ Err Changed → OfBlock shown name address (λ block. ⊥)

-- the bytes are the first ones of the block and of what follows it
abbrev pub AreFirst : List ℕ → ℕ → List ℕ → Type 0
AreFirst bytes size block = (more : List ℕ) × (bytes ≡ take size (block ++ more))

-- the buffer has the first bytes of the block and of what follows it
abbrev pub HasFirst : Option (List Volume) → List ℕ → ℕ → ℕ → List ℕ → Type 0
HasFirst shown name address size buffer = OfBlock shown name address (AreFirst buffer size)

-- the block has this length
abbrev pub HasLength : Option (List Volume) → List ℕ → ℕ → ℕ → Type 0
HasLength shown name address size = OfBlock shown name address (λ block. length block ≡ size)

-- the buffer is the block
abbrev pub IsBlock : Option (List Volume) → List ℕ → ℕ → List ℕ → Type 0
IsBlock shown name address buffer = OfBlock shown name address (λ block. buffer ≡ block)

-- if the drive tells its volumes, the buffer has the first bytes of the volume from the address on
abbrev pub ShowsFirst : Option (List Volume) → List ℕ → ℕ → ℕ → List ℕ → Type 0
ShowsFirst None name address size buffer = ⊤
ShowsFirst (Some shown) name address size buffer =
    (bytes : List ℕ) × (volume_bytes shown name ≡ Some bytes) × (buffer ≡ take size (drop address bytes))
