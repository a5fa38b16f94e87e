-- The walk of a piece's volume, block by block, and its properties while a drive's volumes grow.
use Rattle.std.specs.Prelude.{◌≡◌, ℕ, zero, suc, IfErr, ◌+◌, ◌/◌, ◌^◌, ◌<◌, List, [], ◌++◌, length, drop, flat_map, Option, Some, None, option_map, Result, Ok, Err, ⊤}
use Rattle.br_model.specs.Answer.{◌>>=◌, some_or, refused_as, IsRefusal, Answers}
use Rattle.br_model.specs.Block.{Header, read_header}
use Rattle.br_model.specs.Volume.{Volume, volume_bytes, BlockFault, blocks_from, next_block}
use Rattle.br_model.specs.Bootstrap.{Group}
use Rattle.br_model.specs.Meaning.{Piece, PieceFault, Hit, bound_of, is_covered, just_groups, hits_in, hits_on}
use Rattle.br_volume.specs.Drive.{bytes_got, bytes_shown}
use Rattle.br_volume.specs.declared.drive.Got.{Got}
use Rattle.br_match.specs.declared.fault.PieceFault as code
use Rattle.br_match.specs.declared.hit.Batch.{Batch}
use Rattle.br_match.specs.declared.walk.Step.{Step}
use Rattle.br_match.specs.declared.walk.Step.TheVariants.{Passed, End}
use Rattle.br_match.specs.Fault.{cause, IsAt}
use Rattle.br_match.specs.Matching.{StandsFor}

-- a fault of a block of this volume
abbrev pub on_volume : List ℕ → BlockFault → PieceFault
on_volume volume e = record { number = e.number; volume = volume; address = e.address }

-- the refusal of an unknown volume
abbrev pub unknown : List ℕ → PieceFault
unknown volume = record { number = 14; volume = volume; address = 0 }

-- the hits in the block at an address and the next address, none if the walk ends there, or the
-- fault
unfoldable pub step_among : List (ℕ × Group) → List ℕ → ℕ → Result (Option (List Hit × ℕ)) BlockFault
step_among numbered bytes address = do
  step ← next_block bytes (bound_of (just_groups numbered)) (is_covered (just_groups numbered)) address
  Ok (option_map (λ s. (hits_in numbered s.0, s.1)) step)

-- the hits in the blocks from an address on, or the first fault
unfoldable pub rest_among : List (ℕ × Group) → List ℕ → ℕ → Result (List Hit) BlockFault
rest_among numbered bytes address = do
  blocks ← blocks_from (length (drop address bytes) / 16 + 1) address (drop address bytes) (bound_of (just_groups numbered)) (is_covered (just_groups numbered))
  Ok (flat_map (hits_in numbered) blocks)

-- the step of a piece's walk at an address, over some volumes
unfoldable pub step_on : List Volume → Piece → ℕ → Result (Option (List Hit × ℕ)) PieceFault
step_on volumes piece address = do
  bytes ← some_or (volume_bytes volumes piece.volume) (unknown piece.volume)
  refused_as (on_volume piece.volume) (step_among piece.groups bytes address)

-- the hits of a piece from an address on, over some volumes
unfoldable pub rest_on : List Volume → Piece → ℕ → Result (List Hit) PieceFault
rest_on volumes piece address = do
  bytes ← some_or (volume_bytes volumes piece.volume) (unknown piece.volume)
  refused_as (on_volume piece.volume) (rest_among piece.groups bytes address)

-- some hits, and those after them
abbrev pub in_front : List Hit → Result (List Hit) PieceFault → Result (List Hit) PieceFault
in_front found rest = do
  more ← rest
  Ok (found ++ more)

-- the hits of a step, and those of the walk from the next address
abbrev pub and_rest : (ℕ → Result (List Hit) PieceFault) → Option (List Hit × ℕ) → Result (List Hit) PieceFault
and_rest rest None = Ok []
and_rest rest (Some s) = in_front s.0 (rest s.1)

-- a walk may have reached the address: a piece that is not refused is not refused from there on,
-- and only at address 0 is it not known yet that the volume is there
pub record Follows (volumes : List Volume) (piece : Piece) (address : ℕ) : Type 0 where
  pub rest : (hits : List Hit) → hits_on volumes piece ≡ Ok hits → (rest : List Hit) × (rest_on volumes piece address ≡ Ok rest)
  pub there : volume_bytes volumes piece.volume ≡ None → address ≡ 0

-- if a drive tells its volumes, this holds for all volumes that it may be taken to show
abbrev pub Over : Option (List Volume) → Option (List Volume) → Piece → (List Volume → Type 0) → Type 0
Over (Some earlier) (Some later) piece P = (volumes : List Volume) → StandsFor earlier later piece volumes → P volumes
Over None later piece P = ⊤
Over (Some earlier) None piece P = ⊤

-- the same for those volumes over which a walk may have reached the address
abbrev pub AfterWalk : Option (List Volume) → Option (List Volume) → Piece → ℕ → (List Volume → Type 0) → Type 0
AfterWalk earlier later piece address P = Over earlier later piece (λ volumes. Follows volumes piece address → P volumes)

-- the volume exists, and has this header at the address
pub record HasHead (volumes : List Volume) (piece : Piece) (address : ℕ) (head : Header) : Type 0 where
  pub bytes : List ℕ
  pub found : volume_bytes volumes piece.volume ≡ Some bytes
  pub within : address < length bytes
  pub read : read_header (drop address bytes) ≡ Ok head

-- the same for those volumes over which a walk may have reached the address and which have this
-- header there
abbrev pub AfterHead : Option (List Volume) → Option (List Volume) → Piece → ℕ → Header → (List Volume → Type 0) → Type 0
AfterHead earlier later piece address head P = AfterWalk earlier later piece address (λ volumes. HasHead volumes piece address head → P volumes)

-- ---- the results of the parts of a step

-- the refusal is this one, or has no cause that the volumes decide
abbrev pub IsRefusedFor : Option PieceFault → Option PieceFault → Type 0
IsRefusedFor expected None = ⊤
IsRefusedFor expected (Some r) = expected ≡ Some r

-- a read of a volume from an address on, over some volumes
abbrev pub ReadsAt : List ℕ → ℕ → ℕ → List ℕ → Result Got code.PieceFault → List Volume → Type 0
ReadsAt name address size buffer result volumes =
    Answers (bytes_got buffer) cause result (refused_as (λ _. unknown name) (bytes_shown volumes name address size))

-- the same, over the volumes that a drive shows, if it tells them
abbrev pub ReadsOver : Option (List Volume) → List ℕ → ℕ → ℕ → List ℕ → Result Got code.PieceFault → Type 0
ReadsOver None name address size buffer result = ⊤
ReadsOver (Some volumes) name address size buffer result = ReadsAt name address size buffer result volumes

-- the header at the address, none if the walk ends there
abbrev pub HeadAnswers : Piece → ℕ → Result (Option Header) code.PieceFault → List Volume → Type 0
HeadAnswers piece address (Ok (Some head)) volumes = HasHead volumes piece address head
HeadAnswers piece address (Ok None) volumes = step_on volumes piece address ≡ Ok None
HeadAnswers piece address (Err e) volumes = IsRefusal (cause e) (step_on volumes piece address)

-- a step from an address to the next, which appends its hits
pub record IsStep (volumes : List Volume) (piece : Piece) (address next : ℕ) (before after : List Hit) : Type 0 where
  pub batch : List Hit
  pub step : step_on volumes piece address ≡ Ok (Some (batch, next))
  pub pushed : after ≡ before ++ batch

-- the hits of a block that is covered
abbrev pub BlockAnswers : Piece → ℕ → ℕ → List Hit → List Hit → Result (Unit {0}) code.PieceFault → List Volume → Type 0
BlockAnswers piece address next before after (Ok _) volumes = IsStep volumes piece address next before after
BlockAnswers piece address next before after (Err e) volumes = IsRefusal (cause e) (step_on volumes piece address)

-- over the volumes that a drive may be taken to show: the block at the address, which has this
-- header, is passed
abbrev pub PassesBlock : {D : Type 0} → (D → Option (List Volume)) → D → D → Piece → ℕ → Header → List Hit → List Hit → Result (Unit {0}) code.PieceFault → Type 0
PassesBlock shows earlier later piece address head before after result =
    AfterHead (shows earlier) (shows later) piece address head (BlockAnswers piece address (address + head.size) before after result)

-- a walk went on from an address, below 2 ^ 63, to a greater one
abbrev pub GoesOn : ℕ → ℕ → Type 0
GoesOn address next = (address < 2 ^ 63) × (address < next)

-- a step past a block, or the end of the walk
abbrev pub StepAnswers : Piece → ℕ → ℕ → List Hit → List Hit → Result Step code.PieceFault → List Volume → Type 0
StepAnswers piece address next before after (Ok Passed) volumes = IsStep volumes piece address next before after
StepAnswers piece address next before after (Ok End) volumes = (step_on volumes piece address ≡ Ok None) × (after ≡ before)
StepAnswers piece address next before after (Err e) volumes = IsRefusal (cause e) (step_on volumes piece address)

-- over the volumes that a drive may be taken to show: the walk takes a step, or is at its end
abbrev pub TakesStep : {D : Type 0} → (D → Option (List Volume)) → D → D → Piece → ℕ → ℕ → List Hit → List Hit → Result Step code.PieceFault → Type 0
TakesStep shows earlier later piece address next before after result =
    AfterWalk (shows earlier) (shows later) piece address (StepAnswers piece address next before after result)

-- the hits of one block, with the address after it, or the end of the walk
abbrev pub BlockGiven : Piece → ℕ → ℕ → Result (Option Batch) code.PieceFault → List Volume → Type 0
BlockGiven piece address next (Ok (Some batch)) volumes = step_on volumes piece address ≡ Ok (Some (batch.hits.items, next))
BlockGiven piece address next (Ok None) volumes = step_on volumes piece address ≡ Ok None
BlockGiven piece address next (Err e) volumes = IsRefusal (cause e) (step_on volumes piece address)

-- a walk comes to the address by this number of steps
abbrev pub ComesIn : ℕ → List Volume → Piece → ℕ → Type 0
ComesIn zero volumes piece address = address ≡ 0
ComesIn (suc n) volumes piece address =
    (before : ℕ) × (hits : List Hit) × ComesIn n volumes piece before × (step_on volumes piece before ≡ Ok (Some (hits, address)))

-- a walk reaches the address from the volume's start, step by step
abbrev pub ComesTo : List Volume → Piece → ℕ → Type 0
ComesTo volumes piece address = (n : ℕ) × ComesIn n volumes piece address

-- A refusal names the piece's volume and the address that the walk had reached; an unknown volume
-- is refused at address 0.
abbrev pub NamesReached : {D A : Type 0} → (D → Option (List Volume)) → D → D → Piece → Result A code.PieceFault → Type 0
NamesReached shows earlier later piece result =
    IfErr result (λ fault. (address : ℕ) × IsAt piece.volume address fault × Over (shows earlier) (shows later) piece (λ volumes. ComesTo volumes piece address))

-- these hits of a piece were found before its walk reached the address
pub record IsWalked (volumes : List Volume) (piece : Piece) (address : ℕ) (found : List Hit) : Type 0 where
  pub all : hits_on volumes piece ≡ in_front found (rest_on volumes piece address)
  pub there : volume_bytes volumes piece.volume ≡ None → address ≡ 0
