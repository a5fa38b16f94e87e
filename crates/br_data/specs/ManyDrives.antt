-- Data that the drives of a restore reread from the volumes of a bootstrap.
use Rattle.std.specs.Prelude.{◌≡◌, ◌<◌, ◌≤◌, ℕ, List, Option, Some, None, map, slice_get}
use Rattle.std.specs.List.{AllByRecursion, AllZip}
use Rattle.br_model.specs.Block.{Fragment}
use Rattle.br_model.specs.Bootstrap.{Group}
use Rattle.br_model.specs.Meaning.{Spot}
use Rattle.br_model.specs.Volume.{Volume}
use Rattle.br_volume.specs.Drive.{OnlyGrows}
use Rattle.br_data.specs.KnownBlocks.{IsKnown, KnownBlock}
use Rattle.br_data.specs.StandingHits.{FragmentPlace, Stands}
use Rattle.br_data.specs.OverDrives.{GivesOver}

-- what a drive shows, and the number of its failures
pub record Driven : Type 0 where
  pub shown : Option (List Volume)
  pub failures : ℕ

-- the drives in their order, and the groups of the bootstrap
pub record RereadingMany : Type 0 where
  pub drives : List Driven
  pub groups : List Group

-- drives as what they show and the number of their failures
abbrev pub driven_by : {D : Type 0} → (D → Option (List Volume)) → (D → ℕ) → List D → List Driven
driven_by {D} shows failures drives = map (λ (d : D). record { shown = shows d; failures = failures d }) drives

-- each of the drives tells its volumes, and these have the bytes at the place
abbrev pub GivesMany : RereadingMany → Spot → List ℕ → Type 0
GivesMany many spot bytes = AllByRecursion (λ (d : Driven). GivesOver d.shown many.groups spot bytes) many.drives

-- the volumes of a drive only grew, and the number of its failures did not fall
abbrev pub GoesOn : Driven → Driven → Type 0
GoesOn before after = OnlyGrows before.shown after.shown × (before.failures ≤ after.failures)

-- each drive is in its place, with its later state
abbrev pub GoOn : RereadingMany → RereadingMany → Type 0
GoOn before after = (after.groups ≡ before.groups) × AllZip GoesOn before.drives after.drives

-- each drive failed in the meantime
abbrev pub HaveFailed : RereadingMany → RereadingMany → Type 0
HaveFailed before after = AllZip (λ (x y : Driven). x.failures < y.failures) before.drives after.drives

-- ---- properties of the drives themselves

-- the drive tells its volumes, and a fragment at the place has these bytes
abbrev pub HasBytes : Option (List Volume) → FragmentPlace → List ℕ → Type 0
HasBytes None place bytes = ⊥
HasBytes (Some shown) place bytes = (fragment : Fragment) × Stands shown place fragment × (fragment.bytes ≡ bytes)

-- each of the drives has these bytes at the place
abbrev pub HaveBytes : {D : Type 0} → (D → Option (List Volume)) → List D → FragmentPlace → List ℕ → Type 0
HaveBytes shows drives place bytes = AllByRecursion (λ d. HasBytes (shows d) place bytes) drives

-- each drive is in its place; its volumes only grew, and the number of its failures did not fall
abbrev pub StayOn : {D : Type 0} → (D → Option (List Volume)) → (D → ℕ) → List D → List D → Type 0
StayOn shows failures before after = AllZip (λ old new. OnlyGrows (shows old) (shows new) × (failures old ≤ failures new)) before after

-- the block that was read last is of the drive with this number, if there is one
abbrev pub IsKnownAt : {D : Type 0} → (D → Option (List Volume)) → List D → ℕ → Option KnownBlock → Type 0
IsKnownAt {D} shows drives at known = (d : D) → slice_get drives at ≡ Some d → IsKnown (shows d) known

-- the drive with this number failed in the meantime, if there is one
abbrev pub FailsAt : {D : Type 0} → (D → ℕ) → List D → List D → ℕ → Type 0
FailsAt {D} failures before after at = (x y : D) → slice_get before at ≡ Some x → slice_get after at ≡ Some y → failures x < failures y
