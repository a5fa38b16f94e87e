-- Restores by drives over a folder of the system.
use Rattle.std.proofs.Common.{◌≡◌, ◌∙◌, refl, ap, ap₂, subst, ℕ, zero, suc, List, [], ◌∷◌, length, map, replicate, Option, Some, None, Result}
use Rattle.std.specs.Prelude.{option_map}
use Rattle.std.specs.List.{AllZip}
use Rattle.br_model.specs.Restored.{planned_in}
use Rattle.br_model.specs.Volume.{Volume}
use Rattle.br_volume.specs.Drive.{OnlyGrows}
use Rattle.br_volume.specs.Folder.{InFolder, volumes_told}
use Rattle.br_fs.specs.Tree.{Tree}
use Rattle.br_pool.specs.Pool.{StayInPlace}
use Rattle.br_engine.specs.Extracting.{OverVolumes}
use Rattle.br_engine.specs.Outputs.{InSink}
use Rattle.br_engine.specs.Restoring.{Told}
use Rattle.br_engine.specs.declared.restore_end.RestoreEnd.{RestoreEnd}
use Rattle.br_engine.specs.declared.fault.ExtractFault.{ExtractFault}
use Rattle.br_engine.proofs.AgainLaws.{only_grow}
use Rattle.br_cli_serve.specs.DrivenRestoring.{RestoredBy, RestoresWanted}
use Rattle.br_cli_serve.specs.declared.driven_store.DrivenRestore.{DrivenRestore}
use Rattle.br_cli_serve.proofs.DrivenLaws.{no_sink, over_known}
use Rattle.br_volume.specs.HostDrives.{AreUntold}

-- what a drive over a folder shows
abbrev pub shown_in : InFolder → Option (List Volume)
shown_in drive = volumes_told drive.path drive.told

-- drives that report no volumes
show_none : (drives : List InFolder) → AreUntold drives → map shown_in drives ≡ replicate (length drives) None
show_none [] untold = refl
show_none (d ∷ drives) untold =
    ap₂ (λ (s : Option (List Volume)) (ss : Told). s ∷ ss) (ap (λ (told : Option Tree). volumes_told d.path told) untold.0) (show_none drives untold.1)

-- report none afterwards
still_none : (n : ℕ) (later : Told) → AllZip OnlyGrows (replicate n None) later → later ≡ replicate n None
still_none zero [] grow = refl
still_none zero (s ∷ ss) grow = absurd grow
still_none (suc n) [] grow = absurd grow
still_none (suc n) (None ∷ ss) grow = ap (λ (l : Told). None ∷ l) (still_none n ss grow.1)
still_none (suc n) (Some shown ∷ ss) grow = absurd grow.0

-- a restore by drives over a folder of the system, which report no volumes
pub restored_untold : (wanted : DrivenRestore) (failures : InFolder → ℕ) (drives later : List InFolder) (before after : Option (List ℕ)) (has : InSink)
    (result : Result RestoreEnd ExtractFault) → length drives ≡ wanted.drives → AreUntold drives → StayInPlace shown_in failures drives later
    → RestoredBy wanted (record {
      old = record { told = map shown_in drives; written = before; has = None };
      new = record { told = map shown_in later; written = after; has = has };
    }) result
    → RestoresWanted None wanted before after result
restored_untold wanted failures drives later before after has result many untold stay by =
    let groups = wanted.bootstrap.now in
    let names = option_map planned_in wanted.names in
    let shown : Told = replicate wanted.drives None in
    let first : map shown_in drives ≡ shown = show_none drives untold ∙ ap {B = Told} (λ (n : ℕ). replicate n None) many in
    let grow : AllZip OnlyGrows shown (map shown_in later) =
    subst (λ (told : Told). AllZip OnlyGrows told (map shown_in later)) first (only_grow shown_in failures drives later stay) in
    record {
      delivers =
          over_known (map shown_in drives) (map shown_in later) shown groups names before after None None result first (still_none wanted.drives (map shown_in later) grow)
          (no_sink (λ holds. OverVolumes (map shown_in drives) (map shown_in later) groups names holds) before after has result by.delivers);
    }
