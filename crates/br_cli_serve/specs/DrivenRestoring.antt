-- Restores over a store of volumes.
use Rattle.std.specs.Prelude.{ℕ, List, replicate, Option, None, option_map, Result}
use Rattle.br_model.specs.Volume.{Volume}
use Rattle.br_model.specs.Bootstrap.{Group}
use Rattle.br_model.specs.Restored.{Planned, planned_in}
use Rattle.br_engine.specs.Extracting.{OverVolumes}
use Rattle.br_engine.specs.Delivering.{Delivers}
use Rattle.br_engine.specs.Restores.{Change}
use Rattle.br_engine.specs.declared.restore_end.RestoreEnd.{RestoreEnd}
use Rattle.br_engine.specs.declared.fault.ExtractFault.{ExtractFault}
use Rattle.br_cli_serve.specs.declared.driven_store.DrivenRestore.{DrivenRestore}

-- The manifest of what a bootstrap gives was written, or there is a reason why not, over all
-- volumes that each of this number of drives may be taken to show. Each of them shows these volumes,
-- before and after. If the store does not report its volumes, neither does a drive.
pub record IsRestored (volumes : Option (List Volume)) (count : ℕ) (groups : List Group) (names : Option (List Planned)) (before after : Option (List ℕ))
    (result : Result RestoreEnd ExtractFault) : Type 0 where
  pub delivers : Delivers (λ holds. OverVolumes (replicate count volumes) (replicate count volumes) groups names holds) before after None None result

-- the same for what is wanted
abbrev pub RestoresWanted : Option (List Volume) → DrivenRestore → Option (List ℕ) → Option (List ℕ) → Result RestoreEnd ExtractFault → Type 0
RestoresWanted volumes wanted before after result =
    IsRestored volumes wanted.drives wanted.bootstrap.now (option_map planned_in wanted.names) before after result

-- The manifest of what is wanted was written, and its files were put, if there is a sink; or there
-- is a reason why not. That is over all volumes that each of the drives may be taken to show by
-- what they show before and after.
pub record RestoredBy (wanted : DrivenRestore) (seen : Change) (result : Result RestoreEnd ExtractFault) : Type 0 where
  pub delivers : Delivers (λ holds. OverVolumes seen.old.told seen.new.told wanted.bootstrap.now (option_map planned_in wanted.names) holds)
      seen.old.written seen.new.written seen.old.has seen.new.has result
