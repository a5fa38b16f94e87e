-- What an extraction says of its outcomes, by its order.
use Rattle.std.proofs.Common.{◌≡◌, List, Option, None, Result, subst}
use Rattle.std.specs.Prelude.{option_map}
use Rattle.br_model.specs.Bootstrap.{Group}
use Rattle.br_model.specs.Restored.{Names, Planned, planned_in}
use Rattle.br_engine.specs.Extracting.{OverVolumes}
use Rattle.br_engine.specs.Restores.{AreOrdered, AreWanted, Change}
use Rattle.br_engine.specs.declared.extracted.Extracted.{Extracted}
use Rattle.br_engine.specs.declared.fault.ExtractFault.{ExtractFault}
use Rattle.br_engine.specs.declared.restore_order.RestoreOrder.{RestoreOrder}

-- the wanted outcomes of an order without names are those of its bootstrap
pub wanted_by_order : (order : RestoreOrder) (seen : Change) (result : Result Extracted ExtractFault) (groups : List Group)
    → order.asked.bootstrap.now ≡ groups → order.names ≡ None → AreOrdered order seen result
    → AreWanted order.wanted (λ holds. OverVolumes seen.old.told seen.new.told groups None holds) result
wanted_by_order order seen result groups asked named h =
    let wanted : Option (List Planned) → List Group → Type 0 = λ names gs. AreWanted order.wanted (λ holds. OverVolumes seen.old.told seen.new.told gs names holds) result in
    subst (λ (gs : List Group). wanted None gs) asked (subst (λ (ns : Option Names). wanted (option_map planned_in ns) order.asked.bootstrap.now) named h)
