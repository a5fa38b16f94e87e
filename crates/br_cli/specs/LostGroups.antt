-- What is left of a bootstrap without lost groups.
use Rattle.std.specs.Prelude.{◌≡◌, Bool, false, ◌&&◌, List, Option, Some, None}
use Rattle.std.specs.Global.{Vec}
use Rattle.br_model.specs.Bootstrap.{Group}
use Rattle.br_damage.specs.NarrowedBootstrap.{IsNarrowedBy, are_named, are_some}
use Rattle.br_damage.specs.declared.narrowed_bootstrap.NarrowedBootstrap.{NarrowedBootstrap}

-- what is left by these flags; nothing if no group is lost, or each is, or if one does not name a session
abbrev pub LeavesBy : List Bool → List Group → Option (Vec Bool × NarrowedBootstrap) → Type 0
LeavesBy flags groups None = (are_named groups && are_some flags) ≡ false
LeavesBy flags groups (Some left) = (left.0.items ≡ flags) × IsNarrowedBy flags groups left.1.left left.1.missing.items
