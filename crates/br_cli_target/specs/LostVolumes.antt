-- The volumes of a bootstrap that can't be read or are damaged.
use Rattle.std.specs.Prelude.{ℕ, ◌==◌, Bool, true, List, [], ◌∷◌, set, Option, Some, None, if◌then◌else◌}
use Rattle.br_model.specs.Bootstrap.{Group}
use Rattle.br_match.specs.Fault.{fault_number}
use Rattle.br_match.specs.declared.fault.PieceFault.{PieceFault}
use Rattle.br_pool.specs.declared.fault.PoolFault.{PoolFault}
use Rattle.br_pool.specs.declared.fault.PoolFault.TheVariants.{Piece}

-- the flags with those of these groups set
abbrev pub marked : List (ℕ × Group) → List Bool → List Bool
marked [] flags = flags
marked (g ∷ more) flags = marked more (set flags g.0 true)

-- the fault of a volume that is there, if the pool ended at one
abbrev pub damage : PoolFault → Option PieceFault
damage (Piece fault) = if fault_number fault == 14 then None else Some fault
damage _ = None
