-- The means of a script over files, and why it did not begin.
use Rattle.std.specs.Prelude.{◌≡◌, ℕ, List, [], Result, Ok, ⊤}
use Rattle.br_model.specs.Job.{JobRows}
use Rattle.br_keeper.specs.Publishing.{publishing}
use Rattle.br_keeper.specs.Fault as keeper
use Rattle.br_keeper.specs.Keeping.{Keeping}
use Rattle.br_keeper.specs.Committing.{IsNotMade}
use Rattle.br_keeper.specs.declared.job_store.JobStoreFault.{JobStoreFault}
use Rattle.br_keeper.specs.Catalogue.{catalogue_number}
use Rattle.br_cli_serve.specs.declared.serve_command.ServeStartFault.{ServeStartFault}
use Rattle.br_cli_serve.specs.declared.serve_command.ServeStartFault.TheVariants.{Memory, Catalogue, Keeper}

-- the number of the refusal
abbrev pub start_number : ServeStartFault → ℕ
start_number Memory = 1
start_number (Catalogue fault) = catalogue_number fault
start_number (Keeper fault) = keeper.fault_number fault

-- The keeper begins with the jobs that an opened catalogue loads. None is added yet, and it vouches
-- for no other lengths than theirs.
abbrev pub IsLoaded : {C W : Type 0} → (C → C → Result (List JobRows) JobStoreFault → Type 0) → (C → Type 0) → Keeping C W → Type 0
IsLoaded {C} loads opens k =
    ((opened : C) × opens opened × loads opened k.catalogue (Ok k.list.opening))
    × (k.list ≡ publishing k.list.book k.list.opening [] []) × (k.vouches ≡ [])

-- the jobs of an opened catalogue were not loaded, if that is the reason
abbrev pub IsNotBegun : {C : Type 0} → (C → C → Result (List JobRows) JobStoreFault → Type 0) → (C → Type 0) → ServeStartFault → Type 0
IsNotBegun loads opens Memory = ⊤
IsNotBegun loads opens (Catalogue fault) = ⊤
IsNotBegun {C} loads opens (Keeper fault) = (opened : C) × opens opened × IsNotMade loads opened fault
