-- Catalogues of jobs, by the paths of the command line.
use Rattle.std.specs.Prelude.{◌≡◌, ℕ, List, Option, IfSome}
use Rattle.br_model.specs.Job.{JobRows}
use Rattle.br_history.specs.Needed.{with_needed}
use Rattle.br_keeper.specs.declared.catalogue.CatalogueFault.{CatalogueFault}
use Rattle.br_keeper.specs.declared.catalogue.CatalogueFault.TheVariants.{Memory, Unreadable, BadCatalogue, OldCatalogue}

-- these are the jobs of a catalogue, if it tells them
abbrev pub AreJobs : Option (List JobRows) → List JobRows → Type 0
AreJobs told history = IfSome told (λ jobs. history ≡ jobs)

-- these are the jobs of a catalogue, if it tells them, of which those alone have files whose files are
-- needed
abbrev pub AreNeeded : Option (List JobRows) → (List JobRows → List ℕ) → List JobRows → Type 0
AreNeeded told needed history = IfSome told (λ jobs. history ≡ with_needed needed jobs)

-- the number of a refused catalogue
abbrev pub catalogue_number : CatalogueFault → ℕ
catalogue_number Memory = 1
catalogue_number Unreadable = 45
catalogue_number BadCatalogue = 47
catalogue_number OldCatalogue = 48
