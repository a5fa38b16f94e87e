-- The output of the command `migrate`, and its exit status.
use Rattle.std.specs.Prelude.{ℕ, List, [], ◌∷◌, ◌++◌, codes, decimal, Result, Ok, Err}
use Rattle.br_keeper.specs.declared.catalogue.CatalogueFault.{CatalogueFault}

-- the line `migrated N`
abbrev pub migrated_line : ℕ → List ℕ
migrated_line jobs = codes "migrated " ++ decimal jobs ++ 10 ∷ []

-- 1 if the catalogue is refused, else 0
abbrev pub migrated_status : Result ℕ CatalogueFault → ℕ
migrated_status (Ok jobs) = 0
migrated_status (Err fault) = 1
