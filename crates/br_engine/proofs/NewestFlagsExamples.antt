-- Which outcomes are among the newest, by example.
use Rattle.std.proofs.Common.{◌≡◌, ℕ, true, false, List, [], ◌∷◌, refl}
use Rattle.std.specs.Prelude.{codes}
use Rattle.br_model.specs.Attribute.{stat_from}
use Rattle.br_model.specs.Name.{FileKey}
use Rattle.br_join.specs.declared.item.Outcome.{Outcome}
use Rattle.br_join.specs.declared.item.Outcome.TheVariants.{File, Fault}
use Rattle.br_types.specs.Newest.{is_outdated}
use Rattle.br_engine.specs.NewestFlags.{front_flag, newest_flags}

abbrev key : ℕ → ℕ → ℕ → FileKey
key id time index = record { session = record { id = id; time = time }; index = index }

abbrev file : FileKey → List ℕ → FileKey × Outcome
file key path = (key, File (record { path = path; kind = 3; stat = stat_from []; link = []; bytes = []; skipped = 0 }))

abbrev no_file : FileKey → FileKey × Outcome
no_file key = (key, Fault 63 0)

-- /a of the second session is newer; a fault has no path, so it is among the newest
flags_in_order : newest_flags (file (key 1 100 1) (codes "/a") ∷ file (key 1 100 2) (codes "/b") ∷ no_file (key 1 100 3) ∷ file (key 2 200 1) (codes "/a") ∷ [])
    ≡ false ∷ true ∷ true ∷ true ∷ []
unfolding is_outdated
flags_in_order = refl

no_flags_of_no_outcomes : newest_flags [] ≡ []
no_flags_of_no_outcomes = refl

flag_at_the_front : front_flag (true ∷ false ∷ []) ∷ front_flag [] ∷ [] ≡ true ∷ false ∷ []
flag_at_the_front = refl
