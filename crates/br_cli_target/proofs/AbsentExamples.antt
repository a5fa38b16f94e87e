-- The indexes that a bootstrap asks for and that no file has, by example.
use Rattle.std.proofs.Common.{◌≡◌, ℕ, List, [], ◌∷◌, refl}
use Rattle.std.specs.Prelude.{codes}
use Rattle.br_model.specs.Bootstrap.{Group, Range, group_on}
use Rattle.br_model.specs.Name.{FileKey}
use Rattle.br_model.specs.Plan.{ranges_of}
use Rattle.br_piece.specs.Missing.{is_there, missing_in}

abbrev key : ℕ → ℕ → FileKey
key time index = record { session = record { id = 7; time = time }; index = index }

abbrev range : ℕ → ℕ → Range
range low high = record { low = low; high = high }

-- indexes 2 to 9 of a session of time 100
abbrev group : Group
group = record (group_on (codes "V")) { session_times = range 100 100 ∷ []; indexes = range 2 9 ∷ [] }

-- 3, 4 and 9 are there; 6 is another session's
abbrev keys : List FileKey
keys = key 100 3 ∷ key 100 4 ∷ key 100 9 ∷ key 200 6 ∷ key 100 10 ∷ []

runs_that_are_missing : missing_in group keys (range 2 9) ≡ range 2 2 ∷ range 5 8 ∷ []
unfolding missing_in is_there ranges_of
runs_that_are_missing = refl

nothing_is_missing : missing_in group keys (range 3 4) ≡ []
unfolding missing_in is_there ranges_of
nothing_is_missing = refl

range_of_one_index : missing_in group keys (range 6 6) ≡ range 6 6 ∷ []
unfolding missing_in is_there ranges_of
range_of_one_index = refl
