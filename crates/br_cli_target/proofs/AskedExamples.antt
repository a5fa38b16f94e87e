-- What options and groups ask for, by example.
use Rattle.std.proofs.Common.{◌≡◌, ℕ, true, [], ◌∷◌, None, Some, refl}
use Rattle.std.specs.Prelude.{codes}
use Rattle.br_model.specs.Bootstrap.{Group, Range, group_on}
use Rattle.br_model.specs.Name.{FileKey}
use Rattle.br_cli_common.specs.declared.options.Target.TheVariants.{Nowhere, TarOutput}
use Rattle.br_cli_target.specs.AskedTarget.{folder_asked, stream_asked}
use Rattle.br_cli_target.specs.FirstAsking.{asked_of, first_asked}
use Rattle.br_cli_target.specs.Origins.{volume_asked}

-- ---- targets

no_folder : folder_asked Nowhere ∷ folder_asked TarOutput ∷ [] ≡ None ∷ None ∷ []
no_folder = refl

stream_is_the_output : stream_asked Nowhere ∷ stream_asked TarOutput ∷ [] ≡ None ∷ Some true ∷ []
stream_is_the_output = refl

-- ---- groups

abbrev range : ℕ → ℕ → Range
range low high = record { low = low; high = high }

abbrev key : ℕ → ℕ → FileKey
key time index = record { session = record { id = 7; time = time }; index = index }

-- on V indexes 2 to 4 of the sessions of one time, on W all indexes of all sessions
abbrev on_v : Group
on_v = record (group_on (codes "V")) { session_times = range 100 100 ∷ []; indexes = range 2 4 ∷ [] }

abbrev on_w : Group
on_w = group_on (codes "W")

volume_of_the_first_group : volume_asked (on_v ∷ on_w ∷ []) (key 100 4) ∷ volume_asked (on_w ∷ on_v ∷ []) (key 100 4) ∷ [] ≡ Some (codes "V") ∷ Some (codes "W") ∷ []
volume_of_the_first_group = refl

volume_of_another_index : volume_asked (on_v ∷ on_w ∷ []) (key 100 5) ∷ volume_asked (on_v ∷ []) (key 100 5) ∷ [] ≡ Some (codes "W") ∷ None ∷ []
volume_of_another_index = refl

volume_of_another_session : volume_asked (on_v ∷ on_w ∷ []) (key 200 4) ≡ Some (codes "W")
volume_of_another_session = refl

group_by_its_ranges : first_asked 4 (asked_of (key 100 4).session (on_v ∷ on_w ∷ [])) ≡ Some on_v
unfolding asked_of
group_by_its_ranges = refl

no_group_by_its_ranges : first_asked 5 (asked_of (key 100 5).session (on_v ∷ [])) ≡ None
unfolding asked_of
no_group_by_its_ranges = refl
