-- Joiners as data: each part has a code that tells its values apart.
use Rattle.std.specs.Prelude.{ℕ, ℤ, Bool, List, Option, refl}
use Rattle.std.specs.Coded.{Coded, code_by, coded×, coded_ℕ, coded_ℤ, coded_bool, coded_list, coded_option}
use Rattle.std.specs.FinMap.{FinMap, code}
use Rattle.std.specs.Ordering.{nat_cmp}
use Rattle.br_types.specs.Key.{coded_session, coded_key}
use Rattle.br_model.specs.Name.{SessionKey}
use Rattle.br_model.specs.Block.{Fragment}
use Rattle.br_model.specs.Meaning.{Spot, Hits}
use Rattle.br_model.specs.Restored.{Names}
use Rattle.br_join.specs.Joining.{Joining}
use Rattle.br_join.specs.declared.room.Room.{Room}

abbrev pub coded_spot : Coded Spot
coded_spot =
    code_by (ℕ × (ℕ × ℕ)) (coded× coded_ℕ (coded× coded_ℕ coded_ℕ)) (λ s. (s.group, (s.address, s.ordinal)))
    (λ p. record { group = p.0; address = p.1.0; ordinal = p.1.1 }) (λ _. refl)

abbrev pub coded_fragment : Coded Fragment
coded_fragment =
    code_by (SessionKey × (ℤ × (ℤ × (ℕ × List ℕ)))) (coded× coded_session (coded× coded_ℤ (coded× coded_ℤ (coded× coded_ℕ (coded_list coded_ℕ)))))
    (λ f. (f.session, (f.index, (f.stream, (f.size, f.bytes)))))
    (λ p. record { session = p.0; index = p.1.0; stream = p.1.1.0; size = p.1.1.1.0; bytes = p.1.1.1.1 }) (λ _. refl)

abbrev pub coded_hits : Coded Hits
coded_hits = code (coded× coded_key coded_spot) coded_fragment

abbrev pub coded_room : Coded Room
coded_room =
    code_by (Option ℕ × (Option ℕ × Bool)) (coded× (coded_option coded_ℕ) (coded× (coded_option coded_ℕ) coded_bool)) (λ r. (r.bound, (r.left, r.holds_all)))
    (λ p. record { bound = p.0; left = p.1.0; holds_all = p.1.1 }) (λ _. refl)

abbrev pub coded_joining : Coded Joining
coded_joining =
    code_by (FinMap nat_cmp Bool × (Option Names × (Hits × Room)))
    (coded× (code coded_ℕ coded_bool) (coded× (coded_option (code coded_key (coded_list coded_ℕ))) (coded× coded_hits coded_room)))
    (λ j. (j.pieces, (j.names, (j.hits, j.room)))) (λ p. record { pieces = p.0; names = p.1.0; hits = p.1.1.0; room = p.1.1.1 }) (λ _. refl)
