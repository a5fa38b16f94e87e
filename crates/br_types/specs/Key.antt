-- Keys of files as pairs of numbers.
use Rattle.std.specs.Prelude.{ℕ, refl}
use Rattle.std.specs.Coded.{Coded, code_by, coded×, coded_ℕ}
use Rattle.br_model.specs.Name.{SessionKey, FileKey}

abbrev pub coded_session : Coded SessionKey
coded_session = code_by (ℕ × ℕ) (coded× coded_ℕ coded_ℕ) (λ s. (s.id, s.time)) (λ p. record { id = p.0; time = p.1 }) (λ _. refl)

abbrev pub coded_key : Coded FileKey
coded_key = code_by (SessionKey × ℕ) (coded× coded_session coded_ℕ) (λ k. (k.session, k.index)) (λ p. record { session = p.0; index = p.1 }) (λ _. refl)
