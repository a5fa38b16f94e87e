-- Lengths of volumes in a map.
use Rattle.std.proofs.Common.{◌≡◌, ℕ, Bool, true, false, cond, List, ◌∷◌, Some, refl, ap, ◌∙◌}
use Rattle.std.specs.Prelude.{unwrap_or, find, bytes_eq, Option}
use Rattle.std.specs.Option.{option_map_or}
use Rattle.br_model.specs.Session.{length_of}

-- a length before a list
pub length_put : (before after : Option ℕ) (volume name : List ℕ) (length : ℕ) (list : List (List ℕ × ℕ)) → unwrap_or before 0 ≡ length_of list name
    → after ≡ cond (bytes_eq volume name) (Some length) before → unwrap_or after 0 ≡ length_of ((volume, length) ∷ list) name
length_put before after volume name length list was is =
    ap (λ o. unwrap_or o 0) is ∙ by_test (bytes_eq volume name)
  where
    by_test : (b : Bool) → unwrap_or (cond b (Some length) before) 0 ≡ option_map_or (λ (l : List ℕ × ℕ). l.1) (cond b (Some (volume, length)) (find (λ (l : List ℕ × ℕ). bytes_eq l.0 name) list)) 0
    by_test true = refl
    by_test false = was
