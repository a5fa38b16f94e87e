-- The pieces of a bootstrap are numbered.
use Rattle.std.proofs.Common.{◌≡◌, ℕ, ◌+◌, List, [], ◌∷◌, map, length, refl, ap}
use Rattle.std.specs.List.{enumerate_from, range_with_len}
use Rattle.br_model.specs.Bootstrap.{Group}
use Rattle.br_model.specs.Meaning.{Piece, groups_on, volumes_of, pieces_of}
use Rattle.br_pool.specs.Pool.{AreNumbered}

numbered_from : (groups : List Group) (k : ℕ) (names : List (List ℕ)) → let of : ℕ × List ℕ → Piece = λ v. record { number = v.0; volume = v.1; groups = groups_on groups v.1 } in
    map (λ (p : Piece). p.number) (map of (enumerate_from k names)) ≡ range_with_len k (length (map of (enumerate_from k names)))
numbered_from groups k [] = refl
numbered_from groups k (n ∷ names) = ap (λ l. k ∷ l) (numbered_from groups (k + 1) names)

pub are_numbered : (groups : List Group) → AreNumbered (pieces_of groups)
unfolding pieces_of
are_numbered groups = numbered_from groups 0 (volumes_of groups)
