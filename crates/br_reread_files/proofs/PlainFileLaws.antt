-- The hits of a file without sparse data.
use Rattle.std.proofs.Common.{◌≡◌, Bool, ◌||◌, ◌==◌, List, [], ◌∷◌, refl, ap}
use Rattle.std.specs.Prelude.{nat_abs}
use Rattle.std.specs.List.{list_any}
use Rattle.br_model.specs.Meaning.{Hit}
use Rattle.br_records.specs.Records.{fragments}
use Rattle.br_join.proofs.PlainLaws.{have_sparse}

-- none of the fragments of hits has sparse data if none of the hits has
pub sparse_hits : (hits : List Hit) → have_sparse (fragments hits) ≡ list_any (λ (h : Hit). nat_abs h.fragment.stream == 6) hits
sparse_hits [] = refl
sparse_hits (h ∷ hs) = ap (λ (b : Bool). (nat_abs h.fragment.stream == 6) || b) (sparse_hits hs)
