-- When a file that is made once more is like the first, by example.
use Rattle.std.proofs.Common.{ℕ, List, [], arith, refl}
use Rattle.std.specs.Prelude.{codes}
use Rattle.br_model.specs.Attribute.{stat_from}
use Rattle.br_model.specs.File.{Item}
use Rattle.br_reread_files.specs.Again.{IsLike}

abbrev file : ℕ → List ℕ → ℕ → Item
file kind bytes skipped = record { path = codes "/a"; kind = kind; stat = stat_from []; link = []; bytes = bytes; skipped = skipped }

file_is_like_itself : IsLike (file 3 (codes "x") 2) (file 3 (codes "x") 2)
file_is_like_itself = record { path = refl; kind = refl; stat = refl; link = refl; skipped = refl; bytes = (refl, refl) }

more_skipped_records_differ : IsLike (file 3 [] 2) (file 3 [] 3) → ⊥
more_skipped_records_differ like = omega (arith, like.skipped)

another_length_differs : IsLike (file 3 (codes "x") 0) (file 3 (codes "xy") 0) → ⊥
another_length_differs like = omega (arith, like.bytes.0)
