-- When a file of a folder is left as it is, by example.
use Rattle.std.proofs.Common.{ℕ, List, [], arith, refl}
use Rattle.std.specs.Prelude.{codes}
use Rattle.br_model.specs.Attribute.{stat_from}
use Rattle.br_model.specs.File.{Item}
use Rattle.br_sink_folder.specs.Resuming.{IsLike}

abbrev file : ℕ → List ℕ → List ℕ → ℕ → Item
file kind path bytes skipped = record { path = path; kind = kind; stat = stat_from []; link = []; bytes = bytes; skipped = skipped }

-- what else is told of two files does not matter
skipped_records_do_not_matter : IsLike (file 3 (codes "/a") (codes "x") 0) (file 3 (codes "/a") (codes "x") 7)
skipped_records_do_not_matter = record { kind = refl; path = refl; count = refl; digest = refl }

another_type_is_not_like_it : IsLike (file 2 (codes "/a") [] 0) (file 3 (codes "/a") [] 0) → ⊥
another_type_is_not_like_it like = omega (arith, like.kind)

another_length_is_not_like_it : IsLike (file 3 (codes "/a") (codes "x") 0) (file 3 (codes "/a") (codes "xy") 0) → ⊥
another_length_is_not_like_it like = omega (arith, like.count)
