-- Names as values, and as parameters.
use Rattle.std.proofs.Common.{◌≡◌, ℕ, List, refl}
use Rattle.sqlite.specs.Values.{bound_value}
use Rattle.br_store.specs.declared.name_numbers.Dictionary.{Dictionary}
use Rattle.br_store.specs.declared.name_numbers.Dictionary.TheVariants.{Client, FileSet, Media, Path}
use Rattle.br_store.specs.Names.{word}

pub bound_word : (d : Dictionary) (name : List ℕ) → bound_value (word d name) ≡ word d name
bound_word Client name = refl
bound_word FileSet name = refl
bound_word Media name = refl
bound_word Path name = refl
