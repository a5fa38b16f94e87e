-- Sizes in bytes, by example.
use Rattle.std.proofs.Common.{◌≡◌, [], ◌∷◌, None, Some, refl}
use Rattle.std.specs.Prelude.{codes}
use Rattle.br_types.specs.DecimalField.{number_spelled}
use Rattle.br_model.specs.Text.{decimal_value}
use Rattle.br_cli_args.specs.ByteSize.{last_sized, size_spelled, unit_of}

units : unit_of 75 ∷ unit_of 109 ∷ unit_of 71 ∷ unit_of 116 ∷ unit_of 66 ∷ [] ≡ Some 1024 ∷ Some 1048576 ∷ Some 1073741824 ∷ Some 1099511627776 ∷ None ∷ []
units = refl

size_without_a_unit : size_spelled (codes "512") ≡ Some 512
unfolding size_spelled last_sized number_spelled decimal_value
size_without_a_unit = refl

size_with_a_unit : size_spelled (codes "2K") ∷ size_spelled (codes "2kiB") ∷ [] ≡ Some 2048 ∷ Some 2048 ∷ []
unfolding size_spelled last_sized number_spelled decimal_value
size_with_a_unit = refl

size_with_iB_alone : size_spelled (codes "2iB") ∷ size_spelled (codes "iB") ∷ [] ≡ None ∷ None ∷ []
unfolding size_spelled last_sized number_spelled decimal_value
size_with_iB_alone = refl

no_size : size_spelled [] ∷ size_spelled (codes "K") ∷ size_spelled (codes "2KB") ∷ size_spelled (codes "-1") ∷ [] ≡ None ∷ None ∷ None ∷ None ∷ []
unfolding size_spelled last_sized number_spelled decimal_value
no_size = refl

greatest_size : size_spelled (codes "18446744073709551615") ∷ size_spelled (codes "16777215T") ∷ [] ≡ Some 18446744073709551615 ∷ Some 18446742974197923840 ∷ []
unfolding size_spelled last_sized number_spelled decimal_value
greatest_size = refl

size_of_2_64 : size_spelled (codes "18446744073709551616") ∷ size_spelled (codes "16777216T") ∷ [] ≡ None ∷ None ∷ []
unfolding size_spelled last_sized number_spelled decimal_value
size_of_2_64 = refl
