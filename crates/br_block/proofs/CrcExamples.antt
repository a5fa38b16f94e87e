-- The CRC-32 of some texts, by example. The values are those that zlib computes.
use Rattle.std.proofs.Common.{◌≡◌, [], refl}
use Rattle.std.specs.Prelude.{codes, replicate}
use Rattle.br_block.specs.Crc.{crc32, shifted, shifted_by}

of_nothing : crc32 [] ≡ 0
unfolding shifted shifted_by
of_nothing = refl

of_a_letter : crc32 (codes "a") ≡ 3904355907
unfolding shifted shifted_by
of_a_letter = refl

of_nine_digits : crc32 (codes "123456789") ≡ 3421780262
unfolding shifted shifted_by
of_nine_digits = refl

of_a_sentence : crc32 (codes "The quick brown fox jumps over the lazy dog") ≡ 1095738169
unfolding shifted shifted_by
of_a_sentence = refl

of_255s : crc32 (replicate 16 255) ≡ 1068746266
unfolding shifted shifted_by
of_255s = refl
