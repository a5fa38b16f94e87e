-- Texts, by example.
use Rattle.std.proofs.Common.{◌≡◌, ◌^◌, zero, suc, [], ◌∷◌, ◌++◌, Some, None, true, false, refl, arith, lit≤}
use Rattle.std.specs.Prelude.{codes, pos, negsuc}
use Rattle.br_model.specs.Text.{AreBytes, is_empty, is_space, is_blank, words, trim_front, trim_by, decimal_value, signed_decimal, hex_digit, hexadecimal, escaped_byte, escaped, line, refused_line}
use Rattle.br_model.proofs.Reading.{reading}

a_byte_is_at_most_255 : AreBytes (255 ∷ 0 ∷ [])
a_byte_is_at_most_255 zero = lit≤ tt
a_byte_is_at_most_255 (suc zero) = lit≤ tt
a_byte_is_at_most_255 (suc (suc i)) = lit≤ tt

no_byte_is_256 : AreBytes (0 ∷ 256 ∷ []) → ⊥
no_byte_is_256 bytes = let h = bytes 1 in omega arith

nothing_is_empty : is_empty (codes "") ≡ true
nothing_is_empty = refl

one_byte_is_not_empty : is_empty (codes " ") ≡ false
one_byte_is_not_empty = refl

a_space_is_32 : is_space 32 ≡ true
a_space_is_32 = refl

a_tab_is_no_space : is_space 9 ≡ false
a_tab_is_no_space = refl

a_space_is_blank : is_blank 32 ≡ true
a_space_is_blank = refl

a_tab_is_blank : is_blank 9 ≡ true
a_tab_is_blank = refl

a_line_feed_is_not_blank : is_blank 10 ≡ false
a_line_feed_is_not_blank = refl

words_stand_between_spaces : words (codes " ab  c ") ≡ codes "ab" ∷ codes "c" ∷ []
unfolding reading
words_stand_between_spaces = refl

a_tab_parts_no_words : words (codes "a\tb") ≡ codes "a\tb" ∷ []
unfolding reading
a_tab_parts_no_words = refl

spaces_have_no_words : words (codes "  ") ≡ []
unfolding reading
spaces_have_no_words = refl

trims_the_front_alone : trim_front is_blank (codes "\t a b ") ≡ codes "a b "
unfolding reading
trims_the_front_alone = refl

trims_both_ends : trim_by is_blank (codes " \ta b\t ") ≡ codes "a b"
unfolding reading
trims_both_ends = refl

trims_all_of_blanks : trim_by is_blank (codes " \t ") ≡ []
unfolding reading
trims_all_of_blanks = refl

keeps_other_ends : trim_by is_blank (codes "\na \r") ≡ codes "\na \r"
unfolding reading
keeps_other_ends = refl

reads_decimal : decimal_value (codes "0190") ≡ Some 190
unfolding reading
reads_decimal = refl

reads_decimal_beyond_64_bits : decimal_value (codes "18446744073709551616") ≡ Some (2 ^ 64)
unfolding reading
reads_decimal_beyond_64_bits = refl

no_decimal_of_nothing : decimal_value [] ≡ None
unfolding reading
no_decimal_of_nothing = refl

no_decimal_with_a_letter : decimal_value (codes "1a") ≡ None
unfolding reading
no_decimal_with_a_letter = refl

no_decimal_with_a_sign : decimal_value (codes "-1") ≡ None
unfolding reading
no_decimal_with_a_sign = refl

-- the bytes before 0 and after 9
no_decimal_with_a_slash : decimal_value (codes "/") ≡ None
unfolding reading
no_decimal_with_a_slash = refl

no_decimal_with_a_colon : decimal_value (codes ":") ≡ None
unfolding reading
no_decimal_with_a_colon = refl

prints_zero : signed_decimal (pos 0) ≡ codes "0"
unfolding reading
prints_zero = refl

prints_a_number : signed_decimal (pos 33188) ≡ codes "33188"
unfolding reading
prints_a_number = refl

prints_minus_1 : signed_decimal (negsuc 0) ≡ codes "-1"
unfolding reading
prints_minus_1 = refl

prints_minus_10 : signed_decimal (negsuc 9) ≡ codes "-10"
unfolding reading
prints_minus_10 = refl

the_digit_of_9 : hex_digit 9 ∷ [] ≡ codes "9"
the_digit_of_9 = refl

the_digit_of_10 : hex_digit 10 ∷ [] ≡ codes "a"
the_digit_of_10 = refl

two_digits_for_each_byte : hexadecimal (0 ∷ 15 ∷ 16 ∷ 255 ∷ 171 ∷ []) ≡ codes "000f10ffab"
unfolding reading
two_digits_for_each_byte = refl

no_digits_for_nothing : hexadecimal [] ≡ []
unfolding reading
no_digits_for_nothing = refl

-- the first and the last byte that stand for themselves
keeps_33 : escaped_byte 33 ≡ codes "!"
unfolding reading
keeps_33 = refl

keeps_126 : escaped_byte 126 ≡ codes "~"
unfolding reading
keeps_126 = refl

escapes_32 : escaped_byte 32 ≡ codes "\\x20"
unfolding reading
escapes_32 = refl

escapes_127 : escaped_byte 127 ≡ codes "\\x7f"
unfolding reading
escapes_127 = refl

escapes_the_backslash : escaped_byte 92 ≡ codes "\\x5c"
unfolding reading
escapes_the_backslash = refl

escapes_each_byte_of_a_name : escaped (codes "/a b" ++ 255 ∷ []) ≡ codes "/a\\x20b\\xff"
unfolding reading
escapes_each_byte_of_a_name = refl

escapes_nothing : escaped [] ≡ []
unfolding reading
escapes_nothing = refl

a_line_ends_in_a_line_feed : line (codes "a") ≡ codes "a\n"
a_line_ends_in_a_line_feed = refl

an_empty_line : line [] ≡ 10 ∷ []
an_empty_line = refl

names_the_refusal : refused_line 50 ≡ codes "refused 50\n"
unfolding reading
names_the_refusal = refl

names_refusal_0 : refused_line 0 ≡ codes "refused 0\n"
unfolding reading
names_refusal_0 = refl

keeps_a_front_that_does_not_pass : trim_front is_blank (codes "a \t") ≡ codes "a \t"
unfolding reading
keeps_a_front_that_does_not_pass = refl
