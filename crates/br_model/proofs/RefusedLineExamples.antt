-- The first refused line of a bootstrap, by example.
use Rattle.std.proofs.Common.{◌≡◌, ℕ, [], ◌∷◌, ◌++◌, replicate, Ok, Err, true, false, refl}
use Rattle.std.specs.Prelude.{codes}
use Rattle.br_model.specs.Bootstrap.{Range, FileIndex, Stream, VolAddr, SessionId, group_on, with_ranges}
use Rattle.br_model.specs.BootstrapText.{Nothing, OnVolume, Admits, read_assignment, read_line, LineFault, read_lines, read_bootstrap}
use Rattle.br_model.proofs.BootstrapTextExamples.{reading_text}

between : ℕ → ℕ → Range
between low high = record { low = low; high = high }

refused : ℕ → ℕ → LineFault
refused number line = record { number = number; line = line }

reads_an_assignment : read_assignment true (codes "FileIndex \t= 3") ≡ Ok (Admits FileIndex (between 3 3 ∷ []))
unfolding between refused reading_text
reads_an_assignment = refl

no_keyword : read_assignment true (codes "Foo") ≡ Err 31
unfolding between refused reading_text
no_keyword = refl

no_keyword_before_the_volume : read_assignment false (codes "Foo=1") ≡ Err 31
unfolding between refused reading_text
no_keyword_before_the_volume = refl

not_supported_without_a_value : read_assignment false (codes "JobId") ≡ Err 32
unfolding between refused reading_text
not_supported_without_a_value = refl

no_volume_before_the_value : read_assignment false (codes "FileIndex") ≡ Err 30
unfolding between refused reading_text
no_volume_before_the_value = refl

no_volume_before_a_bad_value : read_assignment false (codes "FileIndex=x") ≡ Err 30
unfolding between refused reading_text
no_volume_before_a_bad_value = refl

no_equals_sign : read_assignment true (codes "Volume") ≡ Err 33
unfolding between refused reading_text
no_equals_sign = refl

no_equals_sign_of_what_is_passed_over : read_assignment true (codes "Storage") ≡ Err 33
unfolding between refused reading_text
no_equals_sign_of_what_is_passed_over = refl

no_value_of_a_volume : read_assignment true (codes "Volume=") ≡ Err 33
unfolding between refused reading_text
no_value_of_a_volume = refl

a_second_equals_sign_is_of_the_value : read_assignment true (codes "Storage=a=b") ≡ Ok Nothing
unfolding between refused reading_text
a_second_equals_sign_is_of_the_value = refl

a_volume_needs_no_volume : read_assignment false (codes "Volume=V1") ≡ Ok (OnVolume (codes "V1"))
unfolding between refused reading_text
a_volume_needs_no_volume = refl

nothing_on_an_empty_line : read_line false [] ≡ Ok Nothing
unfolding between refused reading_text
nothing_on_an_empty_line = refl

nothing_on_a_line_of_blanks : read_line false (codes " \t") ≡ Ok Nothing
unfolding between refused reading_text
nothing_on_a_line_of_blanks = refl

nothing_but_a_comment : read_line false (codes " # Foo") ≡ Ok Nothing
unfolding between refused reading_text
nothing_but_a_comment = refl

reads_4096_bytes : read_line true (codes "Stream=1" ++ replicate 4088 32) ≡ Ok (Admits Stream (between 1 1 ∷ []))
unfolding between refused reading_text
reads_4096_bytes = refl

refuses_4097_bytes : read_line true (codes "Stream=1" ++ replicate 4089 32) ≡ Err 34
unfolding between refused reading_text
refuses_4097_bytes = refl

refuses_a_long_comment : read_line true (35 ∷ replicate 4096 32) ≡ Err 34
unfolding between refused reading_text
refuses_a_long_comment = refl

too_long_before_all_else : read_line false (codes "Foo" ++ replicate 4094 32) ≡ Err 34
unfolding between refused reading_text
too_long_before_all_else = refl

counts_lines_from_a_number : read_lines 7 [] ([] ∷ codes "Foo" ∷ codes "Bar" ∷ []) ≡ Err (refused 31 8)
unfolding between refused reading_text
counts_lines_from_a_number = refl

no_more_lines : read_lines 7 (group_on (codes "A") ∷ []) [] ≡ Ok (group_on (codes "A") ∷ [])
unfolding between refused reading_text
no_more_lines = refl

criteria_of_the_last_volume : read_bootstrap (codes "Volume=A\nStream=1\nVolume=B\nStream=2\nStream=1") ≡ Ok (with_ranges Stream (between 1 1 ∷ []) (group_on (codes "A")) ∷ with_ranges Stream (between 2 2 ∷ between 1 1 ∷ []) (group_on (codes "B")) ∷ [])
unfolding between refused reading_text
criteria_of_the_last_volume = refl

the_first_refused_line : read_bootstrap (codes "\n# a\nVolume=A\nStream=0\nFoo") ≡ Err (refused 33 4)
unfolding between refused reading_text
the_first_refused_line = refl

the_greatest_numbers : read_bootstrap (codes "Volume=A\nVolSessionId=0-4294967295\nVolAddr=9223372036854775807") ≡ Ok (with_ranges VolAddr (between 9223372036854775807 9223372036854775807 ∷ []) (with_ranges SessionId (between 0 4294967295 ∷ []) (group_on (codes "A"))) ∷ [])
unfolding between refused reading_text
the_greatest_numbers = refl

an_empty_item : read_bootstrap (codes "Volume=A\nFileIndex=1,\n") ≡ Err (refused 33 2)
unfolding between refused reading_text
an_empty_item = refl
