-- Blocks and the fragments in them, by example.
use Rattle.std.proofs.Common.{◌≡◌, ℕ, ◌-◌, ◌^◌, ◌<◌, ◌⊎◌, List, [], ◌∷◌, ◌++◌, length, replicate, take, Some, None, Ok, Err, true, false, refl, sym, ap, inl, inr, arith, lit≤}
use Rattle.std.specs.Prelude.{codes, pos, negsuc, ℤ, bytes_eq}
use Rattle.br_model.specs.Name.{SessionKey}
use Rattle.br_model.specs.Block.{be32, signed_be32, u32_at, i32_at, Header, letters, older_letters, header_length, header_bytes, has_letters, session_of, read_header, read_block, Fragment, fragment_bytes, spelling, record_header_length, MayHold, IsFragmentOf, AreFilled, AreFragments, record_session, behind_session, first_fragment, behind_first, fragments_in, fragments_of}
use Rattle.br_model.proofs.Reading.{reading}

-- ---- numbers of four bytes

the_highest_byte_first : be32 4194561 ≡ 0 ∷ 64 ∷ 1 ∷ 1 ∷ []
the_highest_byte_first = refl

the_greatest_of_four_bytes : be32 4294967295 ≡ replicate 4 255
the_greatest_of_four_bytes = refl

the_bytes_of_2 : signed_be32 (pos 2) ≡ 0 ∷ 0 ∷ 0 ∷ 2 ∷ []
the_bytes_of_2 = refl

the_bytes_of_minus_2 : signed_be32 (negsuc 1) ≡ 255 ∷ 255 ∷ 255 ∷ 254 ∷ []
the_bytes_of_minus_2 = refl

reads_from_a_place_on : u32_at 1 (9 ∷ 1 ∷ 2 ∷ 3 ∷ 4 ∷ 9 ∷ []) ≡ 16909060
reads_from_a_place_on = refl

reads_255s : u32_at 0 (replicate 4 255) ≡ 4294967295
reads_255s = refl

reads_minus_2 : i32_at 1 (0 ∷ 255 ∷ 255 ∷ 255 ∷ 254 ∷ []) ≡ negsuc 1
reads_minus_2 = refl

reads_the_greatest : i32_at 0 (127 ∷ 255 ∷ 255 ∷ 255 ∷ []) ≡ pos 2147483647
reads_the_greatest = refl

reads_the_least : i32_at 0 (128 ∷ 0 ∷ 0 ∷ 0 ∷ []) ≡ negsuc 2147483647
reads_the_least = refl

-- ---- headers

key : SessionKey
key = record { id = 4; time = 5 }

header : ℕ → Header
header size = record { checksum = 1; size = size; number = 3; session = Some key }

the_letters : letters ≡ 66 ∷ 66 ∷ 48 ∷ 50 ∷ []
the_letters = refl

writes_a_header : header_bytes (header 258) ≡ 0 ∷ 0 ∷ 0 ∷ 1 ∷ 0 ∷ 0 ∷ 1 ∷ 2 ∷ 0 ∷ 0 ∷ 0 ∷ 3 ∷ 66 ∷ 66 ∷ 48 ∷ 50 ∷ 0 ∷ 0 ∷ 0 ∷ 4 ∷ 0 ∷ 0 ∷ 0 ∷ 5 ∷ []
unfolding key header reading
writes_a_header = refl

the_session_of_a_header : session_of (header_bytes (header 258) ++ replicate 12 9) ≡ Some key
unfolding key header reading
the_session_of_a_header = refl

reads_a_header : read_header (header_bytes (header 258)) ≡ Ok (header 258)
unfolding key header reading
reads_a_header = refl

reads_the_least_size : read_header (header_bytes (header 24)) ≡ Ok (header 24)
unfolding key header reading
reads_the_least_size = refl

refuses_size_23 : read_header (header_bytes (header 23)) ≡ Err 11
unfolding key header reading
refuses_size_23 = refl

reads_the_greatest_size : read_header (header_bytes (header 4194304)) ≡ Ok (header 4194304)
unfolding key header reading
reads_the_greatest_size = refl

refuses_size_4194305 : read_header (header_bytes (header 4194305)) ≡ Err 11
unfolding key header reading
refuses_size_4194305 = refl

refuses_23_bytes : read_header (take 23 (header_bytes (header 24))) ≡ Err 12
unfolding key header reading
refuses_23_bytes = refl

refuses_16_bytes_with_the_letters : read_header (take 16 (header_bytes (header 24))) ≡ Err 12
unfolding key header reading
refuses_16_bytes_with_the_letters = refl

refuses_15_bytes : read_header (take 15 (header_bytes (header 24))) ≡ Err 12
unfolding key header reading
refuses_15_bytes = refl

refuses_15_bytes_before_the_letters : read_header (replicate 15 0) ≡ Err 12
unfolding reading
refuses_15_bytes_before_the_letters = refl

refuses_the_letters_in_16_bytes : read_header (replicate 16 0) ≡ Err 10
unfolding reading
refuses_the_letters_in_16_bytes = refl

refuses_the_letters_in_23_bytes : read_header (replicate 23 0) ≡ Err 10
unfolding reading
refuses_the_letters_in_23_bytes = refl

refuses_letters_before_the_size : read_header (replicate 24 0) ≡ Err 10
unfolding reading
refuses_letters_before_the_size = refl

refuses_the_letters_of_another_level : read_header (replicate 4 0 ++ be32 24 ++ be32 0 ++ codes "BB03" ++ replicate 8 0) ≡ Err 10
unfolding reading
refuses_the_letters_of_another_level = refl

refuses_the_letters_of_another_level_in_20_bytes : read_header (replicate 4 0 ++ be32 20 ++ be32 0 ++ codes "BB03" ++ replicate 4 0) ≡ Err 10
unfolding reading
refuses_the_letters_of_another_level_in_20_bytes = refl

refuses_small_letters : read_header (replicate 4 0 ++ be32 24 ++ be32 0 ++ codes "bb01" ++ replicate 8 0) ≡ Err 10
unfolding reading
refuses_small_letters = refl

refuses_the_length_before_the_size : read_header (take 23 (header_bytes (header 23))) ≡ Err 12
unfolding key header reading
refuses_the_length_before_the_size = refl

-- ---- headers of the older level

older : ℕ → Header
older size = record { checksum = 1; size = size; number = 3; session = None }

its_letters : older_letters ≡ 66 ∷ 66 ∷ 48 ∷ 49 ∷ []
its_letters = refl

the_older_header_has_16_bytes : header_length None ≡ 16
the_older_header_has_16_bytes = refl

a_header_with_a_session_has_24 : header_length (Some key) ≡ 24
a_header_with_a_session_has_24 = refl

writes_an_older_header : header_bytes (older 258) ≡ 0 ∷ 0 ∷ 0 ∷ 1 ∷ 0 ∷ 0 ∷ 1 ∷ 2 ∷ 0 ∷ 0 ∷ 0 ∷ 3 ∷ 66 ∷ 66 ∷ 48 ∷ 49 ∷ []
unfolding older reading
writes_an_older_header = refl

has_its_letters : has_letters older_letters (header_bytes (older 258)) ≡ true
unfolding older reading
has_its_letters = refl

has_no_others : has_letters letters (header_bytes (older 258)) ≡ false
unfolding older reading
has_no_others = refl

an_older_header_has_no_session : session_of (header_bytes (older 258) ++ be32 4 ++ be32 5) ≡ None
unfolding older reading
an_older_header_has_no_session = refl

reads_an_older_header : read_header (header_bytes (older 258)) ≡ Ok (older 258)
unfolding older reading
reads_an_older_header = refl

reads_an_older_header_before_others : read_header (header_bytes (older 258) ++ replicate 100 9) ≡ Ok (older 258)
unfolding older reading
reads_an_older_header_before_others = refl

reads_the_least_older_size : read_header (header_bytes (older 16)) ≡ Ok (older 16)
unfolding older reading
reads_the_least_older_size = refl

refuses_older_size_15 : read_header (header_bytes (older 15)) ≡ Err 11
unfolding older reading
refuses_older_size_15 = refl

reads_the_greatest_older_size : read_header (header_bytes (older 4194304)) ≡ Ok (older 4194304)
unfolding older reading
reads_the_greatest_older_size = refl

refuses_older_size_4194305 : read_header (header_bytes (older 4194305)) ≡ Err 11
unfolding older reading
refuses_older_size_4194305 = refl

refuses_15_bytes_of_an_older_header : read_header (take 15 (header_bytes (older 16))) ≡ Err 12
unfolding older reading
refuses_15_bytes_of_an_older_header = refl

reads_an_older_block_of_16_bytes : read_block (header_bytes (older 16) ++ 7 ∷ []) ≡ Ok (header_bytes (older 16))
unfolding older reading
reads_an_older_block_of_16_bytes = refl

refuses_an_older_block_without_its_last_byte : read_block (header_bytes (older 17)) ≡ Err 12
unfolding older reading
refuses_an_older_block_without_its_last_byte = refl

reads_a_whole_block : read_block (header_bytes (header 25) ++ 7 ∷ 8 ∷ []) ≡ Ok (header_bytes (header 25) ++ 7 ∷ [])
unfolding key header reading
reads_a_whole_block = refl

reads_a_block_to_its_last_byte : read_block (header_bytes (header 25) ++ 7 ∷ []) ≡ Ok (header_bytes (header 25) ++ 7 ∷ [])
unfolding key header reading
reads_a_block_to_its_last_byte = refl

refuses_a_block_without_its_last_byte : read_block (header_bytes (header 25)) ≡ Err 12
unfolding key header reading
refuses_a_block_without_its_last_byte = refl

refuses_the_header_first : read_block (replicate 24 0) ≡ Err 10
unfolding reading
refuses_the_header_first = refl

-- ---- fragments

part : ℤ → ℤ → ℕ → List ℕ → Fragment
part index stream size bytes = record { session = key; index = index; stream = stream; size = size; bytes = bytes }

writes_a_fragment : fragment_bytes (part (pos 1) (negsuc 1) 258 (codes "ab")) ≡ 0 ∷ 0 ∷ 0 ∷ 1 ∷ 255 ∷ 255 ∷ 255 ∷ 254 ∷ 0 ∷ 0 ∷ 1 ∷ 2 ∷ 97 ∷ 98 ∷ []
unfolding key header part reading
writes_a_fragment = refl

the_first_fragment_has_its_size : first_fragment (Some key) (fragment_bytes (part (pos 1) (pos 2) 2 (codes "abc"))) ≡ part (pos 1) (pos 2) 2 (codes "ab")
unfolding key header part reading
the_first_fragment_has_its_size = refl

the_first_fragment_has_what_is_left : first_fragment (Some key) (fragment_bytes (part (negsuc 0) (pos 2) 9 (codes "abc"))) ≡ part (negsuc 0) (pos 2) 9 (codes "abc")
unfolding key header part reading
the_first_fragment_has_what_is_left = refl

-- a block with these bytes after its header
block : List ℕ → List ℕ
block bytes = header_bytes (header 24) ++ bytes

one_fragment_behind_the_other : fragments_of (block (fragment_bytes (part (pos 1) (pos 2) 2 (codes "ab")) ++ fragment_bytes (part (pos 3) (negsuc 1) 9 (codes "c")))) ≡ part (pos 1) (pos 2) 2 (codes "ab") ∷ part (pos 3) (negsuc 1) 9 (codes "c") ∷ []
unfolding key header part block reading
one_fragment_behind_the_other = refl

twelve_bytes_are_a_fragment : fragments_of (block (replicate 12 0)) ≡ part (pos 0) (pos 0) 0 [] ∷ []
unfolding key header part block reading
twelve_bytes_are_a_fragment = refl

eleven_bytes_are_none : fragments_of (block (replicate 11 0)) ≡ []
unfolding key header part block reading
eleven_bytes_are_none = refl

headers_alone_are_all_fragments : fragments_of (block (replicate 300 0)) ≡ replicate 25 (part (pos 0) (pos 0) 0 [])
unfolding key header part block reading
headers_alone_are_all_fragments = refl

as_many_as_asked : fragments_in (Some key) 1 (replicate 24 0) ≡ part (pos 0) (pos 0) 0 [] ∷ []
unfolding key header part block reading
as_many_as_asked = refl

none_asked : fragments_in (Some key) 0 (replicate 24 0) ≡ []
unfolding key header part block reading
none_asked = refl

-- the greatest numbers of four bytes
is_a_fragment : IsFragmentOf (Some key) (part (negsuc (2 ^ 31 - 1)) (pos (2 ^ 31 - 1)) (2 ^ 32 - 1) [])
unfolding key part
is_a_fragment = record { session_is = refl; index_fits = record { sfits = lit≤ tt }; stream_fits = record { sfits = lit≤ tt }; size_fits = lit≤ tt }

no_fragment_of_2_to_the_32_bytes : IsFragmentOf (Some key) (part (pos 1) (pos 2) (2 ^ 32) []) → ⊥
unfolding key part
no_fragment_of_2_to_the_32_bytes f = let h = f.size_fits in omega arith

no_fragment_of_another_session : IsFragmentOf (Some (record { id = 4; time = 6 })) (part (pos 1) (pos 2) 0 []) → ⊥
unfolding key part
no_fragment_of_another_session f = let h : ◌≡◌ {A = ℕ} 5 6 = ap (λ (s : SessionKey). s.time) f.session_is in absurd cc

no_index_of_2_to_the_31 : IsFragmentOf (Some key) (part (pos (2 ^ 31)) (pos 2) 0 []) → ⊥
unfolding key part
no_index_of_2_to_the_31 f = let h = f.index_fits.sfits in omega arith

no_stream_below_minus_2_to_the_31 : IsFragmentOf (Some key) (part (pos 1) (negsuc (2 ^ 31)) 0 []) → ⊥
unfolding key part
no_stream_below_minus_2_to_the_31 f = let h = f.stream_fits.sfits in omega arith

whole : Fragment
whole = part (pos 1) (pos 2) 2 (codes "ab")

short : Fragment
short = part (pos 1) (pos 2) 3 (codes "ab")

filled_before_a_rest : AreFilled (whole ∷ whole ∷ []) (0 ∷ [])
unfolding whole part
filled_before_a_rest = (refl, inl refl)

the_last_may_be_short : AreFilled (whole ∷ short ∷ []) []
unfolding whole short part
the_last_may_be_short = (refl, inr (lit≤ tt, refl))

not_short_before_a_rest : AreFilled (short ∷ []) (0 ∷ []) → ⊥
unfolding short part
not_short_before_a_rest filled = refute filled
  where
    refute : (◌≡◌ {A = ℕ} 2 3) ⊎ ((2 < 3) × (◌≡◌ {A = List ℕ} (0 ∷ []) [])) → ⊥
    refute (inl e) = absurd cc
    refute (inr e) = let h = e.1 in absurd cc

not_short_before_another : AreFilled (short ∷ whole ∷ []) [] → ⊥
unfolding short whole part
not_short_before_another filled = let h = filled.0 in absurd cc

not_longer_than_its_size : AreFilled (part (pos 1) (pos 2) 1 (codes "ab") ∷ []) [] → ⊥
unfolding part
not_longer_than_its_size filled = refute filled
  where
    refute : (◌≡◌ {A = ℕ} 2 1) ⊎ ((2 < 1) × (◌≡◌ {A = List ℕ} [] [])) → ⊥
    refute (inl e) = absurd cc
    refute (inr e) = let h = e.0 in omega arith

-- a rest of eleven bytes
are_fragments : AreFragments (block (fragment_bytes whole ++ replicate 11 9)) (whole ∷ [])
unfolding key header part block whole reading
are_fragments = record {
  rest = replicate 11 9;
  joined = refl;
  rest_is_short = lit≤ tt;
  filled = inl refl;
  each = (record { session_is = refl; index_fits = record { sfits = lit≤ tt }; stream_fits = record { sfits = lit≤ tt }; size_fits = lit≤ tt }, tt);
}

are_fragments_in_order : AreFragments (block (fragment_bytes whole ++ fragment_bytes short)) (whole ∷ short ∷ [])
unfolding key header part block whole short reading
are_fragments_in_order = record {
  rest = [];
  joined = refl;
  rest_is_short = lit≤ tt;
  filled = (refl, inr (lit≤ tt, refl));
  each = (
    record { session_is = refl; index_fits = record { sfits = lit≤ tt }; stream_fits = record { sfits = lit≤ tt }; size_fits = lit≤ tt },
    (record { session_is = refl; index_fits = record { sfits = lit≤ tt }; stream_fits = record { sfits = lit≤ tt }; size_fits = lit≤ tt }, tt),
  );
}

no_fragments_in_eleven_bytes : AreFragments (block (replicate 11 0)) []
unfolding key header block reading
no_fragments_in_eleven_bytes = record { rest = replicate 11 0; joined = refl; rest_is_short = lit≤ tt; filled = tt; each = tt }

no_rest_of_12_bytes : AreFragments (block (replicate 12 0)) [] → ⊥
unfolding key header block reading
no_rest_of_12_bytes f =
    let short = f.rest_is_short in
    let size : length f.rest ≡ 12 = ap length (sym f.joined) in omega arith

-- ---- a session at its place

the_session_of_the_greatest_numbers : session_of (replicate 16 0 ++ replicate 8 255) ≡ Some (record { id = 4294967295; time = 4294967295 })
the_session_of_the_greatest_numbers = refl

the_session_stands_behind_16_bytes : session_of (replicate 16 9 ++ be32 1 ++ be32 2 ++ be32 3) ≡ Some (record { id = 1; time = 2 })
the_session_stands_behind_16_bytes = refl

other_letters_are_not_these : bytes_eq letters (codes "BB01") ≡ false
other_letters_are_not_these = refl

-- ---- fragments of the older level

other : SessionKey
other = record { id = 6; time = 7 }

part_of : SessionKey → ℤ → ℤ → ℕ → List ℕ → Fragment
part_of session index stream size bytes = record { session = session; index = index; stream = stream; size = size; bytes = bytes }

-- a block of the older level with these bytes after its header
older_block : List ℕ → List ℕ
older_block bytes = header_bytes (older 16) ++ bytes

unfoldable aged : Unit {0}
unfolding key other older part_of older_block reading
aged = tt

writes_its_session_first : spelling None (part_of other (pos 1) (negsuc 1) 258 (codes "ab"))
    ≡ 0 ∷ 0 ∷ 0 ∷ 6 ∷ 0 ∷ 0 ∷ 0 ∷ 7 ∷ 0 ∷ 0 ∷ 0 ∷ 1 ∷ 255 ∷ 255 ∷ 255 ∷ 254 ∷ 0 ∷ 0 ∷ 1 ∷ 2 ∷ 97 ∷ 98 ∷ []
unfolding aged
writes_its_session_first = refl

writes_no_session_in_a_block_of_one : spelling (Some key) (part_of key (pos 1) (pos 2) 2 (codes "ab")) ≡ fragment_bytes (part_of key (pos 1) (pos 2) 2 (codes "ab"))
writes_no_session_in_a_block_of_one = refl

its_record_headers_have_20_bytes : record_header_length None ≡ 20
its_record_headers_have_20_bytes = refl

those_of_one_session_have_12 : record_header_length (Some key) ≡ 12
those_of_one_session_have_12 = refl

its_own_session : record_session None (be32 6 ++ be32 7 ++ be32 8) ≡ record { id = 6; time = 7 }
its_own_session = refl

the_session_of_its_block : record_session (Some (record { id = 4; time = 5 })) (be32 6 ++ be32 7 ++ be32 8) ≡ record { id = 4; time = 5 }
the_session_of_its_block = refl

behind_its_own_session : behind_session None (be32 6 ++ be32 7 ++ be32 8) ≡ be32 8
behind_its_own_session = refl

behind_no_session : behind_session (Some (record { id = 4; time = 5 })) (be32 6 ++ be32 7 ++ be32 8) ≡ be32 6 ++ be32 7 ++ be32 8
behind_no_session = refl

the_first_older_fragment : first_fragment None (spelling None (part_of other (pos 1) (pos 2) 2 (codes "abc"))) ≡ part_of other (pos 1) (pos 2) 2 (codes "ab")
unfolding aged
the_first_older_fragment = refl

behind_the_first_older_fragment : behind_first None (spelling None (part_of other (pos 1) (pos 2) 2 (codes "abc"))) ≡ codes "c"
unfolding aged
behind_the_first_older_fragment = refl

two_sessions_in_one_block : fragments_of (older_block (spelling None (part_of other (pos 1) (pos 2) 2 (codes "ab")) ++ spelling None (part_of key (pos 3) (negsuc 1) 9 (codes "c"))))
    ≡ part_of other (pos 1) (pos 2) 2 (codes "ab") ∷ part_of key (pos 3) (negsuc 1) 9 (codes "c") ∷ []
unfolding aged
two_sessions_in_one_block = refl

no_fragment_behind_16_bytes : fragments_of (older_block []) ≡ []
unfolding aged
no_fragment_behind_16_bytes = refl

twenty_bytes_are_an_older_fragment : fragments_of (older_block (replicate 20 0)) ≡ part_of (record { id = 0; time = 0 }) (pos 0) (pos 0) 0 [] ∷ []
unfolding aged
twenty_bytes_are_an_older_fragment = refl

nineteen_bytes_are_none : fragments_of (older_block (replicate 19 0)) ≡ []
unfolding aged
nineteen_bytes_are_none = refl

older_headers_alone_are_all_fragments : fragments_of (older_block (replicate 300 0)) ≡ replicate 15 (part_of (record { id = 0; time = 0 }) (pos 0) (pos 0) 0 [])
unfolding aged
older_headers_alone_are_all_fragments = refl

-- the greatest numbers of four bytes
is_an_older_fragment : IsFragmentOf None (part_of (record { id = 2 ^ 32 - 1; time = 2 ^ 32 - 1 }) (pos 1) (pos 2) 0 [])
unfolding aged
is_an_older_fragment = record { session_is = (lit≤ tt, lit≤ tt); index_fits = record { sfits = lit≤ tt }; stream_fits = record { sfits = lit≤ tt }; size_fits = lit≤ tt }

no_session_of_2_to_the_32 : MayHold None (record { id = 1; time = 2 ^ 32 }) → ⊥
no_session_of_2_to_the_32 may = let h = may.1 in omega arith

are_older_fragments : AreFragments (older_block (spelling None (part_of other (pos 1) (pos 2) 2 (codes "ab")) ++ replicate 19 9)) (part_of other (pos 1) (pos 2) 2 (codes "ab") ∷ [])
unfolding aged
are_older_fragments = record {
  rest = replicate 19 9;
  joined = refl;
  rest_is_short = lit≤ tt;
  filled = inl refl;
  each = (record { session_is = (lit≤ tt, lit≤ tt); index_fits = record { sfits = lit≤ tt }; stream_fits = record { sfits = lit≤ tt }; size_fits = lit≤ tt }, tt);
}

no_older_rest_of_20_bytes : AreFragments (older_block (replicate 20 0)) [] → ⊥
unfolding aged
no_older_rest_of_20_bytes f =
    let short = f.rest_is_short in
    let size : length f.rest ≡ 20 = ap length (sym f.joined) in omega arith
