-- Records of one file, by example.
use Rattle.std.proofs.Common.{◌≡◌, ℕ, ◌-◌, ◌^◌, List, [], ◌∷◌, ◌++◌, replicate, Result, Ok, Err, true, false, refl}
use Rattle.std.specs.Prelude.{codes}
use Rattle.std.specs.Result.{result_map_both}
use Rattle.br_model.specs.Record.{Record}
use Rattle.br_model.specs.Attribute.{Attributes}
use Rattle.br_model.specs.File.{Item, Fault, Outcome, fault, is_stream, is_data, is_passed_over, is_supported, has_bytes, attributes_of, unsupported, Extent, extent_end, extent_of, extents_from, bytes_from, greatest_end, content}
use Rattle.br_model.proofs.Reading.{reading}

of : ℕ → List ℕ → Record
of stream bytes = record { index = 1; stream = stream; bytes = bytes }

attributes : Record
attributes = of 1 (codes "1 3 /a" ++ 0 ∷ codes "A A IGk B A A A O A A A A A A" ++ 0 ∷ 0 ∷ [])

-- the bytes and the number of skipped records, or the number and the stream of the fault
shown : Outcome → Result (List ℕ × ℕ) (ℕ × ℕ)
shown r = result_map_both (λ (i : Item). (i.bytes, i.skipped)) (λ (f : Fault). (f.number, f.stream)) r

sparse : ℕ → List ℕ → Record
sparse address bytes = of 6 (replicate 7 0 ++ address ∷ bytes)

fills_gaps : shown (content 1 (attributes ∷ sparse 0 (codes "ab") ∷ sparse 4 (codes "c") ∷ [])) ≡ Ok (97 ∷ 98 ∷ 0 ∷ 0 ∷ 99 ∷ [], 0)
unfolding of attributes shown sparse reading
fills_gaps = refl

refuses_sparse_back : shown (content 1 (attributes ∷ sparse 0 (codes "ab") ∷ sparse 4 (codes "c") ∷ sparse 3 [] ∷ [])) ≡ Err (67, 0)
unfolding of attributes shown sparse reading
refuses_sparse_back = refl

refuses_too_large : shown (content 1 (attributes ∷ of 6 (0 ∷ 0 ∷ 0 ∷ 0 ∷ 64 ∷ 0 ∷ 0 ∷ 0 ∷ 7 ∷ []) ∷ [])) ≡ Err (68, 0)
unfolding of attributes shown sparse reading
refuses_too_large = refl

-- the digest of hello
digest : Record
digest = of 3 (0x5d ∷ 0x41 ∷ 0x40 ∷ 0x2a ∷ 0xbc ∷ 0x4b ∷ 0x2a ∷ 0x76 ∷ 0xb9 ∷ 0x71 ∷ 0x9d ∷ 0x91 ∷ 0x10 ∷ 0x17 ∷ 0xc5 ∷ 0x92 ∷ [])

accepts_digest : shown (content 1 (attributes ∷ of 2 (codes "hello") ∷ digest ∷ [])) ≡ Ok (codes "hello", 0)
unfolding of attributes shown digest reading
accepts_digest = refl

refuses_digest : shown (content 1 (attributes ∷ of 2 (codes "hallo") ∷ digest ∷ [])) ≡ Err (66, 0)
unfolding of attributes shown digest reading
refuses_digest = refl

-- a digest of sparse data is not held against it
skips_digest : shown (content 1 (attributes ∷ sparse 1 (codes "c") ∷ digest ∷ of 1000 [] ∷ [])) ≡ Ok (0 ∷ 99 ∷ [], 2)
unfolding of attributes shown sparse digest reading
skips_digest = refl

refuses_no_attributes : shown (content 1 []) ≡ Err (63, 0)
unfolding shown reading
refuses_no_attributes = refl

refuses_two_attributes : shown (content 1 (attributes ∷ attributes ∷ [])) ≡ Err (64, 0)
unfolding of attributes shown reading
refuses_two_attributes = refl

refuses_stream : shown (content 1 (attributes ∷ of 4 [] ∷ of 5 [] ∷ [])) ≡ Err (65, 4)
unfolding of attributes shown reading
refuses_stream = refl

-- ---- streams

no_stream_behind_a_fault : fault 66 ≡ record { number = 66; stream = 0 }
no_stream_behind_a_fault = refl

the_stream_of_a_record : is_stream 3 (of 3 []) ≡ true
unfolding of reading
the_stream_of_a_record = refl

another_stream : is_stream 3 (of 2 []) ≡ false
unfolding of reading
another_stream = refl

plain_is_data : is_data (of 2 []) ≡ true
unfolding of reading
plain_is_data = refl

sparse_is_data : is_data (of 6 []) ≡ true
unfolding of reading
sparse_is_data = refl

attributes_are_no_data : is_data (of 1 []) ≡ false
unfolding of reading
attributes_are_no_data = refl

digest_is_no_data : is_data (of 3 []) ≡ false
unfolding of reading
digest_is_no_data = refl

passes_over_10 : is_passed_over (of 10 []) ≡ true
unfolding of reading
passes_over_10 = refl

passes_over_1000 : is_passed_over (of 1000 []) ≡ true
unfolding of reading
passes_over_1000 = refl

passes_over_1999 : is_passed_over (of 1999 []) ≡ true
unfolding of reading
passes_over_1999 = refl

does_not_pass_over_9 : is_passed_over (of 9 []) ≡ false
unfolding of reading
does_not_pass_over_9 = refl

does_not_pass_over_11 : is_passed_over (of 11 []) ≡ false
unfolding of reading
does_not_pass_over_11 = refl

does_not_pass_over_999 : is_passed_over (of 999 []) ≡ false
unfolding of reading
does_not_pass_over_999 = refl

does_not_pass_over_2000 : is_passed_over (of 2000 []) ≡ false
unfolding of reading
does_not_pass_over_2000 = refl

supports_1 : is_supported (of 1 []) ≡ true
unfolding of reading
supports_1 = refl

supports_2 : is_supported (of 2 []) ≡ true
unfolding of reading
supports_2 = refl

supports_3 : is_supported (of 3 []) ≡ true
unfolding of reading
supports_3 = refl

supports_6 : is_supported (of 6 []) ≡ true
unfolding of reading
supports_6 = refl

supports_10 : is_supported (of 10 []) ≡ true
unfolding of reading
supports_10 = refl

supports_1500 : is_supported (of 1500 []) ≡ true
unfolding of reading
supports_1500 = refl

does_not_support_0 : is_supported (of 0 []) ≡ false
unfolding of reading
does_not_support_0 = refl

does_not_support_4 : is_supported (of 4 []) ≡ false
unfolding of reading
does_not_support_4 = refl

does_not_support_7 : is_supported (of 7 []) ≡ false
unfolding of reading
does_not_support_7 = refl

does_not_support_2000 : is_supported (of 2000 []) ≡ false
unfolding of reading
does_not_support_2000 = refl

type_1_has_none : has_bytes 1 ≡ false
type_1_has_none = refl

type_2_has_bytes : has_bytes 2 ≡ true
type_2_has_bytes = refl

type_3_has_bytes : has_bytes 3 ≡ true
type_3_has_bytes = refl

type_4_has_none : has_bytes 4 ≡ false
type_4_has_none = refl

type_5_has_none : has_bytes 5 ≡ false
type_5_has_none = refl

names_the_first_stream : unsupported (of 1 [] ∷ of 7 [] ∷ of 4 [] ∷ []) ≡ Err (record { number = 65; stream = 7 })
unfolding of reading
names_the_first_stream = refl

names_no_stream : unsupported (of 1 [] ∷ of 1999 [] ∷ []) ≡ Ok tt
unfolding of reading
names_no_stream = refl

-- ---- attributes

-- the number of the refusal, or the type
type_of : Result Attributes ℕ → Result ℕ ℕ
type_of r = result_map_both (λ (a : Attributes). a.kind) (λ n. n) r

reads_the_attributes : type_of (attributes_of 1 (attributes ∷ [])) ≡ Ok 3
unfolding of attributes type_of reading
reads_the_attributes = refl

refuses_no_attribute_record : type_of (attributes_of 1 []) ≡ Err 63
unfolding of attributes type_of reading
refuses_no_attribute_record = refl

refuses_attributes_of_another_index : type_of (attributes_of 2 (attributes ∷ [])) ≡ Err 64
unfolding of attributes type_of reading
refuses_attributes_of_another_index = refl

refuses_two_attribute_records : type_of (attributes_of 1 (attributes ∷ attributes ∷ [])) ≡ Err 64
unfolding of attributes type_of reading
refuses_two_attribute_records = refl

-- ---- data

extent : ℕ → List ℕ → Extent
extent start bytes = record { start = start; bytes = bytes }

the_end_is_behind_the_last_byte : extent_end (extent 4 (codes "ab")) ≡ 6
unfolding of sparse extent reading
the_end_is_behind_the_last_byte = refl

plain_data_stands_at_the_end : extent_of 5 (of 2 (codes "ab")) ≡ Ok (extent 5 (codes "ab"))
unfolding of sparse extent reading
plain_data_stands_at_the_end = refl

sparse_data_stands_at_its_address : extent_of 5 (sparse 7 (codes "ab")) ≡ Ok (extent 7 (codes "ab"))
unfolding of sparse extent reading
sparse_data_stands_at_its_address = refl

sparse_data_may_stand_at_the_end : extent_of 5 (sparse 5 (codes "ab")) ≡ Ok (extent 5 (codes "ab"))
unfolding of sparse extent reading
sparse_data_may_stand_at_the_end = refl

refuses_sparse_data_before_the_end : extent_of 5 (sparse 4 (codes "ab")) ≡ Err 67
unfolding of sparse extent reading
refuses_sparse_data_before_the_end = refl

accepts_an_address_alone : extent_of 5 (sparse 5 []) ≡ Ok (extent 5 [])
unfolding of sparse extent reading
accepts_an_address_alone = refl

refuses_seven_bytes_of_address : extent_of 0 (of 6 (replicate 7 0)) ≡ Err 67
unfolding of sparse extent reading
refuses_seven_bytes_of_address = refl

the_address_has_its_highest_byte_first : extent_of 0 (of 6 (0 ∷ 0 ∷ 0 ∷ 0 ∷ 0 ∷ 0 ∷ 1 ∷ 2 ∷ 7 ∷ [])) ≡ Ok (extent 258 (7 ∷ []))
unfolding of sparse extent reading
the_address_has_its_highest_byte_first = refl

the_last_byte_may_stand_before_2_to_the_30 : extent_of 0 (of 6 (0 ∷ 0 ∷ 0 ∷ 0 ∷ 63 ∷ 255 ∷ 255 ∷ 255 ∷ 7 ∷ [])) ≡ Ok (extent (2 ^ 30 - 1) (7 ∷ []))
unfolding of sparse extent reading
the_last_byte_may_stand_before_2_to_the_30 = refl

refuses_a_byte_at_2_to_the_30 : extent_of 0 (of 6 (0 ∷ 0 ∷ 0 ∷ 0 ∷ 64 ∷ 0 ∷ 0 ∷ 0 ∷ 7 ∷ [])) ≡ Err 68
unfolding of sparse extent reading
refuses_a_byte_at_2_to_the_30 = refl

refuses_plain_data_past_2_to_the_30 : extent_of (2 ^ 30 - 1) (of 2 (codes "ab")) ≡ Err 68
unfolding of sparse extent reading
refuses_plain_data_past_2_to_the_30 = refl

each_extent_behind_the_one_before : extents_from 1 (of 2 (codes "ab") ∷ sparse 5 (codes "c") ∷ of 2 (codes "d") ∷ []) ≡ Ok (extent 1 (codes "ab") ∷ extent 5 (codes "c") ∷ extent 6 (codes "d") ∷ [])
unfolding of sparse extent reading
each_extent_behind_the_one_before = refl

no_extents : extents_from 7 [] ≡ Ok []
unfolding of sparse extent reading
no_extents = refl

the_first_fault_of_data : extents_from 0 (of 2 (codes "ab") ∷ sparse 1 [] ∷ of 6 (0 ∷ 0 ∷ 0 ∷ 0 ∷ 64 ∷ 0 ∷ 0 ∷ 0 ∷ 7 ∷ []) ∷ []) ≡ Err 67
unfolding of sparse extent reading
the_first_fault_of_data = refl

zeros_between_extents : bytes_from 1 (extent 3 (codes "ab") ∷ extent 5 (codes "c") ∷ extent 7 (codes "d") ∷ []) ≡ 0 ∷ 0 ∷ codes "abc" ++ 0 ∷ codes "d"
unfolding of sparse extent reading
zeros_between_extents = refl

no_bytes_of_no_extents : bytes_from 7 [] ≡ []
unfolding of sparse extent reading
no_bytes_of_no_extents = refl

the_greatest_of_all_ends : greatest_end (extent 0 (codes "ab") ∷ extent 4 (codes "c") ∷ extent 1 (codes "d") ∷ []) ≡ 5
unfolding of sparse extent reading
the_greatest_of_all_ends = refl

the_greatest_of_no_ends : greatest_end [] ≡ 0
unfolding of sparse extent reading
the_greatest_of_no_ends = refl
