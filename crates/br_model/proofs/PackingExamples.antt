-- Files, records, blocks and spans of a session, by example.
use Rattle.std.proofs.Common.{◌≡◌, ℕ, ◌-◌, ◌^◌, ◌<◌, ◌≤◌, List, [], ◌∷◌, ◌++◌, map, length, replicate, Result, Ok, Err, true, false, refl, arith, lit≤, flat_map, Some}
use Rattle.std.proofs.lemmas.Bool.{lt-ltb}
use Rattle.std.specs.Prelude.{codes, pos, negsuc, ℤ}
use Rattle.std.specs.Result.{result_map_both}
use Rattle.std.specs.List.{list_all, enumerate_from}
use Rattle.br_model.specs.Name.{SessionKey}
use Rattle.br_model.specs.Attribute.{stat_from}
use Rattle.br_model.specs.Block.{header_bytes, Fragment}
use Rattle.br_model.specs.Record.{Record}
use Rattle.br_model.specs.Job.{SavedFile}
use Rattle.br_model.specs.Session.{has_link, can_be_saved, checked_file, ToSave, is_earlier, links_back, checked_order, data_records, has_digest, attributes_of_saved, file_records, session_records, block_size, AreWritten, Closes, IsPart, AreClosed, written_block, ArePacked, visits, spans_from, checked_spans, rows_of}
use Rattle.br_model.proofs.Choosing.{choosing}

key : SessionKey
key = record { id = 1; time = 100 }

saved : ℕ → List ℕ → List ℕ → List ℕ → SavedFile
saved kind path bytes link = record { path = path; kind = kind; stat = stat_from []; link = link; bytes = bytes }

to_save : ℕ → List ℕ → ToSave
to_save kind path = record { file = saved kind path [] []; digest = true }

unfoldable packing : Unit {0}
unfolding key saved to_save choosing can_be_saved checked_file checked_order data_records file_records visits spans_from checked_spans rows_of
packing = tt

-- ---- files that can be saved

type_1_has_a_link_text : has_link 1 ≡ true
type_1_has_a_link_text = refl

type_2_has_no_link_text : has_link 2 ≡ false
type_2_has_no_link_text = refl

type_3_has_no_link_text : has_link 3 ≡ false
type_3_has_no_link_text = refl

type_4_has_a_link_text : has_link 4 ≡ true
type_4_has_a_link_text = refl

type_5_has_no_link_text : has_link 5 ≡ false
type_5_has_no_link_text = refl

no_type_0 : can_be_saved (saved 0 (codes "/a") [] []) ≡ false
unfolding packing
no_type_0 = refl

type_1 : can_be_saved (saved 1 (codes "/a") [] []) ≡ true
unfolding packing
type_1 = refl

type_5 : can_be_saved (saved 5 (codes "/a/") [] []) ≡ true
unfolding packing
type_5 = refl

no_type_6 : can_be_saved (saved 6 (codes "/a") [] []) ≡ false
unfolding packing
no_type_6 = refl

no_directory_without_a_slash : can_be_saved (saved 5 (codes "/a") [] []) ≡ false
unfolding packing
no_directory_without_a_slash = refl

no_other_with_a_slash : can_be_saved (saved 4 (codes "/a/") [] []) ≡ false
unfolding packing
no_other_with_a_slash = refl

a_file_with_bytes : can_be_saved (saved 3 (codes "/a") (codes "x") []) ≡ true
unfolding packing
a_file_with_bytes = refl

no_bytes_of_type_2 : can_be_saved (saved 2 (codes "/a") (codes "x") []) ≡ false
unfolding packing
no_bytes_of_type_2 = refl

type_2_without_bytes : can_be_saved (saved 2 (codes "/a") [] []) ≡ true
unfolding packing
type_2_without_bytes = refl

a_link_text_of_type_4 : can_be_saved (saved 4 (codes "/a") [] (codes "x")) ≡ true
unfolding packing
a_link_text_of_type_4 = refl

no_link_text_of_type_5 : can_be_saved (saved 5 (codes "/a/") [] (codes "x")) ≡ false
unfolding packing
no_link_text_of_type_5 = refl

a_link_text_of_4096 : can_be_saved (saved 4 (codes "/a") [] (replicate 4096 65)) ≡ true
unfolding packing
a_link_text_of_4096 = refl

no_link_text_of_4097 : can_be_saved (saved 4 (codes "/a") [] (replicate 4097 65)) ≡ false
unfolding packing
no_link_text_of_4097 = refl

no_link_text_with_nul : can_be_saved (saved 1 (codes "/a") [] (65 ∷ 0 ∷ [])) ≡ false
unfolding packing
no_link_text_with_nul = refl

-- a file of more than 2 ^ 30 bytes is refused before all else
refuses_a_large_file : (f : SavedFile) → 2 ^ 30 < length f.bytes → checked_file f ≡ Err 15
unfolding checked_file
refuses_a_large_file f large = rw (lt-ltb (2 ^ 30) (length f.bytes) large) refl

accepts_2_to_the_30_bytes : (f : SavedFile) → length f.bytes ≡ 2 ^ 30 → can_be_saved f ≡ true → checked_file f ≡ Ok f
unfolding checked_file
accepts_2_to_the_30_bytes f size can = rw (size, can) refl

-- ---- hard links

an_earlier_file : is_earlier ((1, to_save 3 (codes "/a")) ∷ (2, to_save 5 (codes "/b/")) ∷ (3, to_save 3 (codes "/c")) ∷ []) 2 (pos 1) ≡ true
unfolding packing
an_earlier_file = refl

no_file_at_the_index_itself : is_earlier ((1, to_save 3 (codes "/a")) ∷ (2, to_save 5 (codes "/b/")) ∷ (3, to_save 3 (codes "/c")) ∷ []) 1 (pos 1) ≡ false
unfolding packing
no_file_at_the_index_itself = refl

no_later_file : is_earlier ((1, to_save 3 (codes "/a")) ∷ (2, to_save 5 (codes "/b/")) ∷ (3, to_save 3 (codes "/c")) ∷ []) 2 (pos 3) ≡ false
unfolding packing
no_later_file = refl

no_earlier_file_without_bytes : is_earlier ((1, to_save 3 (codes "/a")) ∷ (2, to_save 5 (codes "/b/")) ∷ (3, to_save 3 (codes "/c")) ∷ []) 3 (pos 2) ≡ false
unfolding packing
no_earlier_file_without_bytes = refl

no_file_of_that_index : is_earlier ((1, to_save 3 (codes "/a")) ∷ (2, to_save 5 (codes "/b/")) ∷ (3, to_save 3 (codes "/c")) ∷ []) 3 (pos 0) ≡ false
unfolding packing
no_file_of_that_index = refl

no_file_of_a_negative_index : is_earlier ((1, to_save 3 (codes "/a")) ∷ (2, to_save 5 (codes "/b/")) ∷ (3, to_save 3 (codes "/c")) ∷ []) 3 (negsuc 0) ≡ false
unfolding packing
no_file_of_a_negative_index = refl

-- a file of this type that names this index
naming : ℕ → ℤ → ToSave
naming kind link_index = record { file = record (saved kind (codes "/l") [] []) { stat = record (stat_from []) { link_index = link_index } }; digest = false }

a_hard_link_back : links_back ((1, to_save 3 (codes "/a")) ∷ (2, to_save 5 (codes "/b/")) ∷ (3, to_save 3 (codes "/c")) ∷ []) (4, naming 1 (pos 3)) ≡ true
unfolding naming packing
a_hard_link_back = refl

a_hard_link_to_nothing : links_back ((1, to_save 3 (codes "/a")) ∷ (2, to_save 5 (codes "/b/")) ∷ (3, to_save 3 (codes "/c")) ∷ []) (4, naming 1 (pos 0)) ≡ false
unfolding naming packing
a_hard_link_to_nothing = refl

no_other_type_needs_one : links_back ((1, to_save 3 (codes "/a")) ∷ (2, to_save 5 (codes "/b/")) ∷ (3, to_save 3 (codes "/c")) ∷ []) (4, naming 3 (pos 9)) ≡ true
unfolding naming packing
no_other_type_needs_one = refl

-- the number of files that are accepted, or the refusal
ordered : List ToSave → Result ℕ ℕ
ordered files = result_map_both (λ (fs : List ToSave). length fs) (λ n. n) (checked_order files)

files_are_numbered_from_1 : ordered (to_save 3 (codes "/a") ∷ naming 1 (pos 1) ∷ []) ≡ Ok 2
unfolding ordered naming packing
files_are_numbered_from_1 = refl

refuses_a_link_at_any_place : ordered (to_save 3 (codes "/a") ∷ naming 1 (pos 0) ∷ to_save 3 (codes "/b") ∷ []) ≡ Err 16
unfolding ordered naming packing
refuses_a_link_at_any_place = refl

refuses_2_to_the_31_files : (files : List ToSave) → list_all (links_back (enumerate_from 1 files)) (enumerate_from 1 files) ≡ true → length files ≡ 2 ^ 31 → checked_order files ≡ Err 16
unfolding checked_order
refuses_2_to_the_31_files files back count = rw (back, count) refl

accepts_one_less : (files : List ToSave) → list_all (links_back (enumerate_from 1 files)) (enumerate_from 1 files) ≡ true → length files ≡ 2 ^ 31 - 1 → checked_order files ≡ Ok files
unfolding checked_order
accepts_one_less files back count = rw (back, count) refl

-- ---- records

-- index, stream and number of bytes
sizes : List Record → List (ℕ × ℕ × ℕ)
sizes rs = map (λ (r : Record). (r.index, r.stream, length r.bytes)) rs

one_record_of_65536_bytes : sizes (data_records 5 2 (replicate 65536 7)) ≡ (5, 2, 65536) ∷ []
unfolding sizes packing
one_record_of_65536_bytes = refl

two_records_of_65537_bytes : sizes (data_records 5 2 (replicate 65537 7)) ≡ (5, 2, 65536) ∷ (5, 2, 1) ∷ []
unfolding sizes packing
two_records_of_65537_bytes = refl

no_record_of_no_bytes : sizes (data_records 5 1 []) ≡ []
unfolding sizes packing
no_record_of_no_bytes = refl

at_most_as_many_records_as_asked : sizes (data_records 5 0 (7 ∷ [])) ≡ []
unfolding sizes packing
at_most_as_many_records_as_asked = refl

a_digest_of_a_file_with_bytes : has_digest (to_save 3 (codes "/a")) ≡ true
unfolding packing
a_digest_of_a_file_with_bytes = refl

no_digest_of_a_directory : has_digest (to_save 5 (codes "/a/")) ≡ false
unfolding packing
no_digest_of_a_directory = refl

no_digest_where_none_is_asked : has_digest (record (to_save 3 (codes "/a")) { digest = false }) ≡ false
unfolding packing
no_digest_where_none_is_asked = refl

the_attributes_of_a_file : attributes_of_saved 7 (saved 4 (codes "/a") [] (codes "b")) ≡ record { index = 7; kind = 4; path = codes "/a"; stat = stat_from []; link = codes "b" }
unfolding packing
the_attributes_of_a_file = refl

hello : ToSave
hello = record { file = saved 3 (codes "/h") (codes "hello") []; digest = true }

the_attributes : Record
the_attributes = record { index = 2; stream = 1; bytes = codes "2 3 /h" ++ 0 ∷ codes "A A A A A A A A A A A A A A" ++ 0 ∷ 0 ∷ [] }

the_data : Record
the_data = record { index = 2; stream = 2; bytes = codes "hello" }

the_digest : Record
the_digest = record { index = 2; stream = 3; bytes = 0x5d ∷ 0x41 ∷ 0x40 ∷ 0x2a ∷ 0xbc ∷ 0x4b ∷ 0x2a ∷ 0x76 ∷ 0xb9 ∷ 0x71 ∷ 0x9d ∷ 0x91 ∷ 0x10 ∷ 0x17 ∷ 0xc5 ∷ 0x92 ∷ [] }

attributes_then_data_then_the_digest : file_records (2, hello) ≡ the_attributes ∷ the_data ∷ the_digest ∷ []
unfolding hello the_attributes the_data the_digest packing
attributes_then_data_then_the_digest = refl

data_to_its_last_byte : sizes (file_records (1, record { file = saved 3 (codes "/h") (replicate 131073 7) []; digest = false })) ≡ (1, 1, 36) ∷ (1, 2, 65536) ∷ (1, 2, 65536) ∷ (1, 2, 1) ∷ []
unfolding sizes packing
data_to_its_last_byte = refl

records_file_by_file_from_1 : sizes (session_records (to_save 5 (codes "/a/") ∷ record hello { digest = false } ∷ [])) ≡ (1, 1, 37) ∷ (2, 1, 36) ∷ (2, 2, 5) ∷ []
unfolding sizes hello packing
records_file_by_file_from_1 = refl

no_records_of_no_files : session_records [] ≡ []
unfolding packing
no_records_of_no_files = refl

-- ---- blocks

part : ℤ → ℕ → ℕ → Fragment
part stream size count = record { session = key; index = pos 1; stream = stream; size = size; bytes = replicate count 7 }

a_header_alone_has_24_bytes : block_size [] ≡ 24
a_header_alone_has_24_bytes = refl

each_fragment_has_12_bytes_more : block_size (part (pos 2) 5 5 ∷ part (pos 2) 100 28 ∷ []) ≡ 81
unfolding part packing
each_fragment_has_12_bytes_more = refl

the_last_may_be_cut : AreWritten (part (pos 2) 5 5 ∷ part (pos 2) 9 1 ∷ [])
unfolding part
the_last_may_be_cut = (refl, (lit≤ tt, λ _. lit≤ tt))

no_fragments_are_written : AreWritten []
no_fragments_are_written = tt

an_empty_record_is_written : AreWritten (part (pos 2) 0 0 ∷ [])
unfolding part
an_empty_record_is_written = (lit≤ tt, λ lt. lt)

no_header_alone_where_data_is_to_come : AreWritten (part (pos 2) 1 0 ∷ []) → ⊥
unfolding part
no_header_alone_where_data_is_to_come w = let h : 0 < 0 = w.1 (lit≤ tt) in omega arith

no_cut_before_another : AreWritten (part (pos 2) 9 1 ∷ part (pos 2) 5 5 ∷ []) → ⊥
unfolding part
no_cut_before_another w = let h : ◌≡◌ {A = ℕ} 1 9 = w.0 in omega arith

no_more_than_its_size : AreWritten (part (pos 2) 1 2 ∷ []) → ⊥
unfolding part
no_more_than_its_size w = let h : 2 ≤ 1 = w.0 in omega arith

-- a block of 52 bytes: 12 are left, which take a header and no byte
closes_before_a_byte : Closes 64 (part (pos 2) 16 16 ∷ []) (part (pos 3) 1 1 ∷ [])
unfolding part
closes_before_a_byte = (lit≤ tt, λ e. absurd cc)

does_not_close_before_an_empty_record : Closes 64 (part (pos 2) 16 16 ∷ []) (part (pos 3) 0 0 ∷ []) → ⊥
unfolding part
does_not_close_before_an_empty_record c = let h : 64 < 64 = c.0 in omega arith

does_not_close_where_a_byte_fits : Closes 65 (part (pos 2) 16 16 ∷ []) (part (pos 3) 9 9 ∷ []) → ⊥
unfolding part
does_not_close_where_a_byte_fits c = let h : 65 < 65 = c.0 in omega arith

is_full_where_a_record_is_cut : Closes 52 (part (pos 2) 17 16 ∷ []) (part (negsuc 1) 1 1 ∷ [])
unfolding part
is_full_where_a_record_is_cut = (lit≤ tt, λ _. refl)

no_record_is_cut_before_the_limit : Closes 53 (part (pos 2) 17 16 ∷ []) (part (negsuc 1) 1 1 ∷ []) → ⊥
unfolding part
no_record_is_cut_before_the_limit c = let h : ◌≡◌ {A = ℕ} 52 53 = c.1 refl in omega arith

no_block_closes_before_nothing : Closes 64 [] [] → ⊥
no_block_closes_before_nothing none = none

a_part_to_the_limit : IsPart 52 (part (pos 2) 16 16 ∷ [])
unfolding part
a_part_to_the_limit = (lit≤ tt, lit≤ tt, (lit≤ tt, λ _. lit≤ tt))

no_part_past_the_limit : IsPart 51 (part (pos 2) 16 16 ∷ []) → ⊥
unfolding part
no_part_past_the_limit p = let h : 52 ≤ 51 = p.1 in omega arith

no_part_without_fragments : IsPart 64 [] → ⊥
no_part_without_fragments p = let h : 0 < 0 = p.0 in omega arith

no_fragments_no_blocks : AreClosed 64 []
no_fragments_no_blocks = tt

two_blocks_are_closed : AreClosed 64 ((part (pos 2) 16 16 ∷ []) ∷ (part (pos 3) 1 1 ∷ []) ∷ [])
unfolding part
two_blocks_are_closed = ((lit≤ tt, lit≤ tt, (lit≤ tt, λ _. lit≤ tt)), closes_before_a_byte, (lit≤ tt, lit≤ tt, (lit≤ tt, λ _. lit≤ tt)))

block_numbers_begin_again : written_block key (4294967296, []) ≡ written_block key (0, [])
unfolding packing
block_numbers_begin_again = refl

and_go_on_from_0 : written_block key (4294967297, []) ≡ written_block key (1, [])
unfolding packing
and_go_on_from_0 = refl

the_greatest_block_number : written_block key (4294967295, []) ≡ header_bytes (record { checksum = 0; size = 24; number = 4294967295; session = Some key })
unfolding packing
the_greatest_block_number = refl

the_attributes_of_another_file : attributes_of_saved 1 (saved 3 (codes "/b") (codes "x") []) ≡ record { index = 1; kind = 3; path = codes "/b"; stat = stat_from []; link = [] }
unfolding packing
the_attributes_of_another_file = refl

no_records_are_packed_in_no_blocks : ArePacked 64 key [] []
unfolding packing
no_records_are_packed_in_no_blocks = record { parts = []; of_session = tt; cut = refl; closed = tt; bytes_are = refl }

no_blocks_of_no_records : (block : List ℕ) → ArePacked 64 key [] (block ∷ []) → ⊥
no_blocks_of_no_records block p = refute p.parts p.closed p.cut p.bytes_are
  where
    refute : (parts : List (List Fragment)) → AreClosed 64 parts → flat_map (λ part. part) parts ≡ [] → (block ∷ []) ≡ map (written_block key) (enumerate_from 0 parts) → ⊥
    refute [] closed cut e = absurd cc
    refute ((f ∷ fs) ∷ more) closed cut e = absurd cc
    refute ([] ∷ []) closed cut e = let h : 0 < 0 = closed.0 in omega arith
    refute ([] ∷ q ∷ more) closed cut e = let h : 0 < 0 = closed.0.0 in omega arith
