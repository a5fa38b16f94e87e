-- Places, spans and rows of a session, by example.
use Rattle.std.proofs.Common.{◌≡◌, ℕ, ◌-◌, ◌^◌, List, [], ◌∷◌, ◌++◌, map, length, Some, None, Ok, Err, true, false, refl, lit≤, nat_lt}
use Rattle.std.specs.Prelude.{codes, pos}
use Rattle.std.specs.List.{list_any}
use Rattle.br_model.specs.Name.{SessionKey}
use Rattle.br_model.specs.Attribute.{stat_from}
use Rattle.br_model.specs.Block.{Fragment}
use Rattle.br_model.specs.Job.{JobRow, FileRow, Span, SavedFile}
use Rattle.br_model.specs.Session.{can_be_saved, checked_file, ToSave, checked_order, data_records, file_records, written_block, Place, Visit, onto_visits, visits, length_of, least_of, greatest_of, visit_indexes, visit_length, spans_from, checked_spans, IsWritten, file_row, deletion_row, rows_of}
use Rattle.br_model.proofs.Choosing.{choosing}

key : SessionKey
key = record { id = 1; time = 100 }

saved : ℕ → List ℕ → List ℕ → List ℕ → SavedFile
saved kind path bytes link = record { path = path; kind = kind; stat = stat_from []; link = link; bytes = bytes }

to_save : ℕ → List ℕ → ToSave
to_save kind path = record { file = saved kind path [] []; digest = true }

unfoldable packing : Unit {0}
unfolding key saved to_save choosing can_be_saved checked_file checked_order data_records file_records visits spans_from checked_spans rows_of
packing = tt

place : List ℕ → ℕ → Place
place volume blocks = record { volume = volume; blocks = blocks }

visit : List ℕ → List (List ℕ) → Visit
visit volume blocks = record { volume = volume; blocks = blocks }

span : List ℕ → ℕ → ℕ → ℕ → ℕ → ℕ → Span
span volume first last start end number = record { volume = volume; first = first; last = last; start = start; end = end; vol_index = number }

unfoldable placing : Unit {0}
unfolding place visit span packing
placing = tt

no_visit_without_blocks : onto_visits (visit (codes "A") []) (visit (codes "B") [] ∷ []) ≡ visit (codes "B") [] ∷ []
unfolding placing
no_visit_without_blocks = refl

a_visit_before_others : onto_visits (visit (codes "A") ([] ∷ [])) (visit (codes "B") [] ∷ []) ≡ visit (codes "A") ([] ∷ []) ∷ visit (codes "B") [] ∷ []
unfolding placing
a_visit_before_others = refl

the_last_place_takes_all_that_are_left : visits (place (codes "A") 1 ∷ place (codes "B") 1 ∷ []) (codes "x" ∷ codes "y" ∷ codes "z" ∷ []) ≡ visit (codes "A") (codes "x" ∷ []) ∷ visit (codes "B") (codes "y" ∷ codes "z" ∷ []) ∷ []
unfolding placing
the_last_place_takes_all_that_are_left = refl

a_place_may_have_more_room : visits (place (codes "A") 9 ∷ place (codes "B") 1 ∷ []) (codes "x" ∷ []) ≡ visit (codes "A") (codes "x" ∷ []) ∷ []
unfolding placing
a_place_may_have_more_room = refl

no_visits_to_no_places : visits [] (codes "x" ∷ []) ≡ []
unfolding placing
no_visits_to_no_places = refl

the_first_length_of_a_volume : length_of ((codes "A", 1) ∷ (codes "B", 2) ∷ (codes "B", 3) ∷ []) (codes "B") ≡ 2
the_first_length_of_a_volume = refl

no_length_is_0 : length_of ((codes "A", 1) ∷ []) (codes "a") ≡ 0
no_length_is_0 = refl

the_least : least_of (3 ∷ 2 ∷ 5 ∷ []) ≡ 2
the_least = refl

the_least_of_nothing : least_of [] ≡ 0
the_least_of_nothing = refl

the_greatest : greatest_of (3 ∷ 5 ∷ 2 ∷ []) ≡ 5
the_greatest = refl

the_greatest_of_nothing : greatest_of [] ≡ 0
the_greatest_of_nothing = refl

-- a block with one byte of each of these files
of_files : List ℕ → List ℕ
of_files indexes = written_block key (0, map (λ i. record { session = key; index = pos i; stream = pos 2; size = 1; bytes = 7 ∷ [] }) indexes)

the_indexes_of_a_visit : visit_indexes (visit (codes "A") (of_files (4 ∷ 5 ∷ []) ∷ of_files (5 ∷ []) ∷ [])) ≡ 4 ∷ 5 ∷ 5 ∷ []
unfolding of_files placing
the_indexes_of_a_visit = refl

the_length_of_a_visit : visit_length (visit (codes "A") (of_files (4 ∷ 5 ∷ []) ∷ of_files (5 ∷ []) ∷ [])) ≡ 87
unfolding of_files placing
the_length_of_a_visit = refl

spans_of_visits : spans_from 3 ((codes "A", 10) ∷ []) (visit (codes "A") (of_files (4 ∷ 5 ∷ []) ∷ []) ∷ visit (codes "B") (of_files (5 ∷ []) ∷ []) ∷ visit (codes "A") (of_files (6 ∷ []) ∷ []) ∷ []) ≡ span (codes "A") 4 5 10 59 3 ∷ span (codes "B") 5 5 0 36 4 ∷ span (codes "A") 6 6 60 96 5 ∷ []
unfolding of_files placing
spans_of_visits = refl

no_spans_of_no_visits : spans_from 1 [] [] ≡ []
unfolding of_files placing
no_spans_of_no_visits = refl

spans_are_numbered_from_1 : checked_spans [] (visit (codes "A") (of_files (1 ∷ []) ∷ []) ∷ []) ≡ Ok (span (codes "A") 1 1 0 36 1 ∷ [])
unfolding of_files placing
spans_are_numbered_from_1 = refl

refuses_any_end_that_is_too_great : checked_spans ((codes "A", 9223372036854775771) ∷ []) (visit (codes "B") (of_files (1 ∷ []) ∷ []) ∷ visit (codes "A") (of_files (1 ∷ []) ∷ []) ∷ []) ≡ Err 42
unfolding of_files placing
refuses_any_end_that_is_too_great = refl

refuses_2_to_the_32_spans : (starts : List (List ℕ × ℕ)) (vs : List Visit) → list_any (λ (s : Span). nat_lt (2 ^ 63 - 2) s.end) (spans_from 1 starts vs) ≡ false → length (spans_from 1 starts vs) ≡ 2 ^ 32
    → checked_spans starts vs ≡ Err 42
unfolding checked_spans
refuses_2_to_the_32_spans starts vs ends count = rw (ends, count) refl

accepts_one_span_less : (starts : List (List ℕ × ℕ)) (vs : List Visit) → list_any (λ (s : Span). nat_lt (2 ^ 63 - 2) s.end) (spans_from 1 starts vs) ≡ false → length (spans_from 1 starts vs) ≡ 2 ^ 32 - 1
    → checked_spans starts vs ≡ Ok (spans_from 1 starts vs)
unfolding checked_spans
accepts_one_span_less starts vs ends count = rw (ends, count) refl

-- ---- a written directory

directory : ToSave
directory = to_save 5 (codes "/d/")

its_attributes : Fragment
its_attributes = record { session = key; index = pos 1; stream = pos 1; size = 37; bytes = codes "1 5 /d/" ++ 0 ∷ codes "A A A A A A A A A A A A A A" ++ 0 ∷ 0 ∷ [] }

-- one block of 73 bytes, after 10 bytes of the volume
is_written : IsWritten (directory ∷ []) key 73 (place (codes "A") 0 ∷ []) ((codes "A", 10) ∷ [])
    (record { blocks = (codes "A", written_block key (0, its_attributes ∷ [])) ∷ []; spans = span (codes "A") 1 1 10 82 1 ∷ [] })
unfolding directory its_attributes placing
is_written = record {
  blocks = written_block key (0, its_attributes ∷ []) ∷ [];
  packed = record {
    parts = (its_attributes ∷ []) ∷ [];
    of_session = (refl, tt);
    cut = (its_attributes ∷ [], [], refl, (refl, refl, refl, [], refl, refl, λ e. absurd cc), refl);
    closed = (lit≤ tt, lit≤ tt, (lit≤ tt, λ _. lit≤ tt));
    bytes_are = refl;
  };
  placed = refl;
  spans_are = refl;
}

-- ---- rows

the_row_of_a_file : file_row (2, to_save 3 (codes "/a")) ≡ record { path = codes "/a"; index = 2; lstat = codes "A A A A A A A A A A A A A A"; digest = Some (0xd4 ∷ 0x1d ∷ 0x8c ∷ 0xd9 ∷ 0x8f ∷ 0x00 ∷ 0xb2 ∷ 0x04 ∷ 0xe9 ∷ 0x80 ∷ 0x09 ∷ 0x98 ∷ 0xec ∷ 0xf8 ∷ 0x42 ∷ 0x7e ∷ []) }
unfolding packing
the_row_of_a_file = refl

the_row_of_a_directory : (file_row (2, to_save 5 (codes "/a/"))).digest ≡ None
unfolding packing
the_row_of_a_directory = refl

the_row_of_a_deletion : deletion_row (codes "/a") ≡ record { path = codes "/a"; index = 0; lstat = []; digest = None }
the_row_of_a_deletion = refl

row : JobRow
row = record { id = 1; kind = 66; level = 70; status = 84; start = 100; session = key; client = codes "c"; fileset = codes "f" }

-- the indexes and the paths of rows
shown : List FileRow → List (ℕ × List ℕ)
shown rows = map (λ (f : FileRow). (f.index, f.path)) rows

files_then_deletions : shown (rows_of row (to_save 5 (codes "/b/") ∷ to_save 5 (codes "/a/") ∷ []) (codes "/z" ∷ codes "/c" ∷ []) []).files ≡ (1, codes "/b/") ∷ (2, codes "/a/") ∷ (0, codes "/z") ∷ (0, codes "/c") ∷ []
unfolding row shown packing
files_then_deletions = refl

rows_of_nothing : rows_of row [] [] [] ≡ record { row = row; files = []; spans = [] }
unfolding row packing
rows_of_nothing = refl

no_indexes_of_no_blocks : visit_indexes (visit (codes "A") []) ≡ []
unfolding placing
no_indexes_of_no_blocks = refl

no_length_of_no_blocks : visit_length (visit (codes "A") []) ≡ 0
unfolding placing
no_length_of_no_blocks = refl

the_row_of_another_deletion : deletion_row (codes "/b/") ≡ record { path = codes "/b/"; index = 0; lstat = []; digest = None }
the_row_of_another_deletion = refl

nothing_is_written : IsWritten [] key 73 (place (codes "A") 0 ∷ []) [] (record { blocks = []; spans = [] })
unfolding placing
nothing_is_written = record {
  blocks = [];
  packed = record { parts = []; of_session = tt; cut = refl; closed = tt; bytes_are = refl };
  placed = refl;
  spans_are = refl;
}

no_span_without_a_place : IsWritten [] key 73 [] [] (record { blocks = []; spans = span (codes "A") 0 0 0 0 1 ∷ [] }) → ⊥
unfolding placing
no_span_without_a_place w = let h = w.spans_are in absurd cc
