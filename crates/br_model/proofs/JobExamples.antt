-- Jobs as the catalogue has them, by example.
use Rattle.std.proofs.Common.{◌≡◌, ℕ, ◌-◌, ◌^◌, List, [], ◌∷◌, map, replicate, None, Result, Ok, Err, true, false, refl}
use Rattle.std.specs.Prelude.{codes, pos, ◌==◌}
use Rattle.std.specs.Result.{result_map_both}
use Rattle.br_model.specs.Attribute.{stat_from}
use Rattle.br_model.specs.Job.{JobRow, FileRow, Span, JobRows, SavedFile, is_job_row, no_pair, is_file_row, same_file, is_span, overlaps, is_numbered, are_rows, checked_rows, pushed, clash, is_history, row_says, save_says, saved_rows, IsJob}
use Rattle.br_model.proofs.Choosing.{choosing}

row : JobRow
row = record { id = 1; kind = 66; level = 70; status = 84; start = 100; session = record { id = 1; time = 100 }; client = codes "c"; fileset = codes "f" }

-- a file with thirteen numbers
saved : ℕ → List ℕ → FileRow
saved index path = record { path = path; index = index; lstat = codes "A A IGk B A A A O A A A A A"; digest = None }

deleted : List ℕ → FileRow
deleted path = record { path = path; index = 0; lstat = []; digest = None }

span : ℕ → ℕ → ℕ → Span
span number start end = record { volume = codes "A"; first = 1; last = 1; start = start; end = end; vol_index = number }

rows : List FileRow → List Span → JobRows
rows files spans = record { row = row; files = files; spans = spans }

unfoldable rowing : Unit {0}
unfolding row saved deleted span rows choosing
rowing = tt

-- ---- the row of a job

the_least_number : is_job_row (record row { id = 1 }) ≡ true
unfolding rowing
the_least_number = refl

no_number_0 : is_job_row (record row { id = 0 }) ≡ false
unfolding rowing
no_number_0 = refl

the_greatest_number : is_job_row (record row { id = 2 ^ 32 - 1 }) ≡ true
unfolding rowing
the_greatest_number = refl

no_number_2_to_the_32 : is_job_row (record row { id = 2 ^ 32 }) ≡ false
unfolding rowing
no_number_2_to_the_32 = refl

no_type_that_is_no_letter : is_job_row (record row { kind = 48 }) ≡ false
unfolding rowing
no_type_that_is_no_letter = refl

no_level_that_is_no_letter : is_job_row (record row { level = 32 }) ≡ false
unfolding rowing
no_level_that_is_no_letter = refl

no_status_that_is_no_letter : is_job_row (record row { status = 49 }) ≡ false
unfolding rowing
no_status_that_is_no_letter = refl

the_greatest_start : is_job_row (record row { start = 2 ^ 64 - 1 }) ≡ true
unfolding rowing
the_greatest_start = refl

no_start_2_to_the_64 : is_job_row (record row { start = 2 ^ 64 }) ≡ false
unfolding rowing
no_start_2_to_the_64 = refl

the_greatest_session : is_job_row (record row { session = record { id = 2 ^ 32 - 1; time = 2 ^ 32 - 1 } }) ≡ true
unfolding rowing
the_greatest_session = refl

no_session_number_2_to_the_32 : is_job_row (record row { session = record { id = 2 ^ 32; time = 0 } }) ≡ false
unfolding rowing
no_session_number_2_to_the_32 = refl

no_session_time_2_to_the_32 : is_job_row (record row { session = record { id = 0; time = 2 ^ 32 } }) ≡ false
unfolding rowing
no_session_time_2_to_the_32 = refl

no_client_without_a_name : is_job_row (record row { client = [] }) ≡ false
unfolding rowing
no_client_without_a_name = refl

no_file_set_without_a_name : is_job_row (record row { fileset = [] }) ≡ false
unfolding rowing
no_file_set_without_a_name = refl

a_long_client : is_job_row (record row { client = replicate 127 65 }) ≡ true
unfolding rowing
a_long_client = refl

-- ---- the rows of a job

no_pair_of_one : no_pair (λ a b. a == b) (1 ∷ []) ≡ true
unfolding rowing
no_pair_of_one = refl

a_pair_that_does_not_touch : no_pair (λ a b. a == b) (1 ∷ 2 ∷ 1 ∷ []) ≡ false
unfolding rowing
a_pair_that_does_not_touch = refl

no_pair_of_three : no_pair (λ a b. a == b) (1 ∷ 2 ∷ 3 ∷ []) ≡ true
unfolding rowing
no_pair_of_three = refl

a_later_pair : no_pair (λ a b. a == b) (1 ∷ 2 ∷ 2 ∷ []) ≡ false
unfolding rowing
a_later_pair = refl

a_saved_file_with_its_numbers : is_file_row (saved 1 (codes "/a")) ≡ true
unfolding rowing
a_saved_file_with_its_numbers = refl

the_greatest_index : is_file_row (saved (2 ^ 31 - 1) (codes "/a")) ≡ true
unfolding rowing
the_greatest_index = refl

no_index_2_to_the_31 : is_file_row (saved (2 ^ 31) (codes "/a")) ≡ false
unfolding rowing
no_index_2_to_the_31 = refl

a_deletion_needs_no_numbers : is_file_row (deleted (codes "/a")) ≡ true
unfolding rowing
a_deletion_needs_no_numbers = refl

a_saved_file_needs_its_numbers : is_file_row (record (saved 1 (codes "/a")) { lstat = codes "A A A" }) ≡ false
unfolding rowing
a_saved_file_needs_its_numbers = refl

two_rows_of_one_file : same_file (saved 2 (codes "/a")) (saved 2 (codes "/b")) ≡ true
unfolding rowing
two_rows_of_one_file = refl

rows_of_two_files : same_file (saved 2 (codes "/a")) (saved 1 (codes "/a")) ≡ false
unfolding rowing
rows_of_two_files = refl

deletions_are_no_files : same_file (deleted (codes "/a")) (deleted (codes "/a")) ≡ false
unfolding rowing
deletions_are_no_files = refl

ends : ℕ → ℕ → ℕ → ℕ → Span
ends first last start end = record { volume = codes "A"; first = first; last = last; start = start; end = end; vol_index = 1 }

a_span_of_one_byte_and_file : is_span (ends 3 3 7 7) ≡ true
unfolding ends rowing
a_span_of_one_byte_and_file = refl

no_span_of_falling_indexes : is_span (ends 4 3 7 7) ≡ false
unfolding ends rowing
no_span_of_falling_indexes = refl

no_span_of_falling_bytes : is_span (ends 3 3 8 7) ≡ false
unfolding ends rowing
no_span_of_falling_bytes = refl

the_greatest_end : is_span (ends 1 1 0 (2 ^ 63 - 1)) ≡ true
unfolding ends rowing
the_greatest_end = refl

no_end_2_to_the_63 : is_span (ends 1 1 0 (2 ^ 63)) ≡ false
unfolding ends rowing
no_end_2_to_the_63 = refl

a_later_span_at_the_last_byte_overlaps : overlaps (span 1 0 63) (span 2 63 70) ≡ true
unfolding rowing
a_later_span_at_the_last_byte_overlaps = refl

a_later_span_behind_does_not : overlaps (span 1 0 63) (span 2 64 70) ≡ false
unfolding rowing
a_later_span_behind_does_not = refl

a_later_span_before_the_earlier_one_overlaps : overlaps (span 1 64 70) (span 2 0 63) ≡ true
unfolding rowing
a_later_span_before_the_earlier_one_overlaps = refl

spans_of_two_volumes_do_not_overlap : overlaps (span 1 0 63) (record (span 2 0 63) { volume = codes "B" }) ≡ false
unfolding rowing
spans_of_two_volumes_do_not_overlap = refl

numbered_from_1 : is_numbered (span 1 0 1 ∷ span 2 2 3 ∷ []) ≡ true
unfolding rowing
numbered_from_1 = refl

not_numbered_from_0 : is_numbered (span 0 0 1 ∷ []) ≡ false
unfolding rowing
not_numbered_from_0 = refl

not_numbered_out_of_order : is_numbered (span 2 0 1 ∷ span 1 2 3 ∷ []) ≡ false
unfolding rowing
not_numbered_out_of_order = refl

rows_of_the_last_second : are_rows (record (rows [] []) { row = record row { start = 253402300799 } }) ≡ true
unfolding rowing
rows_of_the_last_second = refl

no_rows_of_the_year_10000 : are_rows (record (rows [] []) { row = record row { start = 253402300800 } }) ≡ false
unfolding rowing
no_rows_of_the_year_10000 = refl

rows_that_stand_together : are_rows (rows (saved 1 (codes "/a") ∷ saved 2 (codes "/b") ∷ deleted (codes "/c") ∷ []) (span 1 0 63 ∷ span 2 64 70 ∷ [])) ≡ true
unfolding rowing
rows_that_stand_together = refl

a_bad_file_row : are_rows (rows (saved 1 (codes "/a") ∷ record (deleted (codes "/b")) { index = 2 } ∷ []) []) ≡ false
unfolding rowing
a_bad_file_row = refl

a_file_twice : are_rows (rows (saved 1 (codes "/a") ∷ saved 2 (codes "/b") ∷ saved 1 (codes "/c") ∷ []) []) ≡ false
unfolding rowing
a_file_twice = refl

a_falling_span : are_rows (rows [] (span 1 5 4 ∷ [])) ≡ false
unfolding rowing
a_falling_span = refl

spans_out_of_number : are_rows (rows [] (span 2 0 63 ∷ [])) ≡ false
unfolding rowing
spans_out_of_number = refl

spans_that_overlap : are_rows (rows [] (span 1 0 63 ∷ span 2 63 70 ∷ [])) ≡ false
unfolding rowing
spans_that_overlap = refl

-- the number of the job, or the refusal
checked : Result JobRows ℕ → Result ℕ ℕ
checked r = result_map_both (λ (j : JobRows). j.row.id) (λ n. n) r

rows_stay_as_they_are : checked (checked_rows (rows [] [])) ≡ Ok 1
unfolding checked rowing
rows_stay_as_they_are = refl

refuses_rows : checked (checked_rows (rows [] (span 2 0 63 ∷ []))) ≡ Err 42
unfolding checked rowing
refuses_rows = refl

-- ---- histories

-- a job of this number and session
numbered : ℕ → ℕ → ℕ → JobRows
numbered id session time = record (rows [] []) { row = record row { id = id; session = record { id = session; time = time } } }

-- the numbers of the jobs, or the refusal
ids : Result (List JobRows) ℕ → Result (List ℕ) ℕ
ids r = result_map_both (λ jobs. map (λ (j : JobRows). j.row.id) jobs) (λ n. n) r

a_job_comes_behind : ids (pushed (numbered 2 1 100 ∷ []) (numbered 1 1 200)) ≡ Ok (2 ∷ 1 ∷ [])
unfolding numbered ids rowing
a_job_comes_behind = refl

a_job_into_an_empty_history : ids (pushed [] (numbered 1 1 200)) ≡ Ok (1 ∷ [])
unfolding numbered ids rowing
a_job_into_an_empty_history = refl

refuses_the_number_of_any_job : ids (pushed (numbered 2 1 100 ∷ numbered 1 2 100 ∷ []) (numbered 2 3 100)) ≡ Err 40
unfolding numbered ids rowing
refuses_the_number_of_any_job = refl

refuses_the_session_of_any_job : ids (pushed (numbered 2 1 100 ∷ numbered 1 2 100 ∷ []) (numbered 3 1 100)) ≡ Err 41
unfolding numbered ids rowing
refuses_the_session_of_any_job = refl

refuses_the_number_before_the_session : ids (pushed (numbered 2 1 100 ∷ []) (numbered 2 1 100)) ≡ Err 40
unfolding numbered ids rowing
refuses_the_number_before_the_session = refl

jobs_of_one_number_clash : clash (numbered 1 1 100) (numbered 1 2 100) ≡ true
unfolding numbered ids rowing
jobs_of_one_number_clash = refl

jobs_of_one_session_clash : clash (numbered 1 1 100) (numbered 2 1 100) ≡ true
unfolding numbered ids rowing
jobs_of_one_session_clash = refl

other_jobs_do_not_clash : clash (numbered 1 1 100) (numbered 2 1 200) ≡ false
unfolding numbered ids rowing
other_jobs_do_not_clash = refl

a_history : is_history (numbered 1 1 100 ∷ numbered 2 1 200 ∷ []) ≡ true
unfolding numbered ids rowing
a_history = refl

an_empty_history : is_history [] ≡ true
unfolding numbered ids rowing
an_empty_history = refl

no_history_with_a_clash : is_history (numbered 1 1 100 ∷ numbered 2 1 100 ∷ []) ≡ false
unfolding numbered ids rowing
no_history_with_a_clash = refl

no_history_with_bad_rows : is_history (numbered 1 1 100 ∷ record (numbered 2 1 200) { spans = span 2 0 63 ∷ [] } ∷ []) ≡ false
unfolding numbered ids rowing
no_history_with_bad_rows = refl

-- ---- a job with its saved files

file : List ℕ → SavedFile
file path = record { path = path; kind = 3; stat = stat_from (pos 0 ∷ pos 0 ∷ pos 33188 ∷ pos 1 ∷ pos 0 ∷ pos 0 ∷ pos 0 ∷ pos 14 ∷ []); link = []; bytes = [] }

a_row_and_its_file_say_the_same : row_says (saved 2 (codes "/a")) ≡ save_says (2, file (codes "/a"))
unfolding file rowing
a_row_and_its_file_say_the_same = refl

a_row_says_what_cannot_be_read : row_says (deleted (codes "/a")) ≡ (0, codes "/a", Err 21)
unfolding file rowing
a_row_says_what_cannot_be_read = refl

rows_of_files_in_order_of_index : saved_rows (saved 2 (codes "/b") ∷ deleted (codes "/c") ∷ saved 1 (codes "/a") ∷ []) ≡ saved 1 (codes "/a") ∷ saved 2 (codes "/b") ∷ []
unfolding file rowing
rows_of_files_in_order_of_index = refl

no_rows_of_files : saved_rows (deleted (codes "/c") ∷ []) ≡ []
unfolding file rowing
no_rows_of_files = refl

is_job : IsJob (record { rows = rows (saved 2 (codes "/b") ∷ deleted (codes "/c") ∷ saved 1 (codes "/a") ∷ []) []; saved = file (codes "/a") ∷ file (codes "/b") ∷ [] })
unfolding file rowing
is_job = record { fit = refl; say = refl }

no_job_with_a_file_that_has_no_row : IsJob (record { rows = rows [] []; saved = file (codes "/a") ∷ [] }) → ⊥
unfolding file rowing
no_job_with_a_file_that_has_no_row j = let h = j.say in absurd cc

no_job_with_bad_rows : IsJob (record { rows = rows [] (span 2 0 63 ∷ []); saved = [] }) → ⊥
unfolding file rowing
no_job_with_bad_rows j = let h = j.fit in absurd cc

a_saved_file_says_its_place : save_says (3, file (codes "/b")) ≡ row_says (saved 3 (codes "/b"))
unfolding file rowing
a_saved_file_says_its_place = refl
