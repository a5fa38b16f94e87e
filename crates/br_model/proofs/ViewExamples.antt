-- The view of jobs, by example.
use Rattle.std.proofs.Common.{◌≡◌, ℕ, List, [], ◌∷◌, map, Some, None, Option, option_map, length, true, false, refl, ap, arith}
use Rattle.std.specs.Prelude.{codes, pos}
use Rattle.br_model.specs.Attribute.{stat_from}
use Rattle.br_model.specs.Job.{FileRow, JobRows}
use Rattle.br_model.specs.View.{Entry, is_row_of, newest_job, newest_row, row_stat, entry_from, unless_deleted, entry_of, paths_of, view_of, entry_at, view_paths, IsView}
use Rattle.br_model.proofs.Choosing.{choosing}

-- a file of 14 bytes, of which the last number is 3
saved : ℕ → List ℕ → FileRow
saved index path = record { path = path; index = index; lstat = codes "A A IGk B A A A O A A A A A D"; digest = None }

deleted : List ℕ → FileRow
deleted path = record { path = path; index = 0; lstat = []; digest = None }

job : ℕ → ℕ → List FileRow → JobRows
job id start files = record {
  row = record { id = id; kind = 66; level = 73; status = 84; start = start; session = record { id = 9; time = start }; client = codes "c"; fileset = codes "f" };
  files = files;
  spans = [];
}

entry : ℕ → ℕ → ℕ → List ℕ → Entry
entry id start index path = record { path = path; job = id; session = record { id = 9; time = start }; index = index; size = pos 14; link_index = pos 3 }

unfoldable viewing : Unit {0}
unfolding saved deleted job entry choosing
viewing = tt

number : Option JobRows → Option ℕ
number j = option_map (λ (k : JobRows). k.row.id) j

jobs : List JobRows
jobs =
    job 1 300 (saved 1 (codes "/b") ∷ saved 2 (codes "/a") ∷ []) ∷ job 3 100 (saved 1 (codes "/a") ∷ saved 2 (codes "/c") ∷ [])
    ∷ job 2 400 (deleted (codes "/b") ∷ []) ∷ []

a_row_of_the_path : is_row_of (codes "/a") (saved 1 (codes "/a")) ≡ true
unfolding number jobs viewing
a_row_of_the_path = refl

no_row_of_a_front_of_the_path : is_row_of (codes "/a") (saved 1 (codes "/a/")) ≡ false
unfolding number jobs viewing
no_row_of_a_front_of_the_path = refl

the_last_job_with_the_path : number (newest_job jobs (codes "/a")) ≡ Some 1
unfolding number jobs viewing
the_last_job_with_the_path = refl

a_deletion_is_a_row_too : number (newest_job jobs (codes "/b")) ≡ Some 2
unfolding number jobs viewing
a_deletion_is_a_row_too = refl

no_job_with_the_path : number (newest_job jobs (codes "/d")) ≡ None
unfolding number jobs viewing
no_job_with_the_path = refl

the_row_with_the_greatest_index : newest_row (job 1 100 (saved 1 (codes "/a") ∷ saved 3 (codes "/a") ∷ deleted (codes "/a") ∷ saved 4 (codes "/b") ∷ [])) (codes "/a") ≡ Some (saved 3 (codes "/a"))
unfolding number jobs viewing
the_row_with_the_greatest_index = refl

no_row_of_the_path : newest_row (job 1 100 (saved 1 (codes "/b") ∷ [])) (codes "/a") ≡ None
unfolding number jobs viewing
no_row_of_the_path = refl

the_numbers_of_a_row : (row_stat (saved 1 (codes "/a"))).mode ≡ pos 33188
unfolding number jobs viewing
the_numbers_of_a_row = refl

zeros_where_there_are_no_numbers : row_stat (deleted (codes "/a")) ≡ stat_from []
unfolding number jobs viewing
zeros_where_there_are_no_numbers = refl

the_entry_of_a_row : entry_from (job 7 100 []) (saved 2 (codes "/a")) ≡ entry 7 100 2 (codes "/a")
unfolding number jobs viewing
the_entry_of_a_row = refl

no_entry_of_a_deletion : unless_deleted (job 7 100 []) (deleted (codes "/a")) ≡ None
unfolding number jobs viewing
no_entry_of_a_deletion = refl

an_entry_of_index_1 : unless_deleted (job 7 100 []) (saved 1 (codes "/a")) ≡ Some (entry 7 100 1 (codes "/a"))
unfolding number jobs viewing
an_entry_of_index_1 = refl

the_newest_copy : entry_of jobs (codes "/a") ≡ Some (entry 1 300 2 (codes "/a"))
unfolding number jobs viewing
the_newest_copy = refl

no_copy_behind_a_deletion : entry_of jobs (codes "/b") ≡ None
unfolding number jobs viewing
no_copy_behind_a_deletion = refl

no_copy_of_another_path : entry_of jobs (codes "/d") ≡ None
unfolding number jobs viewing
no_copy_of_another_path = refl

paths_in_byte_order : paths_of jobs ≡ codes "/a" ∷ codes "/b" ∷ codes "/c" ∷ []
unfolding number jobs viewing
paths_in_byte_order = refl

no_paths_of_no_jobs : paths_of [] ≡ []
unfolding number jobs viewing
no_paths_of_no_jobs = refl

the_newest_copies : view_of jobs ≡ entry 1 300 2 (codes "/a") ∷ entry 3 100 2 (codes "/c") ∷ []
unfolding number jobs viewing
the_newest_copies = refl

no_view_of_no_jobs : view_of [] ≡ []
unfolding number jobs viewing
no_view_of_no_jobs = refl

the_entry_at_a_path : entry_at (entry 1 300 2 (codes "/a") ∷ entry 3 100 2 (codes "/c") ∷ []) (codes "/c") ≡ Some (entry 3 100 2 (codes "/c"))
unfolding number jobs viewing
the_entry_at_a_path = refl

no_entry_at_a_path : entry_at (entry 1 300 2 (codes "/a") ∷ []) (codes "/") ≡ None
unfolding number jobs viewing
no_entry_at_a_path = refl

the_paths_of_the_entries : view_paths (entry 1 300 2 (codes "/a") ∷ entry 3 100 2 (codes "/c") ∷ []) ≡ codes "/a" ∷ codes "/c" ∷ []
unfolding number jobs viewing
the_paths_of_the_entries = refl

is_view : IsView (entry 1 300 2 (codes "/a") ∷ entry 3 100 2 (codes "/a/b") ∷ [])
unfolding viewing
is_view = refl

no_view_out_of_order : IsView (entry 1 300 2 (codes "/a") ∷ entry 3 100 2 [] ∷ []) → ⊥
unfolding viewing
no_view_out_of_order e =
    let paths : ([] ∷ codes "/a" ∷ []) ≡ (codes "/a" ∷ [] ∷ []) = ap (map (λ (x : Entry). x.path)) e in absurd cc

no_view_with_a_path_twice : IsView (entry 1 300 2 (codes "/a") ∷ entry 3 100 2 (codes "/a") ∷ []) → ⊥
unfolding viewing
no_view_with_a_path_twice e = let size : ◌≡◌ {A = ℕ} 1 2 = ap length e in omega arith

the_entry_of_another_row : entry_from (job 3 200 []) (saved 9 (codes "/b")) ≡ entry 3 200 9 (codes "/b")
unfolding viewing
the_entry_of_another_row = refl
