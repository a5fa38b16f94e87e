-- Copies of selected files, by example.
use Rattle.std.proofs.Common.{◌≡◌, ℕ, List, [], ◌∷◌, length, Ok, Err, refl, ap, arith, lit≤}
use Rattle.std.proofs.lemmas.List.Sorted.{length_permutation}
use Rattle.std.specs.Prelude.{codes, pos}
use Rattle.std.specs.List.Sorted.{IsPermutation}
use Rattle.br_model.specs.Name.{FileKey}
use Rattle.br_model.specs.Attribute.{stat_from}
use Rattle.br_model.specs.File.{Item, Outcome, fault}
use Rattle.br_model.specs.Restored.{Restored}
use Rattle.br_model.specs.Job.{JobRows, SavedFile, Job}
use Rattle.br_model.specs.View.{Entry}
use Rattle.br_model.specs.PlanMeaning.{saved_as, IsCopy, by_key, rows_of_jobs}
use Rattle.br_model.proofs.Choosing.{choosing}

file : List ℕ → List ℕ → SavedFile
file path bytes = record { path = path; kind = 3; stat = stat_from []; link = []; bytes = bytes }

item : List ℕ → List ℕ → ℕ → Item
item path bytes skipped = record { path = path; kind = 3; stat = stat_from []; link = []; bytes = bytes; skipped = skipped }

rows : ℕ → JobRows
rows id = record {
  row = record { id = id; kind = 66; level = 70; status = 84; start = 100; session = record { id = 1; time = id }; client = codes "c"; fileset = codes "f" };
  files = [];
  spans = [];
}

job : ℕ → Job
job id = record { rows = rows id; saved = file (codes "/a") (codes "x") ∷ file (codes "/b") (codes "y") ∷ [] }

entry : ℕ → ℕ → List ℕ → Entry
entry id index path = record { path = path; job = id; session = record { id = 1; time = id }; index = index; size = pos 0; link_index = pos 0 }

restored : ℕ → ℕ → Outcome → Restored
restored id index outcome = record { key = record { session = record { id = 1; time = id }; index = index }; outcome = outcome }

without_what_was_skipped : saved_as (item (codes "/b") (codes "y") 7) ≡ file (codes "/b") (codes "y")
unfolding item file
without_what_was_skipped = refl

nothing_skipped : saved_as (item (codes "/b") [] 0) ≡ file (codes "/b") []
unfolding item file
nothing_skipped = refl

-- the second saved file of the second job
is_copy : IsCopy (job 3 ∷ job 7 ∷ []) (entry 7 2 (codes "/b")) (restored 7 2 (Ok (item (codes "/b") (codes "y") 1)))
unfolding item file rows job entry restored
is_copy = record {
  job = job 7;
  file = file (codes "/b") (codes "y");
  item = item (codes "/b") (codes "y") 1;
  among = (1, lit≤ tt, refl);
  job_is = refl;
  file_is = refl;
  path_is = refl;
  key_is = refl;
  outcome_is = refl;
  saved_is = refl;
}

a_fault_is_no_copy : IsCopy (job 7 ∷ []) (entry 7 2 (codes "/b")) (restored 7 2 (Err (fault 63))) → ⊥
unfolding restored
a_fault_is_no_copy c = let h = c.outcome_is in absurd cc

a_file_of_another_index_is_no_copy : IsCopy (job 7 ∷ []) (entry 7 2 (codes "/b")) (restored 7 1 (Ok (item (codes "/a") (codes "x") 1))) → ⊥
unfolding entry restored
a_file_of_another_index_is_no_copy c = let h : ◌≡◌ {A = ℕ} 1 2 = ap (λ (k : FileKey). k.index) c.key_is in omega arith

entries_in_order_of_key : by_key (entry 7 1 (codes "/a") ∷ entry 3 2 (codes "/b") ∷ entry 3 1 (codes "/c") ∷ []) ≡ entry 3 1 (codes "/c") ∷ entry 3 2 (codes "/b") ∷ entry 7 1 (codes "/a") ∷ []
unfolding entry choosing
entries_in_order_of_key = refl

-- of entries of three keys none is lost: the first and the third change places
keys_that_differ_stay :
    IsPermutation (entry 7 1 (codes "/a") ∷ entry 3 2 (codes "/b") ∷ entry 3 1 (codes "/c") ∷ []) (by_key (entry 7 1 (codes "/a") ∷ entry 3 2 (codes "/b") ∷ entry 3 1 (codes "/c") ∷ []))
unfolding entry choosing
keys_that_differ_stay = record { moves = (0, 2) ∷ []; below = (lit≤ tt, lit≤ tt, tt); is = refl }

-- of two entries of one key the first stays
one_key_stays_once : by_key (entry 7 1 (codes "/a") ∷ entry 7 1 (codes "/b") ∷ []) ≡ entry 7 1 (codes "/a") ∷ []
unfolding entry choosing
one_key_stays_once = refl

-- and the other is lost
one_key_loses : IsPermutation (entry 7 1 (codes "/a") ∷ entry 7 1 (codes "/b") ∷ []) (by_key (entry 7 1 (codes "/a") ∷ entry 7 1 (codes "/b") ∷ [])) → ⊥
one_key_loses p =
    let both = entry 7 1 (codes "/a") ∷ entry 7 1 (codes "/b") ∷ [] in
    let long : length (by_key both) ≡ 2 = length_permutation both (by_key both) p in
    let short : length (by_key both) ≡ 1 = ap length one_key_stays_once in
    omega (arith, long, short)

no_entries : by_key [] ≡ []
unfolding choosing
no_entries = refl

the_rows_of_the_jobs : rows_of_jobs (job 3 ∷ job 7 ∷ []) ≡ rows 3 ∷ rows 7 ∷ []
unfolding job
the_rows_of_the_jobs = refl

no_rows_of_no_jobs : rows_of_jobs [] ≡ []
no_rows_of_no_jobs = refl
