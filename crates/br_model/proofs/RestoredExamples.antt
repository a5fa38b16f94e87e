-- The files of a restore, by example.
use Rattle.std.proofs.Common.{◌≡◌, ℕ, ◌+◌, List, [], ◌∷◌, ◌++◌, length, map, Some, None, Result, Ok, Err, refl, ap}
use Rattle.std.specs.Prelude.{codes, pos, negsuc, ℤ}
use Rattle.std.specs.Result.{result_map_both}
use Rattle.std.specs.FinMap.{from_sorted, entries-from_sorted}
use Rattle.br_model.specs.Name.{FileKey, key_cmp}
use Rattle.br_model.specs.Attribute.{stat_from}
use Rattle.br_model.specs.Block.{Fragment}
use Rattle.br_model.specs.File.{Item, Fault, Outcome, fault}
use Rattle.br_model.specs.Meaning.{Spot}
use Rattle.br_model.specs.Restored.{Planned, planned_in, Restored, HitList, fragments_for, outcome_of, under_name, files_found, files_planned, files_listed}
use Rattle.br_model.proofs.Reading.{reading}

file : ℕ → ℕ → FileKey
file session index = record { session = record { id = session; time = 100 }; index = index }

part : ℕ → ℤ → ℕ → List ℕ → Fragment
part index stream size bytes = record { session = record { id = 1; time = 100 }; index = pos index; stream = stream; size = size; bytes = bytes }

spot : ℕ → Spot
spot ordinal = record { group = 0; address = 0; ordinal = ordinal }

-- 38 bytes of the attributes of /a
attributes : ℕ → Fragment
attributes index = part index (pos 1) 38 ((48 + index) ∷ codes " 3 /a" ++ 0 ∷ codes "A A IGk B A A A O A A A A A A" ++ 0 ∷ 0 ∷ [])

data_of : ℕ → List ℕ → Fragment
data_of index bytes = part index (pos 2) (length bytes) bytes

-- the files 3 and 1 of one session and 2 of a later one, not in their order
some_hits : HitList
some_hits =
    ((file 1 3, spot 0), attributes 3) ∷ ((file 1 1, spot 1), attributes 1) ∷ ((file 1 3, spot 2), data_of 3 (codes "c"))
    ∷ ((file 2 2, spot 3), data_of 2 []) ∷ ((file 1 1, spot 4), data_of 1 (codes "a")) ∷ ((file 1 1, spot 5), data_of 1 (codes "b")) ∷ []

unfoldable restoring : Unit {0}
unfolding file part spot attributes data_of some_hits reading
restoring = tt

-- the path and the bytes, or the number
shown : Outcome → Result (List ℕ × List ℕ) ℕ
shown r = result_map_both (λ (i : Item). (i.path, i.bytes)) (λ (f : Fault). f.number) r

each : List Restored → List (ℕ × ℕ × Result (List ℕ × List ℕ) ℕ)
each rs = map (λ (r : Restored). (r.key.session.id, r.key.index, shown r.outcome)) rs

planned : ℕ → ℕ → List ℕ → Planned
planned session index path = record { key = file session index; path = path }

fragments_in_order_of_place : fragments_for (file 1 1) some_hits ≡ attributes 1 ∷ data_of 1 (codes "a") ∷ data_of 1 (codes "b") ∷ []
unfolding shown each planned restoring
fragments_in_order_of_place = refl

no_fragments_of_another_session : fragments_for (file 2 1) some_hits ≡ []
unfolding shown each planned restoring
no_fragments_of_another_session = refl

joins_and_makes_the_file : shown (outcome_of (file 1 1) (attributes 1 ∷ data_of 1 (codes "a") ∷ part 1 (pos 2) 3 (codes "b") ∷ part 1 (negsuc 1) 2 (codes "cd") ∷ [])) ≡ Ok (codes "/a", codes "abcd")
unfolding shown each planned restoring
joins_and_makes_the_file = refl

the_fault_of_joining_first : outcome_of (file 1 1) (part 1 (negsuc 1) 2 (codes "cd") ∷ []) ≡ Err (fault 60)
unfolding shown each planned restoring
the_fault_of_joining_first = refl

the_fault_of_the_records_next : outcome_of (file 1 1) (data_of 1 (codes "a") ∷ []) ≡ Err (fault 63)
unfolding shown each planned restoring
the_fault_of_the_records_next = refl

the_index_of_the_key_counts : outcome_of (file 1 2) (attributes 1 ∷ []) ≡ Err (fault 64)
unfolding shown each planned restoring
the_index_of_the_key_counts = refl

item : Item
item = record { path = codes "/a"; kind = 3; stat = stat_from []; link = []; bytes = []; skipped = 0 }

the_planned_path : under_name (codes "/a") (Ok item) ≡ Ok item
unfolding item reading
the_planned_path = refl

another_path_than_planned : under_name (codes "/b") (Ok item) ≡ Err (fault 69)
unfolding item reading
another_path_than_planned = refl

a_front_of_the_planned_path : under_name (codes "/a/") (Ok item) ≡ Err (fault 69)
unfolding item reading
a_front_of_the_planned_path = refl

a_fault_stays_under_a_name : under_name (codes "/b") (Err (fault 63)) ≡ Err (fault 63)
unfolding reading
a_fault_stays_under_a_name = refl

files_in_order_of_key : each (files_found some_hits) ≡ (1, 1, Ok (codes "/a", codes "ab")) ∷ (1, 3, Ok (codes "/a", codes "c")) ∷ (2, 2, Err 63) ∷ []
unfolding shown each planned restoring
files_in_order_of_key = refl

no_files_of_no_hits : each (files_found []) ≡ []
unfolding shown each planned restoring
no_files_of_no_hits = refl

planned_files_in_order_of_key : each (files_planned some_hits (planned 2 1 (codes "/z") ∷ planned 1 3 (codes "/b") ∷ planned 1 1 (codes "/a") ∷ [])) ≡ (1, 1, Ok (codes "/a", codes "ab")) ∷ (1, 3, Err 69) ∷ (2, 1, Err 63) ∷ []
unfolding shown each planned restoring
planned_files_in_order_of_key = refl

no_file_that_was_not_planned : each (files_planned some_hits []) ≡ []
unfolding shown each planned restoring
no_file_that_was_not_planned = refl

without_a_plan_the_found_files : each (files_listed (((file 1 1, spot 0), attributes 1) ∷ []) None) ≡ (1, 1, Ok (codes "/a", [])) ∷ []
unfolding shown each planned restoring
without_a_plan_the_found_files = refl

with_a_plan_the_planned_files : each (files_listed (((file 1 1, spot 0), attributes 1) ∷ []) (Some (planned 1 2 (codes "/a") ∷ []))) ≡ (1, 2, Err 63) ∷ []
unfolding shown each planned restoring
with_a_plan_the_planned_files = refl

the_names_in_order_of_key : planned_in (from_sorted ((file 1 9, codes "/b") ∷ (file 2 1, codes "/a") ∷ [])) ≡ planned 1 9 (codes "/b") ∷ planned 2 1 (codes "/a") ∷ []
unfolding planned file planned_in
the_names_in_order_of_key =
    ap (map (λ (e : FileKey × List ℕ). record { key = e.0; path = e.1 })) (entries-from_sorted key_cmp ((file 1 9, codes "/b") ∷ (file 2 1, codes "/a") ∷ []) tt)

no_names : planned_in (from_sorted []) ≡ []
unfolding planned_in
no_names = ap (map (λ (e : FileKey × List ℕ). record { key = e.0; path = e.1 })) (entries-from_sorted key_cmp [] tt)
