-- Records and their fragments, by example.
use Rattle.std.proofs.Common.{◌≡◌, ℕ, List, [], ◌∷◌, ◌++◌, length, replicate, Some, None, Ok, Err, refl, sym, ap, ◌∙◌, subst, inl, inr, arith, lit≤, true, false, ◌⊎◌}
use Rattle.std.specs.Prelude.{pos, negsuc, ℤ}
use Rattle.br_model.specs.Block.{Fragment}
use Rattle.br_model.specs.Record.{Record, GoOn, AreParts, IsCut, Begun, with_fragment, still_open, given_out, join_from, join, IsFragmentFor, BeginsCut, IsWholeCut, HasOpenStream, IsFaultNumber, IsFaultBehind, IsFirstFault}
use Rattle.br_model.proofs.Reading.{reading}

part : ℤ → ℕ → ℕ → Fragment
part stream size count = record { session = record { id = 1; time = 100 }; index = pos 5; stream = stream; size = size; bytes = replicate count 7 }

made : ℕ → ℕ → Record
made stream count = record { index = 5; stream = stream; bytes = replicate count 7 }

begun : ℕ → ℕ → ℕ → Begun
begun stream count left = record { index = 5; stream = stream; bytes = replicate count 7; left = left }

begins_a_record : with_fragment None (part (pos 2) 100 28) ≡ Ok (begun 2 28 72)
unfolding part made begun reading
begins_a_record = refl

begins_a_record_of_stream_0 : with_fragment None (part (pos 0) 5 5) ≡ Ok (begun 0 5 0)
unfolding part made begun reading
begins_a_record_of_stream_0 = refl

refuses_to_go_on_with_none : with_fragment None (part (negsuc 1) 72 28) ≡ Err 60
unfolding part made begun reading
refuses_to_go_on_with_none = refl

goes_on : with_fragment (Some (begun 2 28 72)) (part (negsuc 1) 72 28) ≡ Ok (begun 2 56 44)
unfolding part made begun reading
goes_on = refl

refuses_another_stream : with_fragment (Some (begun 2 28 72)) (part (negsuc 2) 72 28) ≡ Err 61
unfolding part made begun reading
refuses_another_stream = refl

refuses_a_new_record_inside_one : with_fragment (Some (begun 2 28 72)) (part (pos 2) 72 28) ≡ Err 61
unfolding part made begun reading
refuses_a_new_record_inside_one = refl

refuses_another_size : with_fragment (Some (begun 2 28 72)) (part (negsuc 1) 71 28) ≡ Err 62
unfolding part made begun reading
refuses_another_size = refl

refuses_the_stream_before_the_size : with_fragment (Some (begun 2 28 72)) (part (negsuc 2) 71 28) ≡ Err 61
unfolding part made begun reading
refuses_the_stream_before_the_size = refl

open_while_a_byte_is_to_come : still_open (begun 2 28 1) ≡ Some (begun 2 28 1)
unfolding part made begun reading
open_while_a_byte_is_to_come = refl

not_open_with_all_bytes : still_open (begun 2 28 0) ≡ None
unfolding part made begun reading
not_open_with_all_bytes = refl

given_out_with_all_bytes : given_out (begun 2 28 0) ≡ made 2 28 ∷ []
unfolding part made begun reading
given_out_with_all_bytes = refl

not_given_out_before : given_out (begun 2 28 1) ≡ []
unfolding part made begun reading
not_given_out_before = refl

joins_nothing : join [] ≡ Ok []
unfolding part made begun reading
joins_nothing = refl

joins_in_order : join (part (pos 1) 3 3 ∷ part (pos 2) 5 2 ∷ part (negsuc 1) 3 3 ∷ part (pos 3) 0 0 ∷ []) ≡ Ok (made 1 3 ∷ made 2 5 ∷ made 3 0 ∷ [])
unfolding part made begun reading
joins_in_order = refl

joins_behind_an_open_record : join_from (Some (begun 2 2 3)) (part (negsuc 1) 3 3 ∷ []) ≡ Ok (made 2 5 ∷ [])
unfolding part made begun reading
joins_behind_an_open_record = refl

refuses_to_stay_open : join_from (Some (begun 2 2 3)) [] ≡ Err 61
unfolding part made begun reading
refuses_to_stay_open = refl

refuses_to_go_on_with_a_whole_record : join (part (pos 2) 3 3 ∷ part (negsuc 1) 3 3 ∷ []) ≡ Err 60
unfolding part made begun reading
refuses_to_go_on_with_a_whole_record = refl

refuses_a_new_record_before_the_end : join (part (pos 2) 5 2 ∷ part (pos 2) 5 5 ∷ []) ≡ Err 61
unfolding part made begun reading
refuses_a_new_record_before_the_end = refl

-- ---- parts

goes_on_to_the_end : GoOn 5 2 (replicate 5 7) (part (negsuc 1) 5 2 ∷ part (negsuc 1) 3 3 ∷ [])
unfolding part
goes_on_to_the_end = (refl, refl, refl, lit≤ tt, replicate 3 7, refl, (refl, refl, refl, lit≤ tt, [], refl, refl))

goes_on_with_the_last_byte : GoOn 5 2 (7 ∷ []) (part (negsuc 1) 1 1 ∷ [])
unfolding part
goes_on_with_the_last_byte = (refl, refl, refl, lit≤ tt, [], refl, refl)

-- the first byte is in the first part
goes_on_byte_by_byte : GoOn 5 2 (7 ∷ 8 ∷ []) (part (negsuc 1) 2 1 ∷ record (part (negsuc 1) 1 1) { bytes = 8 ∷ [] } ∷ [])
unfolding part
goes_on_byte_by_byte = (refl, refl, refl, lit≤ tt, 8 ∷ [], refl, (refl, refl, refl, lit≤ tt, [], refl, refl))

are_parts_byte_by_byte : AreParts (record { index = 5; stream = 2; bytes = 7 ∷ 8 ∷ [] }) (part (pos 2) 2 1 ∷ record (part (negsuc 1) 1 1) { bytes = 8 ∷ [] } ∷ [])
unfolding part
are_parts_byte_by_byte = (refl, refl, refl, 8 ∷ [], refl, (refl, refl, refl, lit≤ tt, [], refl, refl), λ e. absurd cc)

joins_byte_by_byte : join (part (pos 2) 2 1 ∷ record (part (negsuc 1) 1 1) { bytes = 8 ∷ [] } ∷ []) ≡ Ok (record { index = 5; stream = 2; bytes = 7 ∷ 8 ∷ [] } ∷ [])
unfolding part reading
joins_byte_by_byte = refl

not_before_the_last_byte : GoOn 5 2 (7 ∷ []) [] → ⊥
not_before_the_last_byte e = absurd cc

not_with_an_empty_part : GoOn 5 2 [] (part (negsuc 1) 0 0 ∷ []) → ⊥
unfolding part
not_with_an_empty_part g = let h = g.3 in omega arith

not_with_the_stream_itself : GoOn 5 2 (7 ∷ []) (part (pos 2) 1 1 ∷ []) → ⊥
unfolding part
not_with_the_stream_itself g = let h = g.1 in absurd cc

not_with_the_size_of_the_part : GoOn 5 2 (7 ∷ 7 ∷ []) (part (negsuc 1) 1 1 ∷ []) → ⊥
unfolding part
not_with_the_size_of_the_part g = let h : ◌≡◌ {A = ℕ} 1 2 = g.2 in absurd cc

not_with_another_index : GoOn 6 2 (7 ∷ []) (part (negsuc 1) 1 1 ∷ []) → ⊥
unfolding part
not_with_another_index g = let h = g.0 in absurd cc

-- a header alone, and all its data in the next block
a_header_alone_is_a_part : AreParts (made 2 3) (part (pos 2) 3 0 ∷ part (negsuc 1) 3 3 ∷ [])
unfolding part made
a_header_alone_is_a_part = (refl, refl, refl, replicate 3 7, refl, (refl, refl, refl, lit≤ tt, [], refl, refl), λ e. absurd cc)

a_record_of_stream_0_has_one_part : AreParts (made 0 3) (part (pos 0) 3 3 ∷ [])
unfolding part made
a_record_of_stream_0_has_one_part = (refl, refl, refl, [], refl, refl, λ e. refl)

a_record_of_stream_0_has_no_second_part : AreParts (made 0 3) (part (pos 0) 3 2 ∷ part (pos 0) 1 1 ∷ []) → ⊥
unfolding part made
a_record_of_stream_0_has_no_second_part parts = let h = parts.6 refl in absurd cc

the_first_part_says_the_whole_length : AreParts (made 2 3) (part (pos 2) 2 2 ∷ part (negsuc 1) 1 1 ∷ []) → ⊥
unfolding part made
the_first_part_says_the_whole_length parts = let h : ◌≡◌ {A = ℕ} 2 3 = parts.2 in absurd cc

a_record_has_a_part : AreParts (made 2 0) [] → ⊥
a_record_has_a_part none = none

no_records_have_no_parts : IsCut [] (part (pos 2) 0 0 ∷ []) → ⊥
no_records_have_no_parts cut = absurd cc

two_records_are_cut : IsCut (made 2 1 ∷ made 3 0 ∷ []) (part (pos 2) 1 1 ∷ part (pos 3) 0 0 ∷ [])
unfolding part made
two_records_are_cut = (
  part (pos 2) 1 1 ∷ [],
  part (pos 3) 0 0 ∷ [],
  refl,
  (refl, refl, refl, [], refl, refl, λ e. refl),
  (part (pos 3) 0 0 ∷ [], [], refl, (refl, refl, refl, [], refl, refl, λ e. refl), refl),
)

-- ---- the first fault

a_fragment_of_all_its_bytes : IsFragmentFor 5 (part (pos 2) 3 3)
unfolding part
a_fragment_of_all_its_bytes = record { index_is = refl; within = lit≤ tt }

no_fragment_of_more_bytes_than_it_says : IsFragmentFor 5 (part (pos 2) 2 3) → ⊥
unfolding part
no_fragment_of_more_bytes_than_it_says f = let h = f.within in omega arith

no_fragment_of_another_index : IsFragmentFor 6 (part (pos 2) 3 3) → ⊥
unfolding part
no_fragment_of_another_index f = let h = f.index_is in absurd cc

-- the first fragment of a cut has no negative stream
no_cut_begins_so : BeginsCut 5 (part (negsuc 1) 72 28 ∷ []) → ⊥
unfolding part
no_cut_begins_so begins = refute begins.1 begins.3
  where
    first_of : (r : Record) (f : Fragment) (fs parts others : List Fragment) → (f ∷ fs) ≡ (parts ++ others) → AreParts r parts → f.stream ≡ pos r.stream
    first_of r f fs [] others e p = elim p [ ]
    first_of r f fs (g ∷ gs) others e p = let h : f ≡ g = cc in ap (λ (x : Fragment). x.stream) h ∙ p.1

    refute : (records : List Record) → IsCut records (part (negsuc 1) 72 28 ∷ begins.0) → ⊥
    refute [] cut = absurd cc
    refute (r ∷ rs) cut = let h : negsuc 1 ≡ pos r.stream = first_of r (part (negsuc 1) 72 28) begins.0 cut.0 cut.1 cut.2 cut.3 in absurd cc

a_record_begins_a_cut : BeginsCut 5 (part (pos 2) 5 2 ∷ [])
unfolding part made
a_record_begins_a_cut = (
  part (negsuc 1) 3 3 ∷ [],
  made 2 5 ∷ [],
  (record { index_is = refl; within = lit≤ tt }, tt),
  (part (pos 2) 5 2 ∷ part (negsuc 1) 3 3 ∷ [], [], refl, (refl, refl, refl, replicate 3 7, refl, (refl, refl, refl, lit≤ tt, [], refl, refl), λ e. absurd cc), refl),
)

first_fault_60 : IsFirstFault 5 (part (negsuc 1) 72 28 ∷ []) 60
unfolding part
first_fault_60 = record {
  front = [];
  back = part (negsuc 1) 72 28 ∷ [];
  joined = refl;
  begins = ([], [], tt, refl);
  fault = (no_cut_begins_so, inl (refl, refl, ([], refl)));
}

an_open_record_is_no_whole_cut : IsWholeCut (part (pos 2) 5 2 ∷ []) → ⊥
unfolding part
an_open_record_is_no_whole_cut whole = refute whole.0 whole.1
  where
    open_part : Fragment
    open_part = part (pos 2) 5 2

    one : (r : Record) (parts others : List Fragment) → (open_part ∷ []) ≡ (parts ++ others) → AreParts r parts → ⊥
    one r [] others e p = elim p [ ]
    one r (g ∷ h ∷ gs) others e p = absurd cc
    one r (g ∷ []) others e p =
        let same : open_part ≡ g = cc in
        let size : g.size ≡ length (g.bytes ++ []) = subst (λ xs. g.size ≡ length (g.bytes ++ xs)) p.5 (p.2 ∙ ap length p.4) in
        let five : ◌≡◌ {A = ℕ} 5 2 = subst (λ (x : Fragment). x.size ≡ length (x.bytes ++ [])) (sym same) size in absurd cc

    refute : (records : List Record) → IsCut records (open_part ∷ []) → ⊥
    refute [] cut = absurd cc
    refute (r ∷ rs) cut = one r cut.0 cut.1 cut.2 cut.3

first_fault_61 : IsFirstFault 5 (part (pos 2) 5 2 ∷ []) 61
first_fault_61 = record {
  front = part (pos 2) 5 2 ∷ [];
  back = [];
  joined = refl;
  begins = a_record_begins_a_cut;
  fault = (refl, an_open_record_is_no_whole_cut);
}

a_new_record_inside_one_is_61 : IsFaultNumber 5 (part (pos 2) 5 2 ∷ []) (part (pos 2) 3 3) 61
unfolding part
a_new_record_inside_one_is_61 = inr (inl (refl, inl refl))

another_size_is_62 : IsFaultNumber 5 (part (pos 2) 5 2 ∷ []) (part (negsuc 1) 2 2) 62
unfolding part made
another_size_is_62 = inr (inr (refl, refl, an_open_record_is_no_whole_cut, (3, replicate 3 7, ([], made 2 5 ∷ [], tt, cut))))
  where
    cut : IsCut (made 2 5 ∷ []) (part (pos 2) 5 2 ∷ part (negsuc 1) 3 3 ∷ [])
    cut = (part (pos 2) 5 2 ∷ part (negsuc 1) 3 3 ∷ [], [], refl, (refl, refl, refl, replicate 3 7, refl, (refl, refl, refl, lit≤ tt, [], refl, refl), λ e. absurd cc), refl)

no_60_inside_a_record : IsFaultNumber 5 (part (pos 2) 5 2 ∷ []) (part (negsuc 1) 3 3) 60 → ⊥
no_60_inside_a_record (inl f) = an_open_record_is_no_whole_cut f.2
no_60_inside_a_record (inr (inl f)) = let h : ◌≡◌ {A = ℕ} 60 61 = f.0 in omega arith
no_60_inside_a_record (inr (inr f)) = let h : ◌≡◌ {A = ℕ} 60 62 = f.0 in omega arith

an_open_end_is_61 : IsFaultBehind 5 (part (pos 2) 5 2 ∷ []) [] 61
an_open_end_is_61 = (refl, an_open_record_is_no_whole_cut)

no_fault_behind_whole_records : IsFaultBehind 5 [] [] 61 → ⊥
no_fault_behind_whole_records fault = fault.1 ([], refl)

a_fragment_that_begins_a_cut_is_no_fault : IsFaultBehind 5 [] (part (pos 2) 5 2 ∷ []) 61 → ⊥
a_fragment_that_begins_a_cut_is_no_fault fault = fault.0 a_record_begins_a_cut

an_open_stream : HasOpenStream 5 (part (pos 2) 5 2 ∷ []) (part (negsuc 1) 9 9)
unfolding part made
an_open_stream = (3, replicate 3 7, ([], made 2 5 ∷ [], tt, cut))
  where
    cut : IsCut (made 2 5 ∷ []) (part (pos 2) 5 2 ∷ part (negsuc 1) 3 3 ∷ [])
    cut = (part (pos 2) 5 2 ∷ part (negsuc 1) 3 3 ∷ [], [], refl, (refl, refl, refl, replicate 3 7, refl, (refl, refl, refl, lit≤ tt, [], refl, refl), λ e. absurd cc), refl)

no_fault_of_no_fragments : IsFirstFault 5 [] 61 → ⊥
no_fault_of_no_fragments f = refute f.front f.back f.joined f.fault
  where
    refute : (front back : List Fragment) → [] ≡ (front ++ back) → IsFaultBehind 5 front back 61 → ⊥
    refute [] [] e fault = fault.1 ([], refl)
    refute [] (g ∷ gs) e fault = absurd cc
    refute (g ∷ gs) back e fault = absurd cc

no_61_where_the_stream_is_open : IsFaultNumber 5 (part (pos 2) 5 2 ∷ []) (part (negsuc 1) 9 9) 61 → ⊥
unfolding part
no_61_where_the_stream_is_open (inl f) = let h : ◌≡◌ {A = ℕ} 61 60 = f.0 in omega arith
no_61_where_the_stream_is_open (inr (inr f)) = let h : ◌≡◌ {A = ℕ} 61 62 = f.0 in omega arith
no_61_where_the_stream_is_open (inr (inl f)) = refute f.1
  where
    refute : (true ≡ false) ⊎ ((¬ IsWholeCut (part (pos 2) 5 2 ∷ [])) × (¬ HasOpenStream 5 (part (pos 2) 5 2 ∷ []) (part (negsuc 1) 9 9))) → ⊥
    refute (inl e) = absurd cc
    refute (inr n) = n.1 an_open_stream

what_goes_on_is_no_fault : IsFaultBehind 5 (part (pos 2) 5 2 ∷ []) (part (negsuc 1) 3 3 ∷ []) 62 → ⊥
unfolding part made
what_goes_on_is_no_fault fault = fault.0 ([], made 2 5 ∷ [], tt, cut)
  where
    cut : IsCut (made 2 5 ∷ []) (part (pos 2) 5 2 ∷ part (negsuc 1) 3 3 ∷ [])
    cut = (part (pos 2) 5 2 ∷ part (negsuc 1) 3 3 ∷ [], [], refl, (refl, refl, refl, replicate 3 7, refl, (refl, refl, refl, lit≤ tt, [], refl, refl), λ e. absurd cc), refl)
