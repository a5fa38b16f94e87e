-- The places of data records, the digest, and the faults in their order, by example.
use Rattle.std.proofs.Common.{◌≡◌, ℕ, zero, suc, ◌-◌, ◌^◌, ◌<◌, ◌≤◌, ◌⊎◌, ◌+◌, List, [], ◌∷◌, ◌++◌, replicate, slice_index, slice_index_or, Result, Ok, Err, true, false, refl, sym, subst, inl, inr, arith, lit≤}
use Rattle.std.specs.Prelude.{codes, pos}
use Rattle.std.specs.Result.{result_map_both}
use Rattle.br_model.specs.Attribute.{stat_from}
use Rattle.br_model.specs.Record.{Record}
use Rattle.br_model.specs.File.{Item, Fault, Outcome, Extent, extent_end, IsExtentOf, AreExtents, HasByte, IsByteOf, AreBytesOf, checks_digest, digest_fits, is_skipped, file_bytes, content}
use Rattle.br_model.proofs.Reading.{reading}

of : ℕ → List ℕ → Record
of stream bytes = record { index = 1; stream = stream; bytes = bytes }

sparse : ℕ → List ℕ → Record
sparse address bytes = of 6 (replicate 7 0 ++ address ∷ bytes)

extent : ℕ → List ℕ → Extent
extent start bytes = record { start = start; bytes = bytes }

two : List Extent
two = extent 0 (codes "ab") ∷ []

plain_is_at_the_end : IsExtentOf two (of 2 (codes "c")) (extent 2 (codes "c"))
unfolding of extent two
plain_is_at_the_end = record { plain = λ _. (refl, refl); sparse = λ e. absurd cc; fits = lit≤ tt }

sparse_is_at_its_address : IsExtentOf two (sparse 2 (codes "c")) (extent 2 (codes "c"))
unfolding of sparse extent two
sparse_is_at_its_address = record { plain = λ e. absurd cc; sparse = λ _. (lit≤ tt, refl, lit≤ tt, refl); fits = lit≤ tt }

plain_is_nowhere_else : IsExtentOf two (of 2 (codes "c")) (extent 3 (codes "c")) → ⊥
unfolding of extent two
plain_is_nowhere_else e = let h : ◌≡◌ {A = ℕ} 3 2 = (e.plain refl).0 in absurd cc

plain_has_all_its_bytes : IsExtentOf two (of 2 (codes "c")) (extent 2 []) → ⊥
unfolding of extent two
plain_has_all_its_bytes e = let h = (e.plain refl).1 in absurd cc

sparse_is_not_before_the_end : IsExtentOf two (sparse 1 (codes "c")) (extent 1 (codes "c")) → ⊥
unfolding of sparse extent two
sparse_is_not_before_the_end e = let h : 2 ≤ 1 = (e.sparse refl).2 in omega arith

sparse_has_eight_bytes_of_address : IsExtentOf [] (of 6 (replicate 7 0)) (extent 0 []) → ⊥
unfolding of extent
sparse_has_eight_bytes_of_address e = let h : 8 ≤ 7 = (e.sparse refl).0 in omega arith

may_end_at_2_to_the_30 : IsExtentOf [] (of 6 (0 ∷ 0 ∷ 0 ∷ 0 ∷ 63 ∷ 255 ∷ 255 ∷ 255 ∷ 7 ∷ [])) (extent (2 ^ 30 - 1) (7 ∷ []))
unfolding of extent
may_end_at_2_to_the_30 = record { plain = λ e. absurd cc; sparse = λ _. (lit≤ tt, refl, lit≤ tt, refl); fits = lit≤ tt }

does_not_end_later : IsExtentOf [] (of 6 (0 ∷ 0 ∷ 0 ∷ 0 ∷ 64 ∷ 0 ∷ 0 ∷ 0 ∷ 7 ∷ [])) (extent (2 ^ 30) (7 ∷ [])) → ⊥
unfolding of extent
does_not_end_later e = let h : 2 ^ 30 + 1 ≤ 2 ^ 30 = e.fits in omega arith

an_extent_for_each : AreExtents [] (of 2 (codes "ab") ∷ of 2 (codes "c") ∷ []) (extent 0 (codes "ab") ∷ extent 2 (codes "c") ∷ [])
unfolding of extent two
an_extent_for_each = (record { plain = λ _. (refl, refl); sparse = λ e. absurd cc; fits = lit≤ tt }, (plain_is_at_the_end, tt))

no_extent_is_missing : AreExtents [] (of 2 (codes "ab") ∷ []) [] → ⊥
no_extent_is_missing e = e

no_extent_of_no_record : AreExtents [] [] (extent 0 [] ∷ []) → ⊥
no_extent_of_no_record e = e

-- ---- the bytes of the places

the_first_place_of_an_extent : HasByte 4 97 (extent 4 (codes "ab"))
unfolding extent
the_first_place_of_an_extent = (lit≤ tt, lit≤ tt, refl)

the_last_place_of_an_extent : HasByte 5 98 (extent 4 (codes "ab"))
unfolding extent
the_last_place_of_an_extent = (lit≤ tt, lit≤ tt, refl)

no_place_behind_an_extent : HasByte 6 0 (extent 4 (codes "ab")) → ⊥
unfolding extent
no_place_behind_an_extent h = let lt : 6 < 6 = h.1 in omega arith

no_place_before_an_extent : HasByte 3 97 (extent 4 (codes "ab")) → ⊥
unfolding extent
no_place_before_an_extent h = let le : 4 ≤ 3 = h.0 in omega arith

one_extent : List Extent
one_extent = extent 1 (codes "c") ∷ []

zero_before_the_extent : IsByteOf one_extent 0 0
unfolding extent one_extent
zero_before_the_extent = inr (refl, outside)
  where
    outside : (k : ℕ) (d : Extent) → k < 1 → (0 < (slice_index_or one_extent k d).start) ⊎ (extent_end (slice_index_or one_extent k d) ≤ 0)
    outside zero d lt = inl (lit≤ tt)
    outside (suc k) d lt = absurd (omega arith)

the_byte_of_the_extent : IsByteOf one_extent 1 99
unfolding extent one_extent
the_byte_of_the_extent = inl (0, extent 1 (codes "c"), lit≤ tt, refl, (lit≤ tt, lit≤ tt, refl))

zero_behind_the_extent : IsByteOf one_extent 2 0
unfolding extent one_extent
zero_behind_the_extent = inr (refl, outside)
  where
    outside : (k : ℕ) (d : Extent) → k < 1 → (2 < (slice_index_or one_extent k d).start) ⊎ (extent_end (slice_index_or one_extent k d) ≤ 2)
    outside zero d lt = inr (lit≤ tt)
    outside (suc k) d lt = absurd (omega arith)

no_other_byte_without_extents : IsByteOf [] 0 1 → ⊥
no_other_byte_without_extents (inl a) = let h : a.0 < 0 = a.2 in omega arith
no_other_byte_without_extents (inr z) = let h : ◌≡◌ {A = ℕ} 1 0 = z.0 in absurd cc

-- a byte of an extent is not 0 because it could be
no_zero_in_the_extent : IsByteOf one_extent 1 0 → ⊥
unfolding extent one_extent
no_zero_in_the_extent (inl a) = refute a.0 a.1 a.2 a.3 a.4
  where
    refute : (k : ℕ) (x : Extent) → k < 1 → slice_index_or one_extent k x ≡ x → HasByte 1 0 x → ⊥
    refute zero x lt at h =
        let byte : ◌≡◌ {A = ℕ} 99 0 = subst (λ (y : Extent). slice_index y.bytes (1 - y.start) ≡ 0) (sym at) h.2 in absurd cc
    refute (suc k) x lt at h = absurd (omega arith)
no_zero_in_the_extent (inr z) = refute (z.1 0 (extent 0 []) (lit≤ tt))
  where
    refute : (1 < 1) ⊎ (2 ≤ 1) → ⊥
    refute (inl lt) = omega arith
    refute (inr le) = omega arith

are_bytes : AreBytesOf one_extent (0 ∷ 99 ∷ [])
unfolding extent one_extent
are_bytes = record { length_is = refl; each = each }
  where
    each : (place : ℕ) → place < 2 → IsByteOf one_extent place (slice_index (0 ∷ 99 ∷ []) place)
    each zero lt = zero_before_the_extent
    each (suc zero) lt = the_byte_of_the_extent
    each (suc (suc n)) lt = absurd (omega arith)

no_bytes_behind_the_last_extent : AreBytesOf one_extent (0 ∷ 99 ∷ 0 ∷ []) → ⊥
unfolding extent one_extent
no_bytes_behind_the_last_extent a = let h : ◌≡◌ {A = ℕ} 3 2 = a.length_is in absurd cc

-- ---- digests

-- the digest of nothing
of_nothing : List ℕ
of_nothing = 0xd4 ∷ 0x1d ∷ 0x8c ∷ 0xd9 ∷ 0x8f ∷ 0x00 ∷ 0xb2 ∷ 0x04 ∷ 0xe9 ∷ 0x80 ∷ 0x09 ∷ 0x98 ∷ 0xec ∷ 0xf8 ∷ 0x42 ∷ 0x7e ∷ []

checks_plain_data : checks_digest 3 (of 2 [] ∷ of 3 [] ∷ []) ≡ true
unfolding of sparse of_nothing reading
checks_plain_data = refl

checks_no_sparse_data : checks_digest 3 (of 2 [] ∷ sparse 0 [] ∷ of 3 [] ∷ []) ≡ false
unfolding of sparse of_nothing reading
checks_no_sparse_data = refl

checks_no_file_without_bytes : checks_digest 4 (of 3 [] ∷ []) ≡ false
unfolding of sparse of_nothing reading
checks_no_file_without_bytes = refl

fits_without_a_digest : digest_fits [] (codes "a") ≡ true
unfolding of sparse of_nothing reading
fits_without_a_digest = refl

fits_its_digest : digest_fits (of 3 of_nothing ∷ []) [] ≡ true
unfolding of sparse of_nothing reading
fits_its_digest = refl

does_not_fit_another_digest : digest_fits (of 3 of_nothing ∷ []) (0 ∷ []) ≡ false
unfolding of sparse of_nothing reading
does_not_fit_another_digest = refl

does_not_fit_two_digests : digest_fits (of 3 of_nothing ∷ of 3 of_nothing ∷ []) [] ≡ false
unfolding of sparse of_nothing reading
does_not_fit_two_digests = refl

skips_what_is_passed_over : is_skipped 3 true (of 10 []) ≡ true
unfolding of sparse of_nothing reading
skips_what_is_passed_over = refl

skips_no_data_of_a_file : is_skipped 3 true (of 2 []) ≡ false
unfolding of sparse of_nothing reading
skips_no_data_of_a_file = refl

skips_data_of_a_directory : is_skipped 5 false (of 2 []) ≡ true
unfolding of sparse of_nothing reading
skips_data_of_a_directory = refl

skips_no_digest_that_is_checked : is_skipped 3 true (of 3 []) ≡ false
unfolding of sparse of_nothing reading
skips_no_digest_that_is_checked = refl

skips_a_digest_that_is_not_checked : is_skipped 3 false (of 3 []) ≡ true
unfolding of sparse of_nothing reading
skips_a_digest_that_is_not_checked = refl

skips_no_attributes : is_skipped 5 false (of 1 []) ≡ false
unfolding of sparse of_nothing reading
skips_no_attributes = refl

the_bytes_of_a_file : file_bytes 2 (of 1 [] ∷ of 2 (codes "ab") ∷ of 3 [] ∷ sparse 3 (codes "c") ∷ []) ≡ Ok (codes "ab" ++ 0 ∷ codes "c")
unfolding of sparse of_nothing reading
the_bytes_of_a_file = refl

no_bytes_of_a_directory : file_bytes 5 (sparse 3 [] ∷ sparse 2 [] ∷ []) ≡ Ok []
unfolding of sparse of_nothing reading
no_bytes_of_a_directory = refl

the_fault_of_the_data : file_bytes 3 (sparse 3 [] ∷ sparse 2 [] ∷ []) ≡ Err 67
unfolding of sparse of_nothing reading
the_fault_of_the_data = refl

-- ---- the whole file

-- attributes of this type
attributes : List ℕ → Record
attributes kind = of 1 (codes "1 " ++ kind ++ codes " /a" ++ 0 ∷ codes "A A IGk B A A A O A A A A A A" ++ 0 ∷ codes "b" ++ 0 ∷ [])

-- the bytes and the number of skipped records, or the number and the stream of the fault
shown : Outcome → Result (List ℕ × ℕ) (ℕ × ℕ)
shown r = result_map_both (λ (i : Item). (i.bytes, i.skipped)) (λ (f : Fault). (f.number, f.stream)) r

the_parts_of_a_file : content 1 (of 2 (codes "x") ∷ attributes (codes "2") ∷ of 1999 [] ∷ of 2 (codes "y") ∷ []) ≡ Ok (record { path = codes "/a"; kind = 2; stat = stat_from (pos 0 ∷ pos 0 ∷ pos 33188 ∷ pos 1 ∷ pos 0 ∷ pos 0 ∷ pos 0 ∷ pos 14 ∷ []); link = codes "b"; bytes = codes "xy"; skipped = 1 })
unfolding of sparse of_nothing attributes shown reading
the_parts_of_a_file = refl

skips_the_data_and_the_digest_of_a_directory : shown (content 1 (attributes (codes "5") ∷ of 2 (codes "x") ∷ of 6 [] ∷ of 3 of_nothing ∷ of 10 [] ∷ [])) ≡ Ok ([], 4)
unfolding of sparse of_nothing attributes shown reading
skips_the_data_and_the_digest_of_a_directory = refl

refuses_two_digests : shown (content 1 (attributes (codes "3") ∷ of 3 of_nothing ∷ of 3 of_nothing ∷ [])) ≡ Err (66, 0)
unfolding of sparse of_nothing attributes shown reading
refuses_two_digests = refl

skips_two_digests_of_sparse_data : shown (content 1 (attributes (codes "3") ∷ of 3 of_nothing ∷ sparse 0 [] ∷ of 3 of_nothing ∷ [])) ≡ Ok ([], 2)
unfolding of sparse of_nothing attributes shown reading
skips_two_digests_of_sparse_data = refl

no_attributes_before_a_stream : shown (content 1 (of 4 [] ∷ [])) ≡ Err (63, 0)
unfolding of sparse of_nothing attributes shown reading
no_attributes_before_a_stream = refl

bad_attributes_before_a_stream : shown (content 2 (attributes (codes "3") ∷ of 4 [] ∷ [])) ≡ Err (64, 0)
unfolding of sparse of_nothing attributes shown reading
bad_attributes_before_a_stream = refl

a_stream_before_data : shown (content 1 (attributes (codes "3") ∷ of 6 [] ∷ of 4 [] ∷ [])) ≡ Err (65, 4)
unfolding of sparse of_nothing attributes shown reading
a_stream_before_data = refl

a_stream_before_the_digest : shown (content 1 (attributes (codes "3") ∷ of 3 [] ∷ of 4 [] ∷ [])) ≡ Err (65, 4)
unfolding of sparse of_nothing attributes shown reading
a_stream_before_the_digest = refl

refuses_data_without_an_address : shown (content 1 (attributes (codes "3") ∷ of 6 [] ∷ [])) ≡ Err (67, 0)
unfolding of sparse of_nothing attributes shown reading
refuses_data_without_an_address = refl
