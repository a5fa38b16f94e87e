-- What bootstraps mean over volumes, by example.
use Rattle.std.proofs.Common.{◌≡◌, ℕ, zero, suc, ◌+◌, ◌<◌, List, [], ◌∷◌, ◌++◌, length, replicate, slice_index, Some, None, Result, Ok, Err, true, false, refl, ap, inl, inr, arith, lit≤}
use Rattle.std.specs.Prelude.{codes, pos, negsuc, ℤ}
use Rattle.std.specs.Result.{result_map_both}
use Rattle.br_model.specs.Name.{SessionKey, FileKey}
use Rattle.br_model.specs.Block.{Header, header_bytes, Fragment, fragment_bytes}
use Rattle.br_model.specs.Volume.{Volume}
use Rattle.br_model.specs.Bootstrap.{Range, Group, group_on}
use Rattle.br_model.specs.Meaning.{spot_rank, Hit, key_of, hit_rank, hits_of, covers, last_address, bound_of, is_covered, groups_on, just_groups, Piece, IsPiece, volumes_of, pieces_of, first_hitting, IsHit, IsReached, hit_at, hits_in, blocks_for, hits_among, PieceFault, hits_on, hits_on_each, meaning, IsLaidFor}
use Rattle.br_model.proofs.Reading.{reading}

key : SessionKey
key = record { id = 1; time = 100 }

part : ℤ → List ℕ → Fragment
part index bytes = record { session = key; index = index; stream = pos 2; size = length bytes; bytes = bytes }

hit : ℕ → ℕ → ℕ → ℕ → Fragment → Hit
hit index group address ordinal f = record { key = record { session = key; index = index }; spot = record { group = group; address = address; ordinal = ordinal }; fragment = f }

header : ℕ → Header
header size = record { checksum = 0; size = size; number = 0; session = Some key }

-- a block of 51 bytes with parts of the files 1 and 2
block : List ℕ
block = header_bytes (header 51) ++ fragment_bytes (part (pos 1) (codes "ab")) ++ fragment_bytes (part (pos 2) (codes "c"))

volume : List ℕ → List ℕ → Volume
volume name bytes = record { name = name; bytes = bytes }

between : ℕ → ℕ → Range
between low high = record { low = low; high = high }

at_addresses : List Range → Group
at_addresses rs = record (group_on (codes "A")) { addresses = rs }

of_index : List ℕ → ℕ → Group
of_index name index = record (group_on name) { indexes = between index index ∷ [] }

unfoldable meant : Unit {0}
unfolding key part hit header block volume between at_addresses of_index reading
meant = tt

-- ---- which blocks are covered, and where the walk ends

covers_all_without_addresses : covers (group_on []) 7 ≡ true
covers_all_without_addresses = refl

does_not_cover_2 : covers (at_addresses (between 3 5 ∷ between 9 9 ∷ [])) 2 ≡ false
unfolding meant
does_not_cover_2 = refl

covers_3 : covers (at_addresses (between 3 5 ∷ between 9 9 ∷ [])) 3 ≡ true
unfolding meant
covers_3 = refl

covers_5 : covers (at_addresses (between 3 5 ∷ between 9 9 ∷ [])) 5 ≡ true
unfolding meant
covers_5 = refl

does_not_cover_6 : covers (at_addresses (between 3 5 ∷ between 9 9 ∷ [])) 6 ≡ false
unfolding meant
does_not_cover_6 = refl

covers_9 : covers (at_addresses (between 3 5 ∷ between 9 9 ∷ [])) 9 ≡ true
unfolding meant
covers_9 = refl

does_not_cover_10 : covers (at_addresses (between 3 5 ∷ between 9 9 ∷ [])) 10 ≡ false
unfolding meant
does_not_cover_10 = refl

the_greatest_end_of_the_ranges : last_address (at_addresses (between 3 9 ∷ between 5 7 ∷ [])) ≡ 9
unfolding meant
the_greatest_end_of_the_ranges = refl

no_end_of_no_ranges : last_address (group_on []) ≡ 0
no_end_of_no_ranges = refl

the_bound_of_the_greatest_end : bound_of (at_addresses (between 0 5 ∷ []) ∷ at_addresses (between 2 9 ∷ []) ∷ at_addresses (between 0 7 ∷ []) ∷ []) ≡ Some 9
unfolding meant
the_bound_of_the_greatest_end = refl

no_bound_where_one_has_no_addresses : bound_of (at_addresses (between 0 5 ∷ []) ∷ at_addresses [] ∷ []) ≡ None
unfolding meant
no_bound_where_one_has_no_addresses = refl

the_bound_of_no_groups : bound_of [] ≡ Some 0
unfolding meant
the_bound_of_no_groups = refl

covered_by_one_of_the_groups : is_covered (at_addresses (between 0 5 ∷ []) ∷ at_addresses (between 9 9 ∷ []) ∷ []) 9 ≡ true
unfolding meant
covered_by_one_of_the_groups = refl

covered_by_none_of_the_groups : is_covered (at_addresses (between 0 5 ∷ []) ∷ at_addresses (between 9 9 ∷ []) ∷ []) 7 ≡ false
unfolding meant
covered_by_none_of_the_groups = refl

-- ---- pieces

groups_keep_their_numbers : groups_on (group_on (codes "B") ∷ group_on (codes "A") ∷ of_index (codes "B") 1 ∷ []) (codes "B") ≡ (0, group_on (codes "B")) ∷ (2, of_index (codes "B") 1) ∷ []
unfolding meant
groups_keep_their_numbers = refl

no_groups_on_another_volume : groups_on (group_on (codes "B") ∷ group_on (codes "A") ∷ of_index (codes "B") 1 ∷ []) (codes "C") ≡ []
unfolding meant
no_groups_on_another_volume = refl

the_groups_without_numbers : just_groups ((2, group_on (codes "B")) ∷ []) ≡ group_on (codes "B") ∷ []
the_groups_without_numbers = refl

volumes_in_order_of_appearance : volumes_of (group_on (codes "B") ∷ group_on (codes "A") ∷ of_index (codes "B") 1 ∷ []) ≡ codes "B" ∷ codes "A" ∷ []
unfolding meant
volumes_in_order_of_appearance = refl

a_piece_for_each_volume : pieces_of (group_on (codes "B") ∷ group_on (codes "A") ∷ of_index (codes "B") 1 ∷ []) ≡ record { number = 0; volume = codes "B"; groups = (0, group_on (codes "B")) ∷ (2, of_index (codes "B") 1) ∷ [] } ∷ record { number = 1; volume = codes "A"; groups = (1, group_on (codes "A")) ∷ [] } ∷ []
unfolding meant
a_piece_for_each_volume = refl

no_pieces_of_no_groups : pieces_of [] ≡ []
unfolding meant
no_pieces_of_no_groups = refl

piece : List (ℕ × Group) → Piece
piece groups = record { number = 0; volume = codes "A"; groups = groups }

is_piece : IsPiece (piece ((0, group_on (codes "A")) ∷ (2, group_on (codes "A")) ∷ []))
unfolding piece
is_piece = record { some = lit≤ tt; rise = rise; on_volume = (refl, (refl, tt)) }
  where
    rise : (k : ℕ) → k + 1 < 2 → slice_index (0 ∷ 2 ∷ []) k < slice_index (0 ∷ 2 ∷ []) (k + 1)
    rise zero lt = lit≤ tt
    rise (suc k) lt = absurd (omega arith)

no_piece_without_groups : IsPiece (piece []) → ⊥
unfolding piece
no_piece_without_groups p = let h : 0 < 0 = p.some in omega arith

no_piece_with_a_number_twice : IsPiece (piece ((2, group_on (codes "A")) ∷ (2, group_on (codes "A")) ∷ [])) → ⊥
unfolding piece
no_piece_with_a_number_twice p = let h : 2 < 2 = p.rise 0 (lit≤ tt) in omega arith

no_piece_of_another_volume : IsPiece (piece ((0, group_on []) ∷ [])) → ⊥
unfolding piece
no_piece_of_another_volume p = let h : [] ≡ codes "A" = p.on_volume.0 in absurd cc

-- ---- hits

the_key_of_a_fragment : key_of (part (negsuc 1) []) ≡ record { session = key; index = 2 }
unfolding meant
the_key_of_a_fragment = refl

the_rank_of_a_place : spot_rank (record { group = 1; address = 2; ordinal = 3 }) ≡ 1 ∷ 2 ∷ 3 ∷ []
the_rank_of_a_place = refl

by_file_then_by_place : hit_rank (record { session = key; index = 4 }, record { group = 5; address = 6; ordinal = 7 }) ≡ 1 ∷ 100 ∷ 4 ∷ 5 ∷ 6 ∷ 7 ∷ []
unfolding meant
by_file_then_by_place = refl

the_first_group_that_hits : first_hitting ((3, of_index (codes "A") 2) ∷ (5, group_on (codes "A")) ∷ []) 0 (part (pos 2) []) ≡ Some 3
unfolding meant
the_first_group_that_hits = refl

the_next_where_the_first_misses : first_hitting ((3, of_index (codes "A") 2) ∷ (5, group_on (codes "A")) ∷ []) 0 (part (pos 1) []) ≡ Some 5
unfolding meant
the_next_where_the_first_misses = refl

no_group_hits : first_hitting ((3, of_index (codes "A") 2) ∷ (5, group_on (codes "A")) ∷ []) 0 (part (pos 0) []) ≡ None
unfolding meant
no_group_hits = refl

a_hit_at_its_place : hit_at (record { address = 64; bytes = [] }) (2, part (negsuc 0) []) 5 ≡ hit 1 5 64 2 (part (negsuc 0) [])
unfolding meant
a_hit_at_its_place = refl

hits_in_order_of_place : hits_in ((3, of_index (codes "A") 2) ∷ (5, group_on (codes "A")) ∷ []) (record { address = 64; bytes = block }) ≡ hit 1 5 64 0 (part (pos 1) (codes "ab")) ∷ hit 2 3 64 1 (part (pos 2) (codes "c")) ∷ []
unfolding meant
hits_in_order_of_place = refl

hits_have_their_place_in_the_block : hits_in ((3, of_index (codes "A") 2) ∷ []) (record { address = 64; bytes = block }) ≡ hit 2 3 64 1 (part (pos 2) (codes "c")) ∷ []
unfolding meant
hits_have_their_place_in_the_block = refl

hits_in_order_of_address : hits_among ((0, of_index (codes "A") 2) ∷ []) (block ++ block) ≡ Ok (hit 2 0 0 1 (part (pos 2) (codes "c")) ∷ hit 2 0 51 1 (part (pos 2) (codes "c")) ∷ [])
unfolding meant
hits_in_order_of_address = refl

the_blocks_to_the_bound : blocks_for ((0, at_addresses (between 0 50 ∷ [])) ∷ []) (block ++ codes "spoilt") ≡ Ok (record { address = 0; bytes = block } ∷ [])
unfolding meant
the_blocks_to_the_bound = refl

a_block_that_begins_at_the_bound : blocks_for ((0, at_addresses (between 0 51 ∷ [])) ∷ []) (block ++ codes "spoilt") ≡ Err (record { number = 12; address = 51 })
unfolding meant
a_block_that_begins_at_the_bound = refl

a_block_that_is_not_covered_may_be_short : blocks_for ((0, at_addresses (between 51 51 ∷ [])) ∷ []) (header_bytes (header 52)) ≡ Ok (record { address = 0; bytes = header_bytes (header 52) } ∷ [])
unfolding meant
a_block_that_is_not_covered_may_be_short = refl

on : List ℕ → List (ℕ × Group) → Piece
on name groups = record { number = 0; volume = name; groups = groups }

shown : Result (List Hit) PieceFault → Result (List Hit) (ℕ × List ℕ × ℕ)
shown r = result_map_both (λ hits. hits) (λ (e : PieceFault). (e.number, e.volume, e.address)) r

hits_on_a_volume : shown (hits_on (volume (codes "A") block ∷ volume (codes "B") (block ++ codes "spoilt") ∷ []) (on (codes "A") ((7, of_index (codes "A") 1) ∷ []))) ≡ Ok (hit 1 7 0 0 (part (pos 1) (codes "ab")) ∷ [])
unfolding on shown meant
hits_on_a_volume = refl

no_such_volume : shown (hits_on (volume (codes "A") block ∷ volume (codes "B") (block ++ codes "spoilt") ∷ []) (on (codes "C") [])) ≡ Err (14, codes "C", 0)
unfolding on shown meant
no_such_volume = refl

a_bad_block_of_the_volume : shown (hits_on (volume (codes "A") block ∷ volume (codes "B") (block ++ codes "spoilt") ∷ []) (on (codes "B") ((0, group_on (codes "B")) ∷ []))) ≡ Err (12, codes "B", 51)
unfolding on shown meant
a_bad_block_of_the_volume = refl

piece_after_piece : shown (hits_on_each (volume (codes "A") block ∷ volume (codes "B") (block ++ codes "spoilt") ∷ []) (on (codes "A") ((1, of_index (codes "A") 2) ∷ []) ∷ on (codes "A") ((0, of_index (codes "A") 1) ∷ []) ∷ [])) ≡ Ok (hit 2 1 0 1 (part (pos 2) (codes "c")) ∷ hit 1 0 0 0 (part (pos 1) (codes "ab")) ∷ [])
unfolding on shown meant
piece_after_piece = refl

the_first_piece_that_fails : shown (hits_on_each (volume (codes "A") block ∷ volume (codes "B") (block ++ codes "spoilt") ∷ []) (on (codes "C") [] ∷ on (codes "B") ((0, group_on (codes "B")) ∷ []) ∷ [])) ≡ Err (14, codes "C", 0)
unfolding on shown meant
the_first_piece_that_fails = refl

no_hits_of_no_pieces : shown (hits_on_each [] []) ≡ Ok []
unfolding on shown meant
no_hits_of_no_pieces = refl

the_set_of_the_hits : meaning (of_index (codes "A") 2 ∷ []) (volume (codes "A") block ∷ volume (codes "B") (block ++ codes "spoilt") ∷ []) ≡ Ok (hits_of (hit 2 0 0 1 (part (pos 2) (codes "c")) ∷ []))
unfolding on shown meant
the_set_of_the_hits = refl

no_set_where_a_volume_is_missing : meaning (of_index (codes "A") 2 ∷ group_on (codes "C") ∷ []) (volume (codes "A") block ∷ volume (codes "B") (block ++ codes "spoilt") ∷ []) ≡ Err (record { number = 14; volume = codes "C"; address = 0 })
unfolding on shown meant
no_set_where_a_volume_is_missing = refl

-- ---- hits, as a predicate

the_hit : Hit
the_hit = hit 2 0 0 1 (part (pos 2) (codes "c"))

is_hit : IsHit (of_index (codes "A") 2 ∷ []) (volume (codes "A") block ∷ []) the_hit
unfolding the_hit meant
is_hit = record {
  volume = codes "A";
  bytes = block;
  blocks = record { address = 0; bytes = block } ∷ [];
  block = record { address = 0; bytes = block };
  found = refl;
  laid = (lit≤ tt, refl, header 51, refl, (λ _. lit≤ tt), refl, inl refl);
  among = (0, lit≤ tt, refl);
  address = refl;
  ordinal = refl;
  group = refl;
  key = refl;
}

no_hit_without_a_volume : IsHit (of_index (codes "A") 2 ∷ []) [] the_hit → ⊥
unfolding the_hit meant
no_hit_without_a_volume h = let e = h.found in absurd cc

no_hit_of_another_file : IsHit (of_index (codes "A") 2 ∷ []) (volume (codes "A") block ∷ []) (hit 3 0 0 1 (part (pos 2) (codes "c"))) → ⊥
unfolding the_hit meant
no_hit_of_another_file h = let e : ◌≡◌ {A = ℕ} 3 2 = ap (λ (k : FileKey). k.index) h.key in absurd cc

-- what follows the block does not matter
is_reached : IsReached (of_index (codes "A") 2 ∷ []) (volume (codes "A") (block ++ codes "spoilt") ∷ []) the_hit
unfolding the_hit meant
is_reached = record {
  volume = codes "A";
  bytes = block ++ codes "spoilt";
  blocks = record { address = 0; bytes = block } ∷ [];
  block = record { address = 0; bytes = block };
  found = refl;
  laid = (lit≤ tt, refl, header 51, refl, (λ _. lit≤ tt), refl, inr refl);
  among = (0, lit≤ tt, refl);
  address = refl;
  ordinal = refl;
  group = refl;
  key = refl;
}

not_reached_without_a_volume : IsReached (of_index (codes "A") 2 ∷ []) [] the_hit → ⊥
unfolding the_hit meant
not_reached_without_a_volume h = let e = h.found in absurd cc

is_laid_for : IsLaidFor (at_addresses (between 0 50 ∷ []) ∷ []) (volume (codes "A") (block ++ codes "spoilt") ∷ []) (codes "A")
unfolding meant
is_laid_for = record {
  bytes = block ++ codes "spoilt";
  blocks = record { address = 0; bytes = block } ∷ [];
  found = refl;
  laid = (lit≤ tt, refl, header 51, refl, (λ _. lit≤ tt), refl, inr refl);
}

not_laid_without_the_volume : IsLaidFor (group_on (codes "A") ∷ []) (volume (codes "B") block ∷ []) (codes "A") → ⊥
unfolding meant
not_laid_without_the_volume h = let e = h.found in absurd cc

the_rank_of_another_place : spot_rank (record { group = 3; address = 0; ordinal = 1 }) ≡ 3 ∷ 0 ∷ 1 ∷ []
the_rank_of_another_place = refl

the_key_of_index_0 : key_of (part (pos 0) []) ≡ record { session = key; index = 0 }
unfolding meant
the_key_of_index_0 = refl

the_rank_of_the_first_place : hit_rank (record { session = key; index = 1 }, record { group = 0; address = 0; ordinal = 0 }) ≡ 1 ∷ 100 ∷ 1 ∷ 0 ∷ 0 ∷ 0 ∷ []
unfolding meant
the_rank_of_the_first_place = refl

no_groups_without_numbers : just_groups [] ≡ []
no_groups_without_numbers = refl

no_volumes_of_no_groups : volumes_of [] ≡ []
unfolding meant
no_volumes_of_no_groups = refl

a_hit_at_address_0 : hit_at (record { address = 0; bytes = [] }) (0, part (pos 3) []) 0 ≡ hit 3 0 0 0 (part (pos 3) [])
unfolding meant
a_hit_at_address_0 = refl

no_hits_among_a_bad_block : hits_among ((0, group_on (codes "A")) ∷ []) (block ++ replicate 24 0) ≡ Err (record { number = 10; address = 51 })
unfolding meant
no_hits_among_a_bad_block = refl

groups_in_their_order : just_groups ((2, group_on (codes "B")) ∷ (5, group_on (codes "A")) ∷ []) ≡ group_on (codes "B") ∷ group_on (codes "A") ∷ []
groups_in_their_order = refl

the_first_named_volume_first : volumes_of (group_on (codes "B") ∷ group_on (codes "A") ∷ group_on (codes "A") ∷ []) ≡ codes "B" ∷ codes "A" ∷ []
unfolding meant
the_first_named_volume_first = refl
