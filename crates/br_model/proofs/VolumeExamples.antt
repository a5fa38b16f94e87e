-- Volumes and the walk over their blocks, by example.
use Rattle.std.proofs.Common.{◌≡◌, ℕ, Bool, List, [], ◌∷◌, ◌++◌, replicate, take, cond, ◌⊎◌, Some, None, option_map, Result, Ok, Err, true, false, refl, ap, inl, inr, arith, lit≤, append-nil}
use Rattle.std.specs.Prelude.{codes, bytes_eq, ◌==◌}
use Rattle.br_model.specs.Name.{SessionKey}
use Rattle.br_model.specs.Block.{Header, header_bytes}
use Rattle.br_model.specs.Volume.{Volume, volume_bytes, Extends, LaidBlock, BlockFault, is_above, AreLaidFrom, AreLaid, blocks_from, blocks_of, next_block, step_and, steps_from}
use Rattle.br_model.proofs.Reading.{reading}

walking : Unit {0}
unfolding reading next_block steps_from
walking = tt

volume : List ℕ → List ℕ → Volume
volume name bytes = record { name = name; bytes = bytes }

the_bytes_of_the_first_of_a_name : volume_bytes (volume (codes "A") (codes "x") ∷ volume (codes "B") (codes "y") ∷ volume (codes "B") (codes "z") ∷ []) (codes "B") ≡ Some (codes "y")
unfolding volume walking
the_bytes_of_the_first_of_a_name = refl

no_volume_of_that_name : volume_bytes (volume (codes "A") (codes "x") ∷ []) (codes "a") ≡ None
unfolding volume walking
no_volume_of_that_name = refl

-- one volume grew by a byte
extends : Extends (volume (codes "A") (codes "xy") ∷ []) (volume (codes "A") (codes "x") ∷ [])
unfolding volume walking
extends name bytes = longer (bytes_eq (codes "A") name)
  where
    longer : (same : Bool) → option_map (λ (v : Volume). v.bytes) (cond same (Some (volume (codes "A") (codes "x"))) None) ≡ Some bytes
        → (more : List ℕ) × (option_map (λ (v : Volume). v.bytes) (cond same (Some (volume (codes "A") (codes "xy"))) None) ≡ Some (bytes ++ more))
    longer true e = let b : codes "x" ≡ bytes = cc in (codes "y", ap (λ xs. Some (xs ++ codes "y")) b)
    longer false e = absurd cc

extends_itself : (volumes : List Volume) → Extends volumes volumes
extends_itself volumes name bytes e = ([], (rw (append-nil bytes) e))

no_volume_is_lost : Extends [] (volume (codes "A") (codes "x") ∷ []) → ⊥
unfolding volume walking
no_volume_is_lost extended = let h = (extended (codes "A") (codes "x") refl).1 in absurd cc

no_volume_is_cut : Extends (volume (codes "A") [] ∷ []) (volume (codes "A") (codes "x") ∷ []) → ⊥
unfolding volume walking
no_volume_is_cut extended = let h = (extended (codes "A") (codes "x") refl).1 in absurd cc

nothing_is_above_no_bound : is_above None 5 ≡ false
nothing_is_above_no_bound = refl

the_bound_is_not_above_itself : is_above (Some 5) 5 ≡ false
the_bound_is_not_above_itself = refl

the_next_is_above : is_above (Some 5) 6 ≡ true
the_next_is_above = refl

-- ---- walks

key : SessionKey
key = record { id = 1; time = 100 }

header : ℕ → ℕ → Header
header number size = record { checksum = 0; size = size; number = number; session = Some key }

-- a block of a header alone
block : ℕ → List ℕ
block number = header_bytes (header number 24)

laid : ℕ → List ℕ → LaidBlock
laid address bytes = record { address = address; bytes = bytes }

refused : ℕ → ℕ → BlockFault
refused number address = record { number = number; address = address }

everywhere : ℕ → Bool
everywhere address = true

nowhere : ℕ → Bool
nowhere address = false

finds_both : blocks_of (block 0 ++ block 1) None everywhere ≡ Ok (laid 0 (block 0) ∷ laid 24 (block 1) ∷ [])
unfolding key header block laid refused everywhere nowhere walking
finds_both = refl

finds_none : blocks_of [] None everywhere ≡ Ok []
unfolding key header block laid refused everywhere nowhere walking
finds_none = refl

ends_above_the_bound : blocks_of (block 0 ++ block 1) (Some 23) everywhere ≡ Ok (laid 0 (block 0) ∷ [])
unfolding key header block laid refused everywhere nowhere walking
ends_above_the_bound = refl

goes_on_at_the_bound : blocks_of (block 0 ++ block 1) (Some 24) everywhere ≡ Ok (laid 0 (block 0) ∷ laid 24 (block 1) ∷ [])
unfolding key header block laid refused everywhere nowhere walking
goes_on_at_the_bound = refl

does_not_read_above_the_bound : blocks_of (block 0 ++ codes "spoilt") (Some 23) everywhere ≡ Ok (laid 0 (block 0) ∷ [])
unfolding key header block laid refused everywhere nowhere walking
does_not_read_above_the_bound = refl

refuses_a_bad_header_that_is_not_covered : blocks_of (block 0 ++ replicate 24 0) None nowhere ≡ Err (refused 10 24)
unfolding key header block laid refused everywhere nowhere walking
refuses_a_bad_header_that_is_not_covered = refl

refuses_a_short_end : blocks_of (block 0 ++ block 1 ++ 0 ∷ []) None nowhere ≡ Err (refused 12 48)
unfolding key header block laid refused everywhere nowhere walking
refuses_a_short_end = refl

refuses_a_covered_block_without_its_end : blocks_of (block 0 ++ header_bytes (header 1 25)) None everywhere ≡ Err (refused 12 24)
unfolding key header block laid refused everywhere nowhere walking
refuses_a_covered_block_without_its_end = refl

takes_what_is_left_where_not_covered : blocks_of (block 0 ++ header_bytes (header 1 25)) None nowhere ≡ Ok (laid 0 (block 0) ∷ laid 24 (header_bytes (header 1 25)) ∷ [])
unfolding key header block laid refused everywhere nowhere walking
takes_what_is_left_where_not_covered = refl

covers_by_the_address : blocks_of (block 0 ++ header_bytes (header 1 25)) None (λ address. address == 24) ≡ Err (refused 12 24)
unfolding key header block laid refused everywhere nowhere walking
covers_by_the_address = refl

at_most_as_many_as_asked : blocks_from 1 100 (block 0 ++ block 1) None everywhere ≡ Ok (laid 100 (block 0) ∷ [])
unfolding key header block laid refused everywhere nowhere walking
at_most_as_many_as_asked = refl

none_as_asked : blocks_from 0 100 (block 0 ++ block 1) None everywhere ≡ Ok []
unfolding key header block laid refused everywhere nowhere walking
none_as_asked = refl

-- a block of the older level, a header alone
older : ℕ → List ℕ
older number = header_bytes (record { checksum = 0; size = 16; number = number; session = None })

finds_blocks_of_both_levels : blocks_of (older 0 ++ block 1 ++ older 2) None everywhere ≡ Ok (laid 0 (older 0) ∷ laid 16 (block 1) ∷ laid 40 (older 2) ∷ [])
unfolding key header block older laid refused everywhere nowhere walking
finds_blocks_of_both_levels = refl

finds_as_many_as_16_bytes_each : blocks_of (older 0 ++ older 1 ++ older 2) None everywhere ≡ Ok (laid 0 (older 0) ∷ laid 16 (older 1) ∷ laid 32 (older 2) ∷ [])
unfolding key header block older laid refused everywhere nowhere walking
finds_as_many_as_16_bytes_each = refl

refuses_15_bytes_at_the_end : blocks_of (older 0 ++ take 15 (older 1)) None nowhere ≡ Err (refused 12 16)
unfolding key header block older laid refused everywhere nowhere walking
refuses_15_bytes_at_the_end = refl

refuses_other_letters_in_16_bytes : blocks_of (older 0 ++ replicate 16 0) None nowhere ≡ Err (refused 10 16)
unfolding key header block older laid refused everywhere nowhere walking
refuses_other_letters_in_16_bytes = refl

refuses_a_header_with_a_session_in_23_bytes : blocks_of (older 0 ++ take 23 (block 1)) None nowhere ≡ Err (refused 12 16)
unfolding key header block older laid refused everywhere nowhere walking
refuses_a_header_with_a_session_in_23_bytes = refl

-- ---- steps

steps_over_an_older_block : next_block (older 0 ++ block 1) None everywhere 0 ≡ Ok (Some (laid 0 (older 0), 16))
unfolding key header block older laid refused everywhere nowhere walking
steps_over_an_older_block = refl

steps_to_the_last_16_bytes : next_block (block 0 ++ older 1) None everywhere 24 ≡ Ok (Some (laid 24 (older 1), 40))
unfolding key header block older laid refused everywhere nowhere walking
steps_to_the_last_16_bytes = refl

steps_from_the_front : next_block (block 0 ++ block 1) None everywhere 0 ≡ Ok (Some (laid 0 (block 0), 24))
unfolding key header block laid refused everywhere nowhere walking
steps_from_the_front = refl

steps_to_the_end : next_block (block 0 ++ block 1) None everywhere 24 ≡ Ok (Some (laid 24 (block 1), 48))
unfolding key header block laid refused everywhere nowhere walking
steps_to_the_end = refl

no_step_behind_the_end : next_block (block 0 ++ block 1) None everywhere 48 ≡ Ok None
unfolding key header block laid refused everywhere nowhere walking
no_step_behind_the_end = refl

steps_to_the_bound : next_block (block 0 ++ block 1) (Some 24) everywhere 24 ≡ Ok (Some (laid 24 (block 1), 48))
unfolding key header block laid refused everywhere nowhere walking
steps_to_the_bound = refl

no_step_above_the_bound : next_block (block 0 ++ block 1) (Some 23) everywhere 24 ≡ Ok None
unfolding key header block laid refused everywhere nowhere walking
no_step_above_the_bound = refl

refuses_a_step_to_a_short_header : next_block (block 0 ++ 0 ∷ []) None nowhere 24 ≡ Err (refused 12 24)
unfolding key header block laid refused everywhere nowhere walking
refuses_a_step_to_a_short_header = refl

refuses_a_step_to_a_covered_block_without_its_end : next_block (header_bytes (header 0 25)) None everywhere 0 ≡ Err (refused 12 0)
unfolding key header block laid refused everywhere nowhere walking
refuses_a_step_to_a_covered_block_without_its_end = refl

steps_over_a_block_that_is_not_covered : next_block (header_bytes (header 0 25)) None nowhere 0 ≡ Ok (Some (laid 0 (header_bytes (header 0 25)), 25))
unfolding key header block laid refused everywhere nowhere walking
steps_over_a_block_that_is_not_covered = refl

behind_no_step : step_and (λ next. Ok (laid next [] ∷ [])) None ≡ Ok []
unfolding key header block laid refused everywhere nowhere walking
behind_no_step = refl

behind_a_step : step_and (λ next. Ok (laid next [] ∷ [])) (Some (laid 0 [], 24)) ≡ Ok (laid 0 [] ∷ laid 24 [] ∷ [])
unfolding key header block laid refused everywhere nowhere walking
behind_a_step = refl

steps_from_an_address : steps_from 2 (block 0 ++ block 1) None everywhere 24 ≡ Ok (laid 24 (block 1) ∷ [])
unfolding key header block laid refused everywhere nowhere walking
steps_from_an_address = refl

one_step : steps_from 1 (block 0 ++ block 1) None everywhere 0 ≡ Ok (laid 0 (block 0) ∷ [])
unfolding key header block laid refused everywhere nowhere walking
one_step = refl

no_steps : steps_from 0 (block 0 ++ block 1) None everywhere 0 ≡ Ok []
unfolding key header block laid refused everywhere nowhere walking
no_steps = refl

-- ---- how a volume is laid out

are_laid : AreLaid (block 0 ++ header_bytes (header 1 25)) None (λ address. address == 0) (laid 0 (block 0) ∷ laid 24 (header_bytes (header 1 25)) ∷ [])
unfolding key header block laid walking
are_laid = (lit≤ tt, refl, header 0 24, refl, (λ _. lit≤ tt), refl, (lit≤ tt, refl, header 1 25, refl, (λ e. absurd cc), refl, inl refl))

both_levels_are_laid : AreLaid (older 0 ++ block 1) None everywhere (laid 0 (older 0) ∷ laid 16 (block 1) ∷ [])
unfolding key header block older laid everywhere walking
both_levels_are_laid =
    (lit≤ tt, refl, record { checksum = 0; size = 16; number = 0; session = None }, refl, (λ _. lit≤ tt), refl, (lit≤ tt, refl, header 1 24, refl, (λ _. lit≤ tt), refl, inl refl))

is_laid_to_its_last_byte : AreLaid (block 0) None everywhere (laid 0 (block 0) ∷ [])
unfolding key header block laid everywhere walking
is_laid_to_its_last_byte = (lit≤ tt, refl, header 0 24, refl, (λ _. lit≤ tt), refl, inl refl)

are_laid_to_the_bound : AreLaid (block 0 ++ block 1) (Some 23) everywhere (laid 0 (block 0) ∷ [])
unfolding key header block laid everywhere walking
are_laid_to_the_bound = (lit≤ tt, refl, header 0 24, refl, (λ _. lit≤ tt), refl, inr refl)

not_laid_short_of_the_bound : AreLaidFrom 24 (block 1) (Some 24) everywhere [] → ⊥
unfolding key header block everywhere walking
not_laid_short_of_the_bound ends = refute ends
  where
    refute : (block 1 ≡ []) ⊎ (is_above (Some 24) 24 ≡ true) → ⊥
    refute (inl e) = absurd cc
    refute (inr e) = absurd cc

not_laid_above_the_bound : AreLaidFrom 24 (block 1) (Some 23) everywhere (laid 24 (block 1) ∷ []) → ⊥
unfolding key header block laid everywhere walking
not_laid_above_the_bound walk = let h = walk.1 in absurd cc

not_laid_with_a_covered_block_short : AreLaid (header_bytes (header 0 25)) None everywhere (laid 0 (header_bytes (header 0 25)) ∷ []) → ⊥
unfolding key header laid everywhere walking
not_laid_with_a_covered_block_short walk =
    let whole = walk.4 refl in
    let size : walk.2.size ≡ 25 = size_is walk.2 walk.3 in omega arith
  where
    size_is : (h : Header) → ◌≡◌ {A = Result Header ℕ} (Ok (header 0 25)) (Ok h) → h.size ≡ 25
    size_is h e = cc

not_laid_behind_the_end : AreLaid [] None everywhere (laid 0 [] ∷ []) → ⊥
unfolding laid everywhere
not_laid_behind_the_end walk = let h = walk.0 in omega arith
