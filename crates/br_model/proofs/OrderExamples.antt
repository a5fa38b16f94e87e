-- Lists in the order of a rank, by example.
use Rattle.std.proofs.Common.{◌≡◌, ℕ, [], ◌∷◌, true, false, refl}
use Rattle.std.specs.Prelude.{codes}
use Rattle.std.specs.Ordering.{nat_cmp}
use Rattle.br_model.specs.Order.{put_all, ranked, in_order, is_among, without_repeats}
use Rattle.br_model.proofs.Reading.{reading}

puts_the_first_of_a_key : put_all {X = ℕ} nat_cmp ((2, 10) ∷ (1, 20) ∷ (2, 30) ∷ []) ≡ (1, 20) ∷ (2, 10) ∷ []
unfolding reading
puts_the_first_of_a_key = refl

puts_nothing : put_all {X = ℕ} nat_cmp [] ≡ []
unfolding reading
puts_nothing = refl

ranks_stand_beside : ranked (λ n. n ∷ []) (3 ∷ 1 ∷ []) ≡ (1 ∷ [], 1) ∷ (3 ∷ [], 3) ∷ []
unfolding reading
ranks_stand_beside = refl

-- a name comes after its fronts
orders_by_bytes : in_order (λ name. name) (codes "b" ∷ codes "ab" ∷ [] ∷ codes "a" ∷ codes "B" ∷ []) ≡ [] ∷ codes "B" ∷ codes "a" ∷ codes "ab" ∷ codes "b" ∷ []
unfolding reading
orders_by_bytes = refl

-- by the first number, then by the second; and as numbers, not as digits
orders_by_numbers : in_order (λ name. name) ((1 ∷ 10 ∷ []) ∷ (1 ∷ 9 ∷ []) ∷ (0 ∷ 300 ∷ []) ∷ []) ≡ (0 ∷ 300 ∷ []) ∷ (1 ∷ 9 ∷ []) ∷ (1 ∷ 10 ∷ []) ∷ []
unfolding reading
orders_by_numbers = refl

keeps_the_first_of_a_rank : in_order (λ (e : ℕ × ℕ). e.0 ∷ []) ((2, 10) ∷ (1, 20) ∷ (2, 30) ∷ (1, 40) ∷ []) ≡ (1, 20) ∷ (2, 10) ∷ []
unfolding reading
keeps_the_first_of_a_rank = refl

is_among_them : is_among (codes "a" ∷ codes "bc" ∷ []) (codes "bc") ≡ true
is_among_them = refl

a_front_is_not_among_them : is_among (codes "a" ∷ codes "bc" ∷ []) (codes "b") ≡ false
a_front_is_not_among_them = refl

nothing_is_among_none : is_among [] [] ≡ false
nothing_is_among_none = refl

keeps_the_first_of_repeats : without_repeats (codes "b" ∷ codes "a" ∷ codes "b" ∷ codes "c" ∷ codes "a" ∷ []) ≡ codes "b" ∷ codes "a" ∷ codes "c" ∷ []
unfolding reading
keeps_the_first_of_repeats = refl

no_repeats_of_none : without_repeats [] ≡ []
unfolding reading
no_repeats_of_none = refl

the_first_of_a_rank_beside_it : ranked (λ (e : ℕ × ℕ). e.0 ∷ []) ((2, 10) ∷ (1, 20) ∷ (2, 30) ∷ []) ≡ (1 ∷ [], (1, 20)) ∷ (2 ∷ [], (2, 10)) ∷ []
unfolding reading
the_first_of_a_rank_beside_it = refl
