-- Answers and refusals, by example.
use Rattle.std.proofs.Common.{◌≡◌, ℕ, ◌+◌, Option, Some, None, Result, Ok, Err, true, false, refl}
use Rattle.std.specs.Prelude.{codes}
use Rattle.br_model.specs.Answer.{◌>>=◌, refuse_if, some_or, refused_as, IsRefusal, Answers, AnswersAlways}
use Rattle.br_model.specs.Refusal.{line_fault, piece_fault}
use Rattle.br_model.proofs.Reading.{reading}

next : ℕ → Result ℕ ℕ
next n = Ok (n + 1)

goes_on_with_the_value : (Ok 4 >>= next) ≡ Ok 5
unfolding next
goes_on_with_the_value = refl

does_not_go_on_behind_a_refusal : (Err 4 >>= next) ≡ Err 4
unfolding next
does_not_go_on_behind_a_refusal = refl

refuses_where_it_holds : refuse_if {E = ℕ} true 9 ≡ Err 9
refuses_where_it_holds = refl

does_not_refuse_where_it_does_not : refuse_if {E = ℕ} false 9 ≡ Ok tt
does_not_refuse_where_it_does_not = refl

what_is_there : some_or {A = ℕ} {E = ℕ} (Some 4) 9 ≡ Ok 4
what_is_there = refl

refuses_what_is_not_there : some_or {A = ℕ} {E = ℕ} None 9 ≡ Err 9
refuses_what_is_not_there = refl

more_to_a_refusal : refused_as {A = ℕ} (λ n. n + 1) (Err 4) ≡ Err 5
more_to_a_refusal = refl

nothing_to_a_value : refused_as {A = ℕ} {D = ℕ} (λ n. n + 1) (Ok 4) ≡ Ok 4
nothing_to_a_value = refl

the_expected_refusal : IsRefusal {Y = ℕ} {R = ℕ} (Some 9) (Err 9)
the_expected_refusal = refl

memory_may_run_out : IsRefusal {Y = ℕ} {R = ℕ} None (Ok 4)
memory_may_run_out = tt

no_refusal_of_a_value : IsRefusal {Y = ℕ} {R = ℕ} (Some 9) (Ok 4) → ⊥
no_refusal_of_a_value e = absurd cc

-- a call that returns a number, or an error with a number unless it is out of memory
cause : Option ℕ → Option ℕ
cause e = e

shows : ℕ → ℕ
shows n = n + 1

answers_what_is_seen : Answers shows cause (Ok 4) (Ok 5)
unfolding shows
answers_what_is_seen = refl

answers_no_other_value : Answers shows cause (Ok 4) (Ok 4) → ⊥
unfolding shows
answers_no_other_value e = let h : ◌≡◌ {A = ℕ} 4 5 = cc in absurd cc

answers_no_value_where_a_refusal_is_expected : Answers shows cause (Ok 4) (Err 5) → ⊥
answers_no_value_where_a_refusal_is_expected e = absurd cc

answers_the_refusal : Answers shows cause (Err (Some 9)) (Err 9)
unfolding cause
answers_the_refusal = refl

answers_want_of_memory : Answers shows cause (Err None) (Ok 5)
unfolding cause
answers_want_of_memory = tt

always_answers_what_is_seen : AnswersAlways {E = ℕ} {R = ℕ} shows shows (Ok 4) (Ok 5)
unfolding shows
always_answers_what_is_seen = refl

always_answers_the_refusal : AnswersAlways {X = ℕ} shows shows (Err 8) (Err 9)
unfolding shows
always_answers_the_refusal = refl

never_an_error_for_a_value : AnswersAlways {X = ℕ} shows shows (Err 8) (Ok 9) → ⊥
never_an_error_for_a_value e = absurd cc

-- ---- refusals as they are printed

names_line_12 : line_fault (record { number = 34; line = 12 }) ≡ codes "refused 34 line 12\n"
unfolding reading
names_line_12 = refl

names_address_0 : piece_fault (record { number = 14; volume = codes "Q"; address = 0 }) ≡ codes "refused 14 Q 0\n"
unfolding reading
names_address_0 = refl
