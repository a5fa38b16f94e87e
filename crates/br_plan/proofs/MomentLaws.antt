-- The numbers that digits spell.
use Rattle.std.proofs.Common.{◌≡◌, ℕ, ◌+◌, ◌-◌, ◌*◌, ◌≤◌, true, ◌&&◌, eqb, List, [], ◌∷◌, length, fold, drop, arith}
use Rattle.std.proofs.lemmas.Bool.{and_parts}
use Rattle.std.proofs.lemmas.Bool.Decides.{nat_tests}
use Rattle.std.proofs.lemmas.List.{length-take}
use Rattle.std.specs.Prelude.{slice_index}
use Rattle.std.specs.List.{list_all}
use Rattle.std.specs.Char.{is_ascii_digit}
use Rattle.br_model.specs.Moment.{part_at, number_in, digits_in, is_moment_text, moment_in}
use Rattle.br_plan.specs.Moment.{IsWritten}

digit : (c : ℕ) → is_ascii_digit c ≡ true → c ≤ 57
digit c e = grind (arith, nat_tests)

-- two digits spell at most 99
two : (bytes : List ℕ) → length bytes ≤ 2 → list_all is_ascii_digit bytes ≡ true → fold (λ n c. 10 * n + (c - 48)) 0 bytes ≤ 99
two [] long e = omega arith
two (a ∷ []) long e = let p = digit a (and_parts (is_ascii_digit a) true e).0 in omega (arith, p)
two (a ∷ b ∷ []) long e =
    let p = and_parts (is_ascii_digit a) (is_ascii_digit b && true) e in
    let q = digit a p.0 in
    let r = digit b (and_parts (is_ascii_digit b) true p.1).0 in
    omega (arith, q, r)
two (a ∷ b ∷ c ∷ more) long e = absurd (omega (arith, long))

-- and four digits at most 9999
four : (bytes : List ℕ) → length bytes ≤ 4 → list_all is_ascii_digit bytes ≡ true → fold (λ n c. 10 * n + (c - 48)) 0 bytes ≤ 9999
four [] long e = omega arith
four (a ∷ []) long e = let le = two (a ∷ []) (omega arith) e in omega (arith, le)
four (a ∷ b ∷ []) long e = let le = two (a ∷ b ∷ []) (omega arith) e in omega (arith, le)
four (a ∷ b ∷ c ∷ []) long e =
    let p = and_parts (is_ascii_digit a) (list_all is_ascii_digit (b ∷ c ∷ [])) e in
    let q = and_parts (is_ascii_digit b) (list_all is_ascii_digit (c ∷ [])) p.1 in
    omega (arith, digit a p.0, digit b q.0, digit c (and_parts (is_ascii_digit c) true q.1).0)
four (a ∷ b ∷ c ∷ d ∷ []) long e =
    let p = and_parts (is_ascii_digit a) (list_all is_ascii_digit (b ∷ c ∷ d ∷ [])) e in
    let q = and_parts (is_ascii_digit b) (list_all is_ascii_digit (c ∷ d ∷ [])) p.1 in
    let r = and_parts (is_ascii_digit c) (list_all is_ascii_digit (d ∷ [])) q.1 in
    omega (arith, digit a p.0, digit b q.0, digit c r.0, digit d (and_parts (is_ascii_digit d) true r.1).0)
four (a ∷ b ∷ c ∷ d ∷ f ∷ more) long e = absurd (omega (arith, long))

two_in : (start : ℕ) (text : List ℕ) → digits_in start 2 text ≡ true → number_in start 2 text ≤ 99
two_in start text e = two (part_at start 2 text) (omega (arith, length-take 2 (drop start text))) e

-- the numbers in a text of the form are of as many digits as there are places
pub text_written : (text : List ℕ) → is_moment_text text ≡ true → IsWritten (moment_in text)
unfolding is_moment_text
text_written text e =
    let second = and_parts _ (digits_in 17 2 text) e in
    let before_second = and_parts _ (eqb (slice_index text 16) 58) second.0 in
    let minute = and_parts _ (digits_in 14 2 text) before_second.0 in
    let before_minute = and_parts _ (eqb (slice_index text 13) 58) minute.0 in
    let hour = and_parts _ (digits_in 11 2 text) before_minute.0 in
    let before_hour = and_parts _ (eqb (slice_index text 10) 32) hour.0 in
    let day = and_parts _ (digits_in 8 2 text) before_hour.0 in
    let before_day = and_parts _ (eqb (slice_index text 7) 45) day.0 in
    let month = and_parts _ (digits_in 5 2 text) before_day.0 in
    let before_month = and_parts _ (eqb (slice_index text 4) 45) month.0 in
    let year = and_parts (eqb (length text) 19) (digits_in 0 4 text) before_month.0 in
    (four (part_at 0 4 text) (omega (arith, length-take 4 text)) year.1, two_in 5 text month.1, two_in 8 text day.1, two_in 11 text hour.1, two_in 14 text minute.1, two_in 17 text second.1)
