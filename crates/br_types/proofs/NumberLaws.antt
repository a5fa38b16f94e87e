-- Numbers, of which all from 2 ^ 64 on are alike.
use Rattle.std.proofs.Common.{◌≡◌, ℕ, ◌+◌, ◌-◌, ◌*◌, ◌≤◌, ◌<◌, true, false, ltb, leb, take, length, List, refl, ap, inl, inr, ◌∙◌, arith, fold}
use Rattle.std.proofs.lemmas.Bool.{cases_lt, lt-ltb, le-ltb, lt-leb}
use Rattle.std.proofs.lemmas.List.{take_all}
use Rattle.br_types.specs.DecimalField.{capped, up_to}

-- the cap is above all numbers of 64 bits
pub capped_up_to : (most n : ℕ) → most < 18446744073709551616 → up_to most (capped n) ≡ up_to most n
capped_up_to most n fits = elim (cases_lt n 18446744073709551616) [
  | inl less ↦ let e : ltb n 18446744073709551616 ≡ true = lt-ltb n 18446744073709551616 less in rw e refl
  | inr more ↦
      let e : ltb n 18446744073709551616 ≡ false = le-ltb n 18446744073709551616 more in
      let f : leb 18446744073709551616 most ≡ false = lt-leb 18446744073709551616 most fits in
      let g : leb n most ≡ false = lt-leb n most (omega arith) in
      rw (e, f, g) refl
]

-- all digits are read
pub spelled_all : (digits : List ℕ) (i value : ℕ) → length digits ≤ i → value ≡ capped (fold (λ n c. 10 * n + (c - 48)) 0 (take i digits))
    → value ≡ capped (fold (λ n c. 10 * n + (c - 48)) 0 digits)
spelled_all digits i value past so_far =
    so_far ∙ ap (λ (l : List ℕ). capped (fold (λ n c. 10 * n + (c - 48)) 0 l)) (take_all i digits past)
