-- The place of a record's data in a file.
use Rattle.std.proofs.Common.{◌≡◌, ℕ, ◌+◌, ◌^◌, ◌≤◌, Bool, true, ◌||◌, cond, ltb, length, take, drop, Result, Ok, Err, refl, sym, ap, ◌∙◌, inl, inr, arith}
use Rattle.std.specs.Int.{w64, from_be_bytes}
use Rattle.std.proofs.lemmas.Bool.{ltb-false, or_parts}
use Rattle.br_model.specs.Answer.{◌>>=◌}
use Rattle.br_model.specs.Record.{Record}
use Rattle.br_model.specs.File.{Extent, extent_end, extent_of, is_stream}
use Rattle.br_model.proofs.AnswerLaws.{bind_ok, chosen, ok_is, err_is_not_ok}

address : Record → ℕ
address r = from_be_bytes w64 (take 8 r.bytes)

placed : ℕ → Record → Result Extent ℕ
placed end r =
    cond (is_stream 2 r) (Ok (record { start = end; bytes = r.bytes }))
    (cond (ltb (length r.bytes) 8 || ltb (address r) end) (Err 67) (Ok (record { start = address r; bytes = drop 8 r.bytes })))

fitted : Extent → Result Extent ℕ
fitted e = cond (ltb (2 ^ 30) (extent_end e)) (Err 68) (Ok e)

is_placed : (end : ℕ) (r : Record) → extent_of end r ≡ (placed end r >>= fitted)
unfolding extent_of placed fitted address
is_placed end r = refl

placed_rises : (end : ℕ) (r : Record) (e : Extent) → placed end r ≡ Ok e → end ≤ e.start
unfolding placed
placed_rises end r e is =
    elim (chosen (is_stream 2 r) (Ok (record { start = end; bytes = r.bytes })) (cond (ltb (length r.bytes) 8 || ltb (address r) end) (Err 67) (Ok (record { start = address r; bytes = drop 8 r.bytes }))) (Ok e) is) [
      | inl p ↦
          let same : end ≡ e.start = ap (λ (x : Extent). x.start) (ok_is (record { start = end; bytes = r.bytes }) e p.1) in
          omega (arith, same)
      | inr p ↦
          elim (chosen (ltb (length r.bytes) 8 || ltb (address r) end) (Err 67) (Ok (record { start = address r; bytes = drop 8 r.bytes })) (Ok e) p.1) [
            | inl q ↦ absurd (err_is_not_ok 67 e q.1)
            | inr q ↦
                let same : address r ≡ e.start = ap (λ (x : Extent). x.start) (ok_is (record { start = address r; bytes = drop 8 r.bytes }) e q.1) in
                let tests = or_parts (ltb (length r.bytes) 8) (ltb (address r) end) q.0 in
                omega (arith, same, ltb-false (address r) end tests.1)
          ]
    ]

-- an extent begins at the end so far, or past it
pub extent_rises : (end : ℕ) (r : Record) (e : Extent) → extent_of end r ≡ Ok e → end ≤ e.start
unfolding fitted
extent_rises end r e is =
    let steps = bind_ok (placed end r) fitted e (sym (is_placed end r) ∙ is) in
    elim (chosen (ltb (2 ^ 30) (extent_end steps.0)) (Err 68) (Ok steps.0) (Ok e) steps.2) [
      | inl p ↦ absurd (err_is_not_ok 68 e p.1)
      | inr p ↦
          let same : steps.0.start ≡ e.start = ap (λ (x : Extent). x.start) (ok_is steps.0 e p.1) in
          omega (arith, same, placed_rises end r steps.0 steps.1)
    ]

-- plain data begin at the end so far
pub plain_extent : (end : ℕ) (r : Record) → is_stream 2 r ≡ true
    → extent_of end r ≡ cond (ltb (2 ^ 30) (end + length r.bytes)) (Err 68) (Ok (record { start = end; bytes = r.bytes }))
unfolding placed fitted
plain_extent end r is =
    is_placed end r
    ∙ ap (λ (b : Bool). cond b (Ok (record { start = end; bytes = r.bytes })) (cond (ltb (length r.bytes) 8 || ltb (address r) end) (Err 67) (Ok (record { start = address r; bytes = drop 8 r.bytes }))) >>= fitted) is
