use Rattle.std.proofs.Common.{◌<◌, ◌≤◌, ℕ, ◌^◌, arith}
use Rattle.std.proofs.Math.Nat.{one-le-pow, pow-le-pow_right}
use Rattle.br_attr.proofs.number64.digit_in.Goals as goal

-- 64 to a place is below 64 bits
within : (place : ℕ) → place ≤ 10 → 64 ^ place < 2 ^ 64
within place le =
    let some : 0 < 64 = omega arith in
    let most : 64 ^ place ≤ 64 ^ 10 = pow-le-pow_right some le in
    let top : 64 ^ 10 < 2 ^ 64 = omega arith in
    omega (arith, most, top)

some : (place : ℕ) → 0 < 64 ^ place
some place = let above : 0 < 64 = omega arith in let least = one-le-pow place 64 above in omega (arith, least)

pub pow-requires : goal.pow-requires
pow-requires c = within c.args.place c.requires

pub nonzero_div-result : goal.nonzero_div-result
nonzero_div-result c = let above = some c.args.place in omega (arith, above, c.pow.ensures)
