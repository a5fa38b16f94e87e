-- Tests joined by `||`.
use Rattle.std.proofs.Common.{◌≡◌, Bool, true, false, ◌||◌, cond, refl}

pub or_false : (b : Bool) → (b || false) ≡ b
or_false true = refl
or_false false = refl

-- what a set has with one key more
pub true_or : (b c : Bool) → cond b true c ≡ (c || b)
true_or true true = refl
true_or true false = refl
true_or false true = refl
true_or false false = refl
