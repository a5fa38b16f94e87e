-- The calls that are left before one that fails.
use Rattle.std.specs.Prelude.{ℕ, zero, suc, Bool, true, false, Option, Some, None}

-- no call is left before it fails
abbrev pub is_out : Option ℕ → Bool
is_out None = false
is_out (Some zero) = true
is_out (Some (suc n)) = false

-- one call fewer is left
abbrev pub one_fewer : Option ℕ → Option ℕ
one_fewer None = None
one_fewer (Some zero) = Some zero
one_fewer (Some (suc n)) = Some n
