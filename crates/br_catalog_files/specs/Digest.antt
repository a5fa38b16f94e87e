-- The text of a digest.
use Rattle.std.specs.Prelude.{ℕ, Bool, ◌==◌, ◌&&◌, ◌||◌, nat_le, List, length}
use Rattle.std.specs.List.{list_all}

-- a digit from 0 to 9 or from a to f
abbrev pub is_digest_digit : ℕ → Bool
is_digest_digit c = (nat_le 48 c && nat_le c 57) || (nat_le 97 c && nat_le c 102)

-- 32 such digits
abbrev pub is_digest_text : List ℕ → Bool
is_digest_text t = length t == 32 && list_all is_digest_digit t
