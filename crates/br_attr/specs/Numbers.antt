-- Numbers that are read one after another.
use Rattle.std.specs.Prelude.{ℕ, List, ◌++◌, Result, Ok, Err, ℤ}

-- the numbers read before, and those read after them; or the refusal
abbrev pub behind : List ℤ → Result (List ℤ) ℕ → Result (List ℤ) ℕ
behind front (Ok ns) = Ok (front ++ ns)
behind front (Err e) = Err e
