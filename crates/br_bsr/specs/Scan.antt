-- A text that is cut at a byte.
use Rattle.std.specs.Prelude.{◌≡◌, ◌<◌, ◌==◌, ℕ, List, true, false, length}
use Rattle.std.specs.List.{list_any, before_first, after_first}

-- the byte `end` is not in the text, all of which comes before it
abbrev pub LacksByte : ℕ → List ℕ → Type 0
LacksByte end text = (list_any (λ c. c == end) text ≡ false) × (before_first (λ c. c == end) text ≡ text)

-- the text has the byte `end`; these are the text before the first one and the text after it
abbrev pub AreAround : ℕ → List ℕ → List ℕ → List ℕ → Type 0
AreAround end text front rest =
    (list_any (λ c. c == end) text ≡ true) × (front ≡ before_first (λ c. c == end) text)
    × (rest ≡ after_first (λ c. c == end) text) × (length rest < length text)
