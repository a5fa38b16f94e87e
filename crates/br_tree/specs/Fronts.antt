-- A pattern and a name, matched up to the pattern's first star.
use Rattle.std.specs.Prelude.{◌≡◌, ℕ, ◌≤◌, true, false, List, ◌∷◌, length}
use Rattle.std.specs.List.{list_any}
use Rattle.br_model.specs.Console.{matches, tails}
use Rattle.br_tree.specs.declared.pattern.FrontMatch.{FrontMatch}
use Rattle.br_tree.specs.declared.pattern.FrontMatch.TheVariants.{Whole, Never, Star}

-- a pattern and a name lead to their rests: the pattern matches the name exactly if the rests
-- match, and if the pattern matches some end of the name, the rest does so, too
pub record LeadsTo (pattern name left behind : List ℕ) : Type 0 where
  pub same : matches pattern name ≡ matches left behind
  pub later : list_any (matches pattern) (tails name) ≡ true → list_any (matches left) (tails behind) ≡ true
  pub shorter : length left ≤ length pattern
  pub no_longer : length behind ≤ length name

-- whether the pattern matches, or the rests to which it leads
abbrev pub IsFront : FrontMatch → List ℕ → List ℕ → Type 0
IsFront Whole pattern name = matches pattern name ≡ true
IsFront Never pattern name = matches pattern name ≡ false
IsFront (Star left behind) pattern name = LeadsTo pattern name (42 ∷ left.now) behind.now
