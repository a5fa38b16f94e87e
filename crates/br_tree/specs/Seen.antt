-- The program's values as those of the model.
use Rattle.std.specs.Prelude.{ℕ, Bool, if◌then◌else◌, List, [], ◌∷◌, ◌++◌}
use Rattle.std.specs.Borrow.{Bor}
use Rattle.br_model.specs.Console.{sign}
use Rattle.br_tree.specs.declared.child.Child.{Child}
use Rattle.br_tree.specs.declared.child.Sign.{Sign}
use Rattle.br_tree.specs.declared.child.Sign.TheVariants.{Marked, Within, Plain}

-- the paths that are flagged
abbrev pub flagged : List (List ℕ) → List Bool → List (List ℕ)
flagged [] flags = []
flagged (path ∷ paths) [] = []
flagged (path ∷ paths) (flag ∷ flags) = if flag then path ∷ flagged paths flags else flagged paths flags

-- a star, a plus or a space
abbrev pub sign_byte : Sign → ℕ
sign_byte Marked = 42
sign_byte Within = 43
sign_byte Plain = 32

-- a name and its sign
abbrev pub seen_child : Child → List ℕ × ℕ
seen_child c = (c.name.now, sign_byte c.sign)

-- a name in a directory and its sign
abbrev pub signed : List (List ℕ) → List ℕ → List ℕ → List ℕ × ℕ
signed marked directory name = (name, sign marked (directory ++ name))

-- a path and whether it is marked
abbrev pub seen_path : Bor (List ℕ) × Bool → List ℕ × Bool
seen_path p = (p.0.now, p.1)
