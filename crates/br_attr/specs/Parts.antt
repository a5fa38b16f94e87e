-- Attributes and their parts.
use Rattle.std.specs.Prelude.{ℕ, List}
use Rattle.br_model.specs.Attribute.{Attributes, Stat}

-- the attributes with this index, type, path, numbers and link text
abbrev pub of_parts : ℕ → ℕ → List ℕ → Stat → List ℕ → Attributes
of_parts index kind path stat link = record { index = index; kind = kind; path = path; stat = stat; link = link }
