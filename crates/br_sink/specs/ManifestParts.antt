-- Texts that are written in parts.
use Rattle.std.specs.Prelude.{◌≡◌, ℕ, List, ◌++◌, Option}
use Rattle.std.specs.Io.KnownBytes.{Appends}

-- a first part of the bytes was written, and the rest is left
pub record WritesPart (before after : Option (List ℕ)) (left whole : List ℕ) : Type 0 where
  pub first : List ℕ
  pub parted : first ++ left ≡ whole
  pub written : Appends before after first

-- a first part of a text and of the bytes after it was written, and the text is now the rest
abbrev pub Writes : {W : Type 0} → (W → Option (List ℕ)) → W → W → List ℕ → List ℕ → List ℕ → Type 0
Writes contents before after text left more = WritesPart (contents before) (contents after) left (text ++ more)
