-- The lines of `dir`.
use Rattle.std.specs.Prelude.{◌≡◌, ◌-◌, ℕ, List, ◌∷◌, ◌++◌, Option, Some, None, codes, decimal, length, take}
use Rattle.br_model.specs.Text.{escaped, line}
use Rattle.br_jobs.specs.ListingLine.{IsMoment}

-- a field at the end of a column of blanks; a longer field is written in full
abbrev pub at_end : List ℕ → List ℕ → List ℕ
at_end blanks field = take (length blanks - length field) blanks ++ field

-- a size in bytes; - if it is not known
abbrev pub size_text : Option ℕ → List ℕ
size_text None = codes "-"
size_text (Some size) = decimal size

-- a moment; - if it is not known
abbrev pub IsMomentText : Option ℕ → List ℕ → Type 0
IsMomentText None text = text ≡ codes "-"
IsMomentText (Some seconds) text = IsMoment seconds text

-- a line: a size in 12 columns, a moment in 19, and a name
abbrev pub line_of : List ℕ → List ℕ → List ℕ → List ℕ
line_of size moment name =
    line (at_end (codes "            ") size ++ 32 ∷ at_end (codes "                   ") moment ++ 32 ∷ escaped name)

-- the line of a name was appended
abbrev pub AppendsName : Option ℕ → Option ℕ → List ℕ → List ℕ → List ℕ → Type 0
AppendsName size seconds name before after =
    (moment : List ℕ) × IsMomentText seconds moment × (after ≡ before ++ line_of (size_text size) moment name)
