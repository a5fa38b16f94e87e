-- Texts that are written in parts, one part after another.
use Rattle.std.proofs.Common.{◌≡◌, ℕ, ◌+◌, ◌<◌, List, [], ◌∷◌, ◌++◌, length, get_or, take, map, sym, ap, subst, ◌∙◌, append_assoc, Option}
use Rattle.std.specs.Prelude.{flat_map}
use Rattle.std.proofs.lemmas.Grind.{flat_map-append}
use Rattle.std.proofs.lemmas.List.{append-nil, map-append, take_more}
use Rattle.std.proofs.KnownBytes.{Appends-trans}
use Rattle.std.specs.Io.KnownBytes.{Appends}
use Rattle.br_sink.specs.ManifestParts.{WritesPart}

-- all is written
pub none_left : (a b : Option (List ℕ)) (text : List ℕ) → Appends a b text → WritesPart a b [] text
none_left a b text written = record { first = text; parted = append-nil text; written = written }

-- after a part, more of what is left and follows
pub part_more : (a b c : Option (List ℕ)) (left rest line front whole : List ℕ) → front ++ line ≡ whole → WritesPart a b left front
    → WritesPart b c rest (left ++ line) → WritesPart a c rest whole
part_more a b c left rest line front whole is one two = record {
  first = one.first ++ two.first;
  parted =
      append_assoc one.first two.first rest ∙ ap (λ (bytes : List ℕ). one.first ++ bytes) two.parted
      ∙ sym (append_assoc one.first left line) ∙ ap (λ (bytes : List ℕ). bytes ++ line) one.parted ∙ is;
  written = Appends-trans a b c one.first two.first one.written two.written;
}

-- the last part and what follows it are the whole, after the parts before
pub part_all : (a b c : Option (List ℕ)) (left end front whole : List ℕ) → front ++ end ≡ whole → WritesPart a b left front
    → Appends b c (left ++ end) → Appends a c whole
part_all a b c left end front whole is one last =
    subst (Appends a c)
    (sym (append_assoc one.first left end) ∙ ap (λ (bytes : List ℕ). bytes ++ end) one.parted ∙ is)
    (Appends-trans a b c one.first (left ++ end) one.written last)

-- the lines of the first elements, and of the next one
pub lines_more : {X R : Type 0} (line : R → List ℕ) (shown : X → R) (xs : List X) (i : ℕ) (x : X) (text : List ℕ) → i < length xs → x ≡ get_or xs i x
    → (text ++ flat_map line (map shown (take i xs))) ++ line (shown x) ≡ text ++ flat_map line (map shown (take (i + 1) xs))
lines_more line shown xs i x text within is =
    append_assoc text (flat_map line (map shown (take i xs))) (line (shown x))
    ∙ ap (λ (bytes : List ℕ). text ++ bytes) (sym
    (ap (λ ys. flat_map line (map shown ys)) (take_more xs i x within ∙ ap (λ y. take i xs ++ y ∷ []) (sym is))
    ∙ ap (flat_map line) (map-append shown (take i xs) (x ∷ []))
    ∙ flat_map-append line (map shown (take i xs)) (shown x ∷ [])
    ∙ ap (λ (bytes : List ℕ). flat_map line (map shown (take i xs)) ++ bytes) (append-nil (line (shown x)))))
