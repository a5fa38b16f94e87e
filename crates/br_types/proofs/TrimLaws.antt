-- Blanks taken from an end of a text, one after the other.
use Rattle.std.proofs.Common.{◌≡◌, ℕ, true, false, List, [], ◌∷◌, ◌++◌, ◌+◌, drop, reverse, refl, ap, sym, add_comm, add-one, arith, length, ◌∙◌}
use Rattle.std.proofs.lemmas.List.{reverse-append, reverse-reverse}
use Rattle.std.specs.List.{prefix_len}
use Rattle.br_model.specs.Text.{is_blank, trim_front}
use Rattle.br_types.specs.Trim.{trimmed_front, trimmed_end}

pub front_more : (x : ℕ) (xs : List ℕ) → is_blank x ≡ true → trimmed_front (x ∷ xs) ≡ trimmed_front xs
unfolding trim_front
front_more x xs blank = rw blank (dropped (prefix_len is_blank xs))
  where
    dropped : (n : ℕ) → drop (1 + n) (x ∷ xs) ≡ drop n xs
    dropped n = rw (add_comm 1 n, add-one n) refl

pub front_stays : (x : ℕ) (xs : List ℕ) → is_blank x ≡ false → trimmed_front (x ∷ xs) ≡ x ∷ xs
unfolding trim_front
front_stays x xs other = rw other refl

pub front_of_nothing : trimmed_front [] ≡ []
unfolding trim_front
front_of_nothing = refl

turned : (x : ℕ) (xs : List ℕ) → reverse (xs ++ x ∷ []) ≡ x ∷ reverse xs
turned x xs = reverse-append xs (x ∷ [])

pub end_more : (x : ℕ) (xs : List ℕ) → is_blank x ≡ true → trimmed_end (xs ++ x ∷ []) ≡ trimmed_end xs
end_more x xs blank = ap (λ t. reverse (trim_front is_blank t)) (turned x xs) ∙ ap reverse (front_more x (reverse xs) blank)

pub end_stays : (x : ℕ) (xs : List ℕ) → is_blank x ≡ false → trimmed_end (xs ++ x ∷ []) ≡ xs ++ x ∷ []
end_stays x xs other = ap (λ t. reverse (trim_front is_blank t)) (turned x xs) ∙ ap reverse (front_stays x (reverse xs) other ∙ sym (turned x xs)) ∙ reverse-reverse (xs ++ x ∷ [])

pub end_of_nothing : trimmed_end [] ≡ []
unfolding trim_front
end_of_nothing = refl

pub nothing : (xs : List ℕ) → length xs ≡ 0 → xs ≡ []
nothing [] none = refl
nothing (x ∷ xs) none = absurd (omega arith)
