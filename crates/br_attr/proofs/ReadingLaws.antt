-- Numbers that are read one after another, and the text before a byte.
use Rattle.std.proofs.Common.{◌≡◌, ℕ, ◌+◌, ◌<◌, ◌≤◌, Bool, true, false, not, List, [], ◌∷◌, ◌++◌, length, get_or, take, drop, Ok, Err, Result, refl, ap, subst, sym, ◌∙◌, arith, append_assoc, one-add, inl, inr}
use Rattle.std.specs.Prelude.{ℤ, pos}
use Rattle.std.specs.List.{list_all, before_first}
use Rattle.std.proofs.lemmas.List.{at_drop_more, at_drop_all, get_or-take, get_or_past, length-take}
use Rattle.std.proofs.lemmas.Bool.{cases_lt}
use Rattle.br_model.specs.Answer.{◌>>=◌}
use Rattle.br_model.specs.Number.{read_number}
use Rattle.br_model.specs.Attribute.{stat_from, read_numbers}
use Rattle.br_attr.specs.Numbers.{behind}

-- ---- numbers

abbrev number_and : List ℕ → List (List ℕ) → Result (List ℤ) ℕ
number_and word more = read_number word >>= λ n. (read_numbers more >>= λ ns. Ok (n ∷ ns))

module _ (words : List (List ℕ)) (i : ℕ) (word : List ℕ) (front : List ℤ) (within : i < length words) (is : word ≡ get_or words i word) where
  next_number : read_numbers (drop i words) ≡ number_and word (drop (i + 1) words)
  unfolding read_numbers
  next_number = at_drop_more read_numbers words i word within ∙ ap (λ w. number_and w (drop (i + 1) words)) (sym is)

  pub reads_refusal : (e : ℕ) → read_number word ≡ Err e → behind front (read_numbers (drop i words)) ≡ Err e
  reads_refusal e refused = ap (behind front) (next_number ∙ ap (λ r. r >>= λ n. (read_numbers (drop (i + 1) words) >>= λ ns. Ok (n ∷ ns))) refused)

  pub reads_more : (n : ℤ) → read_number word ≡ Ok n → behind front (read_numbers (drop i words)) ≡ behind (front ++ n ∷ []) (read_numbers (drop (i + 1) words))
  reads_more n read = ap (behind front) (next_number ∙ ap (λ r. r >>= λ m. (read_numbers (drop (i + 1) words) >>= λ ns. Ok (m ∷ ns))) read) ∙ go (read_numbers (drop (i + 1) words))
    where
      go : (r : Result (List ℤ) ℕ) → behind front (r >>= λ ns. Ok (n ∷ ns)) ≡ behind (front ++ n ∷ []) r
      go (Ok ns) = ap (λ all. Ok all) (sym (append_assoc front (n ∷ []) ns))
      go (Err e) = refl

pub reads_all : (words : List (List ℕ)) (i : ℕ) (front : List ℤ) → length words ≤ i → behind front (read_numbers (drop i words)) ≡ Ok front
unfolding read_numbers
reads_all words i front past = ap (behind front) (at_drop_all read_numbers words i past) ∙ ap (λ all. Ok all) (append-nil front)
  where
    append-nil : (xs : List ℤ) → xs ++ [] ≡ xs
    append-nil [] = refl
    append-nil (x ∷ xs) = ap (λ ys. x ∷ ys) (append-nil xs)

pub turn_at : (words : List (List ℕ)) (i j : ℕ) (word : List ℕ) → j ≡ i → (i < length words) × (word ≡ get_or words i word) → (j < length words) × (word ≡ get_or words j word)
turn_at words i j word same at = subst (λ k. (k < length words) × (word ≡ get_or words k word)) (sym same) at

-- ---- numbers by their places

-- zeros after the numbers that were read change nothing
module _ (numbers : List ℤ) (count : ℕ) (zeros : (k : ℕ) → count ≤ k → get_or numbers k (pos 0) ≡ pos 0) where
  same_place : (k : ℕ) → get_or (take count numbers) k (pos 0) ≡ get_or numbers k (pos 0)
  same_place k = elim (cases_lt k count) [
    | inl less ↦ get_or-take count numbers k (pos 0) less
    | inr past ↦ get_or_past (take count numbers) k (pos 0) (omega (arith, length-take count numbers)) ∙ sym (zeros k past)
  ]

  pub stat_from_read : stat_from (take count numbers) ≡ stat_from numbers
  unfolding stat_from
  stat_from_read = rw (same_place 0, same_place 1, same_place 2, same_place 3, same_place 4, same_place 5, same_place 6, same_place 7, same_place 8, same_place 9, same_place 10, same_place 11, same_place 12, same_place 13) refl

-- ---- before a byte

pub none_before : (p : ℕ → Bool) (xs : List ℕ) → list_all (λ c. not (p c)) (before_first p xs) ≡ true
none_before p [] = refl
none_before p (x ∷ xs) = go (p x) refl (none_before p xs)
  where
    go : (b : Bool) → p x ≡ b → list_all (λ c. not (p c)) (before_first p xs) ≡ true → list_all (λ c. not (p c)) (before_first p (x ∷ xs)) ≡ true
    go true is rest = rw is refl
    go false is rest = rw (is, one-add) (rw is rest)
