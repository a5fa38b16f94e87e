-- Words that are written byte by byte.
use Rattle.std.proofs.Common.{◌≡◌, ℕ, ◌+◌, ◌≤◌, Bool, true, false, List, [], ◌∷◌, ◌++◌, length, codes, refl, ap, sym, ◌∙◌, append_assoc, arith}
use Rattle.std.specs.Prelude.{position, Option, Some, None}
use Rattle.std.proofs.lemmas.List.{append-nil}
use Rattle.std.proofs.lemmas.List.Quantifiers.{position-Some}
use Rattle.br_model.specs.Text.{is_space}
use Rattle.br_cli_common.specs.RefusalText.{is_break, word_len, wrapped}

-- a new line is written
pub broken : (text longer left rest words : List ℕ) (column byte : ℕ) → left ≡ byte ∷ rest → is_break column byte rest ≡ true
    → longer ≡ text ++ codes "\n         " → text ++ wrapped column left ≡ words → longer ++ wrapped 9 rest ≡ words
unfolding wrapped
broken text longer left rest words column byte parts breaks pushed so_far =
    let here : wrapped column (byte ∷ rest) ≡ codes "\n         " ++ wrapped 9 rest = rw breaks refl in
    ap (λ (l : List ℕ). l ++ wrapped 9 rest) pushed ∙ append_assoc text (codes "\n         ") (wrapped 9 rest)
    ∙ ap (λ (l : List ℕ). text ++ l) (sym here ∙ ap (wrapped column) (sym parts)) ∙ so_far

-- a byte is written
pub kept : (text longer left rest words : List ℕ) (column byte : ℕ) → left ≡ byte ∷ rest → is_break column byte rest ≡ false
    → longer ≡ text ++ byte ∷ [] → text ++ wrapped column left ≡ words → longer ++ wrapped (column + 1) rest ≡ words
unfolding wrapped
kept text longer left rest words column byte parts breaks pushed so_far =
    let here : wrapped column (byte ∷ rest) ≡ byte ∷ wrapped (column + 1) rest = rw breaks refl in
    ap (λ (l : List ℕ). l ++ wrapped (column + 1) rest) pushed ∙ append_assoc text (byte ∷ []) (wrapped (column + 1) rest)
    ∙ ap (λ (l : List ℕ). text ++ l) (sym here ∙ ap (wrapped column) (sym parts)) ∙ so_far

-- nothing is left
pub all_written : (text left words : List ℕ) (column : ℕ) → left ≡ [] → text ++ wrapped column left ≡ words → text ≡ words
unfolding wrapped
all_written text left words column none so_far =
    sym (append-nil text) ∙ ap (λ (l : List ℕ). text ++ wrapped column l) (sym none) ∙ so_far

-- a rest is shorter than what it is the rest of
pub shorter : (left rest : List ℕ) (byte : ℕ) → left ≡ byte ∷ rest → length left ≡ length rest + 1
shorter left rest byte parts = ap length parts ∙ omega arith
