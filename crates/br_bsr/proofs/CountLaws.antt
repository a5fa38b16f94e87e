-- The counts of the groups of a text, one line after another.
use Rattle.std.proofs.Common.{◌≡◌, ◌≤◌, ◌+◌, ℕ, Bool, true, false, zero, suc, cond, List, [], ◌∷◌, length, set, fold, Option, Some, refl, ap, sym, ◌∙◌, arith}
use Rattle.std.specs.List.{list_any, before_first, after_first}
use Rattle.std.specs.Str.Lines.{lines}
use Rattle.br_model.specs.BootstrapText.{is_equals, trimmed}
use Rattle.br_bsr.specs.Counts.{with_last, with_line, with_stated, with_word}

-- ---- a line

-- a text with an equals sign assigns a value
pub assigns : (text word value : List ℕ) (counts : List (Option ℕ)) → list_any is_equals text ≡ true → word ≡ trimmed (before_first is_equals text)
    → value ≡ trimmed (after_first is_equals text) → with_word word value counts ≡ with_stated text counts
assigns text word value counts any word_is value_is =
    ap (λ w. with_word w value counts) word_is ∙ ap (λ v. with_word (trimmed (before_first is_equals text)) v counts) value_is
    ∙ ap (λ (b : Bool). cond b (with_word (trimmed (before_first is_equals text)) (trimmed (after_first is_equals text)) counts) counts) (sym any)

pub assigns_nothing : (text : List ℕ) (counts : List (Option ℕ)) → list_any is_equals text ≡ false → counts ≡ with_stated text counts
assigns_nothing text counts none =
    ap (λ (b : Bool). cond b (with_word (trimmed (before_first is_equals text)) (trimmed (after_first is_equals text)) counts) counts) (sym none)

-- ---- the last count

-- the last count changed
pub last_set : (n : ℕ) (counts : List (Option ℕ)) (i : ℕ) → i + 1 ≡ length counts → set counts i (Some n) ≡ with_last n counts
last_set n [] i place = absurd (omega arith)
last_set n (c ∷ []) zero place = refl
last_set n (c ∷ []) (suc i) place = absurd (omega arith)
last_set n (c ∷ d ∷ more) zero place = absurd (omega arith)
last_set n (c ∷ d ∷ more) (suc i) place = ap (λ (cs : List (Option ℕ)). c ∷ cs) (last_set n (d ∷ more) i (omega arith))

pub none_set : (n : ℕ) (counts : List (Option ℕ)) → length counts ≤ 0 → counts ≡ with_last n counts
none_set n [] none = refl
none_set n (c ∷ more) none = absurd (omega arith)

-- no line is left
pub lines_over : (counts : List (Option ℕ)) (rest : List ℕ) → length rest ≡ 0 → fold with_line counts (lines rest) ≡ counts
lines_over counts [] none = refl
lines_over counts (x ∷ rest) none = absurd (omega arith)
