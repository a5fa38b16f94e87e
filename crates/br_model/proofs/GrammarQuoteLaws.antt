-- Quotes that are closed, and comments.
use Rattle.std.proofs.lemmas.Bool.{and_from}
use Rattle.std.proofs.Common.{◌≡◌, ℕ, ◌+◌, ◌%◌, Bool, true, false, not, ◌&&◌, cond, eqb, List, [], ◌∷◌, ◌++◌, fold, refl, sym, ap, subst, ◌∙◌, arith, append-nil}
use Rattle.std.proofs.lemmas.Bool.{eqb-true, eqb-false, eq-eqb, ne_eqb, not-true, and_parts}
use Rattle.std.specs.List.{list_all}
use Rattle.br_model.specs.BootstrapText.{AreBlanks, has_closed_quotes, IsComment, before_comment}
use Rattle.br_model.specs.Text.{is_blank}
use Rattle.br_model.proofs.AttributeLaws.{Lacks, all_so, unlike}
use Rattle.br_model.proofs.GrammarTextLaws.{first_of_all, rest_of_all, lacks_of}

-- ---- quotes

abbrev toggled : Bool → ℕ → Bool
toggled quoted c = cond (eqb c 34) (not quoted) quoted

-- whether a quote is open after the text
abbrev pub quoted_after : Bool → List ℕ → Bool
quoted_after quoted [] = quoted
quoted_after quoted (c ∷ cs) = quoted_after (toggled quoted c) cs

not_twice : (b : Bool) → b ≡ not (not b)
not_twice true = refl
not_twice false = refl

odd_next : (n : ℕ) → eqb ((n + 1) % 2) 0 ≡ not (eqb (n % 2) 0)
odd_next n = go (eqb (n % 2) 0) refl
  where
    go : (b : Bool) → eqb (n % 2) 0 ≡ b → eqb ((n + 1) % 2) 0 ≡ not b
    go true e = let h = eqb-true (n % 2) 0 e in ne_eqb ((n + 1) % 2) 0 (λ k. omega (arith, h, k))
    go false e = let h = eqb-false (n % 2) 0 e in eq-eqb ((n + 1) % 2) 0 (omega (arith, h))

closed_count : (n : ℕ) (text : List ℕ) → eqb (fold (λ s c. s + cond (eqb c 34) 1 0) n text % 2) 0 ≡ not (quoted_after (not (eqb (n % 2) 0)) text)
closed_count n [] = not_twice (eqb (n % 2) 0)
closed_count n (c ∷ cs) = closed_count (n + cond (eqb c 34) 1 0) cs ∙ ap (λ q. not (quoted_after q cs)) (step (eqb c 34))
  where
    step : (b : Bool) → not (eqb ((n + cond b 1 0) % 2) 0) ≡ cond b (not (not (eqb (n % 2) 0))) (not (eqb (n % 2) 0))
    step true = ap not (odd_next n)
    step false = let e : n + 0 ≡ n = omega arith in ap (λ m. not (eqb (m % 2) 0)) e

pub closed_is : (text : List ℕ) → has_closed_quotes text ≡ not (quoted_after false text)
closed_is text = closed_count 0 text

quoted_past : (quoted : Bool) (xs ys : List ℕ) → quoted_after quoted (xs ++ ys) ≡ quoted_after (quoted_after quoted xs) ys
quoted_past quoted [] ys = refl
quoted_past quoted (x ∷ xs) ys = quoted_past (toggled quoted x) xs ys

pub quoted_same : (quoted : Bool) (xs : List ℕ) → Lacks 34 xs → quoted_after quoted xs ≡ quoted
quoted_same quoted [] h = refl
quoted_same quoted (x ∷ xs) h =
    let other : eqb x 34 ≡ false = not-true (eqb x 34) (first_of_all (λ b. not (eqb b 34)) x xs h) in
    ap (λ b. quoted_after (cond b (not quoted) quoted) xs) other ∙ quoted_same quoted xs (rest_of_all (λ b. not (eqb b 34)) x xs h)

blanks_lack_quotes : (text : List ℕ) → AreBlanks text → Lacks 34 text
blanks_lack_quotes = lacks_of is_blank 34 refl

pub closed_past : (front text back : List ℕ) → AreBlanks front → AreBlanks back → has_closed_quotes (front ++ text ++ back) ≡ has_closed_quotes text
closed_past front text back f b =
    let all : quoted_after false (front ++ text ++ back) ≡ quoted_after false text =
    quoted_past false (front ++ text) back ∙ quoted_same (quoted_after false (front ++ text)) back (blanks_lack_quotes back b) ∙ quoted_past false front text
    ∙ ap (λ q. quoted_after q text) (quoted_same false front (blanks_lack_quotes front f)) in
    closed_is (front ++ text ++ back) ∙ ap not all ∙ sym (closed_is text)

-- ---- comments

-- neither a number sign nor a quote
abbrev pub is_quiet : ℕ → Bool
is_quiet c = not (eqb c 35) && not (eqb c 34)

pub before_quiet : (quoted : Bool) (xs ys : List ℕ) → list_all is_quiet xs ≡ true → before_comment quoted (xs ++ ys) ≡ xs ++ before_comment quoted ys
unfolding before_comment
before_quiet quoted [] ys h = refl
before_quiet quoted (x ∷ xs) ys h =
    let q = and_parts (not (eqb x 35)) (not (eqb x 34)) (first_of_all is_quiet x xs h) in
    let sign : eqb x 35 ≡ false = not-true (eqb x 35) q.0 in
    let quote : eqb x 34 ≡ false = not-true (eqb x 34) q.1 in
    let more = before_quiet quoted xs ys (rest_of_all is_quiet x xs h) in
    rw (sign, quote, more) refl

pub quiet_of : (p : ℕ → Bool) → p 35 ≡ false → p 34 ≡ false → (text : List ℕ) → list_all p text ≡ true → list_all is_quiet text ≡ true
quiet_of p sign quote = all_so p is_quiet (λ c h. and_from (not (eqb c 35)) (not (eqb c 34)) (unlike p 35 sign c h) (unlike p 34 quote c h))

pub blanks_quiet : (text : List ℕ) → AreBlanks text → list_all is_quiet text ≡ true
blanks_quiet = quiet_of is_blank refl refl

none_before : (comment : List ℕ) → IsComment comment → before_comment false comment ≡ []
unfolding before_comment
none_before [] h = refl
none_before (c ∷ cs) h = let e : eqb c 35 ≡ true = eq-eqb c 35 h in rw e refl

-- blanks and a comment
pub blanks_before : (back comment : List ℕ) → AreBlanks back → IsComment comment → before_comment false (back ++ comment) ≡ back
blanks_before back comment b h = before_quiet false back comment (blanks_quiet back b) ∙ ap (λ t. back ++ t) (none_before comment h) ∙ append-nil back

-- if the quotes of a text are closed, they are so before a comment
pub closed_before : (quoted : Bool) (text back comment : List ℕ) → quoted_after quoted text ≡ false → AreBlanks back → IsComment comment
    → quoted_after quoted (before_comment quoted (text ++ back ++ comment)) ≡ false
unfolding before_comment
closed_before quoted [] back comment e b h =
    subst (λ q. quoted_after q (before_comment q (back ++ comment)) ≡ false) (sym e) (ap (quoted_after false) (blanks_before back comment b h) ∙ quoted_same false back (blanks_lack_quotes back b))
closed_before quoted (x ∷ xs) back comment e b h = go (eqb x 35 && not quoted) refl (closed_before (toggled quoted x) xs back comment e b h)
  where
    go : (t : Bool) → (eqb x 35 && not quoted) ≡ t → quoted_after (toggled quoted x) (before_comment (toggled quoted x) (xs ++ back ++ comment)) ≡ false
        → quoted_after quoted (cond t [] (x ∷ before_comment (toggled quoted x) (xs ++ back ++ comment))) ≡ false
    go true p rest = not-true quoted (and_parts (eqb x 35) (not quoted) p).1
    go false p rest = rest

-- a text is what comes before its comment, and the comment
pub comment_off : (quoted : Bool) (text : List ℕ) → (comment : List ℕ) × (text ≡ before_comment quoted text ++ comment) × IsComment comment
unfolding before_comment
comment_off quoted [] = ([], refl, tt)
comment_off quoted (x ∷ xs) = go (eqb x 35 && not quoted) refl (comment_off (toggled quoted x) xs)
  where
    go : (t : Bool) → (eqb x 35 && not quoted) ≡ t → (comment : List ℕ) × (xs ≡ before_comment (toggled quoted x) xs ++ comment) × IsComment comment
        → (comment : List ℕ) × (x ∷ xs ≡ cond t [] (x ∷ before_comment (toggled quoted x) xs) ++ comment) × IsComment comment
    go true p rest = (x ∷ xs, refl, eqb-true x 35 (and_parts (eqb x 35) (not quoted) p).0)
    go false p rest = (rest.0, ap (λ t. x ∷ t) rest.1, rest.2)
