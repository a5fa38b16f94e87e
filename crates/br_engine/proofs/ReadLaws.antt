-- A text of a bootstrap whose last line is too long is refused whatever follows.
use Rattle.std.proofs.Common.{◌≡◌, ◌<◌, ◌≤◌, ◌+◌, ◌-◌, ◌||◌, ◌==◌, ℕ, zero, suc, Bool, true, false, not, cond, leb, ltb, List, [], ◌∷◌, ◌++◌, length, take, drop, get_or, Option, Some, None, Result, Ok, Err, refl, ap, sym, ◌∙◌, arith, append_assoc, append-nil, length-append, length-drop, take-append-drop, subst}
use Rattle.std.specs.Io.KnownBytes.{Consumes}
use Rattle.std.specs.List.{list_any, slice_split}
use Rattle.std.specs.Str.Lines.{lines, lines_of_parts, strip_carriage_return}
use Rattle.std.proofs.lemmas.Bool.{and_parts, ne_eqb, or_parts}
use Rattle.std.proofs.lemmas.Bool.Decides.{nat_tests}
use Rattle.std.proofs.lemmas.List.{length-take-le}
use Rattle.std.proofs.lemmas.List.Folds.{list_any-append}
use Rattle.std.proofs.lemmas.List.Splits.{length-slice_split}
use Rattle.br_model.specs.Answer.{◌>>=◌, refused_as}
use Rattle.br_model.specs.Text.{is_empty}
use Rattle.br_model.specs.Bootstrap.{Group}
use Rattle.br_model.specs.BootstrapText.{Statement, with_statement, read_line, read_lines, read_bootstrap}
use Rattle.br_engine.specs.BootstrapText.{is_line_end, has_long_end, IsSettled, ReadsAs}

-- ---- the first line of a text

-- a text with LF: its first line, and what follows the LF
record Cut (text : List ℕ) : Type 0 where
  front : List ℕ
  back : List ℕ
  joined : text ≡ front ++ 10 ∷ back
  none : list_any is_line_end front ≡ false

is_ten : (c : ℕ) → is_line_end c ≡ true → c ≡ 10
is_ten c e = grind (arith, nat_tests)

cut : (text : List ℕ) → list_any is_line_end text ≡ true → Cut text
cut [] e = absurd cc
cut (c ∷ cs) e = go (is_line_end c) refl e (λ k. cut cs k)
  where
    go : (b : Bool) → is_line_end c ≡ b → (is_line_end c || list_any is_line_end cs) ≡ true → (list_any is_line_end cs ≡ true → Cut cs) → Cut (c ∷ cs)
    go true is h again = record { front = []; back = cs; joined = rw (is_ten c is) refl; none = refl }
    go false is h again =
        let rest = again (rw is at h) in
        record { front = c ∷ rest.front; back = rest.back; joined = ap (λ (l : List ℕ). c ∷ l) rest.joined; none = rw (is, rest.none) refl }

-- the parts of a text that is cut at its first LF
split_behind : (front back : List ℕ) → list_any is_line_end front ≡ false
    → slice_split is_line_end (front ++ 10 ∷ back) ≡ front ∷ slice_split is_line_end back
split_behind [] back e = refl
split_behind (c ∷ cs) back e = let parts = or_parts (is_line_end c) (list_any is_line_end cs) e in
    let rest = split_behind cs back parts.1 in rw (parts.0, rest) refl

split_nowhere : (text : List ℕ) → list_any is_line_end text ≡ false → slice_split is_line_end text ≡ text ∷ []
split_nowhere [] e = refl
split_nowhere (c ∷ cs) e = let parts = or_parts (is_line_end c) (list_any is_line_end cs) e in
    let rest = split_nowhere cs parts.1 in rw (parts.0, rest) refl

parts_more : (x : List ℕ) (parts : List (List ℕ)) → 0 < length parts → lines_of_parts (x ∷ parts) ≡ strip_carriage_return x ∷ lines_of_parts parts
parts_more x [] some = absurd (omega arith)
parts_more x (y ∷ more) some = refl

first_line : (front back : List ℕ) → list_any is_line_end front ≡ false → lines (front ++ 10 ∷ back) ≡ strip_carriage_return front ∷ lines back
first_line front back none =
    ap lines_of_parts (split_behind front back none)
    ∙ parts_more front (slice_split is_line_end back) (omega (arith, length-slice_split is_line_end back))

last_line : (text : List ℕ) → list_any is_line_end text ≡ false → 0 < length text → lines text ≡ text ∷ []
last_line text none some = ap lines_of_parts (split_nowhere text none) ∙ go (length text == 0) (ne_eqb (length text) 0 (λ z. omega (arith, z, some)))
  where
    go : (b : Bool) → b ≡ false → cond b [] (text ∷ []) ≡ text ∷ []
    go b e = rw e refl

-- ---- a line that is too long

stripped_by_one : (x : List ℕ) → length x ≤ length (strip_carriage_return x) + 1
stripped_by_one x = go (get_or x (length x - 1) 0 == 13)
  where
    go : (b : Bool) → length x ≤ length (cond b (take (length x - 1) x) x) + 1
    go true = omega (arith, length-take-le (length x - 1) x (omega arith))
    go false = omega arith

-- a first line of more than 4,096 bytes is refused with 34
too_long : (n : ℕ) (groups : List Group) (x : List ℕ) (others : List (List ℕ)) → 4096 < length x
    → read_lines n groups (x ∷ others) ≡ Err (record { number = 34; line = n })
unfolding read_lines read_line
too_long n groups x others long = let is : ltb 4096 (length x) ≡ true = grind (arith, nat_tests) in rw is refl

-- as one without LF of more than 4,097 bytes is whatever follows
too_long_open : (n : ℕ) (groups : List Group) (text more : List ℕ) → list_any is_line_end text ≡ false → 4097 < length text
    → read_lines n groups (lines (text ++ more)) ≡ Err (record { number = 34; line = n })
too_long_open n groups text more none long = go (list_any is_line_end more) refl
  where
    go : (b : Bool) → list_any is_line_end more ≡ b → read_lines n groups (lines (text ++ more)) ≡ Err (record { number = 34; line = n })
    go true is =
        let c = cut more is in
        let joined : text ++ more ≡ (text ++ c.front) ++ 10 ∷ c.back = ap (λ l. text ++ l) c.joined ∙ sym (append_assoc text c.front (10 ∷ c.back)) in
        let first = first_line (text ++ c.front) c.back (list_any-append is_line_end text c.front ∙ rw (none, c.none) refl) in
        rw (joined, first)
        (too_long n groups (strip_carriage_return (text ++ c.front)) (lines c.back)
        (omega (arith, long, stripped_by_one (text ++ c.front), length-append text c.front)))
    go false is =
        let line = last_line (text ++ more) (list_any-append is_line_end text more ∙ rw (none, is) refl) (omega (arith, long, length-append text more)) in
        rw line (too_long n groups (text ++ more) [] (omega (arith, long, length-append text more)))

-- ---- the lines before it

-- lines that read alike do so after one line
after_line : (n : ℕ) (groups : List Group) (x : List ℕ) (xs ys : List (List ℕ))
    → ((m : ℕ) (gs : List Group) → read_lines m gs xs ≡ read_lines m gs ys) → read_lines n groups (x ∷ xs) ≡ read_lines n groups (x ∷ ys)
unfolding read_lines
after_line n groups x xs ys same = go (read_line (not (is_empty groups)) x)
  where
    go : (r : Result Statement ℕ)
        → (refused_as (λ number. record { number = number; line = n }) r >>= (λ s. read_lines (n + 1) (with_statement groups s) xs))
        ≡ (refused_as (λ number. record { number = number; line = n }) r >>= (λ s. read_lines (n + 1) (with_statement groups s) ys))
    go (Ok s) = same (n + 1) (with_statement groups s)
    go (Err number) = refl

-- the two texts read alike, from any line on
abbrev Alike : List ℕ → List ℕ → Type 0
Alike xs ys = (n : ℕ) (groups : List Group) → read_lines n groups (lines xs) ≡ read_lines n groups (lines ys)

no_line_before : (front last more : List ℕ) → list_any is_line_end front ≡ false → list_any is_line_end last ≡ false → 4097 < length last
    → Alike ((front ++ last) ++ more) (front ++ last)
no_line_before front last more is none long = λ n groups.
    let all : list_any is_line_end (front ++ last) ≡ false = list_any-append is_line_end front last ∙ rw (is, none) refl in
    let size : 4097 < length (front ++ last) = omega (arith, long, length-append front last) in
    too_long_open n groups (front ++ last) more all size
    ∙ sym (ap (λ l. read_lines n groups (lines l)) (sym (append-nil (front ++ last))) ∙ too_long_open n groups (front ++ last) [] all size)

line_before : (front last more : List ℕ) (c : Cut front) → Alike ((c.back ++ last) ++ more) (c.back ++ last) → Alike ((front ++ last) ++ more) (front ++ last)
line_before front last more c same = λ n groups.
    let one : front ++ last ≡ c.front ++ 10 ∷ (c.back ++ last) = ap (λ l. l ++ last) c.joined ∙ append_assoc c.front (10 ∷ c.back) last in
    let all : (front ++ last) ++ more ≡ c.front ++ 10 ∷ ((c.back ++ last) ++ more) = ap (λ l. l ++ more) one ∙ append_assoc c.front (10 ∷ (c.back ++ last)) more in
    ap (λ l. read_lines n groups (lines l)) all ∙ ap (λ ls. read_lines n groups ls) (first_line c.front ((c.back ++ last) ++ more) c.none)
    ∙ after_line n groups (strip_carriage_return c.front) (lines ((c.back ++ last) ++ more)) (lines (c.back ++ last)) same
    ∙ sym (ap (λ l. read_lines n groups (lines l)) one ∙ ap (λ ls. read_lines n groups ls) (first_line c.front (c.back ++ last) c.none))

none_in_nothing : (front : List ℕ) → length front ≤ 0 → list_any is_line_end front ≡ false
none_in_nothing [] few = refl
none_in_nothing (x ∷ xs) few = absurd (omega arith)

shorter : (front : List ℕ) (c : Cut front) (n : ℕ) → length front ≤ suc n → length c.back ≤ n
shorter front c n few = omega (arith, few, ap length c.joined, length-append c.front (10 ∷ c.back))

-- whatever lines come before the last
long_end_alike : (most : ℕ) (front last more : List ℕ) → length front ≤ most → list_any is_line_end last ≡ false → 4097 < length last
    → Alike ((front ++ last) ++ more) (front ++ last)
long_end_alike zero front last more few none long = no_line_before front last more (none_in_nothing front few) none long
long_end_alike (suc most) front last more few none long =
    go (list_any is_line_end front) refl (λ c. long_end_alike most c.back last more (shorter front c most few) none long)
  where
    go : (b : Bool) → list_any is_line_end front ≡ b → ((c : Cut front) → Alike ((c.back ++ last) ++ more) (c.back ++ last))
        → Alike ((front ++ last) ++ more) (front ++ last)
    go true is again = let c = cut front is in line_before front last more c (again c)
    go false is again = no_line_before front last more is none long

is_long_end : (text : List ℕ) → has_long_end text ≡ true
    → (4097 < length text) × (list_any is_line_end (drop (length text - 4098) text) ≡ false)
unfolding has_long_end
is_long_end text e =
    let p = and_parts (leb 4098 (length text)) (not (list_any is_line_end (drop (length text - 4098) text))) e in
    (grind (arith, nat_tests, p.0), not_true _ p.1)
  where
    not_true : (b : Bool) → not b ≡ true → b ≡ false
    not_true true h = absurd cc
    not_true false h = refl

pub long_end_settles : (text : List ℕ) → has_long_end text ≡ true → IsSettled text
unfolding read_bootstrap
long_end_settles text e = λ more.
    let is = is_long_end text e in
    let front = take (length text - 4098) text in
    let last = drop (length text - 4098) text in
    let whole : front ++ last ≡ text = take-append-drop (length text - 4098) text in
    let size : 4097 < length last = omega (arith, is.0, length-drop (length text - 4098) text) in
    subst (λ (t : List ℕ). read_lines 1 [] (lines (t ++ more)) ≡ read_lines 1 [] (lines t)) whole
    (long_end_alike (length front) front last more (omega arith) is.1 size 1 [])

-- ---- what a reader had left

-- a text up to a long end reads as all of it
pub settled_reads : (known new : Option (List ℕ)) (text : List ℕ) → Consumes known new text → has_long_end text ≡ true → ReadsAs text known
settled_reads None new text read long = tt
settled_reads (Some bytes) None text read long = absurd read
settled_reads (Some bytes) (Some left) text read long = sym (ap read_bootstrap read ∙ long_end_settles text long left)

-- an empty text has no long end
pub nothing_is_short : has_long_end [] ≡ false
unfolding has_long_end
nothing_is_short = refl
