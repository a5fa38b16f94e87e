-- Each group that a text states has one place among its counts.
use Rattle.std.proofs.Common.{◌≡◌, ◌+◌, ◌&&◌, ℕ, suc, Bool, true, false, not, cond, List, [], ◌∷◌, ◌++◌, length, fold, Option, Some, None, Result, Ok, Err, codes, refl, ap, sym, ◌∙◌, inl, inr, arith, length-append, eqb-true}
use Rattle.std.specs.Prelude.{nat_lt}
use Rattle.std.specs.List.{list_any, before_first, after_first}
use Rattle.std.specs.Str.Lines.{lines}
use Rattle.br_model.specs.Answer.{◌>>=◌, refuse_if, refused_as, some_or}
use Rattle.br_model.specs.Text.{is_empty}
use Rattle.br_model.specs.Bootstrap.{Range, Group, with_ranges}
use Rattle.br_model.specs.BootstrapText.{Keyword, NamesVolume, Asks, PassedOver, Unsupported, Statement, Nothing, OnVolume, Admits, LineFault, change_last, has_closed_quotes, is_comma, is_equals, is_unsupported, keyword_of, needs_volume, read_assignment, read_bootstrap, read_items, read_line, read_lines, read_value, read_volume, trimmed, with_statement}
use Rattle.std.specs.List.{slice_split}
use Rattle.br_model.proofs.AnswerLaws.{bind_ok, chosen, err_is_not_ok, ok_is, refuse_ok, refused_as_ok, some_or_ok}
use Rattle.br_bsr.specs.Keyword.{criterion_named, is_among, passed_over, unsupported, is_name_of}
use Rattle.br_bsr.specs.declared.criterion.Criterion.{Criterion}
use Rattle.br_bsr.proofs.KeywordLaws.{criterion_word, other_word, passed_word, volume_word}
use Rattle.br_bsr.specs.Counts.{EachGroupHasOne, counts, stated, with_last, with_line, with_number, with_stated, with_value}
use Rattle.br_types.specs.DecimalField.{number_spelled}

-- 1 if a group begins, else 0
abbrev one_if : Bool → ℕ
one_if b = cond b 1 0

-- ---- the groups after a statement

abbrev begins : Statement → Bool
begins Nothing = false
begins (OnVolume name) = true
begins (Admits c rs) = false

changed_length : (f : Group → Group) (groups : List Group) → length (change_last f groups) ≡ length groups
changed_length f [] = refl
changed_length f (g ∷ []) = refl
changed_length f (g ∷ h ∷ more) = ap suc (changed_length f (h ∷ more))

statement_length : (groups : List Group) (s : Statement) → length (with_statement groups s) ≡ length groups + one_if (begins s)
statement_length groups Nothing = omega arith
statement_length groups (OnVolume name) = length-append groups _
statement_length groups (Admits c rs) = let same = changed_length (with_ranges c rs) groups in omega (arith, same)

-- ---- the counts after a line

last_length : (n : ℕ) (cs : List (Option ℕ)) → length (with_last n cs) ≡ length cs
last_length n [] = refl
last_length n (c ∷ []) = refl
last_length n (c ∷ d ∷ more) = ap suc (last_length n (d ∷ more))

number_length : (o : Option ℕ) (cs : List (Option ℕ)) → length (with_number o cs) ≡ length cs
number_length None cs = refl
number_length (Some n) cs = last_length n cs

-- the text is an assignment to `Volume`
abbrev opens : List ℕ → Bool
opens text = list_any is_equals text && is_name_of (trimmed (before_first is_equals text)) (codes "volume")

stated_length : (text : List ℕ) (cs : List (Option ℕ)) → length (with_stated text cs) ≡ length cs + one_if (opens text)
stated_length text cs =
    go (list_any is_equals text) (is_name_of (trimmed (before_first is_equals text)) (codes "volume"))
    (is_name_of (trimmed (before_first is_equals text)) (codes "count"))
  where
    value : List (Option ℕ)
    value = with_value (trimmed (after_first is_equals text)) cs

    value_length : length value ≡ length cs
    value_length = number_length (number_spelled 18446744073709551615 (trimmed (after_first is_equals text))) cs

    go : (any volume count : Bool) → length (cond any (cond volume (cs ++ None ∷ []) (cond count value cs)) cs) ≡ length cs + one_if (any && volume)
    go true true count = length-append cs _
    go true false true = omega (arith, value_length)
    go true false false = omega arith
    go false volume count = omega arith

-- ---- what a line states

abbrev names_volume : Keyword → Bool
names_volume NamesVolume = true
names_volume (Asks c) = false
names_volume PassedOver = false
names_volume Unsupported = false

some_is : {A : Type 0} (x y : A) → Some x ≡ Some y → x ≡ y
some_is x y e = cc

none_is_not : {A : Type 0} (x : A) → ◌≡◌ {A = Option A} None (Some x) → ⊥
none_is_not x e = absurd cc

keyword_names : (word : List ℕ) (k : Keyword) → keyword_of word ≡ Some k → names_volume k ≡ is_name_of word (codes "volume")
keyword_names word k e = by_volume (is_name_of word (codes "volume")) refl
  where
    is : (j : Keyword) → keyword_of word ≡ Some j → names_volume k ≡ names_volume j
    is j f = ap names_volume (some_is k j (sym e ∙ f))

    by_other : (u : Bool) → keyword_of word ≡ cond u (Some Unsupported) None → names_volume k ≡ false
    by_other true f = is Unsupported f
    by_other false f = absurd (none_is_not k (sym f ∙ e))

    by_passed : (p : Bool) → is_among passed_over word ≡ p → criterion_named word ≡ None → is_name_of word (codes "volume") ≡ false → names_volume k ≡ false
    by_passed true f c v = is PassedOver (passed_word word v c f)
    by_passed false f c v = by_other (is_among unsupported word) (other_word word (is_among unsupported word) v c f refl)

    by_criterion : (o : Option Criterion) → criterion_named word ≡ o → is_name_of word (codes "volume") ≡ false → names_volume k ≡ false
    by_criterion (Some c) f v = is (Asks _) (criterion_word word c v f)
    by_criterion None f v = by_passed (is_among passed_over word) refl f v

    by_volume : (b : Bool) → is_name_of word (codes "volume") ≡ b → names_volume k ≡ b
    by_volume true v = is NamesVolume (volume_word word v)
    by_volume false v = by_criterion (criterion_named word) refl v

value_begins : (k : Keyword) (text : List ℕ) (s : Statement) → read_value k text ≡ Ok s → begins s ≡ names_volume k
unfolding read_value
value_begins NamesVolume text s e =
    let b = bind_ok (read_volume text) (λ (name : List ℕ). Ok (OnVolume name)) s e in
    ap begins (sym (ok_is (OnVolume b.0) s b.2))
value_begins (Asks c) text s e =
    let b = bind_ok (read_items c (slice_split is_comma text)) (λ (rs : List Range). Ok (Admits c rs)) s e in
    ap begins (sym (ok_is (Admits c b.0) s b.2))
value_begins PassedOver text s e =
    elim (chosen (has_closed_quotes text) (Ok Nothing) (Err 33) (Ok s) e) [
      | inl h ↦ ap begins (sym (ok_is Nothing s h.1))
      | inr h ↦ absurd (err_is_not_ok 33 s h.1)
    ]
value_begins Unsupported text s e = absurd (err_is_not_ok 32 s e)

assignment_begins : (has_volume : Bool) (text : List ℕ) (s : Statement) → read_assignment has_volume text ≡ Ok s → begins s ≡ opens text
unfolding read_assignment
assignment_begins has_volume text s e =
    let word : List ℕ = trimmed (before_first is_equals text) in
    let value : Keyword → Result Statement ℕ = λ (k : Keyword). read_value k (trimmed (after_first is_equals text)) in
    let third : Keyword → Result Statement ℕ = λ (k : Keyword). refuse_if (not (list_any is_equals text)) 33 >>= (λ (u : Unit {0}). value k) in
    let second : Keyword → Result Statement ℕ = λ (k : Keyword). refuse_if (needs_volume k && not has_volume) 30 >>= (λ (u : Unit {0}). third k) in
    let first : Keyword → Result Statement ℕ = λ (k : Keyword). refuse_if (is_unsupported k) 32 >>= (λ (u : Unit {0}). second k) in
    let b = bind_ok (some_or (keyword_of word) 31) first s e in
    let c = refuse_ok (is_unsupported b.0) 32 (λ (u : Unit {0}). second b.0) s b.2 in
    let d = refuse_ok (needs_volume b.0 && not has_volume) 30 (λ (u : Unit {0}). third b.0) s c.1 in
    let f = refuse_ok (not (list_any is_equals text)) 33 (λ (u : Unit {0}). value b.0) s d.1 in
    value_begins b.0 (trimmed (after_first is_equals text)) s f.1
    ∙ keyword_names word b.0 (some_or_ok (keyword_of word) 31 b.0 b.1)
    ∙ any_too (list_any is_equals text) (is_name_of word (codes "volume")) f.0
  where
    any_too : (any volume : Bool) → not any ≡ false → volume ≡ (any && volume)
    any_too true volume e = refl
    any_too false volume e = absurd cc

nothing_opens : (text : List ℕ) → is_empty text ≡ true → false ≡ opens text
nothing_opens [] e = refl
nothing_opens (x ∷ text) e = let none = eqb-true (length (x ∷ text)) 0 e in absurd (omega (arith, none))

line_begins : (has_volume : Bool) (text : List ℕ) (s : Statement) → read_line has_volume text ≡ Ok s → begins s ≡ opens (stated text)
unfolding read_line
line_begins has_volume text s e =
    let rest = refuse_ok (nat_lt 4096 (length text)) 34 (λ (u : Unit {0}). cond (is_empty (stated text)) (Ok Nothing) (read_assignment has_volume (stated text))) s e in
    elim (chosen (is_empty (stated text)) (Ok Nothing) (read_assignment has_volume (stated text)) (Ok s) rest.1) [
      | inl h ↦ ap begins (sym (ok_is Nothing s h.1)) ∙ nothing_opens (stated text) h.0
      | inr h ↦ assignment_begins has_volume (stated text) s h.1
    ]

-- ---- all lines

line_length : (has_volume : Bool) (text : List ℕ) (s : Statement) (groups : List Group) (cs : List (Option ℕ)) → read_line has_volume text ≡ Ok s
    → length cs ≡ length groups → length (with_line cs text) ≡ length (with_statement groups s)
line_length has_volume text s groups cs e same =
    stated_length (stated text) cs ∙ ap (λ n. n + one_if (opens (stated text))) same
    ∙ ap (λ b. length groups + one_if b) (sym (line_begins has_volume text s e)) ∙ sym (statement_length groups s)

abbrev at : ℕ → ℕ → LineFault
at n number = record { number = number; line = n }

lines_length : (n : ℕ) (groups all : List Group) (cs : List (Option ℕ)) (texts : List (List ℕ)) → length cs ≡ length groups
    → read_lines n groups texts ≡ Ok all → length (fold with_line cs texts) ≡ length all
unfolding read_lines
lines_length n groups all cs [] same e = same ∙ ap length (ok_is groups all e)
lines_length n groups all cs (text ∷ more) same e =
    let has = not (is_empty groups) in
    let b = bind_ok (refused_as (at n) (read_line has text)) (λ (s : Statement). read_lines (n + 1) (with_statement groups s) more) all e in
    let said = refused_as_ok (at n) (read_line has text) b.0 b.1 in
    lines_length (n + 1) (with_statement groups b.0) all (with_line cs text) more (line_length has text b.0 groups cs said same) b.2

pub each_group_has_one_lem : EachGroupHasOne
unfolding counts read_bootstrap
each_group_has_one_lem text groups e = lines_length 1 [] groups [] (lines text) refl e
