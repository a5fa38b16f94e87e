-- Decimal numbers, ranges and items.
use Rattle.std.proofs.lemmas.Bool.{and_from}
use Rattle.std.proofs.Common.{◌≡◌, ℕ, ◌+◌, ◌-◌, ◌*◌, ◌<◌, ◌≤◌, Bool, true, false, not, ◌&&◌, ◌||◌, cond, eqb, leb, List, [], ◌∷◌, length, fold, Option, Some, None, Result, Ok, Err, refl, sym, ap, subst, ◌∙◌, inl, inr, ◌⊎◌, ◌↔◌, arith}
use Rattle.std.proofs.lemmas.Bool.{le-leb, leb-true, and_parts, or_left, or_right}
use Rattle.std.specs.Char.{is_ascii_digit}
use Rattle.std.specs.List.{list_all, list_any, slice_split, before_first, after_first}
use Rattle.br_model.specs.Answer.{◌>>=◌, some_or}
use Rattle.br_model.specs.Bootstrap.{Range, Criterion}
use Rattle.br_model.specs.BootstrapText.{IsNumber, ArePair, IsItem, AreItems, least, greatest, is_range, trimmed, is_dash, is_comma, read_digits, read_ends, read_item, read_items}
use Rattle.br_model.specs.Text.{is_empty, is_blank, decimal_value}
use Rattle.br_model.proofs.AnswerLaws.{bind_ok, ok_is, chosen}
use Rattle.br_model.proofs.AttributeLaws.{split_last, split_first, Lacks, all_so, unlike, before_is}
use Rattle.br_model.proofs.GrammarTextLaws.{Framed, framed_twice, framed_as, framed_so, framed_alone, framed_trimmed, IsSolid, solid_of, trimmed_framed, Parted, framed_parted, halves_of, framed_all, parted_all, parted_solid, neither, CutAt, none_or_cut, after_is, any_is, any_none, before_all, lacks_of}

-- ---- numbers

plain_digit : (b : ℕ) → is_ascii_digit b ≡ true → not (is_blank b) ≡ true
plain_digit b h = neither (eqb b 32) (eqb b 9) (unlike is_ascii_digit 32 refl b h) (unlike is_ascii_digit 9 refl b h)

pub err_is_not_ok : {A : Type 0} (n : ℕ) (x : A) → ◌≡◌ {A = Result A ℕ} (Err n) (Ok x) → ⊥
err_is_not_ok n x h = absurd cc

-- what an option holds that did not refuse
pub some_is : {A : Type 0} (o : Option A) (e : ℕ) (x : A) → some_or o e ≡ Ok x → o ≡ Some x
some_is (Some y) e x h = cc
some_is None e x h = absurd cc

-- a decimal number has digits, at least one
digits_of : (text : List ℕ) (n : ℕ) → decimal_value text ≡ Some n → (0 < length text) × (list_all is_ascii_digit text ≡ true)
unfolding decimal_value
digits_of [] n e = absurd cc
digits_of (c ∷ cs) n e =
    let some = not (is_empty (c ∷ cs)) in
    let all = list_all is_ascii_digit (c ∷ cs) in
    elim (chosen (some && all) (Some (fold (λ n c. 10 * n + (c - 48)) 0 (c ∷ cs))) None (Some n) e) [
      | inl p ↦ (omega arith, (and_parts some all p.0).1)
      | inr p ↦ absurd (none_is_not_some p.1)
    ]
  where
    none_is_not_some : ◌≡◌ {A = Option ℕ} None (Some n) → ⊥
    none_is_not_some h = absurd cc

number_solid : (n : ℕ) (text : List ℕ) → IsNumber text n → IsSolid text
number_solid n text h = let d = digits_of text n h.1 in solid_of is_ascii_digit plain_digit text d.0 d.1

-- digits are read if they are a number between blanks
pub digits_read : (text : List ℕ) (n : ℕ) → (read_digits (trimmed text) ≡ Ok n) ↔ Framed (λ m. IsNumber m n) text
unfolding read_digits
digits_read text n = (λ e. framed_trimmed (λ m. IsNumber m n) text (there (trimmed text) e), λ f. back (trimmed text) (trimmed_framed (λ m. IsNumber m n) (number_solid n) text f))
  where
    there : (t : List ℕ) → read_digits t ≡ Ok n → IsNumber t n
    there t e =
        elim (chosen (leb (length t) 20) (some_or (decimal_value t) 33) (Err 33) (Ok n) e) [
          | inl p ↦ (leb-true (length t) 20 p.0, some_is (decimal_value t) 33 n p.1)
          | inr p ↦ absurd (err_is_not_ok 33 n p.1)
        ]

    back : (t : List ℕ) → IsNumber t n → read_digits t ≡ Ok n
    back t h = let short : leb (length t) 20 ≡ true = le-leb (length t) 20 h.0 in rw (short, h.1) refl

-- ---- ranges

-- one number, or two
abbrev pub AreEnds : Range → List ℕ → Type 0
AreEnds r text = (IsNumber text r.low × (r.high ≡ r.low)) ⊎ ArePair text r.low r.high

abbrev IsNumberOf : ℕ → List ℕ → Type 0
IsNumberOf n text = IsNumber text n

pair_from : (low high : ℕ) (text : List ℕ) → Parted 45 (IsNumberOf low) (IsNumberOf high) text → ArePair text low high
pair_from low high text p = record {
  first = p.first;
  before = p.before;
  after = p.after;
  second = p.second;
  joined = p.joined;
  first_is = p.first_is;
  second_is = p.second_is;
  blanks_before = p.blanks_before;
  blanks_after = p.blanks_after;
}

parts_from : (low high : ℕ) (text : List ℕ) → ArePair text low high → Parted 45 (IsNumberOf low) (IsNumberOf high) text
parts_from low high text p = record {
  first = p.first;
  before = p.before;
  after = p.after;
  second = p.second;
  joined = p.joined;
  blanks_before = p.blanks_before;
  blanks_after = p.blanks_after;
  first_is = p.first_is;
  second_is = p.second_is;
}

-- the bytes of an item
abbrev is_item_byte : ℕ → Bool
is_item_byte b = is_ascii_digit b || is_blank b || eqb b 45

blank_is_item : (c : ℕ) → is_blank c ≡ true → is_item_byte c ≡ true
blank_is_item c h = or_left (is_ascii_digit c || is_blank c) (eqb c 45) (or_right (is_ascii_digit c) (is_blank c) h)

number_bytes : (n : ℕ) (text : List ℕ) → IsNumber text n → list_all is_ascii_digit text ≡ true
number_bytes n text h = (digits_of text n h.1).1

number_is_item : (n : ℕ) (text : List ℕ) → IsNumber text n → list_all is_item_byte text ≡ true
number_is_item n text h = all_so is_ascii_digit is_item_byte (λ c d. or_left (is_ascii_digit c || is_blank c) (eqb c 45) (or_left (is_ascii_digit c) (is_blank c) d)) text (number_bytes n text h)

-- a range has no other bytes than an item
ends_bytes : (r : Range) (text : List ℕ) → AreEnds r text → list_all is_item_byte text ≡ true
ends_bytes r text (inl h) = number_is_item r.low text h.0
ends_bytes r text (inr p) =
    parted_all is_item_byte blank_is_item 45 refl (IsNumberOf r.low) (IsNumberOf r.high) (number_is_item r.low) (number_is_item r.high) text (parts_from r.low r.high text p)

ends_solid : (r : Range) (text : List ℕ) → AreEnds r text → IsSolid text
ends_solid r text (inl h) = number_solid r.low text h.0
ends_solid r text (inr p) = parted_solid 45 (IsNumberOf r.low) (IsNumberOf r.high) (number_solid r.low) (number_solid r.high) text (parts_from r.low r.high text p)

-- digits and blanks
abbrev is_number_byte : ℕ → Bool
is_number_byte b = is_ascii_digit b || is_blank b

number_lacks_dash : (n : ℕ) (text : List ℕ) → Framed (IsNumberOf n) text → Lacks 45 text
number_lacks_dash n text f =
    lacks_of is_number_byte 45 refl text
    (framed_all is_number_byte (λ c h. or_right (is_ascii_digit c) (is_blank c) h) (IsNumberOf n)
    (λ m h. all_so is_ascii_digit is_number_byte (λ c d. or_left (is_ascii_digit c) (is_blank c) d) m (number_bytes n m h)) text f)

abbrev range : ℕ → ℕ → Range
range low high = record { low = low; high = high }

-- the two numbers of a range that is read
two_steps : (b : Bool) (low high : Result ℕ ℕ) (r : Range) → (low >>= (λ l. cond b high (Ok l) >>= (λ h. Ok (range l h)))) ≡ Ok r → (low ≡ Ok r.low) × (cond b high (Ok r.low) ≡ Ok r.high)
two_steps b (Err e) high r h = absurd cc
two_steps true (Ok l) (Err e) r h = absurd cc
two_steps true (Ok l) (Ok k) r h = let e : range l k ≡ r = ok_is (range l k) r h in (ap (λ (q : Range). Ok q.low) e, ap (λ (q : Range). Ok q.high) e)
two_steps false (Ok l) high r h = let e : range l l ≡ r = ok_is (range l l) r h in (ap (λ (q : Range). Ok q.low) e, ap (λ (q : Range). Ok q.low) (sym e) ∙ ap (λ (q : Range). Ok q.high) e)

steps_give : (b : Bool) (low high : Result ℕ ℕ) (r : Range) → low ≡ Ok r.low → cond b high (Ok r.low) ≡ Ok r.high → (low >>= (λ l. cond b high (Ok l) >>= (λ h. Ok (range l h)))) ≡ Ok r
steps_give b low high r p q = rw (p, q) refl

-- the ends are read if they are between blanks
pub ends_read : (text : List ℕ) (r : Range) → (read_ends text ≡ Ok r) ↔ Framed (AreEnds r) text
unfolding read_ends
ends_read text r = (λ e. there (none_or_cut 45 text) (two_steps (list_any is_dash text) (read_digits (trimmed (before_first is_dash text))) (read_digits (trimmed (after_first is_dash text))) r e), λ f. back f f.inside)
  where
    there : Lacks 45 text ⊎ CutAt 45 text
        → (read_digits (trimmed (before_first is_dash text)) ≡ Ok r.low) × (cond (list_any is_dash text) (read_digits (trimmed (after_first is_dash text))) (Ok r.low) ≡ Ok r.high) → Framed (AreEnds r) text
    there (inl lacks) e =
        let low : read_digits (trimmed text) ≡ Ok r.low = subst (λ t. read_digits (trimmed t) ≡ Ok r.low) (before_all 45 text lacks) e.0 in
        let high : cond false (read_digits (trimmed (after_first is_dash text))) (Ok r.low) ≡ Ok r.high =
        subst (λ b. cond b (read_digits (trimmed (after_first is_dash text))) (Ok r.low) ≡ Ok r.high) (any_none 45 text lacks) e.1 in
        framed_so (IsNumberOf r.low) (AreEnds r) (λ m n. inl (n, sym (ok_is r.low r.high high))) text ((digits_read text r.low).0 low)
    there (inr k) e =
        let before : before_first is_dash text ≡ k.front = ap (before_first is_dash) k.joined ∙ before_is 45 k.front k.rest k.lacks in
        let after : after_first is_dash text ≡ k.rest = ap (after_first is_dash) k.joined ∙ after_is 45 k.front k.rest k.lacks in
        let any : list_any is_dash text ≡ true = ap (list_any is_dash) k.joined ∙ any_is 45 k.front k.rest in
        let low = subst (λ t. read_digits (trimmed t) ≡ Ok r.low) before e.0 in
        let both_ends : cond true (read_digits (trimmed (after_first is_dash text))) (Ok r.low) ≡ Ok r.high =
        subst (λ b. cond b (read_digits (trimmed (after_first is_dash text))) (Ok r.low) ≡ Ok r.high) any e.1 in
        let high = subst (λ t. read_digits (trimmed t) ≡ Ok r.high) after both_ends in
        framed_so (Parted 45 (IsNumberOf r.low) (IsNumberOf r.high)) (AreEnds r) (λ m p. inr (pair_from r.low r.high m p)) text
        (framed_parted 45 (IsNumberOf r.low) (IsNumberOf r.high) text k.front k.rest k.joined ((digits_read k.front r.low).0 low) ((digits_read k.rest r.high).0 high))

    back : (f : Framed (AreEnds r) text) → AreEnds r f.middle → read_ends text ≡ Ok r
    back f (inl h) =
        let number = framed_as (AreEnds r) (IsNumberOf r.low) text f h.0 in
        let lacks = number_lacks_dash r.low text number in
        let low : read_digits (trimmed (before_first is_dash text)) ≡ Ok r.low = subst (λ t. read_digits (trimmed t) ≡ Ok r.low) (sym (before_all 45 text lacks)) ((digits_read text r.low).1 number) in
        let high : cond (list_any is_dash text) (read_digits (trimmed (after_first is_dash text))) (Ok r.low) ≡ Ok r.high = rw (any_none 45 text lacks) (ap (λ n. Ok n) (sym h.1)) in
        steps_give (list_any is_dash text) (read_digits (trimmed (before_first is_dash text))) (read_digits (trimmed (after_first is_dash text))) r low high
    back f (inr p) =
        let k = halves_of 45 (IsNumberOf r.low) (IsNumberOf r.high) text (framed_as (AreEnds r) (Parted 45 (IsNumberOf r.low) (IsNumberOf r.high)) text f (parts_from r.low r.high f.middle p)) in
        let lacks = number_lacks_dash r.low k.front k.front_is in
        let before : before_first is_dash text ≡ k.front = ap (before_first is_dash) k.joined ∙ before_is 45 k.front k.rest lacks in
        let after : after_first is_dash text ≡ k.rest = ap (after_first is_dash) k.joined ∙ after_is 45 k.front k.rest lacks in
        let any : list_any is_dash text ≡ true = ap (list_any is_dash) k.joined ∙ any_is 45 k.front k.rest in
        let low : read_digits (trimmed (before_first is_dash text)) ≡ Ok r.low = subst (λ t. read_digits (trimmed t) ≡ Ok r.low) (sym before) ((digits_read k.front r.low).1 k.front_is) in
        let high : read_digits (trimmed (after_first is_dash text)) ≡ Ok r.high = subst (λ t. read_digits (trimmed t) ≡ Ok r.high) (sym after) ((digits_read k.rest r.high).1 k.rest_is) in
        let all : cond (list_any is_dash text) (read_digits (trimmed (after_first is_dash text))) (Ok r.low) ≡ Ok r.high = rw any high in
        steps_give (list_any is_dash text) (read_digits (trimmed (before_first is_dash text))) (read_digits (trimmed (after_first is_dash text))) r low all

-- ---- items

abbrev IsItemOf : Criterion → Range → List ℕ → Type 0
IsItemOf c r text = IsItem c text r

in_range : (c : Criterion) (r : Range) → is_range c r ≡ true → (least c ≤ r.low) × (r.low ≤ r.high) × (r.high ≤ greatest c)
in_range c r e =
    let p = and_parts (leb (least c) r.low && leb r.low r.high) (leb r.high (greatest c)) e in
    let q = and_parts (leb (least c) r.low) (leb r.low r.high) p.0 in
    (leb-true (least c) r.low q.0, leb-true r.low r.high q.1, leb-true r.high (greatest c) p.1)

range_test : (c : Criterion) (r : Range) → least c ≤ r.low → r.low ≤ r.high → r.high ≤ greatest c → is_range c r ≡ true
range_test c r from order to =
    and_from (leb (least c) r.low && leb r.low r.high) (leb r.high (greatest c)) (and_from (leb (least c) r.low) (leb r.low r.high) (le-leb (least c) r.low from) (le-leb r.low r.high order)) (le-leb r.high (greatest c) to)

-- an item is read if it is between blanks
pub item_read : (c : Criterion) (text : List ℕ) (r : Range) → (read_item c text ≡ Ok r) ↔ Framed (IsItemOf c r) text
unfolding read_item
item_read c text r = (λ e. there e, λ f. back f)
  where
    checked : Range → Result Range ℕ
    checked s = cond (is_range c s) (Ok s) (Err 33)

    item_of : (s : Range) → is_range c s ≡ true → (m : List ℕ) → AreEnds s m → IsItem c m s
    item_of s e m h = let i = in_range c s e in record { spelled = h; ordered = i.1; from_least = i.0; to_greatest = i.2 }

    there : (read_ends (trimmed text) >>= checked) ≡ Ok r → Framed (IsItemOf c r) text
    there e =
        let b = bind_ok (read_ends (trimmed text)) checked r e in
        elim (chosen (is_range c b.0) (Ok b.0) (Err 33) (Ok r) b.2) [
          | inl p ↦
              let same : b.0 ≡ r = ok_is b.0 r p.1 in
              let ends = framed_twice (AreEnds b.0) text (framed_trimmed (Framed (AreEnds b.0)) text ((ends_read (trimmed text) b.0).0 b.1)) in
              subst (λ (s : Range). Framed (IsItemOf c s) text) same (framed_so (AreEnds b.0) (IsItemOf c b.0) (item_of b.0 p.0) text ends)
          | inr p ↦ absurd (err_is_not_ok 33 r p.1)
        ]

    back : Framed (IsItemOf c r) text → (read_ends (trimmed text) >>= checked) ≡ Ok r
    back f =
        let ends = framed_so (IsItemOf c r) (AreEnds r) (λ m i. i.spelled) text f in
        let read : read_ends (trimmed text) ≡ Ok r = (ends_read (trimmed text) r).1 (framed_alone (AreEnds r) (trimmed text) (trimmed_framed (AreEnds r) (ends_solid r) text ends)) in
        let i = f.inside in
        let test : is_range c r ≡ true = range_test c r i.from_least i.ordered i.to_greatest in
        rw (read, test) refl

abbrev pub AreItemsOf : Criterion → List Range → List ℕ → Type 0
AreItemsOf c rs text = AreItems c text rs

items_from : (c : Criterion) (r s : Range) (more : List Range) (text : List ℕ) → Parted 44 (IsItemOf c r) (AreItemsOf c (s ∷ more)) text → AreItems c text (r ∷ s ∷ more)
items_from c r s more text p = (p.first, p.before, p.after, p.second, p.joined, p.blanks_before, p.blanks_after, p.first_is, p.second_is)

item_parts : (c : Criterion) (r s : Range) (more : List Range) (text : List ℕ) → AreItems c text (r ∷ s ∷ more) → Parted 44 (IsItemOf c r) (AreItemsOf c (s ∷ more)) text
item_parts c r s more text p = record {
  first = p.0;
  before = p.1;
  after = p.2;
  second = p.3;
  joined = p.4;
  blanks_before = p.5;
  blanks_after = p.6;
  first_is = p.7;
  second_is = p.8;
}

item_bytes : (c : Criterion) (r : Range) (text : List ℕ) → IsItem c text r → list_all is_item_byte text ≡ true
item_bytes c r text i = ends_bytes r text i.spelled

item_solid : (c : Criterion) (r : Range) (text : List ℕ) → IsItem c text r → IsSolid text
item_solid c r text i = ends_solid r text i.spelled

-- the bytes of items
abbrev pub is_items_byte : ℕ → Bool
is_items_byte b = is_item_byte b || eqb b 44

pub items_bytes : (c : Criterion) (rs : List Range) (text : List ℕ) → AreItems c text rs → list_all is_items_byte text ≡ true
items_bytes c [] text h = absurd h
items_bytes c (r ∷ []) text h = all_so is_item_byte is_items_byte (λ b i. or_left (is_item_byte b) (eqb b 44) i) text (item_bytes c r text h)
items_bytes c (r ∷ s ∷ more) text h =
    parted_all is_items_byte (λ b i. or_left (is_item_byte b) (eqb b 44) (blank_is_item b i)) 44 refl (IsItemOf c r) (AreItemsOf c (s ∷ more))
    (λ m i. all_so is_item_byte is_items_byte (λ b j. or_left (is_item_byte b) (eqb b 44) j) m (item_bytes c r m i)) (λ m i. items_bytes c (s ∷ more) m i) text (item_parts c r s more text h)

pub items_solid : (c : Criterion) (rs : List Range) (text : List ℕ) → AreItems c text rs → IsSolid text
items_solid c [] text h = absurd h
items_solid c (r ∷ []) text h = item_solid c r text h
items_solid c (r ∷ s ∷ more) text h =
    parted_solid 44 (IsItemOf c r) (AreItemsOf c (s ∷ more)) (item_solid c r) (λ m i. items_solid c (s ∷ more) m i) text (item_parts c r s more text h)

item_lacks_comma : (c : Criterion) (r : Range) (text : List ℕ) → Framed (IsItemOf c r) text → Lacks 44 text
item_lacks_comma c r text f = lacks_of is_item_byte 44 refl text (framed_all is_item_byte blank_is_item (IsItemOf c r) (item_bytes c r) text f)

-- the first item, and those after it
record FirstRead (c : Criterion) (part : List ℕ) (parts : List (List ℕ)) (rs : List Range) : Type 0 where
  r : Range
  others : List Range
  first : read_item c part ≡ Ok r
  behind : read_items c parts ≡ Ok others
  joined : r ∷ others ≡ rs

first_read : (c : Criterion) (part : List ℕ) (parts : List (List ℕ)) (rs : List Range) → read_items c (part ∷ parts) ≡ Ok rs → FirstRead c part parts rs
unfolding read_items
first_read c part parts rs e =
    let onto : Range → List Range → Result (List Range) ℕ = λ r others. Ok (r ∷ others) in
    let behind : Range → Result (List Range) ℕ = λ r. read_items c parts >>= onto r in
    let p = bind_ok (read_item c part) behind rs e in
    let q = bind_ok (read_items c parts) (onto p.0) rs p.2 in
    record { r = p.0; others = q.0; first = p.1; behind = q.1; joined = ok_is (p.0 ∷ q.0) rs q.2 }

items_onto : (c : Criterion) (part : List ℕ) (parts : List (List ℕ)) (r : Range) (rs : List Range) → read_item c part ≡ Ok r → read_items c parts ≡ Ok rs
    → read_items c (part ∷ parts) ≡ Ok (r ∷ rs)
unfolding read_items
items_onto c part parts r rs e h = rw (e, h) refl

none_read : (c : Criterion) (rs : List Range) → read_items c [] ≡ Ok rs → [] ≡ rs
unfolding read_items
none_read c rs e = ok_is [] rs e

read_none : (c : Criterion) → read_items c [] ≡ Ok []
unfolding read_items
read_none c = refl

-- an item before items
items_joined : (c : Criterion) (r : Range) (rs : List Range) (text : List ℕ) (k : CutAt 44 text) → Framed (IsItemOf c r) k.front → Framed (AreItemsOf c rs) k.rest
    → Framed (AreItemsOf c (r ∷ rs)) text
items_joined c r [] text k f g = absurd g.inside
items_joined c r (s ∷ more) text k f g =
    framed_so (Parted 44 (IsItemOf c r) (AreItemsOf c (s ∷ more))) (AreItemsOf c (r ∷ s ∷ more)) (items_from c r s more) text
    (framed_parted 44 (IsItemOf c r) (AreItemsOf c (s ∷ more)) text k.front k.rest k.joined f g)

split_at : (text : List ℕ) (k : CutAt 44 text) → slice_split is_comma text ≡ k.front ∷ slice_split is_comma k.rest
split_at text k = ap (slice_split is_comma) k.joined ∙ split_first 44 k.front k.rest k.lacks

-- items that are read are between blanks
items_between : (c : Criterion) (rs : List Range) (text : List ℕ) → read_items c (slice_split is_comma text) ≡ Ok rs → Framed (AreItemsOf c rs) text
items_between c [] text e = absurd (go (none_or_cut 44 text))
  where
    some : (part : List ℕ) (parts : List (List ℕ)) → FirstRead c part parts [] → ⊥
    some part parts q = let h = q.joined in absurd cc

    go : Lacks 44 text ⊎ CutAt 44 text → ⊥
    go (inl lacks) = some text [] (first_read c text [] [] (subst (λ parts. read_items c parts ≡ Ok []) (split_last 44 text lacks) e))
    go (inr k) = some k.front (slice_split is_comma k.rest) (first_read c k.front (slice_split is_comma k.rest) [] (subst (λ parts. read_items c parts ≡ Ok []) (split_at text k) e))
items_between c (r ∷ rs) text e = go (none_or_cut 44 text) (λ rest h. items_between c rs rest h)
  where
    go : Lacks 44 text ⊎ CutAt 44 text → ((rest : List ℕ) → read_items c (slice_split is_comma rest) ≡ Ok rs → Framed (AreItemsOf c rs) rest) → Framed (AreItemsOf c (r ∷ rs)) text
    go (inl lacks) again =
        let q = first_read c text [] (r ∷ rs) (subst (λ parts. read_items c parts ≡ Ok (r ∷ rs)) (split_last 44 text lacks) e) in
        let same : q.r ∷ [] ≡ r ∷ rs = ap (λ others. q.r ∷ others) (none_read c q.others q.behind) ∙ q.joined in
        subst (λ (all : List Range). Framed (AreItemsOf c all) text) same ((item_read c text q.r).0 q.first)
    go (inr k) again =
        let q = first_read c k.front (slice_split is_comma k.rest) (r ∷ rs) (subst (λ parts. read_items c parts ≡ Ok (r ∷ rs)) (split_at text k) e) in
        let joined = q.joined in
        let head : q.r ≡ r = cc in
        let tail : q.others ≡ rs = cc in
        let item = subst (λ (s : Range). Framed (IsItemOf c s) k.front) head ((item_read c k.front q.r).0 q.first) in
        items_joined c r rs text k item (again k.rest (q.behind ∙ ap (λ (all : List Range). Ok all) tail))

-- items that are between blanks are read
between_items : (c : Criterion) (rs : List Range) (text : List ℕ) → Framed (AreItemsOf c rs) text → read_items c (slice_split is_comma text) ≡ Ok rs
between_items c [] text f = absurd f.inside
between_items c (r ∷ []) text f =
    let lacks = item_lacks_comma c r text f in
    rw (split_last 44 text lacks) (items_onto c text [] r [] ((item_read c text r).1 f) (read_none c))
between_items c (r ∷ s ∷ more) text f =
    let k = halves_of 44 (IsItemOf c r) (AreItemsOf c (s ∷ more)) text (framed_so (AreItemsOf c (r ∷ s ∷ more)) (Parted 44 (IsItemOf c r) (AreItemsOf c (s ∷ more))) (item_parts c r s more) text f) in
    let split : slice_split is_comma text ≡ k.front ∷ slice_split is_comma k.rest = ap (slice_split is_comma) k.joined ∙ split_first 44 k.front k.rest (item_lacks_comma c r k.front k.front_is) in
    rw split (items_onto c k.front (slice_split is_comma k.rest) r (s ∷ more) ((item_read c k.front r).1 k.front_is) (between_items c (s ∷ more) k.rest k.rest_is))

-- items are read if they are between blanks
pub items_read : (c : Criterion) (text : List ℕ) (rs : List Range) → (read_items c (slice_split is_comma text) ≡ Ok rs) ↔ Framed (AreItemsOf c rs) text
items_read c text rs = (items_between c rs text, between_items c rs text)
