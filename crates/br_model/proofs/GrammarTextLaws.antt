-- Blanks round a text, and its parts at a byte.
use Rattle.std.proofs.lemmas.Bool.{and_from}
use Rattle.std.proofs.Common.{◌≡◌, ℕ, ◌+◌, ◌<◌, ◌≤◌, Bool, true, false, not, ◌||◌, eqb, List, [], ◌∷◌, ◌++◌, length, reverse, drop, refl, sym, ap, subst, ◌∙◌, inl, inr, ◌⊎◌, arith, append_assoc, append-nil, one-add, length-append}
use Rattle.std.proofs.lemmas.Bool.{eqb-true, eq-eqb, not-true, and_parts, or_left, or_right, or_from}
use Rattle.std.proofs.lemmas.Grind.{reverse_onto}
use Rattle.std.proofs.lemmas.List.{reverse-append, reverse-reverse, length-reverse, take_all, drop_at}
use Rattle.std.specs.List.{list_all, list_any, prefix_len, before_first, after_first}
use Rattle.br_model.specs.BootstrapText.{AreBlanks, trimmed}
use Rattle.br_model.specs.Text.{is_blank, trim_front, trim_by}
use Rattle.br_model.proofs.AttributeLaws.{Lacks, all_join, all_so, unlike, count_before}

-- ---- trimming

-- a list with a first element, which fails the test
abbrev pub starts_plain : (ℕ → Bool) → List ℕ → Bool
starts_plain test [] = false
starts_plain test (c ∷ cs) = not (test c)

pub first_of_all : (p : ℕ → Bool) (x : ℕ) (xs : List ℕ) → list_all p (x ∷ xs) ≡ true → p x ≡ true
first_of_all p x xs h = (and_parts (p x) (list_all p xs) h).0

pub rest_of_all : (p : ℕ → Bool) (x : ℕ) (xs : List ℕ) → list_all p (x ∷ xs) ≡ true → list_all p xs ≡ true
rest_of_all p x xs h = (and_parts (p x) (list_all p xs) h).1

all_reverse : (p : ℕ → Bool) (xs : List ℕ) → list_all p xs ≡ true → list_all p (reverse xs) ≡ true
all_reverse p [] h = refl
all_reverse p (x ∷ xs) h =
    let last : list_all p (x ∷ []) ≡ true = and_from (p x) true (first_of_all p x xs h) refl in
    subst (λ ys. list_all p ys ≡ true) (sym (reverse_onto xs x [])) (all_join p (reverse xs) (x ∷ []) (all_reverse p xs (rest_of_all p x xs h)) last)

-- a first byte that passes the test is trimmed
trim_front_more : (p : ℕ → Bool) (c : ℕ) (cs : List ℕ) → p c ≡ true → trim_front p (c ∷ cs) ≡ trim_front p cs
unfolding trim_front
trim_front_more p c cs e = rw e (ap (λ n. drop n (c ∷ cs)) (one-add (prefix_len p cs)))

-- a first byte that fails it ends the trimming
trim_front_none : (p : ℕ → Bool) (c : ℕ) (cs : List ℕ) → p c ≡ false → trim_front p (c ∷ cs) ≡ c ∷ cs
unfolding trim_front
trim_front_none p c cs e = rw e refl

trim_front_plain : (p : ℕ → Bool) (text : List ℕ) → starts_plain p text ≡ true → trim_front p text ≡ text
trim_front_plain p [] h = absurd cc
trim_front_plain p (c ∷ cs) h = trim_front_none p c cs (not-true (p c) h)

-- what passes the test at the front does not matter
trim_front_past : (p : ℕ → Bool) (front text : List ℕ) → list_all p front ≡ true → trim_front p (front ++ text) ≡ trim_front p text
trim_front_past p [] text h = refl
trim_front_past p (c ∷ cs) text h = trim_front_more p c (cs ++ text) (first_of_all p c cs h) ∙ trim_front_past p cs text (rest_of_all p c cs h)

-- what is trimmed off the front
trimmed_off : (p : ℕ → Bool) (text : List ℕ) → (front : List ℕ) × (text ≡ front ++ trim_front p text) × (list_all p front ≡ true)
unfolding trim_front
trimmed_off p [] = ([], refl, refl)
trimmed_off p (c ∷ cs) = go (p c) refl (trimmed_off p cs)
  where
    go : (b : Bool) → p c ≡ b → (front : List ℕ) × (cs ≡ front ++ trim_front p cs) × (list_all p front ≡ true)
        → (front : List ℕ) × (c ∷ cs ≡ front ++ trim_front p (c ∷ cs)) × (list_all p front ≡ true)
    go true e r = (c ∷ r.0, ap (λ xs. c ∷ xs) r.1 ∙ ap (λ xs. c ∷ r.0 ++ xs) (sym (trim_front_more p c cs e)), and_from (p c) (list_all p r.0) e r.2)
    go false e r = ([], sym (trim_front_none p c cs e), refl)

-- a byte that fails the test stops the trimming
trim_front_stops : (p : ℕ → Bool) (front : List ℕ) (c : ℕ) (rest : List ℕ) → p c ≡ false → trim_front p (front ++ c ∷ rest) ≡ trim_front p front ++ c ∷ rest
unfolding trim_front
trim_front_stops p [] c rest e = trim_front_none p c rest e
trim_front_stops p (x ∷ xs) c rest e = go (p x) refl (trim_front_stops p xs c rest e)
  where
    go : (b : Bool) → p x ≡ b → trim_front p (xs ++ c ∷ rest) ≡ trim_front p xs ++ c ∷ rest → trim_front p (x ∷ xs ++ c ∷ rest) ≡ trim_front p (x ∷ xs) ++ c ∷ rest
    go true h r = trim_front_more p x (xs ++ c ∷ rest) h ∙ r ∙ ap (λ ys. ys ++ c ∷ rest) (sym (trim_front_more p x xs h))
    go false h r = trim_front_none p x (xs ++ c ∷ rest) h ∙ ap (λ ys. ys ++ c ∷ rest) (sym (trim_front_none p x xs h))

trim_past_front : (p : ℕ → Bool) (front text : List ℕ) → list_all p front ≡ true → trim_by p (front ++ text) ≡ trim_by p text
unfolding trim_by
trim_past_front p front text h = ap (λ t. reverse (trim_front p (reverse t))) (trim_front_past p front text h)

trim_past_back : (p : ℕ → Bool) (text back : List ℕ) → list_all p back ≡ true → trim_by p (text ++ back) ≡ trim_by p text
unfolding trim_by
trim_past_back p [] back h =
    let none : trim_front p back ≡ trim_front p [] = ap (trim_front p) (sym (append-nil back)) ∙ trim_front_past p back [] h in
    ap (λ t. reverse (trim_front p (reverse t))) none
trim_past_back p (c ∷ cs) back h = go (p c) refl (trim_past_back p cs back h)
  where
    go : (b : Bool) → p c ≡ b → trim_by p (cs ++ back) ≡ trim_by p cs
        → reverse (trim_front p (reverse (trim_front p (c ∷ cs ++ back)))) ≡ reverse (trim_front p (reverse (trim_front p (c ∷ cs))))
    go true e r =
        let far : trim_front p (c ∷ cs ++ back) ≡ trim_front p (cs ++ back) = trim_front_more p c (cs ++ back) e in
        let near : trim_front p (c ∷ cs) ≡ trim_front p cs = trim_front_more p c cs e in
        rw (far, near) r
    go false e r =
        let far : trim_front p (c ∷ cs ++ back) ≡ c ∷ cs ++ back = trim_front_none p c (cs ++ back) e in
        let near : trim_front p (c ∷ cs) ≡ c ∷ cs = trim_front_none p c cs e in
        let turned : trim_front p (reverse (c ∷ cs ++ back)) ≡ trim_front p (reverse (c ∷ cs)) =
        ap (trim_front p) (reverse-append (c ∷ cs) back) ∙ trim_front_past p (reverse back) (reverse (c ∷ cs)) (all_reverse p back h) in
        ap (λ t. reverse (trim_front p (reverse t))) far ∙ ap reverse turned ∙ ap (λ t. reverse (trim_front p (reverse t))) (sym near)

-- blanks, a text that this holds of, and blanks
pub record Framed (P : List ℕ → Type 0) (text : List ℕ) : Type 0 where
  pub front : List ℕ
  pub middle : List ℕ
  pub back : List ℕ
  pub joined : text ≡ front ++ middle ++ back
  pub blanks_front : AreBlanks front
  pub blanks_back : AreBlanks back
  pub inside : P middle

regroup : (a b c d e : List ℕ) → a ++ (b ++ c ++ d) ++ e ≡ a ++ b ++ c ++ (d ++ e)
regroup a b c d e = simp append_assoc

-- blanks round blanks
pub framed_twice : (P : List ℕ → Type 0) (text : List ℕ) → Framed (Framed P) text → Framed P text
framed_twice P text f =
    let g = f.inside in
    record {
      front = f.front ++ g.front;
      middle = g.middle;
      back = g.back ++ f.back;
      joined = f.joined ∙ ap (λ t. f.front ++ t ++ f.back) g.joined ∙ regroup f.front g.front g.middle g.back f.back;
      blanks_front = all_join is_blank f.front g.front f.blanks_front g.blanks_front;
      blanks_back = all_join is_blank g.back f.back g.blanks_back f.blanks_back;
      inside = g.inside;
    }

-- the same blanks round the same text, of which something else holds
pub framed_as : (P Q : List ℕ → Type 0) (text : List ℕ) (f : Framed P text) → Q f.middle → Framed Q text
framed_as P Q text f h = record {
  front = f.front;
  middle = f.middle;
  back = f.back;
  joined = f.joined;
  blanks_front = f.blanks_front;
  blanks_back = f.blanks_back;
  inside = h;
}

pub framed_so : (P Q : List ℕ → Type 0) → ((m : List ℕ) → P m → Q m) → (text : List ℕ) → Framed P text → Framed Q text
framed_so P Q so text f = framed_as P Q text f (so f.middle f.inside)

pub framed_alone : (P : List ℕ → Type 0) (text : List ℕ) → P text → Framed P text
framed_alone P text h = record {
  front = [];
  middle = text;
  back = [];
  joined = sym (append-nil text);
  blanks_front = refl;
  blanks_back = refl;
  inside = h;
}

-- a text is what is left of it between blanks
pub framed_trimmed : (P : List ℕ → Type 0) (text : List ℕ) → P (trimmed text) → Framed P text
unfolding trim_by
framed_trimmed P text h =
    let behind = trim_front is_blank text in
    let f = trimmed_off is_blank text in
    let b = trimmed_off is_blank (reverse behind) in
    let kept : List ℕ = trim_front is_blank (reverse behind) in
    let turned : behind ≡ reverse kept ++ reverse b.0 = sym (reverse-reverse behind) ∙ ap reverse b.1 ∙ reverse-append b.0 kept in
    record {
      front = f.0;
      middle = reverse kept;
      back = reverse b.0;
      joined = f.1 ∙ ap (λ t. f.0 ++ t) turned ∙ sym (append_assoc f.0 (reverse kept) (reverse b.0));
      blanks_front = f.2;
      blanks_back = all_reverse is_blank b.0 b.2;
      inside = h;
    }

-- neither end of the text is a blank, and it is not empty
pub record IsSolid (text : List ℕ) : Type 0 where
  pub first : starts_plain is_blank text ≡ true
  pub last : starts_plain is_blank (reverse text) ≡ true

trimmed_solid : (text : List ℕ) → IsSolid text → trimmed text ≡ text
unfolding trim_by
trimmed_solid text s =
    ap (λ t. reverse (trim_front is_blank (reverse t))) (trim_front_plain is_blank text s.first) ∙ ap reverse (trim_front_plain is_blank (reverse text) s.last) ∙ reverse-reverse text

pub trimmed_nothing : trimmed [] ≡ []
unfolding trim_by trim_front
trimmed_nothing = refl

-- blanks at the ends do not matter
pub trimmed_past : (front text back : List ℕ) → AreBlanks front → AreBlanks back → trimmed (front ++ text ++ back) ≡ trimmed text
trimmed_past front text back f b = trim_past_back is_blank (front ++ text) back b ∙ trim_past_front is_blank front text f

-- what is left of a text between blanks
pub trimmed_is : (front text back : List ℕ) → AreBlanks front → AreBlanks back → IsSolid text → trimmed (front ++ text ++ back) ≡ text
trimmed_is front text back f b s = trimmed_past front text back f b ∙ trimmed_solid text s

-- what holds of a text between blanks holds of what trimming leaves
pub trimmed_framed : (P : List ℕ → Type 0) → ((m : List ℕ) → P m → IsSolid m) → (text : List ℕ) → Framed P text → P (trimmed text)
trimmed_framed P solid text f =
    subst P (sym (ap (trim_by is_blank) f.joined ∙ trimmed_is f.front f.middle f.back f.blanks_front f.blanks_back (solid f.middle f.inside))) f.inside

pub starts_with : (p : ℕ → Bool) (front rest : List ℕ) → starts_plain p front ≡ true → starts_plain p (front ++ rest) ≡ true
starts_with p [] rest h = absurd cc
starts_with p (c ∷ cs) rest h = h

pub solid_ends : (front middle back : List ℕ) → IsSolid front → IsSolid back → IsSolid (front ++ middle ++ back)
solid_ends front middle back f b = record {
  first = subst (λ t. starts_plain is_blank t ≡ true) (sym (append_assoc front middle back)) (starts_with is_blank front (middle ++ back) f.first);
  last = subst (λ t. starts_plain is_blank t ≡ true) (sym (reverse-append (front ++ middle) back)) (starts_with is_blank (reverse back) (reverse (front ++ middle)) b.last);
}

-- bytes of a kind that no blank is of
pub solid_of : (p : ℕ → Bool) → ((b : ℕ) → p b ≡ true → not (is_blank b) ≡ true) → (text : List ℕ) → 0 < length text → list_all p text ≡ true → IsSolid text
solid_of p plain text some all = record {
  first = starts text some all;
  last = starts (reverse text) (subst (λ n. 0 < n) (sym (length-reverse text)) some) (all_reverse p text all);
}
  where
    starts : (xs : List ℕ) → 0 < length xs → list_all p xs ≡ true → starts_plain is_blank xs ≡ true
    starts [] lt h = absurd (omega arith)
    starts (x ∷ xs) lt h = plain x (first_of_all p x xs h)

-- after a byte that is no blank only the end is trimmed
pub record TrimmedBehind (front : List ℕ) (c : ℕ) (rest : List ℕ) : Type 0 where
  pub kept : List ℕ
  pub back : List ℕ
  pub trimmed_as : trimmed (front ++ c ∷ rest) ≡ front ++ c ∷ kept
  pub rest_is : rest ≡ kept ++ back
  pub blanks_back : AreBlanks back

pub trimmed_behind : (front : List ℕ) (c : ℕ) (rest : List ℕ) → starts_plain is_blank front ≡ true → is_blank c ≡ false → TrimmedBehind front c rest
unfolding trim_by
trimmed_behind front c rest h e =
    let b = trimmed_off is_blank (reverse rest) in
    let kept : List ℕ = trim_front is_blank (reverse rest) in
    let whole : trim_front is_blank (front ++ c ∷ rest) ≡ front ++ c ∷ rest = trim_front_plain is_blank (front ++ c ∷ rest) (starts_with is_blank front (c ∷ rest) h) in
    let turn : (xs ys : List ℕ) → reverse (xs ++ c ∷ ys) ≡ reverse ys ++ c ∷ reverse xs =
    λ xs ys. reverse-append xs (c ∷ ys) ∙ ap (λ t. t ++ reverse xs) (reverse_onto ys c []) ∙ append_assoc (reverse ys) (c ∷ []) (reverse xs) in
    let turned : trim_front is_blank (reverse (front ++ c ∷ rest)) ≡ kept ++ c ∷ reverse front = ap (trim_front is_blank) (turn front rest) ∙ trim_front_stops is_blank (reverse rest) c (reverse front) e in
    record {
      kept = reverse kept;
      back = reverse b.0;
      trimmed_as = ap (λ t. reverse (trim_front is_blank (reverse t))) whole ∙ ap reverse turned ∙ turn kept (reverse front) ∙ ap (λ t. t ++ c ∷ reverse kept) (reverse-reverse front);
      rest_is = sym (reverse-reverse rest) ∙ ap reverse b.1 ∙ reverse-append b.0 kept;
      blanks_back = all_reverse is_blank b.0 b.2;
    }

-- ---- parts at a byte

pub neither : (a b : Bool) → not a ≡ true → not b ≡ true → not (a || b) ≡ true
neither true b p q = p
neither false b p q = q

-- the text at its first byte of this kind
pub record CutAt (c : ℕ) (text : List ℕ) : Type 0 where
  pub front : List ℕ
  pub rest : List ℕ
  pub joined : text ≡ front ++ c ∷ rest
  pub lacks : Lacks c front

pub none_or_cut : (c : ℕ) (text : List ℕ) → Lacks c text ⊎ CutAt c text
none_or_cut c [] = inl refl
none_or_cut c (x ∷ xs) = go (eqb x c) refl (none_or_cut c xs)
  where
    go : (b : Bool) → eqb x c ≡ b → Lacks c xs ⊎ CutAt c xs → Lacks c (x ∷ xs) ⊎ CutAt c (x ∷ xs)
    go true e r = inr (record { front = []; rest = xs; joined = ap (λ y. y ∷ xs) (eqb-true x c e); lacks = refl })
    go false e (inl h) = inl (and_from (not (eqb x c)) (list_all (λ b. not (eqb b c)) xs) (ap not e) h)
    go false e (inr h) = inr (record {
      front = x ∷ h.front;
      rest = h.rest;
      joined = ap (λ ys. x ∷ ys) h.joined;
      lacks = and_from (not (eqb x c)) (list_all (λ b. not (eqb b c)) h.front) (ap not e) h.lacks;
    })

-- what follows the first byte of a kind
pub after_is : (c : ℕ) (front rest : List ℕ) → Lacks c front → after_first (λ b. eqb b c) (front ++ c ∷ rest) ≡ rest
after_is c front rest h =
    rw (count_before c front rest h) (ap (drop (length front + 1)) (sym (append_assoc front (c ∷ []) rest)) ∙ drop_at (front ++ c ∷ []) rest (length front + 1) (length-append front (c ∷ [])))

pub any_is : (c : ℕ) (front rest : List ℕ) → list_any (λ b. eqb b c) (front ++ c ∷ rest) ≡ true
any_is c [] rest = or_left (eqb c c) (list_any (λ b. eqb b c) rest) (eq-eqb c c refl)
any_is c (x ∷ xs) rest = or_right (eqb x c) (list_any (λ b. eqb b c) (xs ++ c ∷ rest)) (any_is c xs rest)

pub any_none : (c : ℕ) (text : List ℕ) → Lacks c text → list_any (λ b. eqb b c) text ≡ false
any_none c [] h = refl
any_none c (x ∷ xs) h =
    or_from (eqb x c) (list_any (λ b. eqb b c) xs) (not-true (eqb x c) (first_of_all (λ b. not (eqb b c)) x xs h)) (any_none c xs (rest_of_all (λ b. not (eqb b c)) x xs h))

pub before_all : (c : ℕ) (text : List ℕ) → Lacks c text → before_first (λ b. eqb b c) text ≡ text
before_all c text h = take_all (prefix_len (λ b. not (eqb b c)) text) text (count text h)
  where
    count : (xs : List ℕ) → Lacks c xs → length xs ≤ prefix_len (λ b. not (eqb b c)) xs
    count [] k = omega arith
    count (x ∷ xs) k =
        let first : not (eqb x c) ≡ true = first_of_all (λ b. not (eqb b c)) x xs k in
        let more = count xs (rest_of_all (λ b. not (eqb b c)) x xs k) in
        rw first (omega (arith, more))

pub lacks_join : (c : ℕ) (xs ys : List ℕ) → Lacks c xs → Lacks c ys → Lacks c (xs ++ ys)
lacks_join c = all_join (λ b. not (eqb b c))

-- a kind of bytes to which c does not belong
pub lacks_of : (p : ℕ → Bool) (c : ℕ) → p c ≡ false → (text : List ℕ) → list_all p text ≡ true → Lacks c text
lacks_of p c fails = all_so p (λ b. not (eqb b c)) (unlike p c fails)

-- a part that P holds of, this byte between blanks, and a part that Q holds of
pub record Parted (c : ℕ) (P Q : List ℕ → Type 0) (text : List ℕ) : Type 0 where
  pub first : List ℕ
  pub before : List ℕ
  pub after : List ℕ
  pub second : List ℕ
  pub joined : text ≡ first ++ before ++ c ∷ after ++ second
  pub blanks_before : AreBlanks before
  pub blanks_after : AreBlanks after
  pub first_is : P first
  pub second_is : Q second

regroup_parts : (c : ℕ) (a p b d q e : List ℕ) → (a ++ p ++ b) ++ c ∷ (d ++ q ++ e) ≡ a ++ (p ++ b ++ c ∷ d ++ q) ++ e
regroup_parts c a p b d q e = simp append_assoc

-- two parts of a text with a byte between them, each between blanks
pub framed_parted : (c : ℕ) (P Q : List ℕ → Type 0) (text front rest : List ℕ) → text ≡ front ++ c ∷ rest → Framed P front → Framed Q rest → Framed (Parted c P Q) text
framed_parted c P Q text front rest e f g = record {
  front = f.front;
  middle = f.middle ++ f.back ++ c ∷ g.front ++ g.middle;
  back = g.back;
  joined = e ∙ ap (λ t. t ++ c ∷ rest) f.joined ∙ ap (λ t. f.front ++ f.middle ++ f.back ++ c ∷ t) g.joined ∙ regroup_parts c f.front f.middle f.back g.front g.middle g.back;
  blanks_front = f.blanks_front;
  blanks_back = g.blanks_back;
  inside = record {
    first = f.middle;
    before = f.back;
    after = g.front;
    second = g.middle;
    joined = refl;
    blanks_before = f.blanks_back;
    blanks_after = g.blanks_front;
    first_is = f.inside;
    second_is = g.inside;
  };
}

-- the two parts of a text, each between blanks
pub record Halves (c : ℕ) (P Q : List ℕ → Type 0) (text : List ℕ) : Type 0 where
  pub front : List ℕ
  pub rest : List ℕ
  pub joined : text ≡ front ++ c ∷ rest
  pub front_is : Framed P front
  pub rest_is : Framed Q rest

pub halves_of : (c : ℕ) (P Q : List ℕ → Type 0) (text : List ℕ) → Framed (Parted c P Q) text → Halves c P Q text
halves_of c P Q text f =
    let p = f.inside in
    record {
      front = f.front ++ p.first ++ p.before;
      rest = p.after ++ p.second ++ f.back;
      joined = f.joined ∙ ap (λ t. f.front ++ t ++ f.back) p.joined ∙ sym (regroup_parts c f.front p.first p.before p.after p.second f.back);
      front_is = record {
        front = f.front;
        middle = p.first;
        back = p.before;
        joined = refl;
        blanks_front = f.blanks_front;
        blanks_back = p.blanks_before;
        inside = p.first_is;
      };
      rest_is = record {
        front = p.after;
        middle = p.second;
        back = f.back;
        joined = refl;
        blanks_front = p.blanks_after;
        blanks_back = f.blanks_back;
        inside = p.second_is;
      };
    }

-- a kind of bytes that blanks are of
pub framed_all : (p : ℕ → Bool) → ((c : ℕ) → is_blank c ≡ true → p c ≡ true) → (P : List ℕ → Type 0) → ((m : List ℕ) → P m → list_all p m ≡ true)
    → (text : List ℕ) → Framed P text → list_all p text ≡ true
framed_all p blank P each text f =
    subst (λ t. list_all p t ≡ true) (sym f.joined)
    (all_join p (f.front ++ f.middle) f.back (all_join p f.front f.middle (all_so is_blank p blank f.front f.blanks_front) (each f.middle f.inside)) (all_so is_blank p blank f.back f.blanks_back))

pub parted_all : (p : ℕ → Bool) → ((c : ℕ) → is_blank c ≡ true → p c ≡ true) → (c : ℕ) → p c ≡ true → (P Q : List ℕ → Type 0) → ((m : List ℕ) → P m → list_all p m ≡ true)
    → ((m : List ℕ) → Q m → list_all p m ≡ true) → (text : List ℕ) → Parted c P Q text → list_all p text ≡ true
parted_all p blank c passes P Q first second text h =
    let join = all_join p in
    let at : list_all p (c ∷ h.after) ≡ true = and_from (p c) (list_all p h.after) passes (all_so is_blank p blank h.after h.blanks_after) in
    subst (λ t. list_all p t ≡ true) (sym h.joined)
    (join (h.first ++ h.before ++ c ∷ h.after) h.second (join (h.first ++ h.before) (c ∷ h.after) (join h.first h.before (first h.first h.first_is) (all_so is_blank p blank h.before h.blanks_before)) at) (second h.second h.second_is))

pub parted_solid : (c : ℕ) (P Q : List ℕ → Type 0) → ((m : List ℕ) → P m → IsSolid m) → ((m : List ℕ) → Q m → IsSolid m) → (text : List ℕ) → Parted c P Q text → IsSolid text
parted_solid c P Q first second text h =
    let e : h.first ++ (h.before ++ c ∷ h.after) ++ h.second ≡ text = ap (λ t. t ++ h.second) (sym (append_assoc h.first h.before (c ∷ h.after))) ∙ sym h.joined in
    subst IsSolid e (solid_ends h.first (h.before ++ c ∷ h.after) h.second (first h.first h.first_is) (second h.second h.second_is))
