-- Texts up to their first slash, and how texts with a common front are ordered.
use Rattle.std.proofs.Common.{◌≡◌, ℕ, suc, ◌+◌, ◌-◌, ◌<◌, Bool, true, false, not, ◌||◌, cond, eqb, List, [], ◌∷◌, ◌++◌, length, take, refl, sym, ap, ◌∙◌, inl, inr, arith, add-one}
use Rattle.std.proofs.lemmas.List.{take_all}
use Rattle.std.proofs.lemmas.Bool.{ltb-false, cases_order, lt-ltb, le-ltb, ne_eqb}
use Rattle.std.specs.List.{list_any, prefix_len}
use Rattle.std.specs.Prelude.{slice_index, position, nat_lt, Some, None}
use Rattle.std.specs.Cmp.{tied_itself, nat_cmp_total}
use Rattle.std.specs.Ordering.{ordering_then}
use Rattle.std.specs.declared.cmp.Ordering.TheVariants.{Less, Equal, Greater}
use Rattle.br_model.specs.Name.{is_slash, is_directory}
use Rattle.br_model.proofs.OrderLaws.{rank_cmp}
use Rattle.br_tree.specs.Walk.{first_part}

-- ---- parts by recursion

-- a text up to its first slash
abbrev pub part : List ℕ → List ℕ
part [] = []
part (c ∷ cs) = c ∷ cond (is_slash c) [] (part cs)

-- what follows it
abbrev pub behind : List ℕ → List ℕ
behind [] = []
behind (c ∷ cs) = cond (is_slash c) cs (behind cs)

pub part_is : (text : List ℕ) → first_part text ≡ part text
part_is [] = refl
part_is (c ∷ cs) = go (is_slash c) refl (part_is cs)
  where
    go : (b : Bool) → is_slash c ≡ b → first_part cs ≡ part cs → first_part (c ∷ cs) ≡ c ∷ cond (is_slash c) [] (part cs)
    go true e rest = rw e refl
    go false e rest = rw e (ap (λ n. take n (c ∷ cs)) (add-one (1 + prefix_len (λ d. not (is_slash d)) cs)) ∙ ap (λ n. c ∷ take n cs) (omega arith) ∙ ap (λ ds. c ∷ ds) rest)

-- a text is its part and what follows
pub part_splits : (text : List ℕ) → text ≡ part text ++ behind text
part_splits [] = refl
part_splits (c ∷ cs) = ap (λ ds. c ∷ ds) (go (is_slash c) (part_splits cs))
  where
    go : (b : Bool) → cs ≡ part cs ++ behind cs → cs ≡ cond b [] (part cs) ++ cond b cs (behind cs)
    go true rest = refl
    go false rest = rest

-- without a slash it is its own part
pub part_whole : (text : List ℕ) → list_any is_slash text ≡ false → part text ≡ text
part_whole [] e = refl
part_whole (c ∷ cs) e = go (is_slash c) e (λ h. part_whole cs h)
  where
    go : (b : Bool) → (b || list_any is_slash cs) ≡ false → (list_any is_slash cs ≡ false → part cs ≡ cs) → c ∷ cond b [] (part cs) ≡ c ∷ cs
    go true h rest = absurd cc
    go false h rest = ap (λ ds. c ∷ ds) (rest h)

-- with a slash its part is the part of whatever begins with it
pub part_of_front : (text more : List ℕ) → list_any is_slash text ≡ true → part (part text ++ more) ≡ part text
part_of_front [] more e = absurd cc
part_of_front (c ∷ cs) more e = go (is_slash c) refl e (λ h. part_of_front cs more h)
  where
    go : (b : Bool) → is_slash c ≡ b → (b || list_any is_slash cs) ≡ true → (list_any is_slash cs ≡ true → part (part cs ++ more) ≡ part cs)
        → c ∷ cond (is_slash c) [] (part (cond (is_slash c) [] (part cs) ++ more)) ≡ c ∷ cond (is_slash c) [] (part cs)
    go true is h rest = rw is refl
    go false is h rest = rw is (ap (λ ds. c ∷ ds) (rest h))

pub part_again : (text : List ℕ) → part (part text) ≡ part text
part_again [] = refl
part_again (c ∷ cs) = go (is_slash c) refl (part_again cs)
  where
    go : (b : Bool) → is_slash c ≡ b → part (part cs) ≡ part cs → c ∷ cond (is_slash c) [] (part (cond (is_slash c) [] (part cs))) ≡ c ∷ cond (is_slash c) [] (part cs)
    go true is rest = rw is refl
    go false is rest = rw is (ap (λ ds. c ∷ ds) rest)

-- the last byte of a longer text
pub last_later : (c d : ℕ) (ds : List ℕ) → is_directory (c ∷ d ∷ ds) ≡ is_directory (d ∷ ds)
last_later c d ds = ap (λ n. eqb (slice_index (c ∷ d ∷ ds) n) 47) n_is
  where
    n_is : length (c ∷ d ∷ ds) - 1 ≡ suc (length (d ∷ ds) - 1)
    n_is = omega arith

-- a part ends in a slash if the text has one
pub part_directory : (text : List ℕ) → is_directory (part text) ≡ list_any is_slash text
part_directory [] = refl
part_directory (c ∷ []) = go (is_slash c) refl
  where
    go : (b : Bool) → is_slash c ≡ b → is_directory (c ∷ cond (is_slash c) [] []) ≡ (is_slash c || false)
    go true is = rw is (is)
    go false is = rw is (is)
part_directory (c ∷ d ∷ ds) = go (is_slash c) refl (part_directory (d ∷ ds))
  where
    go : (b : Bool) → is_slash c ≡ b → is_directory (part (d ∷ ds)) ≡ list_any is_slash (d ∷ ds)
        → is_directory (c ∷ cond (is_slash c) [] (part (d ∷ ds))) ≡ (is_slash c || list_any is_slash (d ∷ ds))
    go true is rest = rw is is
    go false is rest = rw is (last_later c d (cond (is_slash d) [] (part ds)) ∙ rest)

-- ---- order

head_less : (x y : ℕ) (xs ys : List ℕ) → x < y → rank_cmp (x ∷ xs) (y ∷ ys) ≡ Less
head_less x y xs ys lt = ap (λ b. ordering_then (cond b Less (cond (eqb x y) Equal Greater)) (rank_cmp xs ys)) (lt-ltb x y lt)

head_greater : (x y : ℕ) (xs ys : List ℕ) → y < x → rank_cmp (x ∷ xs) (y ∷ ys) ≡ Greater
head_greater x y xs ys lt =
    ap (λ b. ordering_then (cond b Less (cond (eqb x y) Equal Greater)) (rank_cmp xs ys)) (le-ltb x y (omega (arith, lt)))
    ∙ ap (λ b. ordering_then (cond b Equal Greater) (rank_cmp xs ys)) (ne_eqb x y (λ e. omega (arith, e, lt)))

pub head_same : (x : ℕ) (xs ys : List ℕ) → rank_cmp (x ∷ xs) (x ∷ ys) ≡ rank_cmp xs ys
head_same x xs ys = ap (λ o. ordering_then o (rank_cmp xs ys)) (tied_itself nat_cmp_total x)

-- a common front does not count
pub same_front : (f xs ys : List ℕ) → rank_cmp (f ++ xs) (f ++ ys) ≡ rank_cmp xs ys
same_front [] xs ys = refl
same_front (c ∷ f) xs ys = head_same c (f ++ xs) (f ++ ys) ∙ same_front f xs ys

none_below_empty : (xs : List ℕ) → rank_cmp xs [] ≡ Less → ⊥
none_below_empty [] e = absurd cc
none_below_empty (x ∷ xs) e = absurd cc

-- a front is not above what begins with it
pub front_first : (f r : List ℕ) → rank_cmp (f ++ r) f ≡ Less → ⊥
front_first [] r e = none_below_empty r e
front_first (c ∷ f) r e = front_first f r (sym (head_same c (f ++ r) f) ∙ e)

-- what is between a front and a text that begins with it begins with it
pub between : (f b r : List ℕ) → (rank_cmp b f ≡ Less → ⊥) → (rank_cmp (f ++ r) b ≡ Less → ⊥) → (more : List ℕ) × (b ≡ f ++ more)
between [] b r low high = (b, refl)
between (x ∷ f) [] r low high = absurd (low refl)
between (x ∷ f) (y ∷ b) r low high =
    elim (cases_order x y) [
      | inl same ↦
          let rest = between f b r (λ e. low (ap (λ z. rank_cmp (y ∷ b) (z ∷ f)) same ∙ head_same y b f ∙ e)) (λ e. high (ap (λ z. rank_cmp (z ∷ (f ++ r)) (y ∷ b)) same ∙ head_same y (f ++ r) b ∙ e)) in
          (rest.0, ap (λ z. z ∷ b) (sym same) ∙ ap (λ zs. x ∷ zs) rest.1)
      | inr order ↦ elim order [
        | inl below ↦ absurd (high (head_less x y (f ++ r) b below))
        | inr above ↦ absurd (low (head_less y x b f above))
      ]
    ]

-- ---- parts in order

-- a part of a later text does not come before
pub parts_rise : (a b : List ℕ) → rank_cmp a b ≡ Less → rank_cmp (part b) (part a) ≡ Less → ⊥
parts_rise [] b less e = none_below_empty (part b) e
parts_rise (x ∷ a) [] less e = absurd cc
parts_rise (x ∷ a) (y ∷ b) less e =
    elim (cases_order x y) [
      | inl same ↦ go same (λ first then. parts_rise a b first then)
      | inr order ↦ elim order [
        | inl below ↦ let other = head_greater y x (cond (is_slash y) [] (part b)) (cond (is_slash x) [] (part a)) below in absurd (less_apart (sym e ∙ other))
        | inr above ↦ let other = head_greater x y a b above in absurd (less_apart (sym less ∙ other))
      ]
    ]
  where
    less_apart : Less ≡ Greater → ⊥
    less_apart h = cc

    go : x ≡ y → (rank_cmp a b ≡ Less → rank_cmp (part b) (part a) ≡ Less → ⊥) → ⊥
    go same rest =
        let first : rank_cmp a b ≡ Less = sym (head_same x a b) ∙ ap (λ z. rank_cmp (x ∷ a) (z ∷ b)) same ∙ less in
        let then : rank_cmp (cond (is_slash x) [] (part b)) (cond (is_slash x) [] (part a)) ≡ Less =
        sym (head_same x (cond (is_slash x) [] (part b)) (cond (is_slash x) [] (part a))) ∙ ap (λ z. rank_cmp (z ∷ cond (is_slash z) [] (part b)) (x ∷ cond (is_slash x) [] (part a))) same ∙ e in
        at (is_slash x) refl first then
      where
        at : (s : Bool) → is_slash x ≡ s → rank_cmp a b ≡ Less → rank_cmp (cond (is_slash x) [] (part b)) (cond (is_slash x) [] (part a)) ≡ Less → ⊥
        at true is first then = none_below_empty [] (sym (ap (λ s. rank_cmp (cond s [] (part b)) (cond s [] (part a))) is) ∙ then)
        at false is first then = rest first (sym (ap (λ s. rank_cmp (cond s [] (part b)) (cond s [] (part a))) is) ∙ then)

-- ---- parts by places

-- the text up to its first slash
pub part_at : (text : List ℕ) (n : ℕ) → position is_slash text ≡ Some n → take (n + 1) text ≡ first_part text
part_at text n e = go (nat_lt (prefix_len (λ c. not (is_slash c)) text) (length text)) e
  where
    go : (b : Bool) → cond b (Some (prefix_len (λ c. not (is_slash c)) text)) None ≡ Some n → take (n + 1) text ≡ first_part text
    go true h = let same : prefix_len (λ c. not (is_slash c)) text ≡ n = cc in ap (λ m. take (m + 1) text) (sym same)
    go false h = absurd cc

-- the whole text if there is none
pub part_without : (text : List ℕ) → position is_slash text ≡ None → text ≡ first_part text
part_without text e = go (nat_lt (prefix_len (λ c. not (is_slash c)) text) (length text)) refl e
  where
    go : (b : Bool) → nat_lt (prefix_len (λ c. not (is_slash c)) text) (length text) ≡ b → cond b (Some (prefix_len (λ c. not (is_slash c)) text)) None ≡ None → text ≡ first_part text
    go true is h = absurd cc
    go false is h = sym (take_all (prefix_len (λ c. not (is_slash c)) text + 1) text (omega (arith, ltb-false (prefix_len (λ c. not (is_slash c)) text) (length text) is)))
