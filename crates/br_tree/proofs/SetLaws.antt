-- Flags that are set where paths pass a test: the marks that come of it, and the number of
-- changed flags.
use Rattle.std.proofs.Common.{◌≡◌, ℕ, zero, suc, replicate, ◌+◌, Bool, true, false, not, ◌&&◌, ◌||◌, cond, List, [], ◌∷◌, ◌++◌, length, filter, refl, sym, ap, subst, ◌∙◌, inl, inr, ◌⊎◌, arith}
use Rattle.std.proofs.lemmas.Bool.{both_ways, false_from_ne_true}
use Rattle.std.proofs.lemmas.List.Elements.{Contains-append_left, Contains-append_right}
use Rattle.std.proofs.lemmas.Slice.Eq.{bytes_eq-Decides}
use Rattle.std.specs.Prelude.{Contains, bytes_eq}
use Rattle.std.specs.List.{AllByRecursion}
use Rattle.br_model.specs.Order.{in_order, is_among}
use Rattle.br_model.proofs.ListLaws.{first_in, later_in, first_or_later, to_each, all_weaker, some_passes, from_some, contains_filter, kept_passes}
use Rattle.br_model.proofs.OrderLaws.{not_below_itself, in_order_from, in_order_has_each, in_order_rises}
use Rattle.br_choose.proofs.InOrderLaws.{below_one_way, same_rising}
use Rattle.br_tree.specs.Seen.{flagged}
use Rattle.br_tree.specs.Walk.{set_where, changed}
use Rattle.br_tree.proofs.FlagLaws.{Below, Rises, all_flagged, flagged_rise}

-- ---- where flags are set

set_within : (test : List ℕ → Bool) (ps : List (List ℕ)) (fs : List Bool) (z : List ℕ) → Contains (flagged ps (set_where test true ps fs)) z → Contains (filter test ps) z ⊎ Contains (flagged ps fs) z
set_within test [] fs z c = inr c
set_within test (p ∷ ps) [] z c = inr c
set_within test (p ∷ ps) (f ∷ fs) z c = go _ _ _ (test p) f c (λ later. set_within test ps fs z later)
  where
    go : (R F G : List (List ℕ)) (t f : Bool) → Contains (cond (cond t true f) (p ∷ R) R) z → (Contains R z → Contains F z ⊎ Contains G z)
        → Contains (cond t (p ∷ F) F) z ⊎ Contains (cond f (p ∷ G) G) z
    go R F G true true c rest =
        elim (first_or_later p R z c) [
          | inl same ↦ inl (first_in p F z same)
          | inr later ↦ elim (rest later) [ inl a ↦ inl (later_in p F z a) | inr b ↦ inr (later_in p G z b) ]
        ]
    go R F G true false c rest =
        elim (first_or_later p R z c) [
          | inl same ↦ inl (first_in p F z same)
          | inr later ↦ elim (rest later) [ inl a ↦ inl (later_in p F z a) | inr b ↦ inr b ]
        ]
    go R F G false true c rest =
        elim (first_or_later p R z c) [
          | inl same ↦ inr (first_in p G z same)
          | inr later ↦ elim (rest later) [ inl a ↦ inl a | inr b ↦ inr (later_in p G z b) ]
        ]
    go R F G false false c rest = rest c

set_has : (test : List ℕ → Bool) (ps : List (List ℕ)) (fs : List Bool) (z : List ℕ) → length fs ≡ length ps → Contains (filter test ps) z ⊎ Contains (flagged ps fs) z → Contains (flagged ps (set_where test true ps fs)) z
set_has test [] fs z long (inl c) = c
set_has test [] fs z long (inr c) = c
set_has test (p ∷ ps) [] z long c = absurd (omega (arith, long))
set_has test (p ∷ ps) (f ∷ fs) z long c = go _ _ _ (test p) f c (λ h. set_has test ps fs z (omega (arith, long)) h)
  where
    go : (R F G : List (List ℕ)) (t f : Bool) → Contains (cond t (p ∷ F) F) z ⊎ Contains (cond f (p ∷ G) G) z → (Contains F z ⊎ Contains G z → Contains R z)
        → Contains (cond (cond t true f) (p ∷ R) R) z
    go R F G true f (inl c) rest = elim (first_or_later p F z c) [ inl same ↦ first_in p R z same | inr later ↦ later_in p R z (rest (inl later)) ]
    go R F G true true (inr c) rest = elim (first_or_later p G z c) [ inl same ↦ first_in p R z same | inr later ↦ later_in p R z (rest (inr later)) ]
    go R F G true false (inr c) rest = later_in p R z (rest (inr c))
    go R F G false true (inl c) rest = later_in p R z (rest (inl c))
    go R F G false true (inr c) rest = elim (first_or_later p G z c) [ inl same ↦ first_in p R z same | inr later ↦ later_in p R z (rest (inr later)) ]
    go R F G false false (inl c) rest = rest (inl c)
    go R F G false false (inr c) rest = rest (inr c)

in_either : (xs ys : List (List ℕ)) (z : List ℕ) → Contains (xs ++ ys) z → Contains xs z ⊎ Contains ys z
in_either [] ys z c = inr c
in_either (x ∷ xs) ys z c =
    elim (first_or_later x (xs ++ ys) z c) [
      | inl same ↦ inl (first_in x xs z same)
      | inr later ↦ elim (in_either xs ys z later) [ inl a ↦ inl (later_in x xs z a) | inr b ↦ inr b ]
    ]

-- marking what passes
pub set_marks : (test : List ℕ → Bool) (ps : List (List ℕ)) (fs : List Bool) → Rises ps → length fs ≡ length ps
    → flagged ps (set_where test true ps fs) ≡ in_order (λ p. p) (filter test ps ++ flagged ps fs)
set_marks test ps fs rises long =
    same_rising Below below_one_way (flagged ps (set_where test true ps fs)) (in_order (λ p. p) (filter test ps ++ flagged ps fs))
    (flagged_rise ps (set_where test true ps fs) rises)
    (in_order_rises (λ p. p) (filter test ps ++ flagged ps fs))
    (λ z c. in_order_has_each (λ p. p) (filter test ps ++ flagged ps fs) (λ x y a b same. same) z
    (elim (set_within test ps fs z c) [ inl a ↦ Contains-append_left (filter test ps) (flagged ps fs) z a | inr b ↦ Contains-append_right (filter test ps) (flagged ps fs) z b ]))
    (λ z c. set_has test ps fs z long (in_either (filter test ps) (flagged ps fs) z (in_order_from (λ p. p) (filter test ps ++ flagged ps fs) z c)))

-- ---- where flags are cleared

-- of paths, those that pass are among those that pass
pub among_passing : (test : List ℕ → Bool) (ps : List (List ℕ)) (z : List ℕ) → Contains ps z → is_among (filter test ps) z ≡ test z
among_passing test ps z inside = go (test z) refl
  where
    go : (b : Bool) → test z ≡ b → is_among (filter test ps) z ≡ test z
    go true t = some_passes (bytes_eq z) (filter test ps) z (contains_filter test ps z inside t) ((bytes_eq-Decides z z).1 refl) ∙ sym t
    go false t =
        false_from_ne_true (is_among (filter test ps) z) (λ e.
        let x = from_some (bytes_eq z) (filter test ps) e in
        both_ways (test z) t (ap test ((bytes_eq-Decides z x.0).0 x.2) ∙ (kept_passes test ps x.0 x.1).1))
        ∙ sym t

taken : (test q : List ℕ → Bool) (ps : List (List ℕ)) (fs : List Bool) → AllByRecursion (λ z. q z ≡ not (test z)) ps → flagged ps (set_where test false ps fs) ≡ filter q (flagged ps fs)
taken test q [] fs all = refl
taken test q (p ∷ ps) [] all = refl
taken test q (p ∷ ps) (f ∷ fs) all = go _ _ (test p) f (q p) refl all.0 (taken test q ps fs all.1)
  where
    go : (R G : List (List ℕ)) (t f b : Bool) → q p ≡ b → b ≡ not t → R ≡ filter q G → cond (cond t false f) (p ∷ R) R ≡ filter q (cond f (p ∷ G) G)
    go R G true true true is e rest = absurd cc
    go R G true true false is e rest = rest ∙ sym (ap (λ b. cond b (p ∷ filter q G) (filter q G)) is)
    go R G true false b is e rest = rest
    go R G false true true is e rest = ap (λ zs. p ∷ zs) rest ∙ sym (ap (λ b. cond b (p ∷ filter q G) (filter q G)) is)
    go R G false true false is e rest = absurd cc
    go R G false false b is e rest = rest

-- unmarking what passes
pub takes_marks : (test : List ℕ → Bool) (ps : List (List ℕ)) (fs : List Bool) → flagged ps (set_where test false ps fs) ≡ filter (λ p. not (is_among (filter test ps) p)) (flagged ps fs)
takes_marks test ps fs =
    taken test (λ p. not (is_among (filter test ps) p)) ps fs
    (to_each (λ z. not (is_among (filter test ps) z) ≡ not (test z)) ps (λ z inside. ap not (among_passing test ps z inside)))

-- ---- flags are look-ups

-- a test says of each path what its flag does
abbrev pub Agrees : (List ℕ → Bool) → List (List ℕ) → List Bool → Type 0
Agrees q [] fs = Unit {0}
Agrees q (p ∷ ps) [] = Unit {0}
Agrees q (p ∷ ps) (f ∷ fs) = (q p ≡ f) × Agrees q ps fs

agrees_too : (q r : List ℕ → Bool) (ps : List (List ℕ)) (fs : List Bool) → AllByRecursion (λ z. r z ≡ q z) ps → Agrees q ps fs → Agrees r ps fs
agrees_too q r [] fs all h = tt
agrees_too q r (p ∷ ps) [] all h = tt
agrees_too q r (p ∷ ps) (f ∷ fs) all h = (all.0 ∙ h.0, agrees_too q r ps fs all.1 h.1)

not_equal : (p z : List ℕ) → Below p z → bytes_eq z p ≡ false
not_equal p z less = false_from_ne_true (bytes_eq z p) (λ t. not_below_itself p (subst (Below p) ((bytes_eq-Decides z p).0 t) less))

not_equal_back : (p z : List ℕ) → Below p z → bytes_eq p z ≡ false
not_equal_back p z less = false_from_ne_true (bytes_eq p z) (λ t. not_below_itself p (subst (Below p) (sym ((bytes_eq-Decides p z).0 t)) less))

none_equal : (p : List ℕ) (zs : List (List ℕ)) → AllByRecursion (Below p) zs → is_among zs p ≡ false
none_equal p [] all = refl
none_equal p (z ∷ zs) all = ap (λ b. b || is_among zs p) (not_equal_back p z all.0) ∙ none_equal p zs all.1

-- a path is among the flagged ones if its flag is set
pub flags_agree : (ps : List (List ℕ)) (fs : List Bool) → Rises ps → Agrees (is_among (flagged ps fs)) ps fs
flags_agree [] fs rises = tt
flags_agree (p ∷ ps) [] rises = tt
flags_agree (p ∷ ps) (f ∷ fs) rises =
    (here f, agrees_too (is_among (flagged ps fs)) (is_among (flagged (p ∷ ps) (f ∷ fs))) ps fs (all_weaker (Below p) (λ z. is_among (flagged (p ∷ ps) (f ∷ fs)) z ≡ is_among (flagged ps fs) z) (λ z less. later f z less) ps rises.0) (flags_agree ps fs rises.1))
  where
    here : (f : Bool) → is_among (cond f (p ∷ flagged ps fs) (flagged ps fs)) p ≡ f
    here true = ap (λ b. b || is_among (flagged ps fs) p) ((bytes_eq-Decides p p).1 refl)
    here false = none_equal p (flagged ps fs) (all_flagged (Below p) ps fs rises.0)

    later : (f : Bool) (z : List ℕ) → Below p z → is_among (cond f (p ∷ flagged ps fs) (flagged ps fs)) z ≡ is_among (flagged ps fs) z
    later true z less = ap (λ b. b || is_among (flagged ps fs) z) (not_equal p z less)
    later false z less = refl

-- ---- numbers

count_set : (test q : List ℕ → Bool) (ps : List (List ℕ)) (fs : List Bool) → length fs ≡ length ps → Agrees q ps fs → changed test true ps fs ≡ length (filter (λ p. not (q p)) (filter test ps))
count_set test q [] fs long h = refl
count_set test q (p ∷ ps) [] long h = absurd (omega (arith, long))
count_set test q (p ∷ ps) (f ∷ fs) long h = go _ _ (test p) (q p) f refl h.0 (count_set test q ps fs (omega (arith, long)) h.1)
  where
    go : (F : List (List ℕ)) (n : ℕ) (t b f : Bool) → q p ≡ b → b ≡ f → n ≡ length (filter (λ p. not (q p)) F)
        → cond (t && not f) 1 0 + n ≡ length (filter (λ p. not (q p)) (cond t (p ∷ F) F))
    go F n true true true is e rest = omega (arith, rest) ∙ sym (ap (λ b. length (cond (not b) (p ∷ filter (λ p. not (q p)) F) (filter (λ p. not (q p)) F))) is)
    go F n true true false is e rest = absurd cc
    go F n true false true is e rest = absurd cc
    go F n true false false is e rest = omega (arith, rest) ∙ sym (ap (λ b. length (cond (not b) (p ∷ filter (λ p. not (q p)) F) (filter (λ p. not (q p)) F))) is)
    go F n false b f is e rest = omega (arith, rest)

count_taken : (test q : List ℕ → Bool) (ps : List (List ℕ)) (fs : List Bool) → length fs ≡ length ps → Agrees q ps fs → changed test false ps fs ≡ length (filter q (filter test ps))
count_taken test q [] fs long h = refl
count_taken test q (p ∷ ps) [] long h = absurd (omega (arith, long))
count_taken test q (p ∷ ps) (f ∷ fs) long h = go _ _ (test p) (q p) f refl h.0 (count_taken test q ps fs (omega (arith, long)) h.1)
  where
    go : (F : List (List ℕ)) (n : ℕ) (t b f : Bool) → q p ≡ b → b ≡ f → n ≡ length (filter q F)
        → cond (t && f) 1 0 + n ≡ length (filter q (cond t (p ∷ F) F))
    go F n true true true is e rest = omega (arith, rest) ∙ sym (ap (λ b. length (cond b (p ∷ filter q F) (filter q F))) is)
    go F n true true false is e rest = absurd cc
    go F n true false true is e rest = absurd cc
    go F n true false false is e rest = omega (arith, rest) ∙ sym (ap (λ b. length (cond b (p ∷ filter q F) (filter q F))) is)
    go F n false b f is e rest = omega (arith, rest)

-- the number of passing paths that were not marked
pub set_counts : (test : List ℕ → Bool) (ps : List (List ℕ)) (fs : List Bool) → Rises ps → length fs ≡ length ps
    → changed test true ps fs ≡ length (filter (λ p. not (is_among (flagged ps fs) p)) (filter test ps))
set_counts test ps fs rises long = count_set test (is_among (flagged ps fs)) ps fs long (flags_agree ps fs rises)

-- the number of passing paths that were marked
pub taken_counts : (test : List ℕ → Bool) (ps : List (List ℕ)) (fs : List Bool) → Rises ps → length fs ≡ length ps
    → changed test false ps fs ≡ length (filter (λ p. is_among (flagged ps fs) p) (filter test ps))
taken_counts test ps fs rises long = count_taken test (is_among (flagged ps fs)) ps fs long (flags_agree ps fs rises)

-- as many flags as before
pub as_many : (test : List ℕ → Bool) (value : Bool) (ps : List (List ℕ)) (fs : List Bool) → length (set_where test value ps fs) ≡ length fs
as_many test value [] fs = refl
as_many test value (p ∷ ps) [] = refl
as_many test value (p ∷ ps) (f ∷ fs) = omega (arith, as_many test value ps fs)

-- no flags, no marks
pub no_marks : (ps : List (List ℕ)) (n : ℕ) → flagged ps (replicate n false) ≡ []
no_marks [] n = refl
no_marks (p ∷ ps) zero = refl
no_marks (p ∷ ps) (suc n) = no_marks ps n
