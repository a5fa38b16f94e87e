-- Components of a path, with and without a slash at the end.
use Rattle.std.proofs.Common.{◌≡◌, ◌||◌, ◌<◌, ℕ, Bool, true, false, ◌&&◌, cond, List, [], ◌∷◌, ◌++◌, length, refl, ap, ◌∙◌, arith}
use Rattle.std.proofs.lemmas.Bool.{ne_eqb}
use Rattle.std.proofs.lemmas.List.Splits.{length-slice_split}
use Rattle.std.specs.List.{list_all, slice_split, onto_first}
use Rattle.br_model.specs.Text.{is_empty}
use Rattle.br_model.specs.Name.{is_slash, is_component, are_components}

-- ---- without a slash at the end

-- the last part is not empty
abbrev HasLast : List (List ℕ) → Type 0
HasLast [] = ⊥
HasLast (part ∷ []) = is_empty part ≡ false
HasLast (part ∷ next ∷ parts) = HasLast (next ∷ parts)

onto_first-HasLast : (b : Bool) (x : ℕ) (parts : List (List ℕ)) → HasLast parts → HasLast (cond b ([] ∷ parts) (onto_first x parts))
onto_first-HasLast b x [] h = absurd h
onto_first-HasLast true x (part ∷ parts) h = h
onto_first-HasLast false x (part ∷ []) h = ne_eqb (length (x ∷ part)) 0 (λ e. omega (arith, e))
onto_first-HasLast false x (part ∷ next ∷ parts) h = h

split-HasLast : (front : List ℕ) (last : ℕ) → is_slash last ≡ false → HasLast (slice_split is_slash (front ++ last ∷ []))
split-HasLast [] last differs = rw differs (ne_eqb (length (last ∷ [])) 0 (λ e. omega (arith, e)))
split-HasLast (x ∷ front) last differs = onto_first-HasLast (is_slash x) x (slice_split is_slash (front ++ last ∷ [])) (split-HasLast front last differs)

or_false : (a b : Bool) → a ≡ false → (a || b) ≡ (b && true)
or_false true b e = absurd cc
or_false false true e = refl
or_false false false e = refl

-- every part must be a component
components_are_all : (parts : List (List ℕ)) → HasLast parts → are_components parts ≡ list_all is_component parts
unfolding are_components
components_are_all [] h = absurd h
components_are_all (part ∷ []) h = or_false (is_empty part) (is_component part) h
components_are_all (part ∷ next ∷ parts) h = ap (λ b. is_component part && b) (components_are_all (next ∷ parts) h)

pub components_without_slash : (front : List ℕ) (last : ℕ) → is_slash last ≡ false
    → are_components (slice_split is_slash (front ++ last ∷ [])) ≡ list_all is_component (slice_split is_slash (front ++ last ∷ []))
components_without_slash front last differs = components_are_all (slice_split is_slash (front ++ last ∷ [])) (split-HasLast front last differs)

-- ---- with a slash at the end

cond-append : (b : Bool) (x : ℕ) (parts : List (List ℕ)) → 0 < length parts
    → cond b ([] ∷ (parts ++ [] ∷ [])) (onto_first x (parts ++ [] ∷ [])) ≡ cond b ([] ∷ parts) (onto_first x parts) ++ [] ∷ []
cond-append b x [] some = absurd (omega arith)
cond-append true x (part ∷ parts) some = refl
cond-append false x (part ∷ parts) some = refl

-- the slash makes one more part, an empty one
split-append : (front : List ℕ) (last : ℕ) → is_slash last ≡ true → slice_split is_slash (front ++ last ∷ []) ≡ slice_split is_slash front ++ [] ∷ []
split-append [] last ends = rw ends refl
split-append (x ∷ front) last ends =
    ap (λ parts. cond (is_slash x) ([] ∷ parts) (onto_first x parts)) (split-append front last ends)
    ∙ cond-append (is_slash x) x (slice_split is_slash front) (omega (arith, length-slice_split is_slash front))

-- the empty part at the end is not tested
components_before_end : (parts : List (List ℕ)) → 0 < length parts → are_components (parts ++ [] ∷ []) ≡ list_all is_component parts
unfolding are_components
components_before_end [] some = absurd (omega arith)
components_before_end (part ∷ []) some = refl
components_before_end (part ∷ next ∷ parts) some = ap (λ b. is_component part && b) (components_before_end (next ∷ parts) (omega arith))

pub components_with_slash : (front : List ℕ) (last : ℕ) → is_slash last ≡ true
    → are_components (slice_split is_slash (front ++ last ∷ [])) ≡ list_all is_component (slice_split is_slash front)
components_with_slash front last ends =
    ap are_components (split-append front last ends)
    ∙ components_before_end (slice_split is_slash front) (omega (arith, length-slice_split is_slash front))

-- ---- of no bytes

pub nil_of_length : (xs : List ℕ) → length xs ≡ 0 → xs ≡ []
nil_of_length [] none = refl
nil_of_length (x ∷ xs) none = absurd (omega arith)

-- the path is / alone
pub components_of_nothing : are_components (slice_split is_slash []) ≡ true
unfolding are_components
components_of_nothing = refl
