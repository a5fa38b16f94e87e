-- Matching step by step.
use Rattle.std.proofs.Common.{◌≡◌, ℕ, Bool, true, false, ◌&&◌, ◌||◌, cond, eqb, List, [], ◌∷◌, length, refl, ne_eqb, sym, ap, subst, ◌∙◌, arith}
use Rattle.std.proofs.lemmas.Bool.{both_ways, and_parts, or_right, or_left}
use Rattle.std.specs.List.{list_any}
use Rattle.std.proofs.lemmas.List.{nil_from_length}
use Rattle.br_model.specs.Text.{is_empty}
use Rattle.br_model.specs.Console.{matches, tails}
use Rattle.br_tree.specs.Fronts.{LeadsTo}

pub or_cases : {P : Type 0} (a b : Bool) → (a || b) ≡ true → (a ≡ true → P) → (b ≡ true → P) → P
or_cases true b e f g = f refl
or_cases false b e f g = g e

pub or_none : (b : Bool) → (b || false) ≡ b
or_none true = refl
or_none false = refl

pub either_way : (a b : Bool) → (a ≡ true → b ≡ true) → (b ≡ true → a ≡ true) → a ≡ b
either_way true true f g = refl
either_way true false f g = sym (f refl)
either_way false true f g = g refl
either_way false false f g = refl

-- ---- ends of a name

-- some end of a name is the name, or one of what follows its first byte
pub ends_of : (p : List ℕ → Bool) (c : ℕ) (cs : List ℕ) → list_any p (tails (c ∷ cs)) ≡ (p (c ∷ cs) || list_any p (tails cs))
unfolding tails
ends_of p c cs = refl

pub ends_of_none : (p : List ℕ → Bool) → list_any p (tails []) ≡ p []
unfolding tails
ends_of_none p = or_none (p [])

-- the name is an end of itself
pub own_end : (p : List ℕ → Bool) (n : List ℕ) → p n ≡ true → list_any p (tails n) ≡ true
own_end p [] e = ends_of_none p ∙ e
own_end p (c ∷ cs) e = ends_of p c cs ∙ or_left (p (c ∷ cs)) (list_any p (tails cs)) e

-- ---- a star

-- a star matches a name if the pattern after it matches some end
pub star_is : (ps n : List ℕ) → matches (42 ∷ ps) n ≡ list_any (matches ps) (tails n)
unfolding matches
star_is ps [] = sym (ends_of_none (matches ps))
star_is ps (c ∷ cs) = refl

-- a star that matches some end matches the whole
pub star_takes : (ps n : List ℕ) → list_any (matches (42 ∷ ps)) (tails n) ≡ list_any (matches ps) (tails n)
star_takes ps [] = ends_of_none (matches (42 ∷ ps)) ∙ star_is ps []
star_takes ps (c ∷ cs) =
    ends_of (matches (42 ∷ ps)) c cs
    ∙ ap (λ b. b || list_any (matches (42 ∷ ps)) (tails cs)) (star_is ps (c ∷ cs) ∙ ends_of (matches ps) c cs)
    ∙ ap (λ b. (matches ps (c ∷ cs) || list_any (matches ps) (tails cs)) || b) (star_takes ps cs)
    ∙ twice (matches ps (c ∷ cs)) (list_any (matches ps) (tails cs))
    ∙ sym (ends_of (matches ps) c cs)
  where
    twice : (a b : Bool) → ((a || b) || b) ≡ (a || b)
    twice true b = refl
    twice false true = refl
    twice false false = refl

-- ---- one byte

-- a byte of a pattern that is no star takes one byte of the name
pub byte_is : (p : ℕ) (ps : List ℕ) (c : ℕ) (cs : List ℕ) → eqb p 42 ≡ false → matches (p ∷ ps) (c ∷ cs) ≡ ((eqb p 63 || eqb p c) && matches ps cs)
unfolding matches
byte_is p ps c cs no_star = ap (λ b. cond b (list_any (matches ps) (tails (c ∷ cs))) ((eqb p 63 || eqb p c) && matches ps cs)) no_star

pub byte_of_none : (p : ℕ) (ps : List ℕ) → eqb p 42 ≡ false → matches (p ∷ ps) [] ≡ false
unfolding matches
byte_of_none p ps no_star = ap (λ b. b && matches ps []) no_star

-- if it matches some end, the rest matches some end after the first byte
pub byte_later : (p : ℕ) (ps : List ℕ) (c : ℕ) (cs : List ℕ) → eqb p 42 ≡ false → list_any (matches (p ∷ ps)) (tails (c ∷ cs)) ≡ true → list_any (matches ps) (tails cs) ≡ true
byte_later p ps c cs no_star e =
    or_cases (matches (p ∷ ps) (c ∷ cs)) (list_any (matches (p ∷ ps)) (tails cs)) (sym (ends_of (matches (p ∷ ps)) c cs) ∙ e)
    (λ here. own_end (matches ps) cs (and_parts (eqb p 63 || eqb p c) (matches ps cs) (sym (byte_is p ps c cs no_star) ∙ here)).1)
    (λ there. behind cs there)
  where
    behind : (ds : List ℕ) → list_any (matches (p ∷ ps)) (tails ds) ≡ true → list_any (matches ps) (tails ds) ≡ true
    behind [] t = absurd (both_ways (matches (p ∷ ps) []) (byte_of_none p ps no_star) (sym (ends_of_none (matches (p ∷ ps))) ∙ t))
    behind (d ∷ ds) t =
        ends_of (matches ps) d ds ∙ or_right (matches ps (d ∷ ds)) (list_any (matches ps) (tails ds))
        (or_cases (matches (p ∷ ps) (d ∷ ds)) (list_any (matches (p ∷ ps)) (tails ds)) (sym (ends_of (matches (p ∷ ps)) d ds) ∙ t)
        (λ here. own_end (matches ps) ds (and_parts (eqb p 63 || eqb p d) (matches ps ds) (sym (byte_is p ps d ds no_star) ∙ here)).1)
        (λ there. behind ds there))

-- ---- the steps of a loop

-- at the start
pub leads_to_itself : (pattern name : List ℕ) → LeadsTo pattern name pattern name
leads_to_itself pattern name = record { same = refl; later = λ e. e; shorter = omega arith; no_longer = omega arith }

-- a star comes next
pub star_next : (pattern name left behind : List ℕ) (p : ℕ) (ps : List ℕ) → LeadsTo pattern name left behind → left ≡ p ∷ ps → p ≡ 42 → LeadsTo pattern name (42 ∷ ps) behind
star_next pattern name left behind p ps to is star = subst (λ (l : List ℕ). LeadsTo pattern name l behind) (is ∙ ap (λ q. q ∷ ps) star) to

both : (pattern name left behind more rest : List ℕ) → LeadsTo pattern name left behind → left ≡ more → behind ≡ rest → LeadsTo pattern name more rest
both pattern name left behind more rest to e f = subst (λ (r : List ℕ). LeadsTo pattern name more r) f (subst (λ (l : List ℕ). LeadsTo pattern name l behind) e to)

-- one byte more
pub leads_on : (pattern name left behind : List ℕ) (p : ℕ) (ps : List ℕ) (c : ℕ) (cs : List ℕ) → LeadsTo pattern name left behind → left ≡ p ∷ ps → behind ≡ c ∷ cs
    → (p ≡ 42 → ⊥) → (eqb p 63 || eqb p c) ≡ true → LeadsTo pattern name ps cs
leads_on pattern name left behind p ps c cs before is at no_star takes =
    let to = both pattern name left behind (p ∷ ps) (c ∷ cs) before is at in
    let plain = ne_eqb p 42 no_star in
    record {
      same = to.same ∙ byte_is p ps c cs plain ∙ ap (λ b. b && matches ps cs) takes;
      later = λ e. byte_later p ps c cs plain (to.later e);
      shorter = omega (arith, to.shorter);
      no_longer = omega (arith, to.no_longer);
    }

-- a byte that is another one
pub another_byte : (pattern name left behind : List ℕ) (p : ℕ) (ps : List ℕ) (c : ℕ) (cs : List ℕ) → LeadsTo pattern name left behind → left ≡ p ∷ ps → behind ≡ c ∷ cs
    → (p ≡ 42 → ⊥) → (eqb p 63 || eqb p c) ≡ false → matches pattern name ≡ false
another_byte pattern name left behind p ps c cs before is at no_star other =
    let to = both pattern name left behind (p ∷ ps) (c ∷ cs) before is at in
    to.same ∙ byte_is p ps c cs (ne_eqb p 42 no_star) ∙ ap (λ b. b && matches ps cs) other

-- a byte is left of the pattern, and none of the name
pub no_byte : (pattern name left behind : List ℕ) (p : ℕ) (ps : List ℕ) → LeadsTo pattern name left behind → left ≡ p ∷ ps → length behind ≡ 0 → (p ≡ 42 → ⊥) → matches pattern name ≡ false
no_byte pattern name left behind p ps before is none no_star =
    (both pattern name left behind (p ∷ ps) [] before is (nil_from_length behind none)).same ∙ byte_of_none p ps (ne_eqb p 42 no_star)

-- nothing is left of the pattern
pub at_end : (pattern name left behind : List ℕ) (b : Bool) → LeadsTo pattern name left behind → length left ≡ 0 → b ≡ is_empty behind → matches pattern name ≡ b
unfolding matches
at_end pattern name left behind b before none is = (both pattern name left behind [] behind before (nil_from_length left none) refl).same ∙ sym is

-- ---- some end of a name

-- a pattern that does not match the name goes on after the first byte
pub goes_on : (p n : List ℕ) (c : ℕ) (cs : List ℕ) → n ≡ c ∷ cs → matches p n ≡ false → list_any (matches p) (tails n) ≡ list_any (matches p) (tails cs)
goes_on p n c cs is none =
    ap (λ m. list_any (matches p) (tails m)) is ∙ ends_of (matches p) c cs ∙ ap (λ b. b || list_any (matches p) (tails cs)) (ap (matches p) (sym is) ∙ none)

-- it matches no end of an empty name
pub goes_nowhere : (p n : List ℕ) → length n ≡ 0 → matches p n ≡ false → list_any (matches p) (tails n) ≡ false
goes_nowhere p n is none =
    let empty = nil_from_length n is in
    ap (λ m. list_any (matches p) (tails m)) empty ∙ ends_of_none (matches p) ∙ ap (matches p) (sym empty) ∙ none

-- if it matches the name, it matches an end of it
pub matches_at_once : (p n : List ℕ) → matches p n ≡ true → list_any (matches p) (tails n) ≡ true
matches_at_once p n e = own_end (matches p) n e

-- after a star the earliest place will do
pub star_goes_on : (p n left behind : List ℕ) → LeadsTo p n (42 ∷ left) behind → list_any (matches p) (tails n) ≡ list_any (matches left) (tails behind)
star_goes_on p n left behind to =
    either_way (list_any (matches p) (tails n)) (list_any (matches left) (tails behind))
    (λ e. sym (star_takes left behind) ∙ to.later e)
    (λ e. own_end (matches p) n (to.same ∙ star_is left behind ∙ e))
