-- The paths in a directory that begin with the plain front of a pattern.
use Rattle.std.proofs.Common.{◌≡◌, ℕ, suc, ◌+◌, ◌-◌, Bool, true, false, not, ◌&&◌, ◌||◌, cond, eqb, List, [], ◌∷◌, ◌++◌, length, take, drop, refl, sym, ap, subst, ◌∙◌, append_assoc, take-append-drop, arith}
use Rattle.std.proofs.lemmas.Bool.{both_ways, and_parts, and_from, false_from_ne_true, eqb-true, eq-eqb}
use Rattle.std.specs.Prelude.{bytes_eq}
use Rattle.std.specs.List.{prefix_len}
use Rattle.std.specs.FinMap.{nat_cmp-IsAntisymmetric}
use Rattle.std.specs.Ordering.{nat_cmp, is_lt, ordering_then}
use Rattle.std.specs.declared.cmp.Ordering.{Ordering}
use Rattle.std.specs.declared.cmp.Ordering.TheVariants.{Less, Equal, Greater}
use Rattle.br_model.specs.Name.{is_directory, is_slash}
use Rattle.br_model.specs.Console.{bare, begins_with, child_of, is_below, matches}
use Rattle.br_model.proofs.ListLaws.{all_weaker}
use Rattle.br_model.proofs.OrderLaws.{rank_cmp}
use Rattle.br_tree.specs.MeantRun.{is_wildcard, plain_front, IsAround}
use Rattle.br_tree.specs.Walk.{is_own, is_picked, IsRun}
use Rattle.br_tree.proofs.MatchLaws.{byte_is, byte_of_none, either_way}
use Rattle.br_tree.proofs.PartLaws.{same_front}
use Rattle.br_tree.proofs.RunLaws.{begins_from, begins_to, drop_front}

-- ---- a text after a directory

begins_both : (p d t : List ℕ) → begins_with p d ≡ true → begins_with (drop (length d) p) t ≡ true → begins_with p (d ++ t) ≡ true
begins_both p d t of_d of_t =
    let r = drop (length t) (drop (length d) p) in
    begins_from p (d ++ t) r (begins_to p d of_d ∙ ap (λ s. d ++ s) (begins_to (drop (length d) p) t of_t) ∙ sym (append_assoc d t r))

begins_split : (p d t : List ℕ) → begins_with p (d ++ t) ≡ true → p ≡ d ++ (t ++ drop (length (d ++ t)) p)
begins_split p d t e = begins_to p (d ++ t) e ∙ append_assoc d t (drop (length (d ++ t)) p)

pub begins_shorter : (p d t : List ℕ) → begins_with p (d ++ t) ≡ true → begins_with p d ≡ true
begins_shorter p d t e = begins_from p d (t ++ drop (length (d ++ t)) p) (begins_split p d t e)

begins_rest : (p d t : List ℕ) → begins_with p (d ++ t) ≡ true → begins_with (drop (length d) p) t ≡ true
begins_rest p d t e =
    let r = drop (length (d ++ t)) p in
    begins_from (drop (length d) p) t r (ap (drop (length d)) (begins_split p d t e) ∙ drop_front d (t ++ r))

-- a path begins with both if it begins with the first, and its rest with the second
pub begins_in_parts : (p d t : List ℕ) → (begins_with p d && begins_with (drop (length d) p) t) ≡ begins_with p (d ++ t)
begins_in_parts p d t =
    either_way (begins_with p d && begins_with (drop (length d) p) t) (begins_with p (d ++ t))
    (λ e. let parts = and_parts (begins_with p d) (begins_with (drop (length d) p) t) e in begins_both p d t parts.0 parts.1)
    (λ e. and_from (begins_with p d) (begins_with (drop (length d) p) t) (begins_shorter p d t e) (begins_rest p d t e))

-- a path that begins with the directory is compared by its rest
pub compared_within : (p d t : List ℕ) → begins_with p d ≡ true → rank_cmp (drop (length d) p) t ≡ rank_cmp p (d ++ t)
compared_within p d t e = sym (same_front d (drop (length d) p) t) ∙ ap (λ q. rank_cmp q (d ++ t)) (sym (begins_to p d e))

-- another path by the directory
pub compared_outside : (p d t : List ℕ) → begins_with p d ≡ false → rank_cmp p d ≡ rank_cmp p (d ++ t)
compared_outside p [] t e = absurd cc
compared_outside [] (c ∷ d) t e = refl
compared_outside (x ∷ p) (c ∷ d) t e = go (nat_cmp x c) refl (λ f. compared_outside p d t f)
  where
    go : (o : Ordering) → nat_cmp x c ≡ o → (begins_with p d ≡ false → rank_cmp p d ≡ rank_cmp p (d ++ t)) → ordering_then o (rank_cmp p d) ≡ ordering_then o (rank_cmp p (d ++ t))
    go Less is rest = refl
    go Equal is rest = rest (sym (ap (λ b. b && begins_with p d) (eq-eqb c x (sym (nat_cmp-IsAntisymmetric x c is)))) ∙ e)
    go Greater is rest = refl

-- ---- the front of a pattern

wild_parts : (p : ℕ) → is_wildcard p ≡ false → (eqb p 42 ≡ false) × (eqb p 63 ≡ false)
wild_parts p e = go (eqb p 42) (eqb p 63) e
  where
    go : (a b : Bool) → (a || b) ≡ false → (a ≡ false) × (b ≡ false)
    go true b h = absurd cc
    go false true h = absurd cc
    go false false h = (refl, refl)

-- what a pattern matches begins with its plain front
pub front_begins : (pattern name : List ℕ) → matches pattern name ≡ true → begins_with name (plain_front pattern) ≡ true
front_begins [] name e = refl
front_begins (p ∷ ps) name e = go (is_wildcard p) refl (λ cs f. front_begins ps cs f)
  where
    Later : Type 0
    Later = (cs : List ℕ) → matches ps cs ≡ true → begins_with cs (plain_front ps) ≡ true

    len : ℕ
    len = prefix_len (λ c. not (is_wildcard c)) ps

    rest : (name : List ℕ) → matches (p ∷ ps) name ≡ true → is_wildcard p ≡ false → Later → begins_with name (p ∷ plain_front ps) ≡ true
    rest [] h is later = absurd (both_ways (matches (p ∷ ps) []) (byte_of_none p ps (wild_parts p is).0) h)
    rest (c ∷ cs) h is later =
        let plain = wild_parts p is in
        let parts = and_parts (eqb p 63 || eqb p c) (matches ps cs) (sym (byte_is p ps c cs plain.0) ∙ h) in
        and_from (eqb p c) (begins_with cs (plain_front ps)) (sym (ap (λ b. b || eqb p c) plain.1) ∙ parts.0) (later cs parts.1)

    go : (b : Bool) → is_wildcard p ≡ b → Later → begins_with name (plain_front (p ∷ ps)) ≡ true
    go true is later = ap (λ b. begins_with name (take (cond (not b) (1 + len) 0) (p ∷ ps))) is
    go false is later = ap (λ b. begins_with name (take (cond (not b) (1 + len) 0) (p ∷ ps))) is ∙ (let one : 1 + len ≡ suc len = omega arith in ap (λ n. begins_with name (take n (p ∷ ps))) one) ∙ rest name e is later

begins_taken : (m : ℕ) (xs t : List ℕ) → begins_with (take m xs) t ≡ true → begins_with xs t ≡ true
begins_taken m xs t e =
    let r = drop (length t) (take m xs) in
    begins_from xs t (r ++ drop m xs) (sym (take-append-drop m xs) ∙ ap (λ ys. ys ++ drop m xs) (begins_to (take m xs) t e) ∙ append_assoc t r (drop m xs))

begins_bare : (name t : List ℕ) → begins_with (bare name) t ≡ true → begins_with name t ≡ true
begins_bare name t e = go (is_directory name) e
  where
    go : (b : Bool) → begins_with (cond b (take (length name - 1) name) name) t ≡ true → begins_with name t ≡ true
    go true h = begins_taken (length name - 1) name t h
    go false h = h

-- a path that does not begin with the directory and the front is not meant
pub not_meant : (deep : Bool) (d pattern p : List ℕ) → begins_with p (d ++ plain_front pattern) ≡ false → is_picked deep d pattern p ≡ false
not_meant deep d pattern p none = false_from_ne_true (is_picked deep d pattern p) (λ e.
    let fits : Bool = matches pattern (bare (child_of d p)) in
    let parts = and_parts (is_below d p) ((deep || is_own d p) && fits) e in
    let of_d = (and_parts (begins_with p d) (not (bytes_eq p d)) parts.0).0 in
    let of_front = front_begins pattern (bare (child_of d p)) (and_parts (deep || is_own d p) fits parts.1).1 in
    let of_rest = begins_taken (prefix_len (λ c. not (is_slash c)) (drop (length d) p) + 1) (drop (length d) p) (plain_front pattern) (begins_bare (child_of d p) (plain_front pattern) of_front) in
    both_ways (begins_with p (d ++ plain_front pattern)) none (begins_both p d (plain_front pattern) of_d of_rest))

-- the run of the paths that begin so
pub run_is_around : (d pattern : List ℕ) (paths : List (List ℕ)) (first last : ℕ) → IsRun (λ p. begins_with p (d ++ plain_front pattern)) paths first last
    → IsAround d pattern paths first last
run_is_around d pattern paths first last run = record {
  ordered = run.ordered;
  bound = run.bound;
  before = λ deep. all_weaker none (λ p. is_picked deep d pattern p ≡ false) (not_meant deep d pattern) (take first paths) run.before;
  within = all_weaker (λ p. begins_with p (d ++ plain_front pattern) ≡ true) (λ p. begins_with p d ≡ true) (λ p. begins_shorter p d (plain_front pattern)) (take (last - first) (drop first paths)) run.within;
  after = λ deep. all_weaker none (λ p. is_picked deep d pattern p ≡ false) (not_meant deep d pattern) (drop last paths) run.after;
}
  where
    none : List ℕ → Type 0
    none p = begins_with p (d ++ plain_front pattern) ≡ false
