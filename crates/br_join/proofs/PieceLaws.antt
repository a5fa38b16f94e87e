-- Pieces by number: a tree of the code is a finite map.
use Rattle.std.proofs.Common.{◌≡◌, ℕ, ◌+◌, ◌<◌, length, take, get_or, Bool, true, false, cond, ◌&&◌, Option, Some, None, List, [], ◌∷◌, ◌++◌, refl, sym, ap, ◌∙◌}
use Rattle.std.specs.Prelude.{is_some}
use Rattle.std.specs.List.{list_all}
use Rattle.std.proofs.lemmas.List.{take_more}
use Rattle.std.specs.Map.{lookup, values_of}
use Rattle.std.specs.BTreeMap.{BTreeMap, is_at, IsOrdered}
use Rattle.std.specs.Cmp.{nat_cmp_total, eq_by_cmp_equiv}
use Rattle.std.specs.Ordering.{nat_cmp, eq_by_cmp}
use Rattle.std.specs.FinMap.{find, get, insert, entries, from_entries, get-from_entries, get-insert, same_map, nat_cmp-IsAntisymmetric}
use Rattle.br_model.specs.Meaning.{Piece}
use Rattle.br_types.proofs.KeyLaws.{entries_of_sorted}
use Rattle.br_join.specs.Pieces.{as_map, opens}

-- ---- look-ups

find_number : (es : List (ℕ × Bool)) (q : ℕ) → find nat_cmp q es ≡ lookup (is_at (nat_cmp q)) es
find_number [] q = refl
find_number (e ∷ es) q = ap (cond (is_at (nat_cmp q) e.0) (Some e.1)) (find_number es q)

-- what the map has at a number is what the tree has there
pub get_number : (m : BTreeMap ℕ Bool) (q : ℕ) → get (as_map m) q ≡ lookup (is_at (nat_cmp q)) m.entries
get_number m q = get-from_entries nat_cmp_total m.entries q ∙ find_number m.entries q

-- a number that the tree does not have is not in the map
pub not_there : (m : BTreeMap ℕ Bool) (q : ℕ) → is_some (lookup (is_at (nat_cmp q)) m.entries) ≡ false → get (as_map m) q ≡ None
not_there m q h = get_number m q ∙ go (lookup (is_at (nat_cmp q)) m.entries) h
  where
    go : (o : Option Bool) → is_some o ≡ false → o ≡ None
    go None e = refl
    go (Some b) e = absurd cc

-- one that it has is
pub is_there : (m : BTreeMap ℕ Bool) (q : ℕ) → is_some (lookup (is_at (nat_cmp q)) m.entries) ≡ true → get (as_map m) q ≡ None → ⊥
is_there m q h none = let e : is_some (lookup (is_at (nat_cmp q)) m.entries) ≡ false = ap is_some (sym (get_number m q) ∙ none) in absurd cc

-- trees that differ at one number are maps that differ there
pub number_put : (m n : BTreeMap ℕ Bool) (k : ℕ) (v : Bool)
    → ((q : ℕ) → lookup (is_at (nat_cmp q)) n.entries ≡ cond (is_at (nat_cmp k) q) (Some v) (lookup (is_at (nat_cmp q)) m.entries))
    → as_map n ≡ insert (as_map m) k v
number_put m n k v h = same_map nat_cmp_total nat_cmp-IsAntisymmetric (as_map n) (insert (as_map m) k v) (λ q.
    get_number n q ∙ h q ∙ ap (λ b. cond b (Some v) (lookup (is_at (nat_cmp q)) m.entries)) ((eq_by_cmp_equiv nat_cmp_total).symm k q)
    ∙ sym (get-insert nat_cmp_total (as_map m) k v q ∙ ap (cond (eq_by_cmp nat_cmp q k) (Some v)) (get_number m q)))

-- ---- open pieces

swapped : (a b : Bool) (o : Option Bool) → cond a (Some false) (cond b (Some false) o) ≡ cond b (Some false) (cond a (Some false) o)
swapped true true o = refl
swapped true false o = refl
swapped false true o = refl
swapped false false o = refl

find_opened : (ps : List Piece) (p : Piece) (q : ℕ) → find nat_cmp q (opens (ps ++ p ∷ [])) ≡ cond (eq_by_cmp nat_cmp q p.number) (Some false) (find nat_cmp q (opens ps))
find_opened [] p q = refl
find_opened (r ∷ ps) p q =
    ap (cond (eq_by_cmp nat_cmp q r.number) (Some false)) (find_opened ps p q)
    ∙ swapped (eq_by_cmp nat_cmp q r.number) (eq_by_cmp nat_cmp q p.number) (find nat_cmp q (opens ps))

-- one more open piece
pub opened_more : (ps : List Piece) (p : Piece) → from_entries {R = nat_cmp} (opens (ps ++ p ∷ [])) ≡ insert (from_entries (opens ps)) p.number false
opened_more ps p = same_map nat_cmp_total nat_cmp-IsAntisymmetric (from_entries {R = nat_cmp} (opens (ps ++ p ∷ []))) (insert (from_entries (opens ps)) p.number false) (λ q.
    get-from_entries nat_cmp_total (opens (ps ++ p ∷ [])) q ∙ find_opened ps p q
    ∙ sym (get-insert nat_cmp_total (from_entries (opens ps)) p.number false q ∙ ap (cond (eq_by_cmp nat_cmp q p.number) (Some false)) (get-from_entries nat_cmp_total (opens ps) q)))

-- the next piece of a list, opened after those before it
pub opened_step : (m n : BTreeMap ℕ Bool) (ps : List Piece) (i : ℕ) (p : Piece) (k : ℕ) → i < length ps → p ≡ get_or ps i p → k ≡ p.number
    → as_map m ≡ from_entries (opens (take i ps))
    → ((q : ℕ) → lookup (is_at (nat_cmp q)) n.entries ≡ cond (is_at (nat_cmp k) q) (Some false) (lookup (is_at (nat_cmp q)) m.entries))
    → as_map n ≡ from_entries (opens (take (i + 1) ps))
opened_step m n ps i p k lt at number so_far put =
    number_put m n k false put ∙ (λ t. insert (so_far t) (number t) false)
    ∙ sym (ap (λ (qs : List Piece). from_entries (opens qs)) (take_more ps i p lt ∙ ap (λ (q : Piece). take i ps ++ q ∷ []) (sym at)) ∙ opened_more (take i ps) p)

-- ---- all pieces

all_second : (es : List (ℕ × Bool)) → list_all (λ (b : Bool). b) (values_of es) ≡ list_all (λ (p : ℕ × Bool). p.1) es
all_second [] = refl
all_second (e ∷ es) = ap (λ b. e.1 && b) (all_second es)

-- the entries of the map are those of the tree
pub number_entries : (m : BTreeMap ℕ Bool) → IsOrdered nat_cmp m → entries (as_map m) ≡ m.entries
number_entries m h = entries_of_sorted nat_cmp_total m.entries h

-- all values of the tree are closed exactly if all pieces are
pub all_closed_is : (m : BTreeMap ℕ Bool) → IsOrdered nat_cmp m → list_all (λ (b : Bool). b) (values_of m.entries) ≡ list_all (λ (p : ℕ × Bool). p.1) (entries (as_map m))
all_closed_is m h = all_second m.entries ∙ sym (ap (list_all (λ (p : ℕ × Bool). p.1)) (number_entries m h))
