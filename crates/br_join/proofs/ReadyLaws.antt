-- The pieces that a joiner waits for: it knows them whichever are closed, and is ready if all are.
use Rattle.std.proofs.Common.{◌≡◌, ℕ, Bool, true, false, cond, List, [], ◌∷◌, ◌++◌, map, Option, Some, None, refl, ap, sym, subst, ◌∙◌}
use Rattle.std.proofs.lemmas.Bool.{both_ways}
use Rattle.std.specs.Prelude.{◌||◌, ◌==◌, Contains, is_some}
use Rattle.std.specs.List.{list_all, list_any}
use Rattle.std.specs.Ordering.{nat_cmp, eq_by_cmp, is_eq}
use Rattle.std.specs.declared.cmp.Ordering.{Ordering}
use Rattle.std.specs.declared.cmp.Ordering.TheVariants.{Less, Equal, Greater}
use Rattle.std.specs.Cmp.{nat_cmp_total, tied_itself, unsigned_tied}
use Rattle.std.specs.FinMap.{FinMap, find, put, get, insert, entries, from_entries, entries-insert, get-insert, get-from_entries, same_map, nat_cmp-IsAntisymmetric}
use Rattle.std.specs.FinMap.Entries.{by_order}
use Rattle.br_model.specs.Order.{put_all}
use Rattle.br_model.specs.Meaning.{Piece}
use Rattle.br_model.specs.Restored.{Names}
use Rattle.br_model.proofs.ListLaws.{first_in, later_in, some_passes}
use Rattle.br_model.proofs.OrderLaws.{put_all-entries}
use Rattle.br_join.specs.Joining.{Joining, IsMadeFor, begun, closed_each, is_ready, with_closed}

-- pieces by number, and which of them are closed
abbrev pub Pieces : Type 0
Pieces = FinMap nat_cmp Bool

-- the pieces, all of them open or all of them closed
abbrev pub all_pieces : Bool → List Piece → Pieces
all_pieces b ps = from_entries (map (λ (p : Piece). (p.number, b)) ps)

-- the pieces after some were closed, one after the other
abbrev pub closed : Pieces → List Piece → Pieces
closed all [] = all
closed all (p ∷ ps) = closed (insert all p.number true) ps

-- whether a number is one of the pieces'
abbrev is_number : ℕ → List Piece → Bool
is_number k ps = list_any (λ (p : Piece). eq_by_cmp nat_cmp k p.number) ps

either_way : (a b : Bool) (x y : Option Bool) → cond b x (cond a x y) ≡ cond (a || b) x y
either_way true true x y = refl
either_way true false x y = refl
either_way false b x y = refl

twice : (a : Bool) (x y z : Option Bool) → cond a x (cond a y z) ≡ cond a x z
twice true x y z = refl
twice false x y z = refl

get_closed : (all : Pieces) (ps : List Piece) (k : ℕ) → get (closed all ps) k ≡ cond (is_number k ps) (Some true) (get all k)
get_closed all [] k = refl
get_closed all (p ∷ ps) k =
    get_closed (insert all p.number true) ps k
    ∙ ap (cond (is_number k ps) (Some true)) (get-insert nat_cmp_total all p.number true k)
    ∙ either_way (eq_by_cmp nat_cmp k p.number) (is_number k ps) (Some true) (get all k)

get_all : (b : Bool) (ps : List Piece) (k : ℕ) → get (all_pieces b ps) k ≡ cond (is_number k ps) (Some b) None
get_all b ps k = get-from_entries nat_cmp_total (map (λ (p : Piece). (p.number, b)) ps) k ∙ found ps
  where
    found : (qs : List Piece) → find nat_cmp k (map (λ (p : Piece). (p.number, b)) qs) ≡ cond (is_number k qs) (Some b) None
    found [] = refl
    found (q ∷ qs) = ap (cond (eq_by_cmp nat_cmp k q.number) (Some b)) (found qs) ∙ joined (eq_by_cmp nat_cmp k q.number) (is_number k qs)
      where
        joined : (a c : Bool) → cond a (Some b) (cond c (Some b) None) ≡ cond (a || c) (Some b) None
        joined true c = refl
        joined false c = refl

all_closed : (ps : List Piece) → closed (all_pieces false ps) ps ≡ all_pieces true ps
all_closed ps =
    same_map nat_cmp_total nat_cmp-IsAntisymmetric (closed (all_pieces false ps) ps) (all_pieces true ps)
    (λ k. get_closed (all_pieces false ps) ps k ∙ ap (cond (is_number k ps) (Some true)) (get_all false ps k)
    ∙ twice (is_number k ps) (Some true) (Some false) None ∙ sym (get_all true ps k))

put_true : (k : ℕ) (es : List (ℕ × Bool)) → list_all (λ (e : ℕ × Bool). e.1) es ≡ true → list_all (λ (e : ℕ × Bool). e.1) (put nat_cmp k true es) ≡ true
put_true k [] h = refl
put_true k ((n, true) ∷ es) h = go (nat_cmp k n) (put_true k es h)
  where
    go : (o : Ordering) → list_all (λ (e : ℕ × Bool). e.1) (put nat_cmp k true es) ≡ true
        → list_all (λ (e : ℕ × Bool). e.1) (by_order o ((k, true) ∷ (n, true) ∷ es) ((n, true) ∷ es) ((n, true) ∷ put nat_cmp k true es)) ≡ true
    go Less r = h
    go Equal r = h
    go Greater r = r
put_true k ((n, false) ∷ es) h = absurd cc

all_true : (ps : List Piece) → list_all (λ (e : ℕ × Bool). e.1) (entries (all_pieces true ps)) ≡ true
unfolding put_all
all_true [] = ap (list_all (λ (e : ℕ × Bool). e.1)) (sym (put_all-entries nat_cmp_total []))
all_true (p ∷ ps) =
    ap (list_all (λ (e : ℕ × Bool). e.1)) (entries-insert nat_cmp_total (all_pieces true ps) p.number true)
    ∙ put_true p.number (entries (all_pieces true ps)) (all_true ps)

-- ---- a joiner that is made for some pieces

-- a number is one of the pieces', by the one test and by the other
numbers_are : (n : ℕ) (ps : List Piece) → is_number n ps ≡ list_any (λ (p : Piece). n == p.number) ps
numbers_are n ps = λ t. list_any (λ (p : Piece). unsigned_tied n p.number t) ps

-- what a joiner knows at first are its pieces
pub begun_is_made : (pieces : List Piece) (names : Option Names) → IsMadeFor pieces (begun pieces names).pieces
begun_is_made pieces names n = ap is_some (get_all false pieces n) ∙ known (is_number n pieces) ∙ numbers_are n pieces
  where
    known : (b : Bool) → is_some (cond b (Some false) None) ≡ b
    known true = refl
    known false = refl

none_is_not_some : (o : Option Bool) → is_some o ≡ true → o ≡ None → ⊥
none_is_not_some None is none = absurd cc
none_is_not_some (Some b) is none = absurd cc

is_known : (pieces : List Piece) (known : Pieces) (p : Piece) → IsMadeFor pieces known → Contains pieces p → is_some (get known p.number) ≡ true
is_known pieces known p made among =
    made p.number ∙ sym (numbers_are p.number pieces)
    ∙ some_passes (λ (q : Piece). eq_by_cmp nat_cmp p.number q.number) pieces p among (ap is_eq (tied_itself nat_cmp_total p.number))

-- it knows each of its pieces
pub knows_piece : (pieces : List Piece) (known : Pieces) (p : Piece) → IsMadeFor pieces known → Contains pieces p → get known p.number ≡ None → ⊥
knows_piece pieces known p made among none = none_is_not_some (get known p.number) (is_known pieces known p made among) none

-- it is made for the same pieces after one of them is closed
pub closed_is_made : (pieces : List Piece) (known : Pieces) (p : Piece) → IsMadeFor pieces known → Contains pieces p → IsMadeFor pieces (insert known p.number true)
closed_is_made pieces known p made among n =
    ap is_some (get-insert nat_cmp_total known p.number true n) ∙ go (eq_by_cmp nat_cmp n p.number) refl
  where
    go : (b : Bool) → eq_by_cmp nat_cmp n p.number ≡ b → is_some (cond b (Some true) (get known n)) ≡ list_any (λ (q : Piece). n == q.number) pieces
    go true e = sym (some_passes (λ (q : Piece). eq_by_cmp nat_cmp n q.number) pieces p among e) ∙ numbers_are n pieces
    go false e = made n

-- and after some of them are
pub all_closed_is_made : (pieces : List Piece) (known : Pieces) (ps : List Piece) → IsMadeFor pieces known → ((p : Piece) → Contains ps p → Contains pieces p)
    → IsMadeFor pieces (closed known ps)
all_closed_is_made pieces known [] made among = made
all_closed_is_made pieces known (p ∷ ps) made among =
    all_closed_is_made pieces (insert known p.number true) ps (closed_is_made pieces known p made (among p (first_in p ps p refl))) (λ q inside. among q (later_in p ps q inside))

-- when each of its pieces was closed, it is ready
pub made_is_ready : (pieces : List Piece) (known : Pieces) → IsMadeFor pieces known → list_all (λ (e : ℕ × Bool). e.1) (entries (closed known pieces)) ≡ true
made_is_ready pieces known made =
    ap (λ m. list_all (λ (e : ℕ × Bool). e.1) (entries m))
    (same_map nat_cmp_total nat_cmp-IsAntisymmetric (closed known pieces) (all_pieces true pieces) (λ k.
    get_closed known pieces k ∙ go k (is_number k pieces) refl (get known k) refl ∙ sym (get_all true pieces k)))
    ∙ all_true pieces
  where
    go : (k : ℕ) (b : Bool) → is_number k pieces ≡ b → (o : Option Bool) → get known k ≡ o → cond b (Some true) o ≡ cond b (Some true) None
    go k true e o is = refl
    go k false e None is = refl
    go k false e (Some x) is =
        let some : true ≡ is_number k pieces = ap is_some (sym is) ∙ made k ∙ sym (numbers_are k pieces) in
        absurd (both_ways (is_number k pieces) e (sym some))

-- ---- a joiner whose pieces are closed one after the other

pub each_closed_pieces : (j : Joining) (ps : List Piece) → (closed_each j ps).pieces ≡ closed j.pieces ps
each_closed_pieces j [] = refl
each_closed_pieces j (p ∷ ps) = each_closed_pieces (with_closed j p.number) ps

pub each_closed_hits : (j : Joining) (ps : List Piece) → (closed_each j ps).hits ≡ j.hits
each_closed_hits j [] = refl
each_closed_hits j (p ∷ ps) = each_closed_hits (with_closed j p.number) ps

pub each_closed_names : (j : Joining) (ps : List Piece) → (closed_each j ps).names ≡ j.names
each_closed_names j [] = refl
each_closed_names j (p ∷ ps) = each_closed_names (with_closed j p.number) ps

pub each_closed_more : (j : Joining) (ps : List Piece) (p : Piece) → closed_each j (ps ++ p ∷ []) ≡ with_closed (closed_each j ps) p.number
each_closed_more j [] p = refl
each_closed_more j (q ∷ ps) p = each_closed_more (with_closed j q.number) ps p

-- it is made for its pieces after some of them are closed
pub each_closed_is_made : (pieces : List Piece) (j : Joining) (ps : List Piece) → IsMadeFor pieces j.pieces → ((p : Piece) → Contains ps p → Contains pieces p)
    → IsMadeFor pieces (closed_each j ps).pieces
each_closed_is_made pieces j ps made among = subst (IsMadeFor pieces) (sym (each_closed_pieces j ps)) (all_closed_is_made pieces j.pieces ps made among)

-- and it is ready after all of them are
pub each_closed_is_ready : (pieces : List Piece) (j : Joining) → IsMadeFor pieces j.pieces → is_ready (closed_each j pieces) ≡ true
each_closed_is_ready pieces j made =
    ap (λ m. list_all (λ (e : ℕ × Bool). e.1) (entries m)) (each_closed_pieces j pieces) ∙ made_is_ready pieces j.pieces made
