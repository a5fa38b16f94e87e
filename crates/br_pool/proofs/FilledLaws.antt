-- Which slots are filled, and with what.
use Rattle.std.proofs.Common.{◌≡◌, ℕ, zero, suc, ◌+◌, ◌<◌, Bool, true, false, cond, eqb, eqb-true, List, [], ◌∷◌, ◌++◌, map, length, slice_set, Option, Some, None, Ok, Err, refl, ap, sym, subst, ◌∙◌, arith}
use Rattle.std.specs.Prelude.{⊤, ◌||◌}
use Rattle.std.specs.List.{AllByRecursion, AllZip, list_any}
use Rattle.br_model.specs.Answer.{IsRefusal}
use Rattle.br_model.specs.Volume.{Volume}
use Rattle.br_model.specs.Meaning as model
use Rattle.br_model.specs.Meaning.{Piece, Hit, hits_on}
use Rattle.br_claim.specs.Rule.{times}
use Rattle.br_match.specs.Fault as piece
use Rattle.br_match.specs.declared.hit.Found.{Found}
use Rattle.br_match.specs.declared.fault.PieceFault.{PieceFault}
use Rattle.br_pool.specs.Pool.{hits_lists}
use Rattle.br_pool.specs.Workers.{Answer, is_failure, HoldsAt, EachHolds, numbers_of}
use Rattle.br_pool.specs.Slots.{with_each, AllBelow, Fills, FillsBy, full_of, is_memory}
use Rattle.br_pool.proofs.SlotLaws.{length_set}

-- ---- each filled slot has the answer for its piece

pub none_fills : (is : Piece → Answer → Type 0) (pieces : List Piece) (slots : List (Option Answer)) → length slots ≡ length pieces
    → AllByRecursion (λ (s : Option Answer). s ≡ None) slots → AllZip (FillsBy is) pieces slots
none_fills is [] [] len none = tt
none_fills is [] (s ∷ slots) len none = absurd (omega (arith, len))
none_fills is (p ∷ pieces) [] len none = absurd (omega (arith, len))
none_fills is (p ∷ pieces) (s ∷ slots) len none = (subst (FillsBy is p) (sym none.0) tt, none_fills is pieces slots (omega (arith, len)) none.1)

-- what is weaker holds too
pub fills_so : (is weaker : Piece → Answer → Type 0) → ((p : Piece) (a : Answer) → is p a → weaker p a) → (pieces : List Piece) (slots : List (Option Answer))
    → AllZip (FillsBy is) pieces slots → AllZip (FillsBy weaker) pieces slots
fills_so is weaker so [] [] fills = tt
fills_so is weaker so [] (s ∷ slots) fills = absurd fills
fills_so is weaker so (p ∷ pieces) [] fills = absurd fills
fills_so is weaker so (p ∷ pieces) (None ∷ slots) fills = (tt, fills_so is weaker so pieces slots fills.1)
fills_so is weaker so (p ∷ pieces) (Some a ∷ slots) fills = (so p a fills.0, fills_so is weaker so pieces slots fills.1)

set_fills : (is : Piece → Answer → Type 0) (pieces : List Piece) (slots : List (Option Answer)) (x : ℕ) (a : Answer) → AllZip (FillsBy is) pieces slots
    → HoldsAt is pieces x a → AllZip (FillsBy is) pieces (slice_set slots x (Some a))
set_fills is [] slots x a fills h = absurd h
set_fills is (p ∷ pieces) [] x a fills h = absurd fills
set_fills is (p ∷ pieces) (s ∷ slots) zero a fills h = (h, fills.1)
set_fills is (p ∷ pieces) (s ∷ slots) (suc x) a fills h = (fills.0, set_fills is pieces slots x a fills.1 h)

pub each_fills : (is : Piece → Answer → Type 0) (pieces : List Piece) (slots : List (Option Answer)) (all : List (ℕ × Answer)) → AllZip (FillsBy is) pieces slots
    → EachHolds is pieces all → AllZip (FillsBy is) pieces (with_each slots all)
each_fills is pieces slots [] fills are = fills
each_fills is pieces slots (a ∷ all) fills are = each_fills is pieces (slice_set slots a.0 (Some a.1)) all (set_fills is pieces slots a.0 a.1 fills are.0) are.1

-- ---- the result of the slots

pub numbers_are : (over : List Volume → Type 0) (pieces : List Piece) (founds : List Found) → AllZip (Fills over) pieces (full_of founds)
    → map (λ (f : Found). f.piece) founds ≡ map (λ (p : Piece). p.number) pieces
numbers_are over [] [] fills = refl
numbers_are over [] (f ∷ founds) fills = absurd fills
numbers_are over (p ∷ pieces) [] fills = absurd fills
numbers_are over (p ∷ pieces) (f ∷ founds) fills =
    ap (λ (n : ℕ). n ∷ map (λ (f : Found). f.piece) founds) fills.0.number ∙ ap (λ (l : List ℕ). p.number ∷ l) (numbers_are over pieces founds fills.1)

pub hits_are : (over : List Volume → Type 0) (pieces : List Piece) (founds : List Found) (volumes : List Volume) → over volumes
    → AllZip (Fills over) pieces (full_of founds) → hits_lists volumes pieces ≡ Ok (map (λ (f : Found). f.hits.items) founds)
unfolding hits_lists
hits_are over [] [] volumes stands fills = refl
hits_are over [] (f ∷ founds) volumes stands fills = absurd fills
hits_are over (p ∷ pieces) [] volumes stands fills = absurd fills
hits_are over (p ∷ pieces) (f ∷ founds) volumes stands fills = rw (fills.0.hits volumes stands, hits_are over pieces founds volumes stands fills.1) refl

pub fault_is : (over : List Volume → Type 0) (pieces : List Piece) (front : List Found) (why : PieceFault) (rest : List (Option Answer)) (volumes : List Volume) → over volumes
    → AllZip (Fills over) pieces (full_of front ++ Some (Err why) ∷ rest) → IsRefusal (piece.cause why) (hits_lists volumes pieces)
unfolding hits_lists
fault_is over [] [] why rest volumes stands fills = absurd fills
fault_is over [] (f ∷ front) why rest volumes stands fills = absurd fills
fault_is over (p ∷ pieces) [] why rest volumes stands fills = first (piece.cause why) (fills.0.hits volumes stands)
  where
    first : (o : Option model.PieceFault) → IsRefusal o (hits_on volumes p) → IsRefusal o (hits_lists volumes (p ∷ pieces))
    first None h = tt
    first (Some r) h = rw h refl
fault_is over (p ∷ pieces) (f ∷ front) why rest volumes stands fills =
    later (piece.cause why) (fills.0.hits volumes stands) (fault_is over pieces front why rest volumes stands fills.1)
  where
    later : (o : Option model.PieceFault) → hits_on volumes p ≡ Ok f.hits.items → IsRefusal o (hits_lists volumes pieces) → IsRefusal o (hits_lists volumes (p ∷ pieces))
    later None e h = tt
    later (Some r) e h = rw (e, h) refl

-- no drive failed in it
pub fault_sound : (is : Piece → Answer → Type 0) → ((p : Piece) (a : Answer) → is p a → is_failure a ≡ false) → (pieces : List Piece) (front : List Found) (why : PieceFault) (rest : List (Option Answer))
    → AllZip (FillsBy is) pieces (full_of front ++ Some (Err why) ∷ rest) → is_failure (Err why) ≡ false
fault_sound is sound [] [] why rest fills = absurd fills
fault_sound is sound [] (f ∷ front) why rest fills = absurd fills
fault_sound is sound (p ∷ pieces) [] why rest fills = sound p (Err why) fills.0
fault_sound is sound (p ∷ pieces) (f ∷ front) why rest fills = fault_sound is sound pieces front why rest fills.1

-- nor did memory run out
pub fault_no_memory : (front : List Found) (why : PieceFault) (rest : List (Option Answer)) → list_any is_memory (full_of front ++ Some (Err why) ∷ rest) ≡ false
    → is_memory (Some (Err why)) ≡ false
fault_no_memory [] why rest none = first (is_memory (Some (Err why))) (list_any is_memory rest) none
  where
    first : (a b : Bool) → (a || b) ≡ false → a ≡ false
    first true b e = absurd cc
    first false b e = refl
fault_no_memory (f ∷ front) why rest none = fault_no_memory front why rest none

-- ---- slots that are filled stay so

abbrev pub FilledAt : List (Option Answer) → ℕ → Type 0
FilledAt [] x = ⊥
FilledAt (None ∷ slots) zero = ⊥
FilledAt (Some a ∷ slots) zero = ⊤
FilledAt (s ∷ slots) (suc x) = FilledAt slots x

set_keeps : (slots : List (Option Answer)) (x y : ℕ) (a : Answer) → FilledAt slots y → FilledAt (slice_set slots x (Some a)) y
set_keeps [] x y a h = absurd h
set_keeps (s ∷ slots) zero zero a h = tt
set_keeps (None ∷ slots) zero (suc y) a h = h
set_keeps (Some b ∷ slots) zero (suc y) a h = h
set_keeps (None ∷ slots) (suc x) zero a h = absurd h
set_keeps (Some b ∷ slots) (suc x) zero a h = tt
set_keeps (None ∷ slots) (suc x) (suc y) a h = set_keeps slots x y a h
set_keeps (Some b ∷ slots) (suc x) (suc y) a h = set_keeps slots x y a h

set_fills_it : (slots : List (Option Answer)) (x : ℕ) (a : Answer) → x < length slots → FilledAt (slice_set slots x (Some a)) x
set_fills_it [] x a low = absurd (omega (arith, low))
set_fills_it (s ∷ slots) zero a low = tt
set_fills_it (None ∷ slots) (suc x) a low = set_fills_it slots x a (omega (arith, low))
set_fills_it (Some b ∷ slots) (suc x) a low = set_fills_it slots x a (omega (arith, low))

pub each_keeps : (slots : List (Option Answer)) (all : List (ℕ × Answer)) (y : ℕ) → FilledAt slots y → FilledAt (with_each slots all) y
each_keeps slots [] y h = h
each_keeps slots (a ∷ all) y h = each_keeps (slice_set slots a.0 (Some a.1)) all y (set_keeps slots a.0 y a.1 h)

below_after : (slots : List (Option Answer)) (x : ℕ) (a : Answer) (all : List (ℕ × Answer)) → AllBelow (length slots) all → AllBelow (length (slice_set slots x (Some a))) all
below_after slots x a all h = subst (λ n. AllBelow n all) (sym (length_set slots x (Some a))) h

pub each_filled : (slots : List (Option Answer)) (all : List (ℕ × Answer)) (x : ℕ) → AllBelow (length slots) all → 0 < times x (numbers_of all) → FilledAt (with_each slots all) x
each_filled slots [] x below some = absurd (omega (arith, some))
each_filled slots (a ∷ all) x below some =
    parted (λ more. each_filled (slice_set slots a.0 (Some a.1)) all x (below_after slots a.0 a.1 all below.1) more) (eqb a.0 x) refl some
  where
    parted : (0 < times x (numbers_of all) → FilledAt (with_each slots (a ∷ all)) x) → (b : Bool) → eqb a.0 x ≡ b → 0 < cond b 1 0 + times x (numbers_of all) → FilledAt (with_each slots (a ∷ all)) x
    parted behind true e more = each_keeps (slice_set slots a.0 (Some a.1)) all x (subst (λ y. FilledAt (slice_set slots a.0 (Some a.1)) y) (eqb-true a.0 x e) (set_fills_it slots a.0 a.1 below.0))
    parted behind false e more = behind (omega (arith, more))
