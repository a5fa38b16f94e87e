-- A hard link names an earlier file with bytes, looked up by its number.
use Rattle.std.proofs.Common.{◌≡◌, ℕ, zero, suc, ◌+◌, ◌<◌, ◌≤◌, ◌^◌, Bool, true, false, not, ◌&&◌, ◌||◌, cond, eqb, ltb, eq-eqb, List, [], ◌∷◌, ◌++◌, length, Ok, Err, refl, ap, append_assoc, ℤ, pos, arith}
use Rattle.std.proofs.lemmas.Bool.{ne_eqb, lt-ltb, le-ltb}
use Rattle.std.proofs.lemmas.List.{length-append}
use Rattle.std.specs.Prelude.{◌==◌, negsuc, slice_get}
use Rattle.std.specs.List.{list_all, list_any, enumerate_from}
use Rattle.std.specs.Option.{option_map_or}
use Rattle.br_model.specs.File.{has_bytes}
use Rattle.br_model.specs.Session.{ToSave, is_earlier, links_back, checked_order}
use Rattle.br_session.specs.Order.{names_bytes, are_linked_back}

abbrev with_bytes : ToSave → Bool
with_bytes f = has_bytes f.file.kind

-- the test of the number n below a bound
abbrev is_at : ℕ → ℕ → ℕ × ToSave → Bool
is_at n bound g = g.0 == n && ltb n bound && has_bytes g.1.file.kind

-- no file has a number below the first one
none_below : (n bound k : ℕ) (files : List ToSave) → n < k → list_any (is_at n bound) (enumerate_from k files) ≡ false
none_below n bound k [] lt = refl
none_below n bound k (f ∷ fs) lt =
    let other : eqb k n ≡ false = ne_eqb k n (λ e. omega (arith, e, lt)) in
    rw other (none_below n bound (k + 1) fs (omega arith))

-- none is found at the bound or above
none_above : (n bound k : ℕ) (files : List ToSave) → bound ≤ n → list_any (is_at n bound) (enumerate_from k files) ≡ false
none_above n bound k [] le = refl
none_above n bound k (f ∷ fs) le = and_none (eqb k n) (ltb n bound) (has_bytes f.file.kind) _ (le-ltb n bound le) (none_above n bound (k + 1) fs le)
  where
    and_none : (a b c d : Bool) → b ≡ false → d ≡ false → (a && b && c || d) ≡ false
    and_none true b c d p q = rw (p, q) refl
    and_none false b c d p q = rw q refl

-- below the bound it is looked up among the earlier files
found_at : (n m k bound : ℕ) (front back : List ToSave) → n ≡ k + m → bound ≡ k + length front
    → list_any (is_at n bound) (enumerate_from k (front ++ back)) ≡ option_map_or with_bytes (slice_get front m) false
found_at n m k bound [] back is end = none_above n bound k back (omega (arith, is, end))
found_at n zero k bound (f ∷ front) back is end =
    let same : eqb k n ≡ true = eq-eqb k n (omega (arith, is)) in
    let below : ltb n bound ≡ true = lt-ltb n bound (omega (arith, is, end)) in
    let rest = none_below n bound (k + 1) (front ++ back) (omega (arith, is)) in
    rw (same, below, rest) (or_false (has_bytes f.file.kind))
  where
    or_false : (b : Bool) → (b || false) ≡ b
    or_false true = refl
    or_false false = refl
found_at n (suc m) k bound (f ∷ front) back is end =
    let other : eqb k n ≡ false = ne_eqb k n (λ e. omega (arith, e, is)) in
    rw other (found_at n m (k + 1) bound front back (omega (arith, is)) (omega (arith, end)))

earlier_is : (front back : List ToSave) (z : ℤ) → is_earlier (enumerate_from 1 (front ++ back)) (length front + 1) z ≡ names_bytes front z
earlier_is front back (pos zero) = none_below 0 (length front + 1) 1 (front ++ back) (omega arith)
earlier_is front back (pos (suc n)) = found_at (suc n) n 1 (length front + 1) front back (omega arith) (omega arith)
earlier_is front back (negsuc n) = refl

-- the files after others
linked_from : (front back : List ToSave) → list_all (links_back (enumerate_from 1 (front ++ back))) (enumerate_from (length front + 1) back) ≡ are_linked_back front back
linked_from front [] = refl
linked_from front (f ∷ fs) =
    let first = ap (λ b. not (eqb f.file.kind 1) || b) (earlier_is front (f ∷ fs) f.file.stat.link_index) in
    let whole : (front ++ f ∷ []) ++ fs ≡ front ++ f ∷ fs = append_assoc front (f ∷ []) fs in
    let count : length (front ++ f ∷ []) ≡ length front + 1 = length-append front (f ∷ []) in
    let more = linked_from (front ++ f ∷ []) fs in
    let rest : list_all (links_back (enumerate_from 1 (front ++ f ∷ fs))) (enumerate_from (length front + 1 + 1) fs) ≡ are_linked_back (front ++ f ∷ []) fs = rw (whole, count) at more in
    rw (first, rest) refl

pub order_is : (files : List ToSave) → checked_order files ≡ cond (are_linked_back [] files && ltb (length files) (2 ^ 31)) (Ok files) (Err 16)
unfolding checked_order
order_is files = ap (λ b. cond (b && ltb (length files) (2 ^ 31)) (Ok files) (Err 16)) (linked_from [] files)
