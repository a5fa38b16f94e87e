-- The run of a file among hits in order: the hits of the set's files one after the other.
use Rattle.std.proofs.Common.{◌≡◌, ℕ, zero, suc, ◌<◌, length, take, drop, get_or, Bool, true, false, List, [], ◌∷◌, refl, sym, ap, ◌∙◌, arith}
use Rattle.std.specs.List.{AllByRecursion, AllWithin}
use Rattle.std.specs.List.Sorted.{IsStrictlySortedBy, IsPartitionedBy}
use Rattle.std.specs.Cmp.{alike_right}
use Rattle.std.specs.Ordering.{ordering_then, ordering_reverse, is_lt, is_le, nat_cmp}
use Rattle.std.specs.declared.cmp.Ordering.{Ordering}
use Rattle.std.specs.declared.cmp.Ordering.TheVariants.{Less, Equal, Greater}
use Rattle.br_model.specs.Name.{FileKey, key_cmp}
use Rattle.br_model.specs.Meaning.{Hit}
use Rattle.br_model.proofs.ListLaws.{all_weaker}
use Rattle.br_types.proofs.KeyLaws.{key_total, key_exact}
use Rattle.br_records.specs.Runs.{hit_order, AreListed}
use Rattle.br_records.proofs.SortLaws.{place, place_cmp_is}
use Rattle.br_model.proofs.OrderLaws.{is_less}

-- ---- lists by place

-- what holds at each place below the i-th holds of the front
pub front_all : {X : Type 0} (P : X → Type 0) (xs : List X) (i : ℕ) → AllWithin P xs 0 i → AllByRecursion P (take i xs)
front_all P xs zero h = tt
front_all P [] (suc i) h = tt
front_all P (x ∷ xs) (suc i) h = (h 0 x (omega arith) (omega arith), front_all P xs i (λ k d low lt. h (suc k) d (omega arith) (omega arith)))

-- what holds at each place from the i-th on holds of the back
pub back_all : {X : Type 0} (P : X → Type 0) (xs : List X) (i : ℕ) → AllWithin P xs i (length xs) → AllByRecursion P (drop i xs)
back_all P [] zero h = tt
back_all P [] (suc i) h = tt
back_all P (x ∷ xs) zero h = (h 0 x (omega arith) (omega arith), back_all P xs zero (λ k d low lt. h (suc k) d (omega arith) (omega arith)))
back_all P (x ∷ xs) (suc i) h = back_all P xs i (λ k d low lt. h (suc k) d (omega arith) (omega arith))

-- what holds of all holds of the front, and of the back
pub take_all : {X : Type 0} (P : X → Type 0) (xs : List X) (i : ℕ) → AllByRecursion P xs → AllByRecursion P (take i xs)
take_all P xs zero h = tt
take_all P [] (suc i) h = tt
take_all P (x ∷ xs) (suc i) h = (h.0, take_all P xs i h.1)

drop_all : {X : Type 0} (P : X → Type 0) (xs : List X) (i : ℕ) → AllByRecursion P xs → AllByRecursion P (drop i xs)
drop_all P xs zero h = h
drop_all P [] (suc i) h = tt
drop_all P (x ∷ xs) (suc i) h = drop_all P xs i h.1

at_index : {X : Type 0} (P : X → Type 0) (xs : List X) (j : ℕ) (d : X) → AllByRecursion P xs → j < length xs → P (get_or xs j d)
at_index P [] j d h lt = absurd (omega arith)
at_index P (x ∷ xs) zero d h lt = h.0
at_index P (x ∷ xs) (suc j) d h lt = at_index P xs j d h.1 (omega arith)

-- ---- hits in order

-- the hits from some place on are in order
pub listed_drop : (xs : List Hit) (i : ℕ) → AreListed xs → AreListed (drop i xs)
unfolding IsStrictlySortedBy
listed_drop xs zero h = h
listed_drop [] (suc i) h = tt
listed_drop (x ∷ xs) (suc i) h = listed_drop xs i h.1

-- a test that holds of each hit before one of which it holds parts hits in order
parts_listed : (p : Hit → Bool) → ((g h : Hit) → hit_order g h ≡ Less → p h ≡ true → p g ≡ true) → (xs : List Hit) → AreListed xs → IsPartitionedBy p xs
unfolding IsStrictlySortedBy
parts_listed p down [] h i j d le lt e = absurd (omega arith)
parts_listed p down (x ∷ xs) h zero zero d le lt e = e
parts_listed p down (x ∷ xs) h zero (suc j) d le lt e = down x (get_or xs j d) (at_index (λ (y : Hit). hit_order x y ≡ Less) xs j d h.0 (omega arith)) e
parts_listed p down (x ∷ xs) h (suc i) zero d le lt e = absurd (omega arith)
parts_listed p down (x ∷ xs) h (suc i) (suc j) d le lt e = parts_listed p down xs h.1 i j d (omega arith) (omega arith) e

-- of two hits in order the file of the one is not after that of the other
first_is_less : (a b : Ordering) → ordering_then a b ≡ Less → is_le a ≡ true
first_is_less Less b e = refl
first_is_less Equal b e = refl
first_is_less Greater b e = absurd cc

keys_in_order : (g h : Hit) → hit_order g h ≡ Less → is_le (key_cmp g.key h.key) ≡ true
keys_in_order g h e =
    first_is_less (key_cmp g.key h.key) (ordering_then (nat_cmp g.spot.group h.spot.group) (ordering_then (nat_cmp g.spot.address h.spot.address) (nat_cmp g.spot.ordinal h.spot.ordinal)))
    (place_cmp_is (place g) (place h) ∙ e)

below_down : (a b k : FileKey) → is_le (key_cmp a b) ≡ true → is_lt (key_cmp b k) ≡ true → is_lt (key_cmp a k) ≡ true
below_down a b k le lt = go (key_cmp a b) refl le (key_cmp b k) refl lt
  where
    go : (r : Ordering) → key_cmp a b ≡ r → is_le r ≡ true → (s : Ordering) → key_cmp b k ≡ s → is_lt s ≡ true → is_lt (key_cmp a k) ≡ true
    go Less is h Less eq t = ap is_lt (key_total.trans a b k is eq)
    go Equal is h Less eq t = ap is_lt (key_total.congr a b k is ∙ eq)
    go Greater is h s eq t = absurd cc
    go r is h Equal eq t = absurd cc
    go r is h Greater eq t = absurd cc

up_to_down : (a b k : FileKey) → is_le (key_cmp a b) ≡ true → is_le (key_cmp b k) ≡ true → is_le (key_cmp a k) ≡ true
up_to_down a b k le lt = go (key_cmp a b) refl le (key_cmp b k) refl lt
  where
    go : (r : Ordering) → key_cmp a b ≡ r → is_le r ≡ true → (s : Ordering) → key_cmp b k ≡ s → is_le s ≡ true → is_le (key_cmp a k) ≡ true
    go Less is h Less eq t = ap is_le (key_total.trans a b k is eq)
    go Less is h Equal eq t = ap is_le (sym (alike_right key_total b k a eq) ∙ is)
    go Equal is h s eq t = ap is_le (key_total.congr a b k is ∙ eq) ∙ t
    go Greater is h s eq t = absurd cc
    go r is h Greater eq t = absurd cc

-- whether the file of a hit is before a file, and whether it is that or before it
abbrev pub is_before_file : FileKey → Hit → Bool
is_before_file key h = is_lt (key_cmp h.key key)

abbrev pub is_up_to_file : FileKey → Hit → Bool
is_up_to_file key h = is_le (key_cmp h.key key)

pub before_parts : (key : FileKey) (xs : List Hit) → AreListed xs → IsPartitionedBy (is_before_file key) xs
before_parts key xs h = parts_listed (is_before_file key) (λ g k e t. below_down g.key k.key key (keys_in_order g k e) t) xs h

pub up_to_parts : (key : FileKey) (xs : List Hit) → AreListed xs → IsPartitionedBy (is_up_to_file key) xs
up_to_parts key xs h = parts_listed (is_up_to_file key) (λ g k e t. up_to_down g.key k.key key (keys_in_order g k e) t) xs h

-- ---- around a file

equal_if : (r : Ordering) → is_lt r ≡ false → is_le r ≡ true → r ≡ Equal
equal_if Less e t = absurd cc
equal_if Equal e t = refl
equal_if Greater e t = absurd cc

greater_if : (r : Ordering) → is_le r ≡ false → r ≡ Greater
greater_if Less e = absurd cc
greater_if Equal e = absurd cc
greater_if Greater e = refl

-- the hits before a file
pub before_run : (key : FileKey) (xs : List Hit) (i : ℕ) → AllWithin (λ (h : Hit). is_before_file key h ≡ true) xs 0 i → AllByRecursion (λ (h : Hit). key_cmp h.key key ≡ Less) (take i xs)
before_run key xs i all =
    all_weaker (λ (h : Hit). is_before_file key h ≡ true) (λ (h : Hit). key_cmp h.key key ≡ Less) (λ h e. is_less (key_cmp h.key key) e) (take i xs) (front_all (λ (h : Hit). is_before_file key h ≡ true) xs i all)

both_all : {X : Type 0} (P Q R : X → Type 0) → ((x : X) → P x → Q x → R x) → (xs : List X) → AllByRecursion P xs → AllByRecursion Q xs → AllByRecursion R xs
both_all P Q R f [] h k = tt
both_all P Q R f (x ∷ xs) h k = (f x h.0 k.0, both_all P Q R f xs h.1 k.1)

-- the hits of it
pub run_of_key : (key : FileKey) (xs : List Hit) (i j : ℕ) → AllWithin (λ (h : Hit). is_before_file key h ≡ false) xs i (length xs)
    → AllWithin (λ (h : Hit). is_up_to_file key h ≡ true) (drop i xs) 0 j → AllByRecursion (λ (h : Hit). h.key ≡ key) (take j (drop i xs))
run_of_key key xs i j low high =
    both_all (λ (h : Hit). is_before_file key h ≡ false) (λ (h : Hit). is_up_to_file key h ≡ true) (λ (h : Hit). h.key ≡ key)
    (λ h e t. key_exact h.key key (equal_if (key_cmp h.key key) e t)) (take j (drop i xs))
    (take_all (λ (h : Hit). is_before_file key h ≡ false) (drop i xs) j (back_all (λ (h : Hit). is_before_file key h ≡ false) xs i low))
    (front_all (λ (h : Hit). is_up_to_file key h ≡ true) (drop i xs) j high)

-- the hits of the files after it
pub behind_run : (key : FileKey) (xs : List Hit) (j : ℕ) → AllWithin (λ (h : Hit). is_up_to_file key h ≡ false) xs j (length xs) → AllByRecursion (λ (h : Hit). key_cmp key h.key ≡ Less) (drop j xs)
behind_run key xs j all =
    all_weaker (λ (h : Hit). is_up_to_file key h ≡ false) (λ (h : Hit). key_cmp key h.key ≡ Less)
    (λ h e. key_total.antisymm key h.key ∙ ap ordering_reverse (greater_if (key_cmp h.key key) e)) (drop j xs) (back_all (λ (h : Hit). is_up_to_file key h ≡ false) xs j all)
