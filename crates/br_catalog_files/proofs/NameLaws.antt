-- NameTable are found by their numbers.
use Rattle.std.proofs.Common.{◌≡◌, ◌≢◌, inl, inr, ℕ, ℤ, pos, zero, suc, ◌<◌, ◌≤◌, Bool, true, false, cond, List, [], ◌∷◌, ◌++◌, map, length, find, unwrap_or, Option, Some, Result, Ok, Err, Less, Equal, Greater, Ordering, HoldsAt, get_or, is_ok, refl, sym, ap, subst, arith, ◌∙◌}
use Rattle.std.specs.List.{AllByRecursion}
use Rattle.std.specs.List.Sorted.{IsBinarySearchResult, IsNonDecreasingBy, IsPartitionPoint}
use Rattle.std.specs.Ordering.{int_cmp, ordering_index}
use Rattle.std.proofs.lemmas.Bool.{cases_lt}
use Rattle.std.proofs.lemmas.Cmp.{int_cmp_total, int_ranked, tied_itself}
use Rattle.sqlite.specs.declared.types.Value.{Value}
use Rattle.sqlite.specs.declared.types.Value.TheVariants.{Int, Null}
use Rattle.sqlite.specs.Order.{Row, column, value_cmp}
use Rattle.sqlite.specs.Tree.{IsTable, rowid}
use Rattle.sqlite_trees.specs.Tree.{IsAscending}
use Rattle.sqlite_value.proofs.OrderLemmas.{value_cmp-Int}
use Rattle.sqlite_rules.specs.Lists.{Has}
use Rattle.br_store.specs.Held.{is_named, name_at, named}
use Rattle.br_catalog_files.specs.OldNames.{name_of}
use Rattle.br_store.proofs.Joined.{find_row}
use Rattle.br_store.proofs.Values.{tied}

pub map_push : {X Y : Type 0} (f : X → Y) (xs : List X) (x : X) → map f (xs ++ x ∷ []) ≡ map f xs ++ f x ∷ []
map_push f [] x = refl
map_push f (y ∷ xs) x = ap (λ l. f y ∷ l) (map_push f xs x)

-- the row at the place of a number has it, and its name is at that place
abbrev IsRowAt : List Row → ℕ → ℤ → Row → Type 0
IsRowAt rows at id row = Has rows row × (rowid row ≡ Int id) × (column (map name_of rows) at ≡ name_of row)

no_number : (id : ℤ) → ((d : ℤ) → d ≡ id) → ⊥
no_number id all = let e : pos 0 ≡ pos 1 = all (pos 0) ∙ sym (all (pos 1)) in absurd cc

row_at : (rows : List Row) (ids : List ℤ) (at : ℕ) (id : ℤ) → map rowid rows ≡ map Int ids → HoldsAt (λ n. n ≡ id) ids at → (row : Row) × IsRowAt rows at id row
row_at [] [] at id same is = absurd (no_number id is)
row_at [] (i ∷ ids) at id same is = absurd cc
row_at (r ∷ rows) [] at id same is = absurd cc
row_at (r ∷ rows) (i ∷ ids) zero id same is =
    let first : rowid r ≡ Int i = cc in
    (r, (inl refl, first ∙ ap Int (is id), refl))
row_at (r ∷ rows) (i ∷ ids) (suc at) id same is =
    let rest : map rowid rows ≡ map Int ids = cc in
    let it = row_at rows ids at id rest is in
    (it.0, (inr it.1.0, it.1.1, it.1.2))

-- the name at the place of a number is that of the row with the number
pub named_at : (rows : List Row) (ids : List ℤ) (names : List Value) (at : ℕ) (id : ℤ) → map rowid rows ≡ map Int ids → map name_of rows ≡ names → IsTable rows → HoldsAt (λ n. n ≡ id) ids at
    → column names at ≡ name_at rows (Int id)
named_at rows ids names at id same called up is =
    let it = row_at rows ids at id same is in
    let found : named rows (Int id) ≡ it.0 = ap (λ (o : Option Row). unwrap_or o []) (find_row rows it.0 id up it.1.0 it.1.1) in
    ap (λ (l : List Value). column l at) (sym called) ∙ it.1.2 ∙ sym (ap name_of found)

-- ---- a number that has a name is found

-- a name is that of a row
named_row : (rows : List Row) (v : Value) → name_at rows v ≢ Null → (row : Row) × Has rows row × (is_named v row ≡ true)
named_row [] v some = absurd (some refl)
named_row (r ∷ rows) v some = go (is_named v r) refl some (named_row rows v)
  where
    go : (b : Bool) → is_named v r ≡ b → column (unwrap_or (cond b (Some r) (find (is_named v) rows)) []) 2 ≢ Null → (name_at rows v ≢ Null → (row : Row) × Has rows row × (is_named v row ≡ true))
        → (row : Row) × Has (r ∷ rows) row × (is_named v row ≡ true)
    go true e some more = (r, inl refl, e)
    go false e some more = let it = more some in (it.0, inr it.1, it.2)

above : (i : ℤ) (rows : List Row) (ids : List ℤ) → map rowid rows ≡ map Int ids → AllByRecursion (λ b. value_cmp (Int i) (rowid b) ≡ Less) rows → AllByRecursion (λ j. int_cmp i j ≡ Less) ids
above i [] [] same all = tt
above i [] (j ∷ ids) same all = absurd cc
above i (r ∷ rows) [] same all = absurd cc
above i (r ∷ rows) (j ∷ ids) same all =
    let first : rowid r ≡ Int j = cc in
    let rest : map rowid rows ≡ map Int ids = cc in
    (sym (value_cmp-Int i j) ∙ ap (value_cmp (Int i)) (sym first) ∙ all.0, above i rows ids rest all.1)

abbrev AreUp : List ℤ → Type 0
AreUp ids = IsAscending (λ (a b : ℤ). int_cmp a b ≡ Less) ids

are_up : (rows : List Row) (ids : List ℤ) → map rowid rows ≡ map Int ids → IsTable rows → AreUp ids
are_up [] [] same up = tt
are_up [] (i ∷ ids) same up = absurd cc
are_up (r ∷ rows) [] same up = absurd cc
are_up (r ∷ rows) (i ∷ ids) same up =
    let first : rowid r ≡ Int i = cc in
    let rest : map rowid rows ≡ map Int ids = cc in
    (above i rows ids rest (subst (λ (v : Value). AllByRecursion (λ b. value_cmp v (rowid b) ≡ Less) rows) first up.0), are_up rows ids rest up.1)

-- the number of a row is at a place
place_of : (rows : List Row) (ids : List ℤ) (id : ℤ) (row : Row) → map rowid rows ≡ map Int ids → Has rows row → value_cmp (rowid row) (Int id) ≡ Equal
    → (k : ℕ) × (k < length ids) × HoldsAt (λ n. n ≡ id) ids k
place_of [] ids id row same has tie = absurd has
place_of (r ∷ rows) [] id row same has tie = absurd cc
place_of (r ∷ rows) (i ∷ ids) id row same (inl e) tie =
    let first : rowid r ≡ Int i = cc in
    let tied_ids : int_cmp i id ≡ Equal = sym (value_cmp-Int i id) ∙ ap (λ (v : Value). value_cmp v (Int id)) (sym first ∙ ap rowid (sym e)) ∙ tie in
    (0, omega arith, λ d. int_ranked i id Equal (sym tied_ids))
place_of (r ∷ rows) (i ∷ ids) id row same (inr there) tie =
    let rest : map rowid rows ≡ map Int ids = cc in
    let it = place_of rows ids id row rest there tie in
    (suc it.0, omega (arith, it.1), it.2)

lower : (x y id : ℤ) → int_cmp x y ≡ Less → ordering_index (int_cmp x id) ≤ ordering_index (int_cmp y id)
lower x y id lt = go (int_cmp y id) (int_cmp x id) refl refl
  where
    go : (p o : Ordering) → int_cmp y id ≡ p → int_cmp x id ≡ o → ordering_index o ≤ ordering_index p
    go Less Less e f = omega arith
    go Less Equal e f = absurd (let less = sym (int_cmp_total.trans x y id lt e) ∙ f in cc)
    go Less Greater e f = absurd (let less = sym (int_cmp_total.trans x y id lt e) ∙ f in cc)
    go Equal Less e f = omega arith
    go Equal Equal e f = omega arith
    go Equal Greater e f = absurd (let less = sym lt ∙ ap (int_cmp x) (int_ranked y id Equal (sym e)) ∙ f in cc)
    go Greater Less e f = omega arith
    go Greater Equal e f = omega arith
    go Greater Greater e f = omega arith

each_above : (x id : ℤ) (ids : List ℤ) → AllByRecursion (λ j. int_cmp x j ≡ Less) ids → (j : ℕ) (d : ℤ) → j < length ids → ordering_index (int_cmp x id) ≤ ordering_index (int_cmp (get_or ids j d) id)
each_above x id [] all j d lt = absurd (omega (arith, lt))
each_above x id (y ∷ ids) all zero d lt = lower x y id all.0
each_above x id (y ∷ ids) all (suc j) d lt = each_above x id ids all.1 j d (omega (arith, lt))

rises : (ids : List ℤ) (id : ℤ) → AreUp ids → IsNonDecreasingBy (λ y. ordering_index (int_cmp y id)) ids
rises [] id up i j d le lt = absurd (omega (arith, lt))
rises (x ∷ ids) id up zero zero d le lt = omega arith
rises (x ∷ ids) id up zero (suc j) d le lt = each_above x id ids up.0 j d (omega (arith, lt))
rises (x ∷ ids) id up (suc i) zero d le lt = absurd (omega (arith, le))
rises (x ∷ ids) id up (suc i) (suc j) d le lt = rises ids id up.1 i j d (omega (arith, le)) (omega (arith, lt))

-- so a search for a number that has a name finds a place
pub is_found : (rows : List Row) (ids : List ℤ) (id : ℤ) (r : Result ℕ ℕ) → map rowid rows ≡ map Int ids → IsTable rows → name_at rows (Int id) ≢ Null → IsBinarySearchResult (λ y. int_cmp y id) ids r
    → is_ok r ≡ true
is_found rows ids id (Ok i) same up some searched = refl
is_found rows ids id (Err i) same up some searched =
    let row = named_row rows (Int id) some in
    let at = place_of rows ids id row.0 same row.1 (tied (column row.0 0) (Int id) row.2) in
    let parted : IsPartitionPoint (λ y. int_cmp y id ≡ Less) (λ y. int_cmp y id ≡ Greater) ids i = searched (rises ids id (are_up rows ids same up)) in
    let here : int_cmp (get_or ids at.0 id) id ≡ Equal = ap (λ (n : ℤ). int_cmp n id) (at.2 id) ∙ tied_itself int_cmp_total id in
    absurd (elim (cases_lt at.0 i) [
      | inl lt ↦ (let bad = sym here ∙ parted.0 at.0 id (omega arith) lt in cc)
      | inr le ↦ (let bad = sym here ∙ parted.1 at.0 id le at.1 in cc)
    ])
