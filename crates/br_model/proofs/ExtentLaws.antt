-- Data records have one list of extents, and extents have one list of bytes.
use Rattle.std.proofs.Common.{◌≡◌, ℕ, zero, suc, ◌+◌, ◌-◌, ◌^◌, ◌<◌, ◌≤◌, Bool, true, false, ◌||◌, cond, ltb, max, List, [], ◌∷◌, ◌++◌, length, get_or, take, drop, replicate, Result, Ok, Err, refl, sym, ap, subst, ◌∙◌, inl, inr, ◌⊎◌, arith}
use Rattle.std.proofs.Math.Nat.{max-eq_right}
use Rattle.std.proofs.lemmas.Bool.{ltb-false, le-ltb, cases_Bool, cases_lt, both_ways, or_parts}
use Rattle.std.proofs.lemmas.List.{length-append, length-replicate, get_or-replicate, get_or_append_left, get_or-append_right, ext_get_or}
use Rattle.std.proofs.lemmas.List.Elements.{All-nil, All-cons}
use Rattle.std.proofs.lemmas.List.Sums.{fold-append}
use Rattle.std.specs.Prelude.{All, Any, fold, slice_index}
use Rattle.std.specs.Int.{w64, from_be_bytes}
use Rattle.br_model.specs.Answer.{◌>>=◌}
use Rattle.br_model.specs.Record.{Record}
use Rattle.br_model.specs.File.{Extent, extent_end, extent_of, extents_from, bytes_from, greatest_end, is_stream, IsExtentOf, AreExtents, ExtentsAreExact, HasByte, IsByteOf, AreBytesOf, BytesAreExact}
use Rattle.br_model.proofs.AnswerLaws.{bind_ok, ok_is, chosen}

-- ---- the extents of records

-- an extent follows the earlier ones
begins_behind : (earlier : List Extent) (r : Record) (e : Extent) → IsExtentOf earlier r e → greatest_end earlier ≤ e.start
begins_behind earlier r e is =
    elim (cases_Bool (is_stream 2 r)) [
      | inl plain ↦ omega (arith, (is.plain plain).0)
      | inr sparse ↦ (is.sparse sparse).2
    ]

-- with one more extent, which follows the others, the greatest end is its end
ends_with : (earlier : List Extent) (e : Extent) → greatest_end earlier ≤ e.start → greatest_end (earlier ++ e ∷ []) ≡ extent_end e
ends_with earlier e le =
    let le_end : greatest_end earlier ≤ extent_end e = omega arith in
    fold-append (λ (n : ℕ) (x : Extent). max n (extent_end x)) 0 earlier (e ∷ []) ∙ max-eq_right le_end

-- the extent of a record, before the file's length is tested
placed : ℕ → Record → Result Extent ℕ
placed end r =
    cond (is_stream 2 r) (Ok (record { start = end; bytes = r.bytes }))
    (cond (ltb (length r.bytes) 8 || ltb (from_be_bytes w64 (take 8 r.bytes)) end) (Err 67) (Ok (record { start = from_be_bytes w64 (take 8 r.bytes); bytes = drop 8 r.bytes })))

-- an extent that ends at the limit or before it, else 68
fitted : ℕ → Extent → Result Extent ℕ
fitted limit e = cond (ltb limit (extent_end e)) (Err 68) (Ok e)

-- an extent is placed, and then held against the limit
is_placed : (end : ℕ) (r : Record) → extent_of end r ≡ (placed end r >>= fitted (2 ^ 30))
unfolding extent_of placed fitted
is_placed end r = refl

-- a refusal is no extent
err_is_not_ok : {P : Type 0} (n : ℕ) (e : Extent) → ◌≡◌ {A = Result Extent ℕ} (Err n) (Ok e) → P
err_is_not_ok n e h = absurd cc

-- an extent as it was read
read_extent : (earlier : List Extent) (r : Record) (e : Extent) → extent_of (greatest_end earlier) r ≡ Ok e → IsExtentOf earlier r e
unfolding placed fitted
read_extent earlier r e read =
    let steps = bind_ok (placed (greatest_end earlier) r) (fitted (2 ^ 30)) e (sym (is_placed (greatest_end earlier) r) ∙ read) in
    elim (chosen (ltb (2 ^ 30) (extent_end steps.0)) (Err 68) (Ok steps.0) (Ok e) steps.2) [
      | inl p ↦ err_is_not_ok 68 e p.1
      | inr p ↦
          let same : steps.0 ≡ e = ok_is steps.0 e p.1 in
          stands (steps.1 ∙ ap (λ (x : Extent). Ok x) same) (subst (λ (x : Extent). extent_end x ≤ 2 ^ 30) same (ltb-false (2 ^ 30) (extent_end steps.0) p.0))
    ]
  where
    address : ℕ
    address = from_be_bytes w64 (take 8 r.bytes)

    stands : placed (greatest_end earlier) r ≡ Ok e → extent_end e ≤ 2 ^ 30 → IsExtentOf earlier r e
    stands at fits =
        elim (chosen (is_stream 2 r) (Ok plain) sparse (Ok e) at) [
          | inl p ↦
              let same : plain ≡ e = ok_is plain e p.1 in
              record { plain = λ _. (sym (ap (λ (x : Extent). x.start) same), sym (ap (λ (x : Extent). x.bytes) same)); sparse = λ other. absurd (both_ways (is_stream 2 r) other p.0); fits = fits }
          | inr p ↦
              elim (chosen (ltb (length r.bytes) 8 || ltb address (greatest_end earlier)) (Err 67) (Ok there) (Ok e) p.1) [
                | inl q ↦ err_is_not_ok 67 e q.1
                | inr q ↦
                    let same : there ≡ e = ok_is there e q.1 in
                    let tests = or_parts (ltb (length r.bytes) 8) (ltb address (greatest_end earlier)) q.0 in
                    let start_is : e.start ≡ address = sym (ap (λ (x : Extent). x.start) same) in
                    record {
                      plain = λ other. absurd (both_ways (is_stream 2 r) p.0 other);
                      sparse = λ _. (ltb-false (length r.bytes) 8 tests.0, start_is, subst (λ (n : ℕ). greatest_end earlier ≤ n) (sym start_is) (ltb-false address (greatest_end earlier) tests.1), sym (ap (λ (x : Extent). x.bytes) same));
                      fits = fits;
                    }
              ]
        ]
      where
        plain : Extent
        plain = record { start = greatest_end earlier; bytes = r.bytes }

        there : Extent
        there = record { start = address; bytes = drop 8 r.bytes }

        sparse : Result Extent ℕ
        sparse = cond (ltb (length r.bytes) 8 || ltb address (greatest_end earlier)) (Err 67) (Ok there)

-- the extent of a record is read
extent_is_read : (earlier : List Extent) (r : Record) (e : Extent) → IsExtentOf earlier r e → extent_of (greatest_end earlier) r ≡ Ok e
unfolding placed fitted
extent_is_read earlier r e is =
    is_placed (greatest_end earlier) r ∙ ap (λ x. x >>= fitted (2 ^ 30)) (stands (is_stream 2 r) refl)
    ∙ ap (λ (b : Bool). cond b (Err 68) (Ok e)) (le-ltb (2 ^ 30) (extent_end e) is.fits)
  where
    same_extent : (s t : ℕ) (xs ys : List ℕ) → s ≡ t → xs ≡ ys → ◌≡◌ {A = Result Extent ℕ} (Ok (record { start = s; bytes = xs })) (Ok (record { start = t; bytes = ys }))
    same_extent s t xs ys e f = rw (e, f) refl

    stands : (b : Bool) → is_stream 2 r ≡ b → placed (greatest_end earlier) r ≡ Ok e
    stands true plain =
        let at = is.plain plain in
        rw plain (same_extent (greatest_end earlier) e.start r.bytes e.bytes (sym at.0) (sym at.1))
    stands false sparse =
        let at = is.sparse sparse in
        let long : ltb (length r.bytes) 8 ≡ false = le-ltb (length r.bytes) 8 at.0 in
        let behind : ltb (from_be_bytes w64 (take 8 r.bytes)) (greatest_end earlier) ≡ false =
        le-ltb (from_be_bytes w64 (take 8 r.bytes)) (greatest_end earlier) (subst (λ (n : ℕ). greatest_end earlier ≤ n) at.1 at.2) in
        rw (sparse, long, behind) (same_extent (from_be_bytes w64 (take 8 r.bytes)) e.start (drop 8 r.bytes) e.bytes (sym at.1) (sym at.3))

-- the extents that records are read as are theirs
read_extents : (earlier : List Extent) (records : List Record) (es : List Extent) → extents_from (greatest_end earlier) records ≡ Ok es → AreExtents earlier records es
unfolding extents_from
read_extents earlier [] [] read = tt
read_extents earlier [] (e ∷ es) read = absurd cc
read_extents earlier (r ∷ rs) es read =
    let one = bind_ok (extent_of (greatest_end earlier) r) (λ e. extents_from (extent_end e) rs >>= λ more. Ok (e ∷ more)) es read in
    let rest = bind_ok (extents_from (extent_end one.0) rs) (λ more. Ok (one.0 ∷ more)) es one.2 in
    let is = read_extent earlier r one.0 one.1 in
    let end = ends_with earlier one.0 (begins_behind earlier r one.0 is) in
    let more = read_extents (earlier ++ one.0 ∷ []) rs rest.0 (ap (λ (n : ℕ). extents_from n rs) end ∙ rest.1) in
    subst (λ (xs : List Extent). AreExtents earlier (r ∷ rs) xs) (ok_is (one.0 ∷ rest.0) es rest.2) (is, more)

-- the extents of records are what they are read as
extents_are_read : (earlier : List Extent) (records : List Record) (es : List Extent) → AreExtents earlier records es → extents_from (greatest_end earlier) records ≡ Ok es
unfolding extents_from
extents_are_read earlier [] [] are = refl
extents_are_read earlier [] (e ∷ es) are = absurd are
extents_are_read earlier (r ∷ rs) [] are = absurd are
extents_are_read earlier (r ∷ rs) (e ∷ es) are =
    let one = extent_is_read earlier r e are.0 in
    let end = ends_with earlier e (begins_behind earlier r e are.0) in
    let more : extents_from (extent_end e) rs ≡ Ok es = ap (λ (n : ℕ). extents_from n rs) (sym end) ∙ extents_are_read (earlier ++ e ∷ []) rs es are.1 in
    rw (one, more) refl

pub extents_are_exact_lem : ExtentsAreExact
extents_are_exact_lem records extents = (read_extents [] records extents, extents_are_read [] records extents)

-- ---- the bytes of extents

-- the extents follow one another, from a place on
abbrev StandBehind : ℕ → List Extent → Type 0
StandBehind at [] = Unit {0}
StandBehind at (e ∷ es) = (at ≤ e.start) × StandBehind (extent_end e) es

-- the extents of records follow one another, from the greatest end of the earlier ones on
stand_behind : (earlier : List Extent) (records : List Record) (es : List Extent) → AreExtents earlier records es → StandBehind (greatest_end earlier) es
stand_behind earlier [] [] are = tt
stand_behind earlier [] (e ∷ es) are = absurd are
stand_behind earlier (r ∷ rs) [] are = absurd are
stand_behind earlier (r ∷ rs) (e ∷ es) are =
    let behind = begins_behind earlier r e are.0 in
    (behind, subst (λ (n : ℕ). StandBehind n es) (ends_with earlier e behind) (stand_behind (earlier ++ e ∷ []) rs es are.1))

-- the bytes go from a place up to the greatest end
bytes_length : (at : ℕ) (es : List Extent) → StandBehind at es → at + length (bytes_from at es) ≡ fold (λ n (e : Extent). max n (extent_end e)) at es
unfolding bytes_from
bytes_length at [] behind = omega arith
bytes_length at (e ∷ es) behind =
    let end : max at (extent_end e) ≡ extent_end e = omega arith in
    let rest = bytes_length (extent_end e) es behind.1 in
    let long : at + length (replicate (e.start - at) 0 ++ e.bytes ++ bytes_from (extent_end e) es) ≡ extent_end e + length (bytes_from (extent_end e) es) =
    simp (length-append, length-replicate) (omega arith) in
    long ∙ rest ∙ ap (λ (n : ℕ). fold (λ m (x : Extent). max m (extent_end x)) n es) (sym end)

-- an element that passes is the first one, or among the others
first_or_other : {X : Type 0} (P : X → Type 0) (x : X) (xs : List X) → Any P (x ∷ xs) → P x ⊎ Any P xs
first_or_other P x xs (zero, y, lt, is, p) = inl (subst P (sym is) p)
first_or_other P x xs (suc k, y, lt, is, p) = inr (k, y, omega arith, is, p)

-- an element that passes is among a longer list
any_other : {X : Type 0} (P : X → Type 0) (x : X) (xs : List X) → Any P xs → Any P (x ∷ xs)
any_other P x xs (k, y, lt, is, p) = (suc k, y, omega arith, is, p)

-- no extent covers a place before all of them
none_covers : (at place : ℕ) (es : List Extent) → StandBehind at es → place < at → All (λ e. (place < e.start) ⊎ (extent_end e ≤ place)) es
none_covers at place [] behind before = All-nil (λ (e : Extent). (place < e.start) ⊎ (extent_end e ≤ place))
none_covers at place (e ∷ es) behind before =
    All-cons (λ (x : Extent). (place < x.start) ⊎ (extent_end x ≤ place)) e es (inl (omega arith)) (none_covers (extent_end e) place es behind.1 (omega arith))

-- an extent that ends at a place or before it says nothing of the place
passed_by : (e : Extent) (es : List Extent) (place byte : ℕ) → extent_end e ≤ place → IsByteOf es place byte → IsByteOf (e ∷ es) place byte
passed_by e es place byte ends (inl has) = inl (any_other (HasByte place byte) e es has)
passed_by e es place byte ends (inr none) = inr (none.0, All-cons (λ (x : Extent). (place < x.start) ⊎ (extent_end x ≤ place)) e es (inr ends) none.1)

-- after zeros come an extent's own bytes, and then others: a place is one of these
zero_at : (n i : ℕ) (xs ys : List ℕ) → i < n → get_or (replicate n 0 ++ xs ++ ys) i 0 ≡ 0
zero_at n i xs ys lt =
    let long = length-replicate {A = ℕ} n 0 in
    get_or_append_left (replicate n 0 ++ xs) ys 0 i (omega (arith, length-append (replicate n 0) xs)) ∙ get_or_append_left (replicate n 0) xs 0 i (omega arith) ∙ get_or-replicate n i 0 0 lt

own_at : (n i : ℕ) (xs ys : List ℕ) → n ≤ i → i < n + length xs → get_or (replicate n 0 ++ xs ++ ys) i 0 ≡ get_or xs (i - n) 0
own_at n i xs ys le lt =
    let long = length-replicate {A = ℕ} n 0 in
    get_or_append_left (replicate n 0 ++ xs) ys 0 i (omega (arith, length-append (replicate n 0) xs)) ∙ get_or-append_right (replicate n 0) xs n i 0 long le

other_at : (n i : ℕ) (xs ys : List ℕ) → n + length xs ≤ i → get_or (replicate n 0 ++ xs ++ ys) i 0 ≡ get_or ys (i - (n + length xs)) 0
other_at n i xs ys le = get_or-append_right (replicate n 0 ++ xs) ys (n + length xs) i 0 (length-append (replicate n 0) xs ∙ ap (λ (k : ℕ). k + length xs) (length-replicate {A = ℕ} n 0)) le

-- at each place the byte of that place is read
byte_at : (at : ℕ) (es : List Extent) (place : ℕ) → StandBehind at es → at ≤ place → place < at + length (bytes_from at es) → IsByteOf es place (slice_index (bytes_from at es) (place - at))
unfolding bytes_from
byte_at at [] place behind from before = absurd (omega arith)
byte_at at (e ∷ es) place behind from before =
    elim (cases_lt place e.start) [
      | inl gap ↦ inr (zero_at (e.start - at) (place - at) e.bytes rest (omega arith), none_covers e.start place (e ∷ es) (omega arith, behind.1) gap)
      | inr started ↦
          elim (cases_lt place (extent_end e)) [
            | inl inside ↦
                let number : place - at - (e.start - at) ≡ place - e.start = omega arith in
                let own = own_at (e.start - at) (place - at) e.bytes rest (omega arith) (omega arith) ∙ ap (λ (n : ℕ). get_or e.bytes n 0) number in
                inl (0, e, omega arith, refl, (started, inside, sym own))
            | inr ended ↦
                let number : place - at - (e.start - at + length e.bytes) ≡ place - extent_end e = omega arith in
                let other = other_at (e.start - at) (place - at) e.bytes rest (omega arith) ∙ ap (λ (n : ℕ). get_or rest n 0) number in
                let more = byte_at (extent_end e) es place behind.1 ended (omega (arith, long)) in
                passed_by e es place (get_or (replicate (e.start - at) 0 ++ e.bytes ++ rest) (place - at) 0) ended (subst (λ (b : ℕ). IsByteOf es place b) (sym other) more)
          ]
    ]
  where
    rest : List ℕ
    rest = bytes_from (extent_end e) es

    long : at + length (replicate (e.start - at) 0 ++ e.bytes ++ rest) ≡ extent_end e + length rest
    long = simp (length-append, length-replicate) (omega arith)

-- a place that an extent covers is after the place where the extents begin
covered_is_behind : (at place byte : ℕ) (es : List Extent) → StandBehind at es → Any (HasByte place byte) es → at ≤ place
covered_is_behind at place byte [] behind (k, e, lt, is, has) = absurd (omega arith)
covered_is_behind at place byte (e ∷ es) behind has =
    elim (first_or_other (HasByte place byte) e es has) [
      | inl first ↦ omega arith
      | inr other ↦ let le = covered_is_behind (extent_end e) place byte es behind.1 other in omega arith
    ]

-- extents that follow one another have at most one byte at a place
one_byte : (at place x y : ℕ) (es : List Extent) → StandBehind at es → Any (HasByte place x) es → Any (HasByte place y) es → x ≡ y
one_byte at place x y [] behind (k, e, lt, is, has) other = absurd (omega arith)
one_byte at place x y (e ∷ es) behind has_x has_y = go (one_byte (extent_end e) place x y es behind.1) (first_or_other (HasByte place x) e es has_x) (first_or_other (HasByte place y) e es has_y)
  where
    go : (Any (HasByte place x) es → Any (HasByte place y) es → x ≡ y) → HasByte place x e ⊎ Any (HasByte place x) es → HasByte place y e ⊎ Any (HasByte place y) es → x ≡ y
    go rest (inl p) (inl q) = sym p.2 ∙ q.2
    go rest (inl p) (inr q) = absurd (omega (arith, covered_is_behind (extent_end e) place y es behind.1 q))
    go rest (inr p) (inl q) = absurd (omega (arith, covered_is_behind (extent_end e) place x es behind.1 p))
    go rest (inr p) (inr q) = rest p q

-- no place is both covered by an extent and covered by none
not_covered : (place byte : ℕ) (es : List Extent) → Any (HasByte place byte) es → All (λ e. (place < e.start) ⊎ (extent_end e ≤ place)) es → ⊥
not_covered place byte es (k, e, lt, is, has) none = outside (subst (λ (x : Extent). (place < x.start) ⊎ (extent_end x ≤ place)) is (none k e lt))
  where
    outside : (place < e.start) ⊎ (extent_end e ≤ place) → ⊥
    outside (inl before) = omega arith
    outside (inr behind) = omega arith

-- a place has one byte at most
same_byte : (at place x y : ℕ) (es : List Extent) → StandBehind at es → IsByteOf es place x → IsByteOf es place y → x ≡ y
same_byte at place x y es behind (inl p) (inl q) = one_byte at place x y es behind p q
same_byte at place x y es behind (inl p) (inr q) = absurd (not_covered place x es p q.1)
same_byte at place x y es behind (inr p) (inl q) = absurd (not_covered place y es q p.1)
same_byte at place x y es behind (inr p) (inr q) = p.0 ∙ sym q.0

-- what is read are the bytes of the extents
read_bytes : (es : List Extent) → StandBehind 0 es → AreBytesOf es (bytes_from 0 es)
read_bytes es behind =
    let long : length (bytes_from 0 es) ≡ greatest_end es = zero_more ∙ bytes_length 0 es behind in
    record { length_is = long; each = λ place lt. subst (λ (n : ℕ). IsByteOf es place (slice_index (bytes_from 0 es) n)) (less_none place) (byte_at 0 es place behind (omega arith) (omega arith)) }
  where
    zero_more : length (bytes_from 0 es) ≡ 0 + length (bytes_from 0 es)
    zero_more = omega arith

    less_none : (n : ℕ) → n - 0 ≡ n
    less_none n = omega arith

pub bytes_are_exact_lem : BytesAreExact
bytes_are_exact_lem records extents bytes read =
    let behind = stand_behind [] records extents (read_extents [] records extents read) in
    let own = read_bytes extents behind in (
      λ e. subst (λ (bs : List ℕ). AreBytesOf extents bs) e own,
      λ are.
          let long : length (bytes_from 0 extents) ≡ length bytes = own.length_is ∙ sym are.length_is in
          ext_get_or 0 (bytes_from 0 extents) bytes long
          (λ place lt. same_byte 0 place (slice_index (bytes_from 0 extents) place) (slice_index bytes place) extents behind (own.each place lt) (are.each place (omega arith))),
    )
