-- The blocks of a volume, one after the other.
use Rattle.std.proofs.Common.{◌≡◌, ◌∙◌, ℕ, zero, suc, ◌+◌, ◌<◌, ◌≤◌, length, take, drop, List, [], ◌∷◌, ◌++◌, flat_map, Option, Some, None, Bool, true, false, if◌then◌else◌, Result, Ok, Err, refl, sym, ap, arith, subst, append_assoc, append-nil, length-drop}
use Rattle.std.specs.Prelude.{nat_lt, ◌||◌, ◌&&◌}
use Rattle.std.proofs.lemmas.Bool.{le-ltb, lt-ltb, or_right}
use Rattle.std.proofs.lemmas.List.{length-take, nil_from_length}
use Rattle.std.proofs.lemmas.Option.{same_Some}
use Rattle.br_model.specs.Answer.{◌>>=◌, refuse_if, refused_as}
use Rattle.br_model.specs.Block.{Header, read_header}
use Rattle.br_model.specs.Bootstrap.{Group}
use Rattle.br_model.specs.Meaning.{bound_of, is_covered, just_groups}
use Rattle.br_model.specs.Text.{is_empty}
use Rattle.br_model.specs.Volume.{BlockFault, LaidBlock, is_above, next_block}
use Rattle.br_model.proofs.AnswerLaws.{ok_is, refuse_ok}
use Rattle.br_model.proofs.ListLaws.{long_is_not_empty}
use Rattle.br_model.proofs.SpanLaws.{read_header_alone}
use Rattle.br_model.proofs.VolumeLaws.{header_has_16}
use Rattle.br_check.specs.ChecksumBlocks.{Leads, PassesTo, and_after, block_at, block_line, block_lines, blocks_until, differing_line, lines_from}
use Rattle.br_check.specs.ChecksumWalk.{AreAt, HasSize}

-- ---- a block at an address

abbrev Found : Type 0
Found = Result (Option (LaidBlock × ℕ)) BlockFault

abbrev laid : ℕ → List ℕ → ℕ → LaidBlock
laid address left size = record { address = address; bytes = take size left }

-- whether a walk ends at an address
abbrev ends_at : List (ℕ × Group) → List ℕ → ℕ → Bool
ends_at gs bytes a = is_empty (drop a bytes) || is_above (bound_of (just_groups gs)) a

-- whether a block of a size is covered and not whole
abbrev is_cut : List (ℕ × Group) → List ℕ → ℕ → ℕ → Bool
is_cut gs bytes a size = is_covered (just_groups gs) a && nat_lt (length (drop a bytes)) size

-- at the end
none_here : (gs : List (ℕ × Group)) (bytes : List ℕ) (a : ℕ) → ends_at gs bytes a ≡ true → block_at gs bytes a ≡ Ok None
unfolding next_block
none_here gs bytes a ends = rw ends refl

-- what the header at an address says of the block
next_is : (gs : List (ℕ × Group)) (bytes : List ℕ) (a : ℕ) → ends_at gs bytes a ≡ false → (r : Result Header ℕ) → read_header (drop a bytes) ≡ r
    → block_at gs bytes a
    ≡ (refused_as (λ (number : ℕ). record { number = number; address = a }) r >>= λ (h : Header).
    refuse_if (is_cut gs bytes a h.size) (record { number = 12; address = a }) >>= λ _. Ok (Some (laid a (drop a bytes) h.size, a + h.size)))
unfolding next_block
next_is gs bytes a goes_on r read = rw (goes_on, read) refl

-- a test that is passed, and one that is not
fine_is : (b : Bool) (e : BlockFault) (x : Option (LaidBlock × ℕ)) → b ≡ false → ◌≡◌ {A = Found} (refuse_if b e >>= λ _. Ok x) (Ok x)
fine_is true e x is = absurd cc
fine_is false e x is = refl

cut_is : (b : Bool) (e : BlockFault) (x : Option (LaidBlock × ℕ)) → b ≡ true → ◌≡◌ {A = Found} (refuse_if b e >>= λ _. Ok x) (Err e)
cut_is true e x is = refl
cut_is false e x is = absurd cc

passed_head : (gs : List (ℕ × Group)) (bytes : List ℕ) (a : ℕ) (h : Header) → ends_at gs bytes a ≡ false → read_header (drop a bytes) ≡ Ok h
    → is_cut gs bytes a h.size ≡ false → block_at gs bytes a ≡ Ok (Some (laid a (drop a bytes) h.size, a + h.size))
passed_head gs bytes a h goes_on read fine =
    next_is gs bytes a goes_on (Ok h) read ∙ fine_is (is_cut gs bytes a h.size) (record { number = 12; address = a }) (Some (laid a (drop a bytes) h.size, a + h.size)) fine

cut_head : (gs : List (ℕ × Group)) (bytes : List ℕ) (a : ℕ) (h : Header) → ends_at gs bytes a ≡ false → read_header (drop a bytes) ≡ Ok h
    → is_cut gs bytes a h.size ≡ true → block_at gs bytes a ≡ Err (record { number = 12; address = a })
cut_head gs bytes a h goes_on read cut =
    next_is gs bytes a goes_on (Ok h) read ∙ cut_is (is_cut gs bytes a h.size) (record { number = 12; address = a }) (Some (laid a (drop a bytes) h.size, a + h.size)) cut

bad_head : (gs : List (ℕ × Group)) (bytes : List ℕ) (a number : ℕ) → ends_at gs bytes a ≡ false → read_header (drop a bytes) ≡ Err number
    → block_at gs bytes a ≡ Err (record { number = number; address = a })
bad_head gs bytes a number goes_on read = next_is gs bytes a goes_on (Err number) read

-- where a walk ends
none_above : (gs : List (ℕ × Group)) (bytes : List ℕ) (a : ℕ) → is_above (bound_of (just_groups gs)) a ≡ true → block_at gs bytes a ≡ Ok None
none_above gs bytes a above = none_here gs bytes a (or_right (is_empty (drop a bytes)) (is_above (bound_of (just_groups gs)) a) above)

none_past : (gs : List (ℕ × Group)) (bytes : List ℕ) (a : ℕ) → length bytes ≤ a → block_at gs bytes a ≡ Ok None
none_past gs bytes a past =
    let none : drop a bytes ≡ [] = nil_from_length (drop a bytes) (omega (arith, length-drop a bytes, past)) in
    none_here gs bytes a (ap (λ (xs : List ℕ). is_empty xs || is_above (bound_of (just_groups gs)) a) none)

-- where it goes on
some_left : (xs : List ℕ) (b : Bool) → 0 < length xs → b ≡ false → (is_empty xs || b) ≡ false
some_left xs b some is = ap (λ (c : Bool). c || b) (long_is_not_empty xs some) ∙ is

goes_on_at : (gs : List (ℕ × Group)) (bytes : List ℕ) (a : ℕ) → is_above (bound_of (just_groups gs)) a ≡ false → a < length bytes → ends_at gs bytes a ≡ false
goes_on_at gs bytes a near within = some_left (drop a bytes) (is_above (bound_of (just_groups gs)) a) (omega (arith, length-drop a bytes, within)) near

-- ---- blocks from an address on

-- a block ends after its address
farther : (gs : List (ℕ × Group)) (bytes : List ℕ) (a : ℕ) (s : LaidBlock × ℕ) → block_at gs bytes a ≡ Ok (Some s) → a < s.1
farther gs bytes a s is = go (ends_at gs bytes a) refl
  where
    read : ends_at gs bytes a ≡ false → (r : Result Header ℕ) → read_header (drop a bytes) ≡ r → a < s.1
    read goes_on (Err n) e = let bad = sym (bad_head gs bytes a n goes_on e) ∙ is in absurd cc
    read goes_on (Ok h) e =
        let x : LaidBlock × ℕ = (laid a (drop a bytes) h.size, a + h.size) in
        let p = refuse_ok (is_cut gs bytes a h.size) (record { number = 12; address = a }) (λ _. Ok (Some x)) (Some s) (sym (next_is gs bytes a goes_on (Ok h) e) ∙ is) in
        let same : x ≡ s = same_Some x s (ok_is (Some x) (Some s) p.1) in
        let next : a + h.size ≡ s.1 = ap (λ (q : LaidBlock × ℕ). q.1) same in
        omega (arith, next, (header_has_16 (drop a bytes) h e).1)

    go : (b : Bool) → ends_at gs bytes a ≡ b → a < s.1
    go true e = let none = sym (none_here gs bytes a e) ∙ is in absurd cc
    go false e = read e (read_header (drop a bytes)) refl

-- past the bytes there are none
past : (gs : List (ℕ × Group)) (bytes : List ℕ) (m a : ℕ) → length bytes ≤ a → blocks_until gs bytes m a ≡ []
unfolding blocks_until
past gs bytes zero a l = refl
past gs bytes (suc m) a l = ap (and_after (blocks_until gs bytes m)) (none_past gs bytes a l)

-- any number that is great enough gives the same blocks
enough : (gs : List (ℕ × Group)) (bytes : List ℕ) (n m a : ℕ) → length bytes < a + n → length bytes < a + m → blocks_until gs bytes n a ≡ blocks_until gs bytes m a
unfolding blocks_until
enough gs bytes zero m a p q = sym (past gs bytes m a (omega (arith, p)))
enough gs bytes (suc n) zero a p q = past gs bytes (suc n) a (omega (arith, q))
enough gs bytes (suc n) (suc m) a p q = go (λ b further. enough gs bytes n m b (omega (arith, p, further)) (omega (arith, q, further))) (block_at gs bytes a) refl
  where
    go : ((b : ℕ) → a < b → blocks_until gs bytes n b ≡ blocks_until gs bytes m b) → (r : Found) → block_at gs bytes a ≡ r
        → and_after (blocks_until gs bytes n) (block_at gs bytes a) ≡ and_after (blocks_until gs bytes m) (block_at gs bytes a)
    go same (Ok None) is = ap (and_after (blocks_until gs bytes n)) is ∙ sym (ap (and_after (blocks_until gs bytes m)) is)
    go same (Err e) is = ap (and_after (blocks_until gs bytes n)) is ∙ sym (ap (and_after (blocks_until gs bytes m)) is)
    go same (Ok (Some s)) is =
        ap (and_after (blocks_until gs bytes n)) is ∙ ap (λ (bs : List LaidBlock). s.0 ∷ bs) (same s.1 (farther gs bytes a s is)) ∙ sym (ap (and_after (blocks_until gs bytes m)) is)

one_more : (gs : List (ℕ × Group)) (bytes : List ℕ) (n a : ℕ) → blocks_until gs bytes (suc n) a ≡ and_after (blocks_until gs bytes n) (block_at gs bytes a)
unfolding blocks_until
one_more gs bytes n a = refl

first_then : (gs : List (ℕ × Group)) (bytes : List ℕ) (a : ℕ) → blocks_until gs bytes (length bytes + 1) a ≡ and_after (blocks_until gs bytes (length bytes)) (block_at gs bytes a)
first_then gs bytes a = enough gs bytes (length bytes + 1) (suc (length bytes)) a (omega arith) (omega arith) ∙ one_more gs bytes (length bytes) a

-- ---- lines from an address on

-- no lines, if there is no block
lines_end : (volume : List ℕ) (gs : List (ℕ × Group)) (bytes : List ℕ) (a : ℕ) → block_at gs bytes a ≡ Ok None → lines_from volume gs bytes a ≡ []
unfolding lines_from
lines_end volume gs bytes a is = ap (flat_map (block_line volume gs)) (first_then gs bytes a ∙ ap (and_after (blocks_until gs bytes (length bytes))) is)

lines_fault : (volume : List ℕ) (gs : List (ℕ × Group)) (bytes : List ℕ) (a : ℕ) (e : BlockFault) → block_at gs bytes a ≡ Err e → lines_from volume gs bytes a ≡ []
unfolding lines_from
lines_fault volume gs bytes a e is = ap (flat_map (block_line volume gs)) (first_then gs bytes a ∙ ap (and_after (blocks_until gs bytes (length bytes))) is)

-- the line of a block, and those after it
lines_step : (volume : List ℕ) (gs : List (ℕ × Group)) (bytes : List ℕ) (a : ℕ) (s : LaidBlock × ℕ) → block_at gs bytes a ≡ Ok (Some s)
    → lines_from volume gs bytes a ≡ block_line volume gs s.0 ++ lines_from volume gs bytes s.1
unfolding lines_from
lines_step volume gs bytes a s is =
    let n = length bytes in
    let on : a < s.1 = farther gs bytes a s is in
    ap (flat_map (block_line volume gs)) (first_then gs bytes a ∙ ap (and_after (blocks_until gs bytes n)) is)
    ∙ ap (λ (bs : List LaidBlock). block_line volume gs s.0 ++ flat_map (block_line volume gs) bs) (enough gs bytes n (n + 1) s.1 (omega (arith, on)) (omega (arith, on)))

-- ---- what the parts of a step say of them

-- above the bound
pub lines_above : (volume : List ℕ) (gs : List (ℕ × Group)) (bytes : List ℕ) (a : ℕ) → is_above (bound_of (just_groups gs)) a ≡ true → lines_from volume gs bytes a ≡ []
lines_above volume gs bytes a above = lines_end volume gs bytes a (none_above gs bytes a above)

-- at the end of the bytes
pub lines_past : (volume : List ℕ) (gs : List (ℕ × Group)) (bytes : List ℕ) (a : ℕ) → length bytes ≤ a → lines_from volume gs bytes a ≡ []
lines_past volume gs bytes a l = lines_end volume gs bytes a (none_past gs bytes a l)

-- at a bad header
pub lines_bad : (volume : List ℕ) (gs : List (ℕ × Group)) (bytes : List ℕ) (a : ℕ) (got : List ℕ) (number : ℕ) → is_above (bound_of (just_groups gs)) a ≡ false
    → AreAt bytes a 24 got → read_header got ≡ Err number → lines_from volume gs bytes a ≡ []
lines_bad volume gs bytes a got number near at read =
    lines_fault volume gs bytes a (record { number = number; address = a })
    (bad_head gs bytes a number (goes_on_at gs bytes a near at.within) (sym (read_header_alone (drop a bytes)) ∙ ap read_header at.taken ∙ read))

-- whether a block is covered and not whole
not_covered : (b c : Bool) → b ≡ false → (b && c) ≡ false
not_covered true c e = absurd cc
not_covered false c e = refl

both_so : (b c : Bool) (d : Bool) → b ≡ true → c ≡ d → (b && c) ≡ d
both_so true c d e f = f
both_so false c d e f = absurd cc

-- at a block that is asked for and not whole
pub lines_cut : (volume : List ℕ) (gs : List (ℕ × Group)) (bytes : List ℕ) (a size : ℕ) (got : List ℕ) → is_above (bound_of (just_groups gs)) a ≡ false
    → is_covered (just_groups gs) a ≡ true → HasSize bytes a size → AreAt bytes a size got → length got < size → lines_from volume gs bytes a ≡ []
lines_cut volume gs bytes a size got near covered has at short =
    let left = drop a bytes in
    let fewer : length left < has.head.size = omega (arith, has.is, short, ap length at.taken, length-take size left) in
    lines_fault volume gs bytes a (record { number = 12; address = a })
    (cut_head gs bytes a has.head (goes_on_at gs bytes a near has.within) has.read
    (both_so (is_covered (just_groups gs) a) (nat_lt (length left) has.head.size) true covered (lt-ltb (length left) has.head.size fewer)))

-- at a block that is not asked for
pub block_passed : (volume : List ℕ) (gs : List (ℕ × Group)) (bytes : List ℕ) (a size : ℕ) → is_above (bound_of (just_groups gs)) a ≡ false
    → is_covered (just_groups gs) a ≡ false → HasSize bytes a size → PassesTo (block_line volume gs) (block_at gs bytes a) (a + size) []
block_passed volume gs bytes a size near covered has =
    let left = drop a bytes in
    let h = has.head in
    let found = passed_head gs bytes a h (goes_on_at gs bytes a near has.within) has.read (not_covered (is_covered (just_groups gs) a) (nat_lt (length left) h.size) covered) in (
      laid a left h.size,
      found ∙ ap (λ (n : ℕ). Ok (Some (laid a left h.size, a + n))) has.is,
      ap (λ (c : Bool). if c then differing_line volume a (take h.size left) else []) (sym covered),
    )

-- at a whole block that is asked for
pub block_compared : (volume : List ℕ) (gs : List (ℕ × Group)) (bytes : List ℕ) (a size : ℕ) (got : List ℕ) → is_above (bound_of (just_groups gs)) a ≡ false
    → is_covered (just_groups gs) a ≡ true → HasSize bytes a size → AreAt bytes a size got → size ≤ length got
    → PassesTo (block_line volume gs) (block_at gs bytes a) (a + size) (differing_line volume a got)
block_compared volume gs bytes a size got near covered has at whole =
    let left = drop a bytes in
    let h = has.head in
    let fits : h.size ≤ length left = omega (arith, has.is, whole, ap length at.taken, length-take size left) in
    let found =
    passed_head gs bytes a h (goes_on_at gs bytes a near has.within) has.read
    (both_so (is_covered (just_groups gs) a) (nat_lt (length left) h.size) false covered (le-ltb (length left) h.size fits)) in
    let bytes_are : take h.size left ≡ got = ap (λ (n : ℕ). take n left) has.is ∙ at.taken in (
      laid a left h.size,
      found ∙ ap (λ (n : ℕ). Ok (Some (laid a left h.size, a + n))) has.is,
      ap (λ (xs : List ℕ). differing_line volume a xs) (sym bytes_are) ∙ ap (λ (c : Bool). if c then differing_line volume a (take h.size left) else []) (sym covered),
    )

-- ---- blocks that a walk passes

-- one block more
pub leads_further : (gs : List (ℕ × Group)) (bytes : List ℕ) (a : ℕ) (blocks : List LaidBlock) (next last : ℕ) (b : LaidBlock) → Leads gs bytes a blocks next
    → block_at gs bytes next ≡ Ok (Some (b, last)) → Leads gs bytes a (blocks ++ b ∷ []) last
leads_further gs bytes a [] next last b same here = (last, subst (λ (at : ℕ). block_at gs bytes at ≡ Ok (Some (b, last))) same here, refl)
leads_further gs bytes a (c ∷ blocks) next last b leads here = (leads.0, leads.1, leads_further gs bytes leads.0 blocks next last b leads.2 here)

-- their lines, and those of the blocks after them
pub lines_led : (volume : List ℕ) (gs : List (ℕ × Group)) (bytes : List ℕ) (a : ℕ) (blocks : List LaidBlock) (next : ℕ) → Leads gs bytes a blocks next
    → lines_from volume gs bytes a ≡ block_lines volume gs blocks ++ lines_from volume gs bytes next
lines_led volume gs bytes a [] next same = ap (lines_from volume gs bytes) (sym same)
lines_led volume gs bytes a (b ∷ blocks) next leads =
    lines_step volume gs bytes a (b, leads.0) leads.1
    ∙ ap (λ (xs : List ℕ). block_line volume gs b ++ xs) (lines_led volume gs bytes leads.0 blocks next leads.2)
    ∙ sym (append_assoc (block_line volume gs b) (block_lines volume gs blocks) (lines_from volume gs bytes next))

pub lines_of_more : (volume : List ℕ) (gs : List (ℕ × Group)) (blocks : List LaidBlock) (b : LaidBlock)
    → block_lines volume gs (blocks ++ b ∷ []) ≡ block_lines volume gs blocks ++ block_line volume gs b
lines_of_more volume gs [] b = append-nil (block_line volume gs b)
lines_of_more volume gs (c ∷ blocks) b =
    ap (λ (xs : List ℕ). block_line volume gs c ++ xs) (lines_of_more volume gs blocks b)
    ∙ sym (append_assoc (block_line volume gs c) (block_lines volume gs blocks) (block_line volume gs b))
