-- Fragments that are added to blocks one by one are a packing of their records.
use Rattle.std.proofs.Common.{◌≡◌, ℕ, ◌+◌, ◌%◌, ◌^◌, ◌<◌, ◌≤◌, true, List, [], ◌∷◌, ◌++◌, length, map, Result, Ok, Err, refl, sym, ap, subst, ◌∙◌, inl, inr, arith, append_assoc, zero, suc, w32, to_z, of_z}
use Rattle.std.proofs.lemmas.Bool.{cases_lt, eqb-true, eq-eqb, and_parts, and_from}
use Rattle.std.proofs.Math.IntN.{+ℤ_idl}
use Rattle.std.proofs.lemmas.Int.{to_z_pos, to_z-of_z, fits_signed_from_abs}
use Rattle.std.proofs.lemmas.List.{append-nil, length-append}
use Rattle.std.proofs.lemmas.List.Concat.{flat_map-append}
use Rattle.std.proofs.lemmas.List.Sums.{sum_by-append}
use Rattle.std.specs.Prelude.{min, neg_ℤ, pos, negsuc, ◌-ℤ◌, ◌==◌}
use Rattle.std.specs.Int.{is_negative}
use Rattle.std.specs.Result.{OnOk, OnErr}
use Rattle.std.specs.List.{AllByRecursion, enumerate_from}
use Rattle.br_model.specs.Name.{SessionKey}
use Rattle.br_model.specs.Block.{Fragment}
use Rattle.br_model.specs.Record.{Record, GoOn, AreParts, IsCut}
use Rattle.br_model.specs.Session.{block_size, AreWritten, Closes, IsPart, AreClosed, written_block}
use Rattle.br_block.specs.Building.{Building}
use Rattle.br_session.specs.Whole.{are_whole}
use Rattle.br_session.specs.Packing.{all_of, with_last}

-- ---- fragments of one block

pub whole_each : (fs : List Fragment) → are_whole fs ≡ true → AllByRecursion (λ (f : Fragment). length f.bytes ≡ f.size) fs
unfolding are_whole
whole_each [] e = tt
whole_each (f ∷ fs) e = let h = and_parts (length f.bytes == f.size) (are_whole fs) e in (eqb-true (length f.bytes) f.size h.0, whole_each fs h.1)

pub whole_more : (fs : List Fragment) (f : Fragment) → are_whole fs ≡ true → length f.bytes ≡ f.size → are_whole (fs ++ f ∷ []) ≡ true
unfolding are_whole
whole_more [] f e is = and_from (length f.bytes == f.size) true (eq-eqb (length f.bytes) f.size is) refl
whole_more (g ∷ fs) f e is =
    let h = and_parts (length g.bytes == g.size) (are_whole fs) e in and_from (length g.bytes == g.size) (are_whole (fs ++ f ∷ [])) h.0 (whole_more fs f h.1 is)

pub none_are_whole : are_whole [] ≡ true
unfolding are_whole
none_are_whole = refl

pub size_more : (fs : List Fragment) (f : Fragment) → block_size (fs ++ f ∷ []) ≡ block_size fs + 12 + length f.bytes
size_more fs f = omega (arith, sum_by-append (λ (g : Fragment). 12 + length g.bytes) fs (f ∷ []))

-- a block with a fragment is not empty
pub size_of_some : (fs : List Fragment) → 24 < block_size fs → fs ≡ [] → ⊥
size_of_some fs lt e = omega (arith, ap block_size e)

written_more : (fs : List Fragment) (f : Fragment) → AllByRecursion (λ (g : Fragment). length g.bytes ≡ g.size) fs → length f.bytes ≤ f.size → (0 < f.size → 0 < length f.bytes)
    → AreWritten (fs ++ f ∷ [])
written_more [] f whole within some = (within, some)
written_more (g ∷ []) f whole within some = (whole.0, written_more [] f tt within some)
written_more (g ∷ h ∷ more) f whole within some = (whole.0, written_more (h ∷ more) f whole.1 within some)

-- one more fragment after whole ones makes a part, if it fits
pub part_more : (limit : ℕ) (fs : List Fragment) (f : Fragment) → are_whole fs ≡ true → block_size fs + 12 + length f.bytes ≤ limit → length f.bytes ≤ f.size
    → (0 < f.size → 0 < length f.bytes) → IsPart limit (fs ++ f ∷ [])
part_more limit fs f whole fits within some =
    (omega (arith, length-append fs (f ∷ [])), omega (arith, size_more fs f, fits), written_more fs f (whole_each fs whole) within some)

-- ---- blocks

-- a longer last block
longer_last : (limit : ℕ) (closed : List (List Fragment)) (g f : Fragment) (gs : List Fragment) → AreClosed limit (closed ++ (g ∷ gs) ∷ []) → IsPart limit ((g ∷ gs) ++ f ∷ [])
    → AreClosed limit (closed ++ ((g ∷ gs) ++ f ∷ []) ∷ [])
longer_last limit [] g f gs are part = part
longer_last limit (b ∷ []) g f gs are part = (are.0, are.1, part)
longer_last limit (b ∷ d ∷ more) g f gs are part = (are.0, are.1, longer_last limit (d ∷ more) g f gs are.2 part)

-- the next block after the last
next_behind : (limit : ℕ) (closed : List (List Fragment)) (last next : List Fragment) → AreClosed limit (closed ++ last ∷ []) → Closes limit last next → IsPart limit next
    → AreClosed limit ((closed ++ last ∷ []) ++ next ∷ [])
next_behind limit [] last next are closes part = (are, closes, part)
next_behind limit (b ∷ []) last next are closes part = (are.0, are.1, (are.2, closes, part))
next_behind limit (b ∷ d ∷ more) last next are closes part = (are.0, are.1, next_behind limit (d ∷ more) last next are.2 closes part)

-- a fragment that fits goes into the current block
pub goes_in : (limit : ℕ) (closed : List (List Fragment)) (last : List Fragment) (f : Fragment) → (last ≡ [] → closed ≡ []) → AreClosed limit (with_last closed last) → IsPart limit (last ++ f ∷ [])
    → AreClosed limit (closed ++ (last ++ f ∷ []) ∷ [])
goes_in limit closed [] f first are part = rw (first refl) part
goes_in limit closed (g ∷ gs) f first are part = longer_last limit closed g f gs are part

-- a fragment that does not fit begins the next block
pub goes_behind : (limit : ℕ) (closed : List (List Fragment)) (last : List Fragment) (f : Fragment) → (last ≡ [] → ⊥) → AreClosed limit (with_last closed last)
    → limit < block_size last + 12 + min 1 f.size → (is_negative f.stream ≡ true → block_size last ≡ limit) → IsPart limit (f ∷ []) → AreClosed limit ((closed ++ last ∷ []) ++ (f ∷ []) ∷ [])
goes_behind limit closed [] f some are lt full part = absurd (some refl)
goes_behind limit closed (g ∷ gs) f some are lt full part = next_behind limit closed (g ∷ gs) (f ∷ []) are (lt, full) part

pub with_more : (closed : List (List Fragment)) (fs : List Fragment) (f : Fragment) → with_last closed (fs ++ f ∷ []) ≡ closed ++ (fs ++ f ∷ []) ∷ []
with_more closed [] f = refl
with_more closed (g ∷ gs) f = refl

pub with_some : (closed : List (List Fragment)) (fs : List Fragment) → (fs ≡ [] → ⊥) → with_last closed fs ≡ closed ++ fs ∷ []
with_some closed [] some = absurd (some refl)
with_some closed (g ∷ gs) some = refl

pub some_more : (fs : List Fragment) (f : Fragment) → fs ++ f ∷ [] ≡ [] → ⊥
some_more fs f e = omega (arith, ap length e, length-append fs (f ∷ []))

pub all_of-with : (closed : List (List Fragment)) (last : List Fragment) → all_of (closed ++ last ∷ []) ≡ all_of closed ++ last
all_of-with closed last = flat_map-append (λ (block : List Fragment). block) closed (last ∷ []) ∙ ap (λ (x : List Fragment). all_of closed ++ x) (append-nil last)

-- a number modulo 2 ^ 32 is written as the number
same_block : (key : SessionKey) (n : ℕ) (fs : List Fragment) → written_block key (n % 2 ^ 32, fs) ≡ written_block key (n, fs)
same_block key n fs = let twice : (n % 2 ^ 32) % 2 ^ 32 ≡ n % 2 ^ 32 = omega arith in rw twice refl

blocks_from : (key : SessionKey) (n : ℕ) (closed : List (List Fragment)) (last : List Fragment)
    → map (written_block key) (enumerate_from n (closed ++ last ∷ [])) ≡ map (written_block key) (enumerate_from n closed) ++ written_block key (n + length closed, last) ∷ []
blocks_from key n [] last = let e : n ≡ n + 0 = omega arith in ap (λ k. written_block key (k, last) ∷ []) e
blocks_from key n (b ∷ closed) last =
    let e : n + 1 + length closed ≡ n + length (b ∷ closed) = omega arith in
    ap (λ (x : List (List ℕ)). written_block key (n, b) ∷ x) (blocks_from key (n + 1) closed last ∙ ap (λ k. map (written_block key) (enumerate_from (n + 1) closed) ++ written_block key (k, last) ∷ []) e)

-- one more block, under the number of those before
pub blocks_with : (key : SessionKey) (number : ℕ) (closed : List (List Fragment)) (last : List Fragment) (blocks : List (List ℕ)) → blocks ≡ map (written_block key) (enumerate_from 0 closed)
    → number ≡ length closed % 2 ^ 32 → blocks ++ written_block key (number, last) ∷ [] ≡ map (written_block key) (enumerate_from 0 (closed ++ last ∷ []))
blocks_with key number closed last blocks are is =
    rw (are, is, same_block key (length closed) last) (let e : length closed ≡ 0 + length closed = omega arith in
    ap (λ k. map (written_block key) (enumerate_from 0 closed) ++ written_block key (k, last) ∷ []) e ∙ sym (blocks_from key 0 closed last))

pub number_with : (number : ℕ) (closed : List (List Fragment)) (last : List Fragment) → number ≡ length closed % 2 ^ 32 → (number + 1) % 2 ^ 32 ≡ length (closed ++ last ∷ []) % 2 ^ 32
number_with number closed last is = omega (arith, is, length-append closed (last ∷ []))

-- ---- records

-- the parts of one more record
pub cut_more : (records : List Record) (r : Record) (fs parts : List Fragment) → IsCut records fs → AreParts r parts → IsCut (records ++ r ∷ []) (fs ++ parts)
cut_more [] r fs parts cut are = (parts, [], ap (λ (x : List Fragment). x ++ parts) cut ∙ sym (append-nil parts), are, refl)
cut_more (q ∷ qs) r fs parts cut are =
    (cut.0, cut.1 ++ parts, ap (λ (x : List Fragment). x ++ parts) cut.2 ∙ append_assoc cut.0 cut.1 parts, cut.3, cut_more qs r cut.1 parts cut.4 are)

-- ---- the current block

-- a block to which a fragment is added stays whole, or is full
pub added_or_not : {E : Type 0} (r : Result (Unit {0}) E) (before after : Building) (f : Fragment) (limit : ℕ) → OnOk r (after ≡ record before { fragments = before.fragments ++ f ∷ [] })
    → OnErr r (after ≡ before) → are_whole before.fragments ≡ true → (length f.bytes < f.size → block_size before.fragments + 12 + length f.bytes ≡ limit) → length f.bytes ≤ f.size
    → (after.session ≡ before.session) × (after.limit ≡ before.limit) × (block_size after.fragments < limit → are_whole after.fragments ≡ true)
added_or_not (Ok x) before after f limit ok err whole full within =
    let fragments = ap (λ (b : Building). b.fragments) ok in (
      ap (λ (b : Building). b.session) ok,
      ap (λ (b : Building). b.limit) ok,
      λ lt.
          let size : length f.bytes ≡ f.size = elim (cases_lt (length f.bytes) f.size) [
            | inl less ↦ absurd (omega (arith, lt, ap block_size fragments, size_more before.fragments f, full less))
            | inr le ↦ omega (arith, le, within)
          ] in
          ap are_whole fragments ∙ whole_more before.fragments f whole size,
    )
added_or_not (Err e) before after f limit ok err whole full within =
    (ap (λ (b : Building). b.session) err, ap (λ (b : Building). b.limit) err, λ lt. ap (λ (b : Building). are_whole b.fragments) err ∙ whole)

-- ---- one more record

-- after a cut the first fragment of a record, and then fragments that continue it
pub begins : (records : List Record) (r : Record) (fs more : List Fragment) (f : Fragment) (after : List ℕ) → IsCut records fs → f.index ≡ pos r.index → f.stream ≡ pos r.stream
    → f.size ≡ length r.bytes → r.bytes ≡ f.bytes ++ after → 1 ≤ r.stream → GoOn r.index r.stream after more → IsCut (records ++ r ∷ []) ((fs ++ f ∷ []) ++ more)
begins records r fs more f after cut index stream size joined some go =
    subst (λ (x : List Fragment). IsCut (records ++ r ∷ []) x) (sym (append_assoc fs (f ∷ []) more))
    (cut_more records r fs (f ∷ more) cut (index, stream, size, after, joined, go, λ none. absurd (omega (arith, none, some))))

-- and one more that goes on with it
pub continues : (records : List Record) (r : Record) (fs more : List Fragment) (f : Fragment) (left after : List ℕ)
    → ((next : List Fragment) → GoOn r.index r.stream left next → IsCut records (fs ++ next)) → f.index ≡ pos r.index → f.stream ≡ neg_ℤ (pos r.stream)
    → f.size ≡ length left → 0 < length left → left ≡ f.bytes ++ after → GoOn r.index r.stream after more → IsCut records ((fs ++ f ∷ []) ++ more)
continues records r fs more f left after goes_on index stream size some joined go =
    subst (λ (x : List Fragment). IsCut records x) (sym (append_assoc fs (f ∷ []) more)) (goes_on (f ∷ more) (index, stream, size, some, after, joined, go))

-- a stream that is negated in 32 bits
negative_is : (n : ℕ) → n < 2 ^ 31 → to_z w32 (of_z w32 (neg_ℤ (pos n))) ≡ neg_ℤ (pos n)
negative_is zero lt = refl
negative_is (suc n) lt = to_z-of_z w32 (negsuc n) (fits_signed_from_abs w32 (negsuc n) lt)

pub negated : (n : ℕ) → n < 2 ^ 31 → to_z w32 (of_z w32 (pos 0 -ℤ to_z w32 n)) ≡ neg_ℤ (pos n)
negated n lt = let zero_less : pos 0 -ℤ pos n ≡ neg_ℤ (pos n) = +ℤ_idl (neg_ℤ (pos n)) in rw (to_z_pos w32 n lt, zero_less) (negative_is n lt)
