-- Spans of blocks that are dealt out over places, one after another.
use Rattle.std.proofs.Common.{◌≡◌, ℕ, ◌+◌, ◌-◌, ◌<◌, ◌≤◌, ◌^◌, Bool, true, false, ◌||◌, cond, eqb, ltb, List, [], ◌∷◌, ◌++◌, length, take, drop, map, Result, Ok, Err, Option, Some, None, refl, sym, ap, subst, ◌∙◌, append_assoc, inl, inr, arith}
use Rattle.std.proofs.lemmas.Bool.{eqb-true, eqb-false, ltb-false, leb-false, leb-true, le-leb, lt-leb}
use Rattle.std.proofs.lemmas.List.{append-nil, length-append, length-map}
use Rattle.std.proofs.lemmas.List.Folds.{list_any-append}
use Rattle.std.proofs.lemmas.List.Sums.{sum_by-cons}
use Rattle.std.specs.Prelude.{nat_le, sum_by}
use Rattle.std.specs.List.{list_any}
use Rattle.std.specs.BTreeMap.{BTreeMap}
use denote.Ref.{Bor}
use Rattle.br_model.specs.Answer.{IsRefusal}
use Rattle.br_model.specs.Block.{Header, read_header, read_block}
use Rattle.br_model.specs.Job.{Span}
use Rattle.br_model.specs.Session.{Place, Visit, onto_visits, visits, visit_length, length_of, spans_from, checked_spans}
use Rattle.br_model.proofs.AnswerLaws.{bind_ok, chosen, ok_is, err_is, err_is_not_ok}
use Rattle.br_model.proofs.VolumeLaws.{header_has_16}
use Rattle.br_model.proofs.ListLaws.{long_is_not_empty}
use Rattle.br_session.specs.Spans.{length_at, AreLengths, AreReadable, share, span_at, checked_span}
use Rattle.br_session.proofs.DealLaws.{visits_cut, no_visits, images_cut}

-- ---- one span

-- the span ends too late
abbrev pub is_late : Span → Bool
is_late s = ltb (2 ^ 63 - 2) s.end

-- a span that passes is as it was, in time, and its number has 32 bits
pub passed : (s t : Span) → checked_span s ≡ Ok t → (t ≡ s) × (is_late s ≡ false) × (s.vol_index < 2 ^ 32)
unfolding checked_span
passed s t e = elim (chosen (is_late s || nat_le (2 ^ 32) s.vol_index) (Err 42) (Ok s) (Ok t) e) [
  | inl p ↦ absurd (err_is_not_ok 42 t p.1)
  | inr p ↦ (sym (ok_is s t p.1), (neither (is_late s) (nat_le (2 ^ 32) s.vol_index) p.0).0, above s.vol_index (neither (is_late s) (nat_le (2 ^ 32) s.vol_index) p.0).1)
]
  where
    neither : (a b : Bool) → (a || b) ≡ false → (a ≡ false) × (b ≡ false)
    neither true b h = absurd cc
    neither false b h = (refl, h)

    above : (n : ℕ) → nat_le (2 ^ 32) n ≡ false → n < 2 ^ 32
    above n h = leb-false (2 ^ 32) n h

-- one that does not is late, or its number is too great
pub stopped : (s : Span) → checked_span s ≡ Err 42 → (is_late s || nat_le (2 ^ 32) s.vol_index) ≡ true
unfolding checked_span
stopped s e = elim (chosen (is_late s || nat_le (2 ^ 32) s.vol_index) (Err 42) (Ok s) (Err 42) e) [
  | inl p ↦ p.0
  | inr p ↦ absurd (not_ok p.1)
]
  where
    not_ok : ◌≡◌ {A = Result Span ℕ} (Ok s) (Err 42) → ⊥
    not_ok h = absurd cc

-- it is refused with 42 and nothing else
only_42 : (s : Span) (n : ℕ) → checked_span s ≡ Err n → n ≡ 42
unfolding checked_span
only_42 s n e = elim (chosen (is_late s || nat_le (2 ^ 32) s.vol_index) (Err 42) (Ok s) (Err n) e) [
  | inl p ↦ sym (err_is 42 n p.1)
  | inr p ↦ absurd (not_ok p.1)
]
  where
    not_ok : ◌≡◌ {A = Result Span ℕ} (Ok s) (Err n) → ⊥
    not_ok h = absurd cc

-- the spans as a test and two answers
checked_is : (starts : List (List ℕ × ℕ)) (vs : List Visit) (all : List Span) → spans_from 1 starts vs ≡ all
    → checked_spans starts vs ≡ cond (list_any is_late all || nat_le (2 ^ 32) (length all)) (Err 42) (Ok all)
unfolding checked_spans
checked_is starts vs all e = ap (λ (ss : List Span). cond (list_any is_late ss || nat_le (2 ^ 32) (length ss)) (Err 42) (Ok ss)) e

-- they too are refused with 42 and nothing else
pub spans_only_42 : (starts : List (List ℕ × ℕ)) (vs : List Visit) (n : ℕ) → checked_spans starts vs ≡ Err n → n ≡ 42
spans_only_42 starts vs n e =
    let all = spans_from 1 starts vs in
    elim (chosen (list_any is_late all || nat_le (2 ^ 32) (length all)) (Err 42) (Ok all) (Err n) (sym (checked_is starts vs all refl) ∙ e)) [
      | inl p ↦ sym (err_is 42 n p.1)
      | inr p ↦ absurd (not_ok all p.1)
    ]
  where
    not_ok : (all : List Span) → ◌≡◌ {A = Result (List Span) ℕ} (Ok all) (Err n) → ⊥
    not_ok all h = absurd cc

-- ---- blocks that can be read

-- a block that can be read has 16 bytes at least
readable_is_long : (block : List ℕ) → read_block block ≡ Ok block → 16 ≤ length block
unfolding read_block
readable_is_long block e =
    let head = bind_ok (read_header block) (λ (h : Header). cond (ltb (length block) h.size) (Err 12) (Ok (take h.size block))) block e in
    (header_has_16 block head.0 head.1).0

pub some_bytes : (blocks : List (List ℕ)) → AreReadable blocks → 0 < length blocks → 1 ≤ sum_by (λ (block : List ℕ). length block) blocks
some_bytes [] readable some = absurd (omega arith)
some_bytes (b ∷ bs) readable some = omega (arith, sum_by-cons (λ (block : List ℕ). length block) b bs, readable_is_long b readable.0)

-- the parts of which there are some
pub some_parts : {B : Type 0} (f : B → List ℕ) (xs : List B) (b : Bool) → b ≡ eqb (length xs) 0 → b ≡ false → 0 < length (map f xs)
some_parts f xs b is e = omega (arith, length-map xs f, eqb-false (length xs) 0 (sym is ∙ e))

-- and of which there are none
pub no_parts : {B : Type 0} (f : B → List ℕ) (xs : List B) (b : Bool) → b ≡ eqb (length xs) 0 → b ≡ true → map f xs ≡ []
no_parts f [] b is e = refl
no_parts f (x ∷ xs) b is e = absurd (omega (arith, eqb-true (length (x ∷ xs)) 0 (sym is ∙ e)))

-- ---- what the first place takes

-- the first of the places takes its share of the blocks that are left
pub record Takes (left more : List Place) (p : Place) (rest taken behind : List (List ℕ)) : Type 0 where
  pub next : left ≡ p ∷ more
  pub cut : rest ≡ taken ++ behind
  pub counted : length taken ≡ share p more (length rest)

visits_taken : (left more : List Place) (p : Place) (rest taken behind : List (List ℕ)) → Takes left more p rest taken behind
    → visits left rest ≡ onto_visits (record { volume = p.volume; blocks = taken }) (visits more behind)
visits_taken left more p rest taken behind t =
    ap (λ (ps : List Place). visits ps rest) t.next ∙ ap (visits (p ∷ more)) t.cut
    ∙ visits_cut p more taken behind (t.counted ∙ ap (λ (bs : List (List ℕ)). share p more (length bs)) t.cut)

-- the same of what the blocks are the bytes of
pub takes_parts : {B : Type 0} (f : B → List ℕ) (left more : List Place) (p : Place) (rest taken behind : List B) (n : ℕ) → left ≡ p ∷ more → taken ≡ take n rest → behind ≡ drop n rest
    → length taken ≡ n → n ≡ share p more (length rest) → Takes left more p (map f rest) (map f taken) (map f behind)
takes_parts f left more p rest taken behind n next front back long shares = record {
  next = next;
  cut = rw (front, back) (images_cut f n rest);
  counted = length-map taken f ∙ long ∙ shares ∙ ap (share p more) (sym (length-map rest f));
}

-- ---- spans so far

-- the spans of the blocks that are dealt out, and the lengths of the volumes then
pub record SoFar (starts : List (List ℕ × ℕ)) (places left : List Place) (blocks rest : List (List ℕ)) (lengths : BTreeMap (Bor (List ℕ)) ℕ) (spans : List Span) : Type 0 where
  pub list : List (List ℕ × ℕ)
  pub are : AreLengths lengths list
  pub joined : spans ++ spans_from (length spans + 1) list (visits left rest) ≡ spans_from 1 starts (visits places blocks)
  pub in_time : list_any is_late spans ≡ false
  pub few : length spans < 2 ^ 32
  pub readable : AreReadable rest

pub so_far_start : (starts : List (List ℕ × ℕ)) (places : List Place) (blocks : List (List ℕ)) (lengths : BTreeMap (Bor (List ℕ)) ℕ) → AreLengths lengths starts → AreReadable blocks
    → SoFar starts places places blocks blocks lengths []
so_far_start starts places blocks lengths are readable = record { list = starts; are = are; joined = refl; in_time = refl; few = omega arith; readable = readable }

-- the rest after a front can be read if all can
readable_parts : (taken behind : List (List ℕ)) → AreReadable (taken ++ behind) → AreReadable taken × AreReadable behind
readable_parts [] behind h = (tt, h)
readable_parts (b ∷ bs) behind h = let more = readable_parts bs behind h.1 in ((h.0, more.0), more.1)

-- the next place takes nothing
pub so_far_none : (starts : List (List ℕ × ℕ)) (places left more : List Place) (p : Place) (blocks rest taken behind : List (List ℕ)) (lengths : BTreeMap (Bor (List ℕ)) ℕ) (spans : List Span)
    → SoFar starts places left blocks rest lengths spans → Takes left more p rest taken behind → taken ≡ []
    → SoFar starts places more blocks behind lengths spans
so_far_none starts places left more p blocks rest taken behind lengths spans so_far t none =
    let step : visits left rest ≡ visits more behind =
    visits_taken left more p rest taken behind t
    ∙ ap (λ (bs : List (List ℕ)). onto_visits (record { volume = p.volume; blocks = bs }) (visits more behind)) none in
    record {
      list = so_far.list;
      are = so_far.are;
      joined = ap (λ (vs : List Visit). spans ++ spans_from (length spans + 1) so_far.list vs) (sym step) ∙ so_far.joined;
      in_time = so_far.in_time;
      few = so_far.few;
      readable = (readable_parts taken behind (subst AreReadable t.cut so_far.readable)).1;
    }

-- the first visit with blocks makes the first span
spans_next : (number : ℕ) (list : List (List ℕ × ℕ)) (v : Visit) (vs : List Visit) → 0 < length v.blocks
    → spans_from number list (onto_visits v vs) ≡ span_at number (length_of list v.volume) v ∷ spans_from (number + 1) ((v.volume, length_of list v.volume + visit_length v) ∷ list) vs
unfolding spans_from
spans_next number list v vs some = rw (long_is_not_empty v.blocks some) refl

-- all spans, with the one of the next place
with_next : (starts : List (List ℕ × ℕ)) (places left more : List Place) (p : Place) (blocks rest taken behind : List (List ℕ)) (lengths : BTreeMap (Bor (List ℕ)) ℕ) (spans : List Span)
    → (so_far : SoFar starts places left blocks rest lengths spans) → Takes left more p rest taken behind → 0 < length taken
    → (start : ℕ) → start ≡ length_at lengths p.volume
    → (spans ++ span_at (length spans + 1) start (record { volume = p.volume; blocks = taken }) ∷ [])
    ++ spans_from (length spans + 1 + 1) ((p.volume, start + visit_length (record { volume = p.volume; blocks = taken })) ∷ so_far.list) (visits more behind)
    ≡ spans_from 1 starts (visits places blocks)
with_next starts places left more p blocks rest taken behind lengths spans so_far t some start start_is =
    let v : Visit = record { volume = p.volume; blocks = taken } in
    let number = length spans + 1 in
    let step = visits_taken left more p rest taken behind t in
    let here = start_is ∙ so_far.are p.volume in
    let after : ℕ → List Span = λ n. span_at number n v ∷ spans_from (number + 1) ((p.volume, n + visit_length v) ∷ so_far.list) (visits more behind) in
    append_assoc spans (span_at number start v ∷ []) (spans_from (number + 1) ((p.volume, start + visit_length v) ∷ so_far.list) (visits more behind))
    ∙ ap (λ (ss : List Span). spans ++ ss) (ap after here ∙ sym (spans_next number so_far.list v (visits more behind) some) ∙ ap (spans_from number so_far.list) (sym step))
    ∙ so_far.joined

-- the next place takes blocks, and its span passes
pub so_far_span : (starts : List (List ℕ × ℕ)) (places left more : List Place) (p : Place) (blocks rest taken behind : List (List ℕ)) (lengths new : BTreeMap (Bor (List ℕ)) ℕ) (spans : List Span) (s : Span)
    → SoFar starts places left blocks rest lengths spans → Takes left more p rest taken behind → 0 < length taken
    → (volume : List ℕ) (count start end : ℕ) → count ≡ length spans → volume ≡ p.volume → start ≡ length_at lengths volume
    → checked_span (span_at (count + 1) start (record { volume = p.volume; blocks = taken })) ≡ Ok s → end ≡ s.end
    → ((list : List (List ℕ × ℕ)) → AreLengths lengths list → AreLengths new ((volume, end + 1) ∷ list))
    → SoFar starts places more blocks behind new (spans ++ s ∷ [])
so_far_span starts places left more p blocks rest taken behind lengths new spans s so_far t some volume count start end counted named start_is passes end_same set =
    let v : Visit = record { volume = p.volume; blocks = taken } in
    let number = length spans + 1 in
    let ok = passed (span_at number start v) s (ap (λ n. checked_span (span_at (n + 1) start v)) (sym counted) ∙ passes) in
    let parts = readable_parts taken behind (subst AreReadable t.cut so_far.readable) in
    let bytes = some_bytes taken parts.0 some in
    let end_is : s.end ≡ start + visit_length v - 1 = ap (λ (u : Span). u.end) ok.0 in
    let behind_is : start + visit_length v ≡ s.end + 1 = omega (arith, end_is, bytes) in
    let count : length (spans ++ s ∷ []) ≡ number = length-append spans (s ∷ []) in
    let whole = with_next starts places left more p blocks rest taken behind lengths spans so_far t some start (start_is ∙ ap (length_at lengths) named) in
    record {
      list = (p.volume, s.end + 1) ∷ so_far.list;
      are = subst (λ (l : List ℕ × ℕ). AreLengths new (l ∷ so_far.list)) (pair_is volume p.volume (end + 1) (s.end + 1) named (ap (λ n. n + 1) end_same)) (set so_far.list so_far.are);
      joined =
          ap (λ n. (spans ++ s ∷ []) ++ spans_from (n + 1) ((p.volume, s.end + 1) ∷ so_far.list) (visits more behind)) count
          ∙ ap (λ n. (spans ++ s ∷ []) ++ spans_from (number + 1) ((p.volume, n) ∷ so_far.list) (visits more behind)) (sym behind_is)
          ∙ ap (λ (u : Span). (spans ++ u ∷ []) ++ spans_from (number + 1) ((p.volume, start + visit_length v) ∷ so_far.list) (visits more behind)) ok.0 ∙ whole;
      in_time = list_any-append is_late spans (s ∷ []) ∙ neither (list_any is_late spans) (is_late s) so_far.in_time (ap is_late ok.0 ∙ ok.1);
      few = omega (arith, count, ok.2);
      readable = parts.1;
    }
  where
    neither : (a b : Bool) → a ≡ false → b ≡ false → (a || (b || false)) ≡ false
    neither a b x y = rw (x, y) refl

    pair_is : (a b : List ℕ) (m n : ℕ) → a ≡ b → m ≡ n → ◌≡◌ {A = List ℕ × ℕ} (a, m) (b, n)
    pair_is a b m n x y = cc

by_last : (a : Bool) → (a || true) ≡ true
by_last true = refl
by_last false = refl

by_first : (a c d : Bool) → (a || (true || false) || c || d) ≡ true
by_first true c d = refl
by_first false c d = refl

-- one span that is refused is enough
refused_by : (starts : List (List ℕ × ℕ)) (vs : List Visit) (front back : List Span) (s : Span) → spans_from 1 starts vs ≡ (front ++ s ∷ []) ++ back → s.vol_index ≡ length front + 1
    → checked_span s ≡ Err 42 → checked_spans starts vs ≡ Err 42
refused_by starts vs front back s all number stops =
    let long : s.vol_index ≤ length ((front ++ s ∷ []) ++ back) = omega (arith, number, length-append (front ++ s ∷ []) back, length-append front (s ∷ [])) in
    let any : list_any is_late ((front ++ s ∷ []) ++ back) ≡ (list_any is_late front || (is_late s || false) || list_any is_late back) =
    list_any-append is_late (front ++ s ∷ []) back ∙ ap (λ b. b || list_any is_late back) (list_any-append is_late front (s ∷ [])) in
    checked_is starts vs ((front ++ s ∷ []) ++ back) all ∙ rw (any, decided (list_any is_late front) (is_late s) (list_any is_late back) s.vol_index _ long (stopped s stops)) refl
  where
    decided : (a b c : Bool) (n m : ℕ) → n ≤ m → (b || nat_le (2 ^ 32) n) ≡ true → (a || (b || false) || c || nat_le (2 ^ 32) m) ≡ true
    decided a true c n m le h = by_first a c (nat_le (2 ^ 32) m)
    decided a false c n m le h = rw (le-leb (2 ^ 32) m (omega (arith, leb-true (2 ^ 32) n h, le))) (by_last (a || (false || false) || c))

-- the span of the next place stops all
so_far_stopped : (starts : List (List ℕ × ℕ)) (places left more : List Place) (p : Place) (blocks rest taken behind : List (List ℕ)) (lengths : BTreeMap (Bor (List ℕ)) ℕ) (spans : List Span)
    → SoFar starts places left blocks rest lengths spans → Takes left more p rest taken behind → 0 < length taken
    → (volume : List ℕ) (count start : ℕ) → count ≡ length spans → volume ≡ p.volume → start ≡ length_at lengths volume
    → checked_span (span_at (count + 1) start (record { volume = p.volume; blocks = taken })) ≡ Err 42
    → checked_spans starts (visits places blocks) ≡ Err 42
so_far_stopped starts places left more p blocks rest taken behind lengths spans so_far t some volume count start counted named start_is stops =
    let v : Visit = record { volume = p.volume; blocks = taken } in
    let whole = with_next starts places left more p blocks rest taken behind lengths spans so_far t some start (start_is ∙ ap (length_at lengths) named) in
    refused_by starts (visits places blocks) spans _ (span_at (length spans + 1) start v) (sym whole) refl (ap (λ n. checked_span (span_at (n + 1) start v)) (sym counted) ∙ stops)

no_more : (ss : List Span) (number : ℕ) (list : List (List ℕ × ℕ)) → ss ++ spans_from number list [] ≡ ss
unfolding spans_from
no_more ss number list = append-nil ss

-- the refusal of the next span is that of all
pub so_far_refused : (starts : List (List ℕ × ℕ)) (places left more : List Place) (p : Place) (blocks rest taken behind : List (List ℕ)) (lengths : BTreeMap (Bor (List ℕ)) ℕ) (spans : List Span) (o : Option ℕ)
    → SoFar starts places left blocks rest lengths spans → Takes left more p rest taken behind → 0 < length taken
    → (volume : List ℕ) (count start : ℕ) → count ≡ length spans → volume ≡ p.volume → start ≡ length_at lengths volume
    → IsRefusal o (checked_span (span_at (count + 1) start (record { volume = p.volume; blocks = taken })))
    → IsRefusal o (checked_spans starts (visits places blocks))
so_far_refused starts places left more p blocks rest taken behind lengths spans None so_far t some volume count start counted named start_is stops = tt
so_far_refused starts places left more p blocks rest taken behind lengths spans (Some n) so_far t some volume count start counted named start_is stops =
    let is = only_42 (span_at (count + 1) start (record { volume = p.volume; blocks = taken })) n stops in
    let all = so_far_stopped starts places left more p blocks rest taken behind lengths spans so_far t some volume count start counted named start_is (stops ∙ ap (λ m. Err m) is) in
    all ∙ ap (λ m. Err m) (sym is)

-- what the next place takes can be read
pub so_far_reads : (starts : List (List ℕ × ℕ)) (places left more : List Place) (p : Place) (blocks rest taken behind : List (List ℕ)) (lengths : BTreeMap (Bor (List ℕ)) ℕ) (spans : List Span)
    → SoFar starts places left blocks rest lengths spans → Takes left more p rest taken behind → AreReadable taken
so_far_reads starts places left more p blocks rest taken behind lengths spans so_far t = (readable_parts taken behind (subst AreReadable t.cut so_far.readable)).0

-- a span that passed ends so early that one more byte has an address
pub end_fits : (s u : Span) → checked_span s ≡ Ok u → u.end + 1 < 2 ^ 64
end_fits s u e =
    let ok = passed s u e in
    let end_is : u.end ≡ s.end = ap (λ (w : Span). w.end) ok.0 in
    omega (arith, ltb-false (2 ^ 63 - 2) s.end ok.1, end_is)

-- no place is left
pub so_far_all : (starts : List (List ℕ × ℕ)) (places left : List Place) (blocks rest : List (List ℕ)) (lengths : BTreeMap (Bor (List ℕ)) ℕ) (spans : List Span)
    → SoFar starts places left blocks rest lengths spans → length left ≡ 0 → checked_spans starts (visits places blocks) ≡ Ok spans
so_far_all starts places (p ∷ left) blocks rest lengths spans so_far none = absurd (omega (arith, none))
so_far_all starts places [] blocks rest lengths spans so_far none =
    let whole : spans_from 1 starts (visits places blocks) ≡ spans =
    sym so_far.joined ∙ ap (λ (vs : List Visit). spans ++ spans_from (length spans + 1) so_far.list vs) (no_visits rest) ∙ no_more spans (length spans + 1) so_far.list in
    checked_is starts (visits places blocks) spans whole ∙ rw (so_far.in_time, lt-leb (2 ^ 32) (length spans) so_far.few) refl
