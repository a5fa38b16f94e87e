-- The spans of visits of whole blocks fit together.
use Rattle.std.proofs.Common.{◌≡◌, ℕ, ◌+◌, ◌-◌, ◌^◌, ◌<◌, ◌≤◌, Bool, true, false, not, ◌&&◌, ◌||◌, cond, eqb, leb, ltb, List, [], ◌∷◌, length, min, max, Some, Ok, Err, refl, ap, inl, inr, arith}
use Rattle.std.proofs.lemmas.Bool.{and_from, or_parts, or_from, ltb-false, le-leb, lt-leb, lt-ltb, eq-eqb}
use Rattle.std.proofs.lemmas.List.{length-append}
use Rattle.std.proofs.lemmas.List.Concat.{length-flat_map}
use Rattle.std.proofs.lemmas.Slice.Eq.{bytes_eq-Decides}
use Rattle.std.specs.Prelude.{fold, bytes_eq, find, nat_le}
use Rattle.std.specs.Option.{option_map_or}
use Rattle.std.specs.List.{AllByRecursion, list_any, list_all, enumerate_from}
use Rattle.br_model.specs.Job.{Span, is_span, overlaps, no_pair}
use Rattle.br_model.specs.Session.{Visit, length_of, least_of, greatest_of, visit_indexes, visit_length, spans_from, checked_spans}
use Rattle.br_model.proofs.AnswerLaws.{chosen, ok_is, err_is_not_ok}
use Rattle.br_model.proofs.VolumeLaws.{header_has_16}
use Rattle.br_model.proofs.WrittenVolumeLaws.{IsWholeBlock, joined}
use Rattle.br_model.proofs.WrittenSpanLaws.{IsWholeVisit, with_visit}

-- ---- one visit

fold_low : (m : ℕ) (ns : List ℕ) → fold min m ns ≤ m
fold_low m [] = omega arith
fold_low m (n ∷ ns) = let h = fold_low (min m n) ns in omega (arith, h)

fold_high : (m : ℕ) (ns : List ℕ) → m ≤ fold max m ns
fold_high m [] = omega arith
fold_high m (n ∷ ns) = let h = fold_high (max m n) ns in omega (arith, h)

-- the least number is no more than the greatest
least_to_greatest : (ns : List ℕ) → least_of ns ≤ greatest_of ns
least_to_greatest [] = omega arith
least_to_greatest (n ∷ ns) = let low = fold_low n ns in let high = fold_high (max 0 n) ns in omega (arith, low, high)

-- whole blocks have bytes
blocks_have_bytes : (blocks : List (List ℕ)) → 0 < length blocks → AllByRecursion IsWholeBlock blocks → 0 < length (joined blocks)
blocks_have_bytes [] some whole = absurd (omega (arith, some))
blocks_have_bytes (b ∷ bs) some whole =
    let long : 16 ≤ length b = (header_has_16 b whole.0.header whole.0.read).0 in
    omega (arith, long, length-append b (joined bs))

visit_has_bytes : (v : Visit) → IsWholeVisit v → 0 < visit_length v
visit_has_bytes v is =
    let same : length (joined v.blocks) ≡ visit_length v = length-flat_map (λ (b : List ℕ). b) v.blocks in
    omega (arith, same, blocks_have_bytes v.blocks is.some is.whole)

-- the span of a visit, under a number, to volumes of these lengths
abbrev span_of : ℕ → List (List ℕ × ℕ) → Visit → Span
span_of number lengths v = record {
  volume = v.volume;
  first = least_of (visit_indexes v);
  last = greatest_of (visit_indexes v);
  start = length_of lengths v.volume;
  end = length_of lengths v.volume + visit_length v - 1;
  vol_index = number;
}

-- ---- each span

-- a span from a length on, of some bytes, ends at its start or later
ends_later : (l n : ℕ) → 0 < n → l ≤ l + n - 1
ends_later l n some = omega (arith, some)

-- and before the volume's new length
ends_before : (l n m : ℕ) → 0 < n → m ≡ l + n → l + n - 1 < m
ends_before l n m some e = omega (arith, some, e)

good_end : (n : ℕ) → ltb (2 ^ 63 - 2) n ≡ false → n < 2 ^ 63
good_end n e = let to = ltb-false (2 ^ 63 - 2) n e in omega (arith, to)

span_if : (s : Span) → s.first ≤ s.last → s.start ≤ s.end → s.end < 2 ^ 63 → is_span s ≡ true
span_if s indexes bytes end =
    and_from (leb s.first s.last && leb s.start s.end) (ltb s.end (2 ^ 63))
    (and_from (leb s.first s.last) (leb s.start s.end) (le-leb s.first s.last indexes) (le-leb s.start s.end bytes)) (lt-ltb s.end (2 ^ 63) end)

-- each span that ends at a good address is one
pub each_is_span : (number : ℕ) (lengths : List (List ℕ × ℕ)) (vs : List Visit) → AllByRecursion IsWholeVisit vs
    → list_any (λ (s : Span). ltb (2 ^ 63 - 2) s.end) (spans_from number lengths vs) ≡ false → list_all is_span (spans_from number lengths vs) ≡ true
unfolding spans_from
each_is_span number lengths [] are within = refl
each_is_span number lengths (v ∷ vs) are within =
    let start = length_of lengths v.volume in
    let end = length_of lengths v.volume + visit_length v - 1 in
    let more = spans_from (number + 1) (with_visit v lengths) vs in
    let parts = or_parts (ltb (2 ^ 63 - 2) end) (list_any (λ (t : Span). ltb (2 ^ 63 - 2) t.end) more) within in
    let here = span_if (span_of number lengths v) (least_to_greatest (visit_indexes v)) (ends_later start (visit_length v) (visit_has_bytes v are.0)) (good_end end parts.0) in
    and_from (is_span (span_of number lengths v)) (list_all is_span more) here (each_is_span (number + 1) (with_visit v lengths) vs are.1 parts.1)

-- each has its number
pub each_is_numbered : (number : ℕ) (lengths : List (List ℕ × ℕ)) (vs : List Visit)
    → list_all (λ (s : ℕ × Span). eqb s.1.vol_index s.0) (enumerate_from number (spans_from number lengths vs)) ≡ true
unfolding spans_from
each_is_numbered number lengths [] = refl
each_is_numbered number lengths (v ∷ vs) =
    and_from (eqb number number) (list_all (λ (s : ℕ × Span). eqb s.1.vol_index s.0) (enumerate_from (number + 1) (spans_from (number + 1) (with_visit v lengths) vs)))
    (eq-eqb number number refl) (each_is_numbered (number + 1) (with_visit v lengths) vs)

-- ---- no two overlap

same_or_more : (n : ℕ) → n ≤ n
same_or_more n = omega arith

sum_is_more : (a l n : ℕ) → l ≡ a → a ≤ l + n
sum_is_more a l n e = omega (arith, e)

-- a volume is not shorter after a visit
grows : (lengths : List (List ℕ × ℕ)) (v : Visit) (name : List ℕ) → length_of lengths name ≤ length_of (with_visit v lengths) name
grows lengths v name = go (bytes_eq v.volume name) refl
  where
    go : (b : Bool) → bytes_eq v.volume name ≡ b
        → length_of lengths name ≤ option_map_or (λ (l : List ℕ × ℕ). l.1) (cond b (Some (v.volume, length_of lengths v.volume + visit_length v)) (find (λ (l : List ℕ × ℕ). bytes_eq l.0 name) lengths)) 0
    go true e = sum_is_more (length_of lengths name) (length_of lengths v.volume) (visit_length v) (ap (length_of lengths) ((bytes_eq-Decides v.volume name).0 e))
    go false e = same_or_more (length_of lengths name)

-- and a volume that is visited has the bytes of the visit
has_visit : (lengths : List (List ℕ × ℕ)) (v : Visit) → length_of (with_visit v lengths) v.volume ≡ length_of lengths v.volume + visit_length v
has_visit lengths v =
    ap (λ (b : Bool). option_map_or (λ (l : List ℕ × ℕ). l.1) (cond b (Some (v.volume, length_of lengths v.volume + visit_length v)) (find (λ (l : List ℕ × ℕ). bytes_eq l.0 v.volume) lengths)) 0)
    ((bytes_eq-Decides v.volume v.volume).1 refl)

-- a span does not overlap one that starts at the end of a volume, if it ends before that
apart : (s : Span) (number : ℕ) (lengths : List (List ℕ × ℕ)) (v : Visit) → s.end < length_of lengths s.volume → overlaps s (span_of number lengths v) ≡ false
apart s number lengths v below = go (bytes_eq s.volume v.volume) refl
  where
    go : (b : Bool) → bytes_eq s.volume v.volume ≡ b → (b && leb (length_of lengths v.volume) s.end) ≡ false
    go true e =
        let same : length_of lengths s.volume ≡ length_of lengths v.volume = ap (length_of lengths) ((bytes_eq-Decides s.volume v.volume).0 e) in
        lt-leb (length_of lengths v.volume) s.end (omega (arith, same, below))
    go false e = refl

-- nor those of later visits
apart_from_all : (s : Span) (number : ℕ) (lengths : List (List ℕ × ℕ)) (vs : List Visit) → s.end < length_of lengths s.volume → list_any (overlaps s) (spans_from number lengths vs) ≡ false
unfolding spans_from
apart_from_all s number lengths [] below = refl
apart_from_all s number lengths (v ∷ vs) below =
    let later = grows lengths v s.volume in
    or_from (overlaps s (span_of number lengths v)) (list_any (overlaps s) (spans_from (number + 1) (with_visit v lengths) vs))
    (apart s number lengths v below) (apart_from_all s (number + 1) (with_visit v lengths) vs (omega (arith, below, later)))

-- no two spans of visits overlap
pub none_overlap : (number : ℕ) (lengths : List (List ℕ × ℕ)) (vs : List Visit) → AllByRecursion IsWholeVisit vs → no_pair overlaps (spans_from number lengths vs) ≡ true
unfolding spans_from no_pair
none_overlap number lengths [] are = refl
none_overlap number lengths (v ∷ vs) are =
    let s = span_of number lengths v in
    let more = spans_from (number + 1) (with_visit v lengths) vs in
    let some = visit_has_bytes v are.0 in
    let below = ends_before (length_of lengths v.volume) (visit_length v) (length_of (with_visit v lengths) v.volume) some (has_visit lengths v) in
    and_from (not (list_any (overlaps s) more)) (no_pair overlaps more)
    (ap not (apart_from_all s (number + 1) (with_visit v lengths) vs below)) (none_overlap (number + 1) (with_visit v lengths) vs are.1)

-- ---- spans that are not refused

-- spans that are not refused are those of the visits, and each ends at a good address
pub spans_checked : (starts : List (List ℕ × ℕ)) (vs : List Visit) (spans : List Span) → checked_spans starts vs ≡ Ok spans
    → (spans_from 1 starts vs ≡ spans) × (list_any (λ (s : Span). ltb (2 ^ 63 - 2) s.end) (spans_from 1 starts vs) ≡ false)
unfolding checked_spans
spans_checked starts vs spans e =
    let made = spans_from 1 starts vs in
    let over = list_any (λ (s : Span). ltb (2 ^ 63 - 2) s.end) made in
    elim (chosen (over || nat_le (2 ^ 32) (length made)) (Err 42) (Ok made) (Ok spans) e) [
      | inl p ↦ absurd (err_is_not_ok 42 spans p.1)
      | inr p ↦ (ok_is made spans p.1, (or_parts over (nat_le (2 ^ 32) (length made)) p.0).0)
    ]
