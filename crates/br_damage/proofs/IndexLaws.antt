-- Which indexes are left of those of some ranges.
use Rattle.std.proofs.Common.{◌≡◌, ℕ, suc, ◌+◌, ◌-◌, ◌*◌, ◌^◌, ◌<◌, ◌≤◌, Bool, true, false, not, ◌&&◌, ◌||◌, cond, ltb, leb, List, [], ◌∷◌, ◌++◌, length, take, get_or, refl, sym, ap, ◌∙◌, arith}
use Rattle.std.proofs.lemmas.Bool.{and_parts, ltb-true, ltb-false, leb-true}
use Rattle.std.proofs.lemmas.Bool.Decides.{nat_tests}
use Rattle.std.proofs.lemmas.List.Folds.{list_any-append, list_any_more}
use Rattle.std.specs.Prelude.{max, min}
use Rattle.std.specs.Int.{is_in_range}
use Rattle.br_model.specs.Name.{SessionKey}
use Rattle.br_model.specs.Bootstrap.{Range}
use Rattle.br_piece.specs.MissingLines.{greatest_index}
use Rattle.br_damage.specs.GroupSessions.{place}
use Rattle.br_damage.specs.LostFiles.{Rise, has_place, is_within, span_of}
use Rattle.br_damage.specs.LeftIndexes.{AreLeft, LeavesOf, has_index, indexes_of, indexes_without, is_inside, is_left}
use Rattle.br_damage.specs.declared.lost_files.Span.{Span}
use Rattle.br_damage.proofs.SpanLaws.{any_from}

-- ---- the files between two places

within_two : (base low end n : ℕ) → base ≤ low → low < end → (is_in_range (low - base) (end - 1 - base) n || false) ≡ (leb low (base + n) && ltb (base + n) end)
within_two base low end n le lt = grind (arith, nat_tests)

within_none : (base low end n : ℕ) → end ≤ low → false ≡ (leb low (base + n) && ltb (base + n) end)
within_none base low end n le = grind (arith, nat_tests)

indexes_have : (base low end n : ℕ) → base ≤ low → has_index (indexes_of base low end) n ≡ (leb low (base + n) && ltb (base + n) end)
indexes_have base low end n le = go (ltb low end) refl
  where
    go : (b : Bool) → ltb low end ≡ b
        → has_index (cond b (record { low = low - base; high = end - 1 - base } ∷ []) []) n ≡ (leb low (base + n) && ltb (base + n) end)
    go true e = within_two base low end n le (ltb-true low end e)
    go false e = within_none base low end n (ltb-false low end e)

-- ---- without the files of spans

by_place : (next end low e p : ℕ) (any : Bool) → (any ≡ true → low ≤ p)
    → ((leb next p && ltb p (min end low)) || ((leb (max next e) p && ltb p end) && not any)) ≡ ((leb next p && ltb p end) && not ((leb low p && ltb p e) || any))
by_place next end low e p true from = let le : low ≤ p = from refl in grind (arith, nat_tests)
by_place next end low e p false from = grind (arith, nat_tests)

and_not_false : (b : Bool) → b ≡ (b && not false)
and_not_false true = refl
and_not_false false = refl

pub without_have : (base next end n : ℕ) (ss : List Span) → base ≤ next → Rise ss
    → has_index (indexes_without base next end ss) n ≡ ((leb next (base + n) && ltb (base + n) end) && not (has_place ss (base + n)))
without_have base next end n [] le rise = indexes_have base next end n le ∙ and_not_false (leb next (base + n) && ltb (base + n) end)
without_have base next end n (s ∷ ss) le rise =
    list_any-append (is_inside n) (indexes_of base next (min end s.low)) (indexes_without base (max next s.end) end ss)
    ∙ ap (λ b. b || has_index (indexes_without base (max next s.end) end ss) n) (indexes_have base next (min end s.low) n le)
    ∙ ap (λ b. (leb next (base + n) && ltb (base + n) (min end s.low)) || b)
    (without_have base (max next s.end) end n ss (omega (arith, le)) (λ i j d low lt. rise (suc i) (suc j) d (omega (arith, low)) (omega (arith, lt))))
    ∙ by_place next end s.low s.end (base + n) (has_place ss (base + n))
    (any_from s.low (base + n) ss (λ j d lt. rise 0 (suc j) d (omega arith) (omega (arith, lt))))

-- ---- the files of a range

in_shifted : (base low high n : ℕ) → n ≤ greatest_index → (leb (base + low) (base + n) && ltb (base + n) (base + min high greatest_index + 1)) ≡ is_in_range low high n
in_shifted base low high n le = grind (arith, nat_tests)

pub span_has : (s : SessionKey) (r : Range) (n : ℕ) → n ≤ greatest_index → is_within (place s n) (span_of s r) ≡ is_inside n r
span_has s r n le = in_shifted ((s.id * 2 ^ 32 + s.time) * 2 ^ 64) r.low r.high n le

within_both : (a x y : Bool) → (a ≡ true → x ≡ y) → (a && not x) ≡ (a && not y)
within_both true x y h = ap not (h refl)
within_both false x y h = refl

pub leaves_of : (lost near : List Span) (s : SessionKey) (r : Range) (old : List Range) → Rise near
    → ((p : ℕ) → (span_of s r).low ≤ p → p < (span_of s r).end → has_place near p ≡ has_place lost p)
    → LeavesOf lost s r old (old ++ indexes_without (place s 0) (span_of s r).low (span_of s r).end near)
leaves_of lost near s r old rise same n le =
    list_any-append (is_inside n) old (indexes_without base low end near)
    ∙ ap (λ b. has_index old n || b)
    (without_have base low end n near from rise
    ∙ ap (λ p. (leb low p && ltb p end) && not (has_place near p)) at
    ∙ within_both (leb low p && ltb p end) (has_place near p) (has_place lost p)
    (λ e. let parts = and_parts (leb low p) (ltb p end) e in same p (leb-true low p parts.0) (ltb-true p end parts.1))
    ∙ ap (λ b. b && not (has_place lost p)) (span_has s r n le))
  where
    base : ℕ
    base = place s 0

    low : ℕ
    low = (span_of s r).low

    end : ℕ
    end = (span_of s r).end

    p : ℕ
    p = place s n

    from : base ≤ low
    from = omega arith

    at : base + n ≡ p
    at = omega arith

-- ---- several ranges

apart : (a b lost : Bool) → ((a && not lost) || (b && not lost)) ≡ ((a || b) && not lost)
apart true b true = and_false b
  where
    and_false : (b : Bool) → (b && false) ≡ false
    and_false true = refl
    and_false false = refl
apart true b false = refl
apart false b lost = refl

-- one range more
pub are_left_more : (lost : List Span) (s : SessionKey) (ranges old new : List Range) (i : ℕ) (r : Range) → i < length ranges → r ≡ get_or ranges i r
    → AreLeft lost s (take i ranges) old → LeavesOf lost s r old new → AreLeft lost s (take (i + 1) ranges) new
are_left_more lost s ranges old new i r lt is before more n le =
    more n le ∙ ap (λ b. b || is_left lost s r n) (before n le)
    ∙ apart (has_index (take i ranges) n) (is_inside n r) (has_place lost (place s n))
    ∙ ap (λ (q : Range). (has_index (take i ranges) n || is_inside n q) && not (has_place lost (place s n))) is
    ∙ ap (λ b. b && not (has_place lost (place s n))) (sym (list_any_more (is_inside n) ranges i r lt))
