-- Groups without the files that are lost.
use Rattle.std.proofs.Common.{◌≡◌, ℕ, ◌+◌, ◌*◌, ◌/◌, ◌%◌, ◌^◌, ◌<◌, ◌≤◌, Bool, true, false, not, ◌&&◌, ◌||◌, cond, eqb, ltb, leb, true≢false, List, [], ◌∷◌, ◌++◌, length, map, flat_map, take, get_or, Option, Some, None, refl, sym, ap, subst, ◌∙◌, arith}
use Rattle.std.proofs.lemmas.Bool.{and_parts, eq-eqb, eqb-false, eqb-true, ltb-true, ne_eqb}
use Rattle.std.proofs.lemmas.Bool.Decides.{nat_tests}
use Rattle.std.proofs.lemmas.List.{nil_from_length}
use Rattle.std.proofs.lemmas.List.Folds.{list_any-append, list_any_more}
use Rattle.std.proofs.lemmas.List.Sorted.{list_any-IsPermutation}
use Rattle.std.proofs.lemmas.Option.{same_Some}
use Rattle.std.specs.Prelude.{ℤ, bytes_eq, is_some, min, nat_abs}
use Rattle.std.specs.Int.{is_in_range, is_positive}
use Rattle.std.specs.List.{list_any}
use Rattle.std.specs.List.Sorted.{IsPermutation}
use Rattle.br_model.specs.Name.{SessionKey}
use Rattle.br_model.specs.Bootstrap.{Group, Range, admits}
use Rattle.br_model.specs.Text.{is_empty}
use Rattle.br_piece.specs.Missing.{admits_session}
use Rattle.br_piece.specs.MissingLines.{greatest_index}
use Rattle.br_damage.specs.GroupSessions.{number_in, place, session_of, session_with}
use Rattle.br_damage.specs.LostFiles.{all_indexes, has_place, is_within, ranges_of, span_of, spans, spans_of, spans_with}
use Rattle.br_damage.specs.LeftIndexes.{AreLeft, has_index, is_inside}
use Rattle.br_damage.specs.NarrowedBootstrap.{IsNarrowed, LeaveBySpans, Leaves, LeavesOfGroup, Sought, ask_for, asks_for, asks_for_file, is_lost}
use Rattle.br_damage.specs.declared.lost_files.Span.{Span}
use Rattle.br_damage.proofs.IndexLaws.{span_has}

-- ---- the session that a group names

-- ranges of one number admit this number alone
one_admits : (rs : List Range) (n m : ℕ) → number_in rs ≡ Some n → admits rs m ≡ true → m ≡ n
one_admits [] n m e a = absurd cc
one_admits (r ∷ s ∷ more) n m e a = absurd cc
one_admits (r ∷ []) n m e a = go (eqb r.low r.high && ltb r.low (2 ^ 32)) refl e
  where
    inside : (low high : ℕ) → low ≡ high → (is_in_range low high m || false) ≡ true → m ≡ low
    inside low high same i = grind (arith, nat_tests)

    go : (b : Bool) → (eqb r.low r.high && ltb r.low (2 ^ 32)) ≡ b → cond b (Some r.low) None ≡ Some n → m ≡ n
    go true is f = inside r.low r.high (eqb-true r.low r.high (and_parts (eqb r.low r.high) (ltb r.low (2 ^ 32)) is).0) a ∙ same_Some r.low n f
    go false is f = absurd cc

-- a group that names a session admits it alone
pub names_it : (g : Group) (s t : SessionKey) → session_of g ≡ Some s → admits g.session_ids t.id ≡ true → admits g.session_times t.time ≡ true → t ≡ s
names_it g s t e ids times = go (number_in g.session_ids) (number_in g.session_times) refl refl e
  where
    go : (i j : Option ℕ) → number_in g.session_ids ≡ i → number_in g.session_times ≡ j → session_with i j ≡ Some s → t ≡ s
    go None j p q f = absurd cc
    go (Some i) None p q f = absurd cc
    go (Some i) (Some j) p q f =
        let id : t.id ≡ i = one_admits g.session_ids i t.id p ids in
        let time : t.time ≡ j = one_admits g.session_times j t.time q times in
        let same : record { id = i; time = j } ≡ s = same_Some (record { id = i; time = j }) s f in
        (λ x. record { id = id x; time = time x }) ∙ same

-- ---- one group

-- the ranges that a group asks for have the indexes that it admits
all_have : (n : ℕ) → 0 < n → n ≤ greatest_index → (is_in_range 1 greatest_index n || false) ≡ true
all_have n some le = grind (arith, nat_tests)

ranges_admit : (g : Group) (n : ℕ) → 0 < n → n ≤ greatest_index → has_index (ranges_of g) n ≡ admits g.indexes n
ranges_admit g n some le = go (is_empty g.indexes)
  where
    go : (b : Bool) → has_index (cond b (all_indexes ∷ []) g.indexes) n ≡ (b || has_index g.indexes n)
    go true = all_have n some le
    go false = refl

positive : (i : ℤ) → is_positive i ≡ true → 0 < nat_abs i
positive i e = grind (arith, nat_tests)

-- the tests of a group, with another one for the index
swap_test : (i v p a b c d e x y f lost : Bool) → (p ≡ true → a ≡ true → b ≡ true → y ≡ (x && not lost))
    → (i && v && (p && a && b && c && d && e && y && f)) ≡ ((i && v && (p && a && b && c && d && e && x && f)) && not lost)
swap_test false v p a b c d e x y f lost h = refl
swap_test true false p a b c d e x y f lost h = refl
swap_test true true false a b c d e x y f lost h = refl
swap_test true true true false b c d e x y f lost h = refl
swap_test true true true true false c d e x y f lost h = refl
swap_test true true true true true false d e x y f lost h = refl
swap_test true true true true true true false e x y f lost h = refl
swap_test true true true true true true true false x y f lost h = refl
swap_test true true true true true true true true x y f lost h = ap (λ z. z && f) (h refl refl refl) ∙ turn x f lost
  where
    turn : (x f lost : Bool) → ((x && not lost) && f) ≡ ((x && f) && not lost)
    turn false f lost = refl
    turn true true true = refl
    turn true true false = refl
    turn true false true = refl
    turn true false false = refl

-- the index of a record is left if the group asks for it and its file is not lost
left_for : (lost : List Span) (g : Group) (s : SessionKey) (left : List Range) (r : Sought) → session_of g ≡ Some s → AreLeft lost s (ranges_of g) left
    → nat_abs r.index ≤ greatest_index → is_positive r.index ≡ true → admits g.session_ids r.session.id ≡ true → admits g.session_times r.session.time ≡ true
    → has_index left (nat_abs r.index) ≡ (admits g.indexes (nat_abs r.index) && not (is_lost lost r))
left_for lost g s left r named are le some ids times =
    are (nat_abs r.index) le
    ∙ ap (λ b. b && not (has_place lost (place s (nat_abs r.index)))) (ranges_admit g (nat_abs r.index) (positive r.index some) le)
    ∙ ap (λ (t : SessionKey). admits g.indexes (nat_abs r.index) && not (has_place lost (place t (nat_abs r.index)))) (sym (names_it g s r.session named ids times))

pub none_in : (left : List Range) → eqb (length left) 0 ≡ true → left ≡ []
none_in left e = nil_from_length left (eqb-true (length left) 0 e)

pub narrowed_to : (lost : List Span) (g : Group) (s : SessionKey) (left : List Range) → session_of g ≡ Some s → AreLeft lost s (ranges_of g) left → is_empty left ≡ false
    → IsNarrowed lost g (Some (record g { indexes = left }))
narrowed_to lost g s left named are some r le =
    let n = nat_abs r.index in
    swap_test (is_some (session_of g)) (bytes_eq g.volume r.volume) (is_positive r.index) (admits g.session_ids r.session.id) (admits g.session_times r.session.time)
    (admits g.files (r.address / 2 ^ 32)) (admits g.blocks (r.address % 2 ^ 32)) (admits g.addresses r.address) (admits g.indexes n) (is_empty left || has_index left n)
    (admits g.streams (nat_abs r.stream)) (is_lost lost r)
    (λ p ids times. ap (λ b. b || has_index left n) some ∙ left_for lost g s left r named are le p ids times)

none_left : (w q f : Bool) → (w && ((q && false) && f)) ≡ false
none_left false q f = refl
none_left true false f = refl
none_left true true f = refl

pub narrowed_away : (lost : List Span) (g : Group) (s : SessionKey) → session_of g ≡ Some s → AreLeft lost s (ranges_of g) [] → IsNarrowed lost g None
narrowed_away lost g s named are r le =
    let n = nat_abs r.index in
    let ids = admits g.session_ids r.session.id in
    let times = admits g.session_times r.session.time in
    let files = admits g.files (r.address / 2 ^ 32) in
    let blocks = admits g.blocks (r.address % 2 ^ 32) in
    let addresses = admits g.addresses r.address in
    let streams = admits g.streams (nat_abs r.stream) in
    sym (swap_test (is_some (session_of g)) (bytes_eq g.volume r.volume) (is_positive r.index) ids times files blocks addresses (admits g.indexes n) false streams (is_lost lost r)
    (λ p i t. left_for lost g s [] r named are le p i t))
    ∙ none_left (is_some (session_of g) && bytes_eq g.volume r.volume) (is_positive r.index && ids && times && files && blocks && addresses) streams

-- ---- several groups

apart : (a b lost : Bool) → ((a && not lost) || (b && not lost)) ≡ ((a || b) && not lost)
apart true true true = refl
apart true false true = refl
apart true b false = refl
apart false b lost = refl

or_false : (b : Bool) → (b || false) ≡ b
or_false true = refl
or_false false = refl

-- one group more
pub leaves_more : (lost : List Span) (groups old new : List Group) (i : ℕ) (g : Group) → i < length groups → g ≡ get_or groups i g
    → LeaveBySpans lost (take i groups) old → LeavesOfGroup lost g old new → LeaveBySpans lost (take (i + 1) groups) new
leaves_more lost groups old new i g lt is before more r le =
    more r le ∙ ap (λ c. c || asks_for r g && not (is_lost lost r)) (before r le)
    ∙ apart (ask_for (take i groups) r) (asks_for r g) (is_lost lost r)
    ∙ ap (λ (h : Group). (ask_for (take i groups) r || asks_for r h) && not (is_lost lost r)) is
    ∙ ap (λ c. c && not (is_lost lost r)) (sym (list_any_more (asks_for r) groups i g lt))

pub leaves_some : (lost : List Span) (g left : Group) (old : List Group) → IsNarrowed lost g (Some left) → LeavesOfGroup lost g old (old ++ left ∷ [])
leaves_some lost g left old next r le =
    list_any-append (asks_for r) old (left ∷ []) ∙ ap (λ b. ask_for old r || b) (or_false (asks_for r left)) ∙ ap (λ b. ask_for old r || b) (next r le)

pub leaves_none : (lost : List Span) (g : Group) (old : List Group) → IsNarrowed lost g None → LeavesOfGroup lost g old old
leaves_none lost g old next r le = sym (or_false (ask_for old r)) ∙ ap (λ b. ask_for old r || b) (sym (next r le))

-- ---- by the groups that are lost

abbrev session_number : SessionKey → ℕ
session_number s = s.id * 2 ^ 32 + s.time

-- places of two sessions are apart
apart_places : (m k n low high : ℕ) → n ≤ greatest_index → eqb m k ≡ false
    → (leb (k * 2 ^ 64 + low) (m * 2 ^ 64 + n) && ltb (m * 2 ^ 64 + n) (k * 2 ^ 64 + min high greatest_index + 1)) ≡ false
apart_places m k n low high le e = let other = eqb-false m k e in grind (arith, nat_tests)

same_session : (i t j u : ℕ) → t < 2 ^ 32 → u < 2 ^ 32 → eqb (i * 2 ^ 32 + t) (j * 2 ^ 32 + u) ≡ (eqb i j && eqb t u)
same_session i t j u lt less = go (eqb i j) (eqb t u) refl refl
  where
    go : (a b : Bool) → eqb i j ≡ a → eqb t u ≡ b → eqb (i * 2 ^ 32 + t) (j * 2 ^ 32 + u) ≡ (a && b)
    go true true p q = let id = eqb-true i j p in let time = eqb-true t u q in eq-eqb (i * 2 ^ 32 + t) (j * 2 ^ 32 + u) (omega (arith, id, time))
    go true false p q = let id = eqb-true i j p in let time = eqb-false t u q in ne_eqb (i * 2 ^ 32 + t) (j * 2 ^ 32 + u) (λ e. time (omega (arith, id, e)))
    go false b p q = let id = eqb-false i j p in ne_eqb (i * 2 ^ 32 + t) (j * 2 ^ 32 + u) (λ e. id (omega (arith, e, lt, less)))

-- a span has the files of its session alone
span_of_session : (s t : SessionKey) (r : Range) (n : ℕ) → s.time < 2 ^ 32 → t.time < 2 ^ 32 → n ≤ greatest_index
    → is_within (place s n) (span_of t r) ≡ ((eqb s.id t.id && eqb s.time t.time) && is_inside n r)
span_of_session s t r n lt less le =
    go (eqb (session_number s) (session_number t)) refl
    ∙ ap (λ b. b && is_inside n r) (same_session s.id s.time t.id t.time lt less)
  where
    go : (b : Bool) → eqb (session_number s) (session_number t) ≡ b
        → is_within (place s n) (span_of t r) ≡ (eqb (session_number s) (session_number t) && is_inside n r)
    go true e =
        ap (λ m. is_within (m * 2 ^ 64 + n) (span_of t r)) (eqb-true (session_number s) (session_number t) e) ∙ span_has t r n le ∙ ap (λ b. b && is_inside n r) (sym e)
    go false e = apart_places (session_number s) (session_number t) n r.low r.high le e ∙ ap (λ b. b && is_inside n r) (sym e)

spans_of_session : (s t : SessionKey) (rs : List Range) (n : ℕ) → s.time < 2 ^ 32 → t.time < 2 ^ 32 → n ≤ greatest_index
    → has_place (map (span_of t) rs) (place s n) ≡ ((eqb s.id t.id && eqb s.time t.time) && has_index rs n)
spans_of_session s t [] n lt less le = and_none (eqb s.id t.id && eqb s.time t.time)
  where
    and_none : (b : Bool) → false ≡ (b && false)
    and_none true = refl
    and_none false = refl
spans_of_session s t (r ∷ rs) n lt less le =
    ap (λ b. b || has_place (map (span_of t) rs) (place s n)) (span_of_session s t r n lt less le)
    ∙ ap (λ b. ((eqb s.id t.id && eqb s.time t.time) && is_inside n r) || b) (spans_of_session s t rs n lt less le)
    ∙ joined (eqb s.id t.id && eqb s.time t.time) (is_inside n r) (has_index rs n)
  where
    joined : (a x y : Bool) → ((a && x) || (a && y)) ≡ (a && (x || y))
    joined true x y = refl
    joined false x y = refl

-- ranges of one number admit exactly this number
one_admitted : (rs : List Range) (n m : ℕ) → number_in rs ≡ Some n → m ≡ n → admits rs m ≡ true
one_admitted [] n m e same = absurd cc
one_admitted (r ∷ s ∷ more) n m e same = absurd cc
one_admitted (r ∷ []) n m e same = by (eqb r.low r.high && ltb r.low (2 ^ 32)) refl e
  where
    inside : (low high : ℕ) → low ≡ high → m ≡ low → (is_in_range low high m || false) ≡ true
    inside low high equal at = grind (arith, nat_tests)

    by : (b : Bool) → (eqb r.low r.high && ltb r.low (2 ^ 32)) ≡ b → cond b (Some r.low) None ≡ Some n → admits (r ∷ []) m ≡ true
    by true is f = inside r.low r.high (eqb-true r.low r.high (and_parts (eqb r.low r.high) (ltb r.low (2 ^ 32)) is).0) (same ∙ sym (same_Some r.low n f))
    by false is f = absurd cc

admits_one : (rs : List Range) (n m : ℕ) → number_in rs ≡ Some n → admits rs m ≡ eqb m n
admits_one rs n m e = go (admits rs m) refl
  where
    go : (b : Bool) → admits rs m ≡ b → admits rs m ≡ eqb m n
    go true a = a ∙ sym (eq-eqb m n (one_admits rs n m e a))
    go false a = a ∙ sym (ne_eqb m n (λ same. true≢false (sym (one_admitted rs n m e same) ∙ a)))

-- the number is one that a session can have
small : (rs : List Range) (n : ℕ) → number_in rs ≡ Some n → n < 2 ^ 32
small [] n e = absurd cc
small (r ∷ s ∷ more) n e = absurd cc
small (r ∷ []) n e = go (eqb r.low r.high && ltb r.low (2 ^ 32)) refl e
  where
    go : (b : Bool) → (eqb r.low r.high && ltb r.low (2 ^ 32)) ≡ b → cond b (Some r.low) None ≡ Some n → n < 2 ^ 32
    go true is f = subst (λ m. m < 2 ^ 32) (same_Some r.low n f) (ltb-true r.low (2 ^ 32) (and_parts (eqb r.low r.high) (ltb r.low (2 ^ 32)) is).1)
    go false is f = absurd cc

-- a group's spans have the files that it asks for
group_has : (g : Group) (s : SessionKey) (n : ℕ) → s.time < 2 ^ 32 → 0 < n → n ≤ greatest_index → has_place (spans_of g) (place s n) ≡ asks_for_file s n g
group_has g s n lt some le = go (number_in g.session_ids) (number_in g.session_times) refl refl
  where
    go : (i j : Option ℕ) → number_in g.session_ids ≡ i → number_in g.session_times ≡ j
        → has_place (spans_with (session_with i j) (ranges_of g)) (place s n) ≡ (is_some (session_with i j) && admits_session g s && admits g.indexes n)
    go None j p q = refl
    go (Some i) None p q = refl
    go (Some i) (Some j) p q =
        spans_of_session s (record { id = i; time = j }) (ranges_of g) n lt (small g.session_times j q) le
        ∙ ap (λ b. (eqb s.id i && eqb s.time j) && b) (ranges_admit g n some le)
        ∙ ap (λ b. (b && eqb s.time j) && admits g.indexes n) (sym (admits_one g.session_ids i s.id p))
        ∙ ap (λ b. (admits g.session_ids s.id && b) && admits g.indexes n) (sym (admits_one g.session_times j s.time q))

spans_have : (groups : List Group) (s : SessionKey) (n : ℕ) → s.time < 2 ^ 32 → 0 < n → n ≤ greatest_index
    → has_place (spans groups) (place s n) ≡ list_any (asks_for_file s n) groups
unfolding spans
spans_have [] s n lt some le = refl
spans_have (g ∷ gs) s n lt some le =
    list_any-append (is_within (place s n)) (spans_of g) (flat_map spans_of gs)
    ∙ ap (λ b. b || has_place (flat_map spans_of gs) (place s n)) (group_has g s n lt some le)
    ∙ ap (λ b. asks_for_file s n g || b) (spans_have gs s n lt some le)

-- what is left by the spans of lost groups, in any order, is left by these groups
pub leaves_by : (lost groups left : List Group) (ss : List Span) → IsPermutation (spans lost) ss → LeaveBySpans ss groups left → Leaves lost groups left
leaves_by lost groups left ss moved h r is =
    let n = nat_abs r.index in
    let p = place r.session n in
    h r is.most
    ∙ ap (λ b. ask_for groups r && not b)
    (sym (list_any-IsPermutation (is_within p) (spans lost) ss moved) ∙ spans_have lost r.session n is.time (positive r.index is.some) is.most)
