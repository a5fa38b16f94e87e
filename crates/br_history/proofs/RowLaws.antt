-- Rows of a job read one after another: what a set or a map has of the earlier ones decides
-- for the next.
use Rattle.std.proofs.Common.{◌≡◌, ℕ, ◌+◌, ◌<◌, ◌≤◌, Bool, true, false, not, ◌&&◌, ◌||◌, cond, eqb, leb, ltb, ◌^◌, List, Option, Some, None, take, length, get_or, eq-eqb, refl, sym, ap, ◌∙◌, arith}
use Rattle.std.proofs.lemmas.Bool.{and_parts, and_from, leb-true, eqb-true, ne_eqb}
use Rattle.std.proofs.lemmas.Bool.Decides.{nat_tests}
use Rattle.std.proofs.lemmas.List.{take_all}
use Rattle.std.proofs.lemmas.List.Folds.{list_any_more, list_all_more, list_all_at}
use Rattle.std.proofs.lemmas.List.FromFn.{length-enumerate_from, get_or-enumerate_from}
use Rattle.std.proofs.lemmas.Map.Text.{btree_map_updates_str}
use Rattle.std.proofs.lemmas.Slice.Eq.{bytes_eq-Decides}
use Rattle.std.specs.Prelude.{bytes_eq}
use Rattle.std.specs.Borrow.{Bor}
use Rattle.std.specs.List.{list_any, list_all, enumerate_from}
use Rattle.std.specs.Ordering.{nat_cmp}
use Rattle.std.specs.Cmp.Lexicographic.{slice_cmp}
use Rattle.std.specs.BTreeSet.{BTreeSet, contains}
use Rattle.std.specs.BTreeMap as tree
use Rattle.br_model.specs.Job.{FileRow, Span, same_file, is_span, no_pair, is_numbered}
use Rattle.br_model.proofs.ListLaws.{all_any, all_pass, holds_of_none, of_each}
use Rattle.br_history.proofs.BoolLaws.{or_false}
use Rattle.br_history.proofs.ClashLaws.{no_pair_more, pair_found}
use Rattle.br_history.specs.Seen.{Notes, AreSeen, reaches, end_on, AreEnds}

-- ---- rows of files

-- one row more is noted
pub seen_more : (old new : BTreeSet ℕ) (files : List FileRow) (i : ℕ) (f : FileRow) → i < length files → f ≡ get_or files i f → AreSeen old (take i files) → Notes old f.index new
    → AreSeen new (take (i + 1) files)
seen_more old new files i f lt is seen notes q =
    let test : FileRow → Bool = λ g. not (eqb g.index 0) && eqb g.index q in
    notes q ∙ ap (λ b. b || test f) (seen q) ∙ ap (λ g. list_any test (take i files) || test g) is ∙ sym (list_any_more test files i f lt)

no_index : (n m : ℕ) → eqb m 0 ≡ true → (not (eqb n 0) && eqb n m) ≡ false
no_index n m e = let zero : m ≡ 0 = eqb-true m 0 e in rw zero (both (eqb n 0))
  where
    both : (b : Bool) → (not b && b) ≡ false
    both true = refl
    both false = refl

-- whether a row has the index of one before it
pub found_by_set : (seen : BTreeSet ℕ) (files : List FileRow) (i : ℕ) (f : FileRow) (new : Bool) → AreSeen seen (take i files)
    → new ≡ not (not (eqb f.index 0) && contains nat_cmp seen f.index) → list_any (λ (g : FileRow). same_file g f) (take i files) ≡ not new
found_by_set seen files i f new are answer = go (eqb f.index 0) refl answer
  where
    twice : (b : Bool) → b ≡ not (not b)
    twice true = refl
    twice false = refl

    go : (b : Bool) → eqb f.index 0 ≡ b → new ≡ not (not b && contains nat_cmp seen f.index) → list_any (λ (g : FileRow). same_file g f) (take i files) ≡ not new
    go true none is =
        holds_of_none (λ (g : FileRow). same_file g f) (take i files)
        (all_any (λ (g : FileRow). same_file g f ≡ false) (λ g. no_index g.index f.index none) (take i files)) ∙ ap not (sym is)
    go false some is = sym (are f.index) ∙ twice (contains nat_cmp seen f.index) ∙ ap not (sym is)

-- if a row has the index of one before it, two rows have one index
pub row_repeated : (seen : BTreeSet ℕ) (files : List FileRow) (i : ℕ) (f : FileRow) (new : Bool) → i < length files → f ≡ get_or files i f → AreSeen seen (take i files)
    → new ≡ not (not (eqb f.index 0) && contains nat_cmp seen f.index) → new ≡ false → no_pair same_file files ≡ false
row_repeated seen files i f new lt is are answer old = pair_found same_file files i f lt is (found_by_set seen files i f new are answer ∙ ap not old)

-- a row with an index that none before it has
pub row_added : (seen : BTreeSet ℕ) (files : List FileRow) (i : ℕ) (f : FileRow) (new : Bool) → i < length files → f ≡ get_or files i f → AreSeen seen (take i files)
    → new ≡ not (not (eqb f.index 0) && contains nat_cmp seen f.index) → new ≡ true → no_pair same_file (take i files) ≡ true → no_pair same_file (take (i + 1) files) ≡ true
row_added seen files i f new lt is are answer fresh before = no_pair_more same_file files i f lt is before (found_by_set seen files i f new are answer ∙ ap not fresh)

-- ---- spans

-- a span of spans that are all valid has its ends in order
pub in_order_at : (spans : List Span) (i : ℕ) (s : Span) → i < length spans → s ≡ get_or spans i s → list_all is_span spans ≡ true → s.start ≤ s.end
in_order_at spans i s lt is all =
    let valid : is_span s ≡ true = of_each (λ (t : Span). is_span t ≡ true) spans s (all_pass is_span spans all) (i, lt, sym is) in
    leb-true s.start s.end (and_parts (leb s.first s.last) (leb s.start s.end) (and_parts (leb s.first s.last && leb s.start s.end) (ltb s.end (2 ^ 63)) valid).0).1

within : (address end before : ℕ) → before < end → (leb address before || leb address end) ≡ leb address end
within address end before lt = grind (arith, nat_tests)

later_end : (o : Option ℕ) (address start end : ℕ) → reaches start o ≡ false → start ≤ end → (reaches address o || leb address end) ≡ leb address end
later_end None address start end ahead le = refl
later_end (Some before) address start end ahead le = let lt : before < start = grind (arith, nat_tests) in within address end before (omega arith)

-- the span after those before it on its volume is the one that ends there
pub ends_more : (old new : tree.BTreeMap (Bor (List ℕ)) ℕ) (spans : List Span) (i : ℕ) (s : Span) (on : List ℕ) (end : ℕ) → i < length spans → s ≡ get_or spans i s → AreEnds old (take i spans)
    → reaches s.start (end_on s.volume old) ≡ false → s.start ≤ s.end
    → on ≡ s.volume → end ≡ s.end → tree.UpdatesBy (λ x y. slice_cmp nat_cmp x.now y.now) (λ k. slice_cmp nat_cmp on k.now) old new (Some end) → AreEnds new (take (i + 1) spans)
ends_more old new spans i s on end lt is ends ahead le there to puts volume address =
    let test : Span → Bool = λ t. bytes_eq t.volume volume && leb address t.end in
    list_any_more test spans i s lt ∙ ap (λ t. list_any test (take i spans) || test t) (sym is) ∙ ap (λ b. b || test s) (ends volume address)
    ∙ go (bytes_eq s.volume volume) refl ∙ ap (λ v. reaches address (cond (bytes_eq v volume) (Some s.end) (end_on volume old))) (sym there)
    ∙ ap (λ n. reaches address (cond (bytes_eq on volume) (Some n) (end_on volume old))) (sym to) ∙ ap (reaches address) (sym (btree_map_updates_str on old new (Some end) puts volume))
  where
    go : (b : Bool) → bytes_eq s.volume volume ≡ b → (reaches address (end_on volume old) || (b && leb address s.end)) ≡ reaches address (cond b (Some s.end) (end_on volume old))
    go true same =
        let at : volume ≡ s.volume = sym ((bytes_eq-Decides s.volume volume).0 same) in
        later_end (end_on volume old) address s.start s.end (ap (λ v. reaches s.start (end_on v old)) at ∙ ahead) le
    go false other = or_false (reaches address (end_on volume old))

-- whether a span overlaps one before it
pub met_by_map : (ends : tree.BTreeMap (Bor (List ℕ)) ℕ) (spans : List Span) (i : ℕ) (s : Span) (volume : List ℕ) (start : ℕ) (o : Option ℕ) (r : Bool)
    → AreEnds ends (take i spans) → r ≡ reaches start o → o ≡ end_on volume ends → volume ≡ s.volume → start ≡ s.start → r ≡ reaches s.start (end_on s.volume ends)
met_by_map ends spans i s volume start o r are answer looked on from =
    answer ∙ ap (reaches start) (looked ∙ ap (λ v. end_on v ends) on) ∙ ap (λ n. reaches n (end_on s.volume ends)) from

-- ---- numbers of spans

abbrev is_at_number : ℕ × Span → Bool
is_at_number s = eqb s.1.vol_index s.0

numbered : (spans : List Span) (i : ℕ) (s : Span) → i < length spans → s ≡ get_or spans i s → get_or (enumerate_from 1 spans) i (0, s) ≡ (1 + i, s)
numbered spans i s lt is = get_or-enumerate_from 1 spans i (0, s) lt ∙ ap (λ (t : Span). (1 + i, t)) (sym is)

-- one span more has its number
pub numbered_more : (spans : List Span) (i : ℕ) (s : Span) → i < length spans → s ≡ get_or spans i s → s.vol_index ≡ i + 1
    → list_all (λ (t : ℕ × Span). eqb t.1.vol_index t.0) (take i (enumerate_from 1 spans)) ≡ true → list_all (λ (t : ℕ × Span). eqb t.1.vol_index t.0) (take (i + 1) (enumerate_from 1 spans)) ≡ true
numbered_more spans i s lt is number before =
    let within : i < length (enumerate_from 1 spans) = omega (arith, lt, length-enumerate_from 1 spans) in
    list_all_more is_at_number (enumerate_from 1 spans) i (0, s) within
    ∙ and_from (list_all is_at_number (take i (enumerate_from 1 spans))) (is_at_number (get_or (enumerate_from 1 spans) i (0, s))) before
    (ap is_at_number (numbered spans i s lt is) ∙ eq-eqb s.vol_index (1 + i) (omega (arith, number)))

-- a span that has another number
pub numbered_not : (spans : List Span) (i : ℕ) (s : Span) → i < length spans → s ≡ get_or spans i s → (s.vol_index ≡ i + 1 → ⊥) → is_numbered spans ≡ false
numbered_not spans i s lt is other =
    let within : i < length (enumerate_from 1 spans) = omega (arith, lt, length-enumerate_from 1 spans) in
    list_all_at is_at_number (enumerate_from 1 spans) i (0, s) within
    (ap is_at_number (numbered spans i s lt is) ∙ ne_eqb s.vol_index (1 + i) (λ e. other (omega (arith, e))))

-- all spans have their numbers
pub numbered_all : (spans : List Span) (i : ℕ) → length spans ≤ i → list_all (λ (t : ℕ × Span). eqb t.1.vol_index t.0) (take i (enumerate_from 1 spans)) ≡ true → is_numbered spans ≡ true
numbered_all spans i le all = ap (list_all is_at_number) (sym (take_all i (enumerate_from 1 spans) (omega (arith, le, length-enumerate_from 1 spans)))) ∙ all
