-- Setting flags run by run.
use Rattle.std.proofs.Common.{filter, Ok, Err, ◌≡◌, ℕ, zero, suc, ◌+◌, ◌-◌, ◌≤◌, Bool, true, false, not, ◌&&◌, ◌||◌, cond, List, [], ◌∷◌, ◌++◌, length, take, drop, replicate, Some, None, refl, sym, ap, subst, ◌∙◌, add_assoc, append_assoc, length-append, length-take, length-drop, take-append-drop, arith}
use Rattle.std.proofs.lemmas.Bool.{false_from_ne_true, lt-ltb, le-ltb}
use Rattle.std.proofs.lemmas.List.Sums.{sum_by-cons}
use Rattle.std.proofs.lemmas.List.{drop-drop, drop-take, take-take, length-replicate}
use Rattle.std.proofs.lemmas.Slice.Eq.{bytes_eq-Decides}
use Rattle.br_model.specs.Text.{is_empty}
use Rattle.br_model.proofs.ListLaws.{none_in, none_pass, first_in, cons_not_empty, some_passes, from_some, contains_filter, kept_passes}
use Rattle.std.specs.Prelude.{Contains, bytes_eq, count_by, nat_lt}
use Rattle.std.specs.List.{AllByRecursion, list_any}
use Rattle.br_model.specs.Console.{begins_with, some_of}
use Rattle.br_tree.specs.Walk.{set_where, changed, changes, differs, picks, is_picked, AllPassing, NonePassing, IsRun, IsStep, IsRising}
use Rattle.br_tree.proofs.MatchLaws.{or_none}
use Rattle.br_tree.proofs.FlagLaws.{Below}
use Rattle.std.specs.Ordering.{is_lt}
use Rattle.br_model.proofs.OrderLaws.{rank_cmp, not_below_itself}
use Rattle.br_tree.proofs.RunLaws.{is_less, not_less, all_dropped}

-- ---- one run

-- the flags of a run after a step
abbrev pub stepped : ℕ → Bool → List Bool → List Bool
stepped r v fs = replicate r v ++ drop r fs

pub step_sets : (test : List ℕ → Bool) (v : Bool) (r l : ℕ) (ps : List (List ℕ)) (fs : List Bool) → AllPassing test (take r ps) → NonePassing test (drop r (take l ps)) → r ≤ l → l ≤ length ps → length fs ≡ length ps
    → take l (stepped r v fs) ++ set_where test v (drop l ps) (drop l (stepped r v fs)) ≡ set_where test v ps fs
step_sets test v zero zero ps fs within after le bound long = refl
step_sets test v (suc r) zero ps fs within after le bound long = absurd (omega (arith, le))
step_sets test v r (suc l) [] fs within after le bound long = absurd (omega (arith, bound))
step_sets test v r (suc l) (p ∷ ps) [] within after le bound long = absurd (omega (arith, long))
step_sets test v zero (suc l) (p ∷ ps) (f ∷ fs) within after le bound long =
    ap (λ gs. f ∷ gs) (step_sets test v zero l ps fs tt after.1 (omega arith) (omega (arith, bound)) (omega (arith, long)))
    ∙ sym (ap (λ b. cond b v f ∷ set_where test v ps fs) after.0)
step_sets test v (suc r) (suc l) (p ∷ ps) (f ∷ fs) within after le bound long =
    ap (λ gs. v ∷ gs) (step_sets test v r l ps fs within.1 after (omega (arith, le)) (omega (arith, bound)) (omega (arith, long)))
    ∙ sym (ap (λ b. cond b v f ∷ set_where test v ps fs) within.0)

pub step_counts : (test : List ℕ → Bool) (v : Bool) (r l : ℕ) (ps : List (List ℕ)) (fs : List Bool) → AllPassing test (take r ps) → NonePassing test (drop r (take l ps)) → r ≤ l → l ≤ length ps → length fs ≡ length ps
    → count_by (λ f. differs v f) (take r fs) + changed test v (drop l ps) (drop l (stepped r v fs)) ≡ changed test v ps fs
step_counts test v zero zero ps fs within after le bound long = omega arith
step_counts test v (suc r) zero ps fs within after le bound long = absurd (omega (arith, le))
step_counts test v r (suc l) [] fs within after le bound long = absurd (omega (arith, bound))
step_counts test v r (suc l) (p ∷ ps) [] within after le bound long = absurd (omega (arith, long))
step_counts test v zero (suc l) (p ∷ ps) (f ∷ fs) within after le bound long =
    omega (arith, step_counts test v zero l ps fs tt after.1 (omega arith) (omega (arith, bound)) (omega (arith, long)), ap {B = ℕ} (λ b. cond (b && differs v f) 1 0) after.0)
step_counts test v (suc r) (suc l) (p ∷ ps) (f ∷ fs) within after le bound long =
    let one : count_by (λ f. differs v f) (take (suc r) (f ∷ fs)) ≡ cond (differs v f) 1 0 + count_by (λ f. differs v f) (take r fs) = sum_by-cons (λ g. cond (differs v g) 1 0) f (take r fs) in
    let first : cond (test p && differs v f) 1 0 ≡ cond (differs v f) 1 0 = ap {B = ℕ} (λ b. cond (b && differs v f) 1 0) within.0 in
    let rest = step_counts test v r l ps fs within.1 after (omega (arith, le)) (omega (arith, bound)) (omega (arith, long)) in
    ap (λ n. n + changed test v (drop l ps) (drop l (stepped r v fs))) one
    ∙ add_assoc (cond (differs v f) 1 0) (count_by (λ f. differs v f) (take r fs)) (changed test v (drop l ps) (drop l (stepped r v fs)))
    ∙ ap (λ n. cond (differs v f) 1 0 + n) rest
    ∙ ap (λ n. n + changed test v ps fs) (sym first)

pub step_finds : (test : List ℕ → Bool) (r l : ℕ) (ps : List (List ℕ)) → AllPassing test (take r ps) → NonePassing test (drop r (take l ps)) → r ≤ l → l ≤ length ps
    → list_any test ps ≡ (nat_lt 0 r || list_any test (drop l ps))
step_finds test zero zero ps within after le bound = refl
step_finds test (suc r) zero ps within after le bound = absurd (omega (arith, le))
step_finds test r (suc l) [] within after le bound = absurd (omega (arith, bound))
step_finds test zero (suc l) (p ∷ ps) within after le bound = ap (λ b. b || list_any test ps) after.0 ∙ step_finds test zero l ps tt after.1 (omega arith) (omega (arith, bound))
step_finds test (suc r) (suc l) (p ∷ ps) within after le bound = ap (λ b. b || list_any test ps) within.0 ∙ sym (ap (λ b. b || list_any test (drop l ps)) (lt-ltb 0 (suc r) (omega arith)))

-- ---- a loop over runs

-- the flags are set up to a place, and this number of flags changed
pub record Stands (test : List ℕ → Bool) (v : Bool) (paths : List (List ℕ)) (old : List Bool) (place : ℕ) (flags : List Bool) (count : ℕ) (found : Bool) : Type 0 where
  pub sets : take place flags ++ set_where test v (drop place paths) (drop place flags) ≡ set_where test v paths old
  pub counts : count + changed test v (drop place paths) (drop place flags) ≡ changed test v paths old
  pub finds : (found || list_any test (drop place paths)) ≡ list_any test paths
  pub as_long : length flags ≡ length paths
  pub few : count ≤ place
  pub bound : place ≤ length paths

take_behind : (n l : ℕ) (gs xs : List Bool) → length gs ≡ n → take (n + l) (gs ++ xs) ≡ gs ++ take l xs
take_behind n l [] xs long = let e : n + l ≡ l = omega (arith, long) in ap (λ k. take k xs) e
take_behind zero l (a ∷ gs) xs long = absurd (omega (arith, long))
take_behind (suc n) l (a ∷ gs) xs long = (let e : suc n + l ≡ suc (n + l) = omega arith in ap (λ k. take k (a ∷ (gs ++ xs))) e) ∙ ap (λ ys. a ∷ ys) (take_behind n l gs xs (omega (arith, long)))

drop_behind : (n l : ℕ) (gs xs : List Bool) → length gs ≡ n → drop (n + l) (gs ++ xs) ≡ drop l xs
drop_behind n l [] xs long = let e : n + l ≡ l = omega (arith, long) in ap (λ k. drop k xs) e
drop_behind zero l (a ∷ gs) xs long = absurd (omega (arith, long))
drop_behind (suc n) l (a ∷ gs) xs long = (let e : suc n + l ≡ suc (n + l) = omega arith in ap (λ k. drop k (a ∷ (gs ++ xs))) e) ∙ drop_behind n l gs xs (omega (arith, long))

-- one run more
pub stands_on : (test : List ℕ → Bool) (v : Bool) (paths : List (List ℕ)) (old : List Bool) (place : ℕ) (flags : List Bool) (count : ℕ) (found : Bool) (r l : ℕ) (new : List Bool) (more : ℕ) (some : Bool)
    → Stands test v paths old place flags count found → IsStep test (drop place paths) r l
    → new ≡ take place flags ++ replicate (place + r - place) v ++ drop (place + r) flags
    → more ≡ count_by (λ f. differs v f) (take (place + r - place) (drop place flags)) → more ≤ place + r - place → some ≡ nat_lt 0 r
    → Stands test v paths old (place + l) new (count + more) (found || some)
stands_on test v paths old place flags count found r l new more some at step is_new is_more is_few is_some = record {
  sets =
      ap (λ fs. take (place + l) fs ++ set_where test v (drop (place + l) paths) (drop (place + l) fs)) shape
      ∙ ap (λ fs. fs ++ set_where test v (drop (place + l) paths) (drop (place + l) (front ++ stepped r v rest))) (take_behind place l front (stepped r v rest) front_long)
      ∙ ap (λ fs. front ++ take l (stepped r v rest) ++ set_where test v (drop (place + l) paths) fs) (drop_behind place l front (stepped r v rest) front_long)
      ∙ ap (λ ps. front ++ take l (stepped r v rest) ++ set_where test v ps (drop l (stepped r v rest))) (sym (drop-drop l place paths))
      ∙ append_assoc front (take l (stepped r v rest)) (set_where test v (drop l (drop place paths)) (drop l (stepped r v rest)))
      ∙ ap (λ fs. front ++ fs) (step_sets test v r l (drop place paths) rest step.within step.after step.ordered step.bound rest_long)
      ∙ at.sets;
  counts = omega (arith, is_more', step_counts test v r l (drop place paths) rest step.within step.after step.ordered step.bound rest_long, at.counts, left);
  finds = or_assoc found some (list_any test (drop (place + l) paths)) ∙ ap (λ b. found || b) (ap (λ b. b || list_any test (drop (place + l) paths)) is_some ∙ ap (λ ps. nat_lt 0 r || list_any test ps) (sym (drop-drop l place paths)) ∙ sym (step_finds test r l (drop place paths) step.within step.after step.ordered step.bound)) ∙ at.finds;
  as_long = ap length is_new ∙ length-append (take place flags ++ replicate (place + r - place) v) (drop (place + r) flags) ∙ ap (λ n. n + length (drop (place + r) flags)) (length-append (take place flags) (replicate (place + r - place) v))
      ∙ omega (arith, length-take place flags, length-drop (place + r) flags, length-replicate (place + r - place) v, at.as_long, step.bound, step.ordered, length-drop place paths, at.bound);
  few = omega (arith, at.few, is_few, step.ordered);
  bound = omega (arith, at.bound, step.bound, length-drop place paths);
}
  where
    front : List Bool
    front = take place flags

    rest : List Bool
    rest = drop place flags

    front_long : length (take place flags) ≡ place
    front_long = omega (arith, length-take place flags, at.as_long, at.bound)

    rest_long : length (drop place flags) ≡ length (drop place paths)
    rest_long = omega (arith, length-drop place flags, length-drop place paths, at.as_long)

    shape : new ≡ take place flags ++ stepped r v (drop place flags)
    shape =
        is_new ∙ append_assoc (take place flags) (replicate (place + r - place) v) (drop (place + r) flags)
        ∙ (let e : place + r - place ≡ r = omega arith in ap (λ k. take place flags ++ (replicate k v ++ drop (place + r) flags)) e)
        ∙ ap (λ fs. take place flags ++ (replicate r v ++ fs)) (sym (drop-drop r place flags))

    is_more' : more ≡ count_by (λ f. differs v f) (take r (drop place flags))
    is_more' = is_more ∙ (let e : place + r - place ≡ r = omega arith in ap (λ k. count_by (λ f. differs v f) (take k (drop place flags))) e)

    left : changed test v (drop (place + l) paths) (drop (place + l) new) ≡ changed test v (drop l (drop place paths)) (drop l (stepped r v (drop place flags)))
    left =
        ap (λ fs. changed test v (drop (place + l) paths) (drop (place + l) fs)) shape
        ∙ ap (changed test v (drop (place + l) paths)) (drop_behind place l (take place flags) (stepped r v (drop place flags)) front_long)
        ∙ ap (λ ps. changed test v ps (drop l (stepped r v (drop place flags)))) (sym (drop-drop l place paths))

    or_assoc : (a b c : Bool) → ((a || b) || c) ≡ (a || (b || c))
    or_assoc true b c = refl
    or_assoc false b c = refl

-- what is answered
pub answered : (test : List ℕ → Bool) (v : Bool) (paths : List (List ℕ)) (flags : List Bool) (count : ℕ) (found : Bool) → count ≡ changed test v paths flags → found ≡ list_any test paths
    → cond found (Some count) None ≡ changes test v paths flags
answered test v paths flags count found c f = ap (λ b. cond b (Some count) None) f ∙ ap (λ n. cond (list_any test paths) (Some n) None) c

-- ---- the part of a directory

pub none_set : (test : List ℕ → Bool) (v : Bool) (ps : List (List ℕ)) (fs : List Bool) → NonePassing test ps → set_where test v ps fs ≡ fs
none_set test v [] fs h = refl
none_set test v (p ∷ ps) [] h = refl
none_set test v (p ∷ ps) (f ∷ fs) h = ap (λ b. cond b v f ∷ set_where test v ps fs) h.0 ∙ ap (λ gs. f ∷ gs) (none_set test v ps fs h.1)

pub none_changed : (test : List ℕ → Bool) (v : Bool) (ps : List (List ℕ)) (fs : List Bool) → NonePassing test ps → changed test v ps fs ≡ 0
none_changed test v [] fs h = refl
none_changed test v (p ∷ ps) [] h = refl
none_changed test v (p ∷ ps) (f ∷ fs) h = omega (arith, ap {B = ℕ} (λ b. cond (b && differs v f) 1 0) h.0, none_changed test v ps fs h.1)

pub none_any : (test : List ℕ → Bool) (ps : List (List ℕ)) → NonePassing test ps → list_any test ps ≡ false
none_any test [] h = refl
none_any test (p ∷ ps) h = ap (λ b. b || list_any test ps) h.0 ∙ none_any test ps h.1

front_any : (test : List ℕ → Bool) (m : ℕ) (ps : List (List ℕ)) → NonePassing test (drop m ps) → list_any test (take m ps) ≡ list_any test ps
front_any test zero ps h = sym (none_any test ps h)
front_any test (suc m) [] h = refl
front_any test (suc m) (p ∷ ps) h = ap (λ b. test p || b) (front_any test m ps h)

pub within_any : (test : List ℕ → Bool) (a b : ℕ) (ps : List (List ℕ)) → a ≤ b → NonePassing test (take a ps) → NonePassing test (drop b ps)
    → list_any test (take (b - a) (drop a ps)) ≡ list_any test ps
within_any test zero b ps le before after = (let e : b - 0 ≡ b = omega arith in ap (λ k. list_any test (take k ps)) e) ∙ front_any test b ps after
within_any test (suc a) zero ps le before after = absurd (omega (arith, le))
within_any test (suc a) (suc b) [] le before after = none (suc b - suc a)
  where
    none : (n : ℕ) → list_any test (take n []) ≡ false
    none zero = refl
    none (suc n) = refl
within_any test (suc a) (suc b) (p ∷ ps) le before after =
    (let e : suc b - suc a ≡ b - a = omega arith in ap (λ k. list_any test (take k (drop a ps))) e)
    ∙ within_any test a b ps (omega (arith, le)) before.1 after
    ∙ sym (ap (λ b. b || list_any test ps) before.0)

-- what does not begin with a directory is not meant there
pub none_picked : (deep : Bool) (d pattern : List ℕ) (ps : List (List ℕ)) → NonePassing (λ p. begins_with p d) ps → NonePassing (is_picked deep d pattern) ps
none_picked deep d pattern [] h = tt
none_picked deep d pattern (p ∷ ps) h = (ap (λ b. b && not (bytes_eq p d) && picks deep d pattern p) h.0, none_picked deep d pattern ps h.1)

skip_sets : (test : List ℕ → Bool) (v : Bool) (a : ℕ) (ps : List (List ℕ)) (fs : List Bool) → NonePassing test (take a ps) → take a fs ++ set_where test v (drop a ps) (drop a fs) ≡ set_where test v ps fs
skip_sets test v zero ps fs h = refl
skip_sets test v (suc a) [] fs h = take-append-drop (suc a) fs
skip_sets test v (suc a) (p ∷ ps) [] h = no_flags (drop a ps)
  where
    no_flags : (qs : List (List ℕ)) → set_where test v qs [] ≡ []
    no_flags [] = refl
    no_flags (q ∷ qs) = refl
skip_sets test v (suc a) (p ∷ ps) (f ∷ fs) h = ap (λ gs. f ∷ gs) (skip_sets test v a ps fs h.1) ∙ sym (ap (λ b. cond b v f ∷ set_where test v ps fs) h.0)

skip_counts : (test : List ℕ → Bool) (v : Bool) (a : ℕ) (ps : List (List ℕ)) (fs : List Bool) → NonePassing test (take a ps) → changed test v (drop a ps) (drop a fs) ≡ changed test v ps fs
skip_counts test v zero ps fs h = refl
skip_counts test v (suc a) [] fs h = refl
skip_counts test v (suc a) (p ∷ ps) [] h = no_flags (drop a ps)
  where
    no_flags : (qs : List (List ℕ)) → changed test v qs [] ≡ 0
    no_flags [] = refl
    no_flags (q ∷ qs) = refl
skip_counts test v (suc a) (p ∷ ps) (f ∷ fs) h = skip_counts test v a ps fs h.1 ∙ omega (arith, ap {B = ℕ} (λ b. cond (b && differs v f) 1 0) h.0)

skip_any : (test : List ℕ → Bool) (a : ℕ) (ps : List (List ℕ)) → NonePassing test (take a ps) → list_any test (drop a ps) ≡ list_any test ps
skip_any test zero ps h = refl
skip_any test (suc a) [] h = refl
skip_any test (suc a) (p ∷ ps) h = skip_any test a ps h.1 ∙ sym (ap (λ b. b || list_any test ps) h.0)

-- ---- from the first path of a directory to the last one

-- nothing is to be set before a run
pub stands_at_run : (test : List ℕ → Bool) (v : Bool) (paths : List (List ℕ)) (old : List Bool) (first : ℕ) → NonePassing test (take first paths) → first ≤ length paths → length old ≡ length paths → Stands test v paths old first old 0 false
stands_at_run test v paths old first before bound long = record {
  sets = skip_sets test v first paths old before;
  counts = omega (arith, skip_counts test v first paths old before);
  finds = skip_any test first paths before;
  as_long = long;
  few = omega arith;
  bound = bound;
}

-- nor after it
module _ (test : List ℕ → Bool) (v : Bool) (paths : List (List ℕ)) (old : List Bool) (place : ℕ) (flags : List Bool) (count : ℕ) (found : Bool) (at : Stands test v paths old place flags count found) (none : NonePassing test (drop place paths)) where
  pub all_set : flags ≡ set_where test v paths old
  all_set = sym (take-append-drop place flags) ∙ ap (λ fs. take place flags ++ fs) (sym (none_set test v (drop place paths) (drop place flags) none)) ∙ at.sets

  pub all_counted : count ≡ changed test v paths old
  all_counted = omega (arith, none_changed test v (drop place paths) (drop place flags) none, at.counts)

  pub all_found : found ≡ list_any test paths
  all_found = sym (or_none found) ∙ ap (λ b. found || b) (sym (none_any test (drop place paths) none)) ∙ at.finds

-- a step of the first paths is one of all
pub step_within : (test : List ℕ → Bool) (k : ℕ) (paths : List (List ℕ)) (r l : ℕ) → IsStep test (take k paths) r l → IsStep test paths r l
step_within test k paths r l step = record {
  some = step.some;
  ordered = step.ordered;
  bound = omega (arith, step.bound, length-take k paths);
  within = subst (AllPassing test) (take-take r k paths (omega (arith, fits, step.ordered))) step.within;
  after = subst (λ qs. NonePassing test (drop r qs)) (take-take l k paths fits) step.after;
}
  where
    fits : l ≤ k
    fits = omega (arith, step.bound, length-take k paths)

-- what all paths of a run pass, those from a later place on pass too
pub later_pass : (test : List ℕ → Bool) (a b n : ℕ) (paths : List (List ℕ)) → a ≤ n → n ≤ b → AllPassing test (take (b - a) (drop a paths)) → AllPassing test (take (b - n) (drop n paths))
later_pass test a b n paths from to all =
    subst (AllPassing test)
    ((let e : b - a ≡ (n - a) + (b - n) = omega (arith, from, to) in ap (λ k. drop (n - a) (take k (drop a paths))) e)
    ∙ drop-take (n - a) (b - n) (drop a paths)
    ∙ ap (take (b - n)) (drop-drop (n - a) a paths ∙ (let e : a + (n - a) ≡ n = omega (arith, from) in ap (λ k. drop k paths) e)))
    (all_dropped (λ p. test p ≡ true) (n - a) (take (b - a) (drop a paths)) all)

-- what no path after a run passes, none after a later place passes
pub later_fail : (test : List ℕ → Bool) (b n : ℕ) (paths : List (List ℕ)) → b ≤ n → NonePassing test (drop b paths) → NonePassing test (drop n paths)
later_fail test b n paths le none =
    subst (NonePassing test) (drop-drop (n - b) b paths ∙ (let e : b + (n - b) ≡ n = omega (arith, le) in ap (λ k. drop k paths) e)) (all_dropped (λ p. test p ≡ false) (n - b) (drop b paths) none)

-- ---- a directory's own path

none_later : (d p : List ℕ) (qs : List (List ℕ)) → AllByRecursion (Below p) qs → (Below p d → ⊥) → NonePassing (bytes_eq d) qs
none_later d p [] all from = tt
none_later d p (q ∷ qs) all from =
    (false_from_ne_true (bytes_eq d q) (λ e. from (subst (Below p) (sym ((bytes_eq-Decides d q).0 e)) all.0)), none_later d p qs all.1 from)

-- after the first path none is the directory's own
pub behind_own : (d : List ℕ) (ps : List (List ℕ)) (p : List ℕ) (qs : List (List ℕ)) → ps ≡ p ∷ qs → IsRising ps → NonePassing (λ q. is_lt (rank_cmp q d)) ps → NonePassing (bytes_eq d) (drop 1 ps)
behind_own d ps p qs shape rises from =
    subst (λ zs. NonePassing (bytes_eq d) (drop 1 zs)) (sym shape) (none_later d p qs (subst IsRising shape rises).0 (not_less p d (subst (NonePassing (λ q. is_lt (rank_cmp q d))) shape from).0))

pub none_own : (d : List ℕ) (ps : List (List ℕ)) (p : List ℕ) (qs : List (List ℕ)) → ps ≡ p ∷ qs → IsRising ps → NonePassing (λ q. is_lt (rank_cmp q d)) ps → bytes_eq d p ≡ false → NonePassing (bytes_eq d) ps
none_own d ps p qs shape rises from other =
    subst (NonePassing (bytes_eq d)) (sym shape) (other, none_later d p qs (subst IsRising shape rises).0 (not_less p d (subst (NonePassing (λ q. is_lt (rank_cmp q d))) shape from).0))

pub less_not_own : (d : List ℕ) (ps : List (List ℕ)) → AllPassing (λ q. is_lt (rank_cmp q d)) ps → NonePassing (bytes_eq d) ps
less_not_own d [] h = tt
less_not_own d (p ∷ ps) h =
    (false_from_ne_true (bytes_eq d p) (λ e. not_below_itself d (subst (λ z. Below z d) (sym ((bytes_eq-Decides d p).0 e)) (is_less p d h.0))), less_not_own d ps h.1)

front_run_sets : (test : List ℕ → Bool) (v : Bool) (r : ℕ) (ps : List (List ℕ)) (fs : List Bool) → AllPassing test (take r ps) → NonePassing test (drop r ps) → r ≤ length ps → length fs ≡ length ps
    → replicate r v ++ drop r fs ≡ set_where test v ps fs
front_run_sets test v zero ps fs within after bound long = sym (none_set test v ps fs after)
front_run_sets test v (suc r) [] fs within after bound long = absurd (omega (arith, bound))
front_run_sets test v (suc r) (p ∷ ps) [] within after bound long = absurd (omega (arith, long))
front_run_sets test v (suc r) (p ∷ ps) (f ∷ fs) within after bound long =
    ap (λ gs. v ∷ gs) (front_run_sets test v r ps fs within.1 after (omega (arith, bound)) (omega (arith, long)))
    ∙ sym (ap (λ b. cond b v f ∷ set_where test v ps fs) within.0)

front_run_counts : (test : List ℕ → Bool) (v : Bool) (r : ℕ) (ps : List (List ℕ)) (fs : List Bool) → AllPassing test (take r ps) → NonePassing test (drop r ps) → r ≤ length ps → length fs ≡ length ps
    → count_by (λ f. differs v f) (take r fs) ≡ changed test v ps fs
front_run_counts test v zero ps fs within after bound long = sym (none_changed test v ps fs after)
front_run_counts test v (suc r) [] fs within after bound long = absurd (omega (arith, bound))
front_run_counts test v (suc r) (p ∷ ps) [] within after bound long = absurd (omega (arith, long))
front_run_counts test v (suc r) (p ∷ ps) (f ∷ fs) within after bound long =
    sum_by-cons (λ g. cond (differs v g) 1 0) f (take r fs)
    ∙ ap (λ n. cond (differs v f) 1 0 + n) (front_run_counts test v r ps fs within.1 after (omega (arith, bound)) (omega (arith, long)))
    ∙ sym (ap (λ b. cond (b && differs v f) 1 0 + changed test v ps fs) within.0)

front_run_any : (test : List ℕ → Bool) (r : ℕ) (ps : List (List ℕ)) → AllPassing test (take r ps) → NonePassing test (drop r ps) → r ≤ length ps → list_any test ps ≡ nat_lt 0 r
front_run_any test zero ps within after bound = none_any test ps after
front_run_any test (suc r) [] within after bound = absurd (omega (arith, bound))
front_run_any test (suc r) (p ∷ ps) within after bound = ap (λ b. b || list_any test ps) within.0 ∙ sym (lt-ltb 0 (suc r) (omega arith))

module _ (test : List ℕ → Bool) (v : Bool) (ps : List (List ℕ)) (fs : List Bool) (a r : ℕ) (bound : a ≤ length ps) (more : r ≤ length ps - a) (long : length fs ≡ length ps)
    (before : NonePassing test (take a ps)) (within : AllPassing test (take r (drop a ps))) (after : NonePassing test (drop r (drop a ps))) where
  at_a : a + r - a ≡ r
  at_a = omega arith

  long_a : length (drop a fs) ≡ length (drop a ps)
  long_a = omega (arith, length-drop a fs, length-drop a ps, long)

  more_a : r ≤ length (drop a ps)
  more_a = omega (arith, length-drop a ps, more)

  whole_a : length ps ≡ a + (length ps - a)
  whole_a = omega (arith, bound)

  pub run_sets : take a fs ++ replicate (a + r - a) v ++ drop (a + r) fs ≡ set_where test v ps fs
  run_sets =
      ap (λ k. take a fs ++ replicate k v ++ drop (a + r) fs) at_a
      ∙ append_assoc (take a fs) (replicate r v) (drop (a + r) fs)
      ∙ ap (λ gs. take a fs ++ (replicate r v ++ gs)) (sym (drop-drop r a fs))
      ∙ ap (λ gs. take a fs ++ gs) (front_run_sets test v r (drop a ps) (drop a fs) within after more_a long_a)
      ∙ skip_sets test v a ps fs before

  pub run_counts : count_by (λ f. differs v f) (take (a + r - a) (drop a fs)) ≡ changed test v ps fs
  run_counts =
      ap (λ k. count_by (λ f. differs v f) (take k (drop a fs))) at_a
      ∙ front_run_counts test v r (drop a ps) (drop a fs) within after more_a long_a
      ∙ skip_counts test v a ps fs before

  pub run_finds : list_any test ps ≡ nat_lt 0 r
  run_finds = sym (skip_any test a ps before) ∙ front_run_any test r (drop a ps) within after more_a

-- ---- whether some path begins so

pub run_any : (test : List ℕ → Bool) (ps : List (List ℕ)) (a b : ℕ) → IsRun test ps a b → list_any test ps ≡ nat_lt a b
run_any test ps a b run =
    sym (within_any test a b ps run.ordered run.before run.after)
    ∙ go (take (b - a) (drop a ps)) refl run.within
  where
    go : (zs : List (List ℕ)) → take (b - a) (drop a ps) ≡ zs → AllPassing test zs → list_any test (take (b - a) (drop a ps)) ≡ nat_lt a b
    go [] is all = ap (list_any test) is ∙ sym (le-ltb a b (omega (arith, ap length is, length-take (b - a) (drop a ps), length-drop a ps, run.bound, run.ordered)))
    go (z ∷ zs) is all = ap (list_any test) is ∙ ap (λ t. t || list_any test zs) all.0 ∙ sym (lt-ltb a b (omega (arith, ap length is, length-take (b - a) (drop a ps))))

-- ---- marks

-- what is meant, if anything is
pub some_is : (ps : List (List ℕ)) (test : List ℕ → Bool) → some_of (filter test ps) ≡ cond (list_any test ps) (Ok (filter test ps)) (Err 57)
some_is ps test = go (filter test ps) refl
  where
    go : (zs : List (List ℕ)) → filter test ps ≡ zs → some_of (filter test ps) ≡ cond (list_any test ps) (Ok (filter test ps)) (Err 57)
    go [] is =
        ap (λ b. cond b (Err 57) (Ok (filter test ps))) (ap is_empty is)
        ∙ sym (ap (λ b. cond b (Ok (filter test ps)) (Err 57)) (false_from_ne_true (list_any test ps) (λ e. let x = from_some test ps e in none_in x.0 (subst (λ l. Contains l x.0) is (contains_filter test ps x.0 x.1 x.2)))))
    go (z ∷ zs) is =
        ap (λ b. cond b (Err 57) (Ok (filter test ps))) (ap is_empty is ∙ cons_not_empty z zs)
        ∙ sym (ap (λ b. cond b (Ok (filter test ps)) (Err 57)) (let k = kept_passes test ps z (subst (λ l. Contains l z) (sym is) (first_in z zs z refl)) in some_passes test ps z k.0 k.1))

pub none_from_any : (test : List ℕ → Bool) (ps : List (List ℕ)) → list_any test ps ≡ false → NonePassing test ps
none_from_any test ps e = none_pass test ps e
