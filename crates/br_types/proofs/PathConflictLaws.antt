-- Paths that go on with a slash after others, and the two sets of paths that were noted.
use Rattle.std.proofs.Common.{◌≡◌, ℕ, zero, suc, ◌+◌, ◌<◌, Bool, true, false, not, ◌&&◌, ◌||◌, ◌==◌, cond, List, [], ◌∷◌, ◌++◌, length, take, refl, ap, sym, ◌∙◌, arith, slice_index, bytes_eq}
use Rattle.std.specs.List.{list_any}
use Rattle.std.specs.BTreeSet.{BTreeSet, Updates}
use Rattle.std.specs.Cmp.Lexicographic.{slice_cmp}
use Rattle.std.specs.Ordering.{nat_cmp}
use Rattle.std.proofs.lemmas.Map.Text.{is_eq-slice_cmp}
use Rattle.std.proofs.lemmas.Bool.{and_parts, eqb-true, eq-eqb, ne_eqb, false_from_ne_true}
use Rattle.std.proofs.lemmas.List.{take_more}
use Rattle.std.proofs.lemmas.Slice.Eq.{bytes_eq-Decides}
use Rattle.std.proofs.lemmas.Cmp.{nat_list_eq_equiv}
use denote.Ref.{Bor}
use Rattle.br_model.specs.Name.{is_directory}
use Rattle.br_model.specs.Delivery.{is_on_the_way, in_the_way}
use Rattle.br_types.specs.Conflicts.{AreNoted, HasNoFront, goes_on_behind, has_path, is_file}

-- ---- one path after another

nothing_behind : (q : List ℕ) → goes_on_behind q [] ≡ false
nothing_behind [] = refl
nothing_behind (x ∷ q) = refl

-- one more byte: the path goes on after what was there if the byte is a slash
pub one_more_byte : (q xs : List ℕ) (c : ℕ) → goes_on_behind q (xs ++ c ∷ []) ≡ ((bytes_eq q xs && (47 == c)) || goes_on_behind q xs)
one_more_byte [] [] c = elim (47 == c) as (λ b. (b && true) ≡ ((true && b) || false)) [ true ↦ refl | false ↦ refl ]
one_more_byte [] (y ∷ ys) c = refl
one_more_byte (x ∷ q) [] c = rw (nothing_behind q) (elim (x == c) as (λ b. (b && false) ≡ false) [ true ↦ refl | false ↦ refl ])
one_more_byte (x ∷ q) (y ∷ ys) c =
    rw (one_more_byte q ys c)
    (elim (x == y) as (λ b. (b && ((bytes_eq q ys && (47 == c)) || goes_on_behind q ys)) ≡ (((b && bytes_eq q ys) && (47 == c)) || (b && goes_on_behind q ys)))
    [ true ↦ refl | false ↦ refl ])

-- a path that goes on after another one has it before a slash
pub front_of : (q path : List ℕ) → goes_on_behind q path ≡ true → (length q < length path) × (slice_index path (length q) ≡ 47) × (take (length q) path ≡ q)
front_of [] [] h = absurd cc
front_of [] (y ∷ ys) h = (omega arith, sym (eqb-true 47 y (and_parts (47 == y) true h).0), refl)
front_of (x ∷ q) [] h = absurd cc
front_of (x ∷ q) (y ∷ ys) h =
    let p = and_parts (x == y) (goes_on_behind q ys) h in
    let more = front_of q ys p.1 in
    let e : x ≡ y = eqb-true x y p.0 in
    (omega (arith, more.0), more.1, rw (e, more.2) refl)

-- after what comes before a slash, the path goes on
pub behind_front : (path : List ℕ) (i : ℕ) → i < length path → slice_index path i ≡ 47 → goes_on_behind (take i path) path ≡ true
behind_front [] i less is = absurd (omega arith)
behind_front (y ∷ ys) zero less is = rw is refl
behind_front (y ∷ ys) (suc i) less is = rw (behind_front ys i (omega arith) is, eq-eqb y y refl) refl

-- ---- some of a list

or_true : (b : Bool) → (b || true) ≡ true
or_true true = refl
or_true false = refl

-- one that passes a test
pub any_is : {X : Type 0} (h : X → Bool) (xs : List X) → list_any h xs ≡ true → (x : X) × (h x ≡ true) × ((f : X → Bool) → f x ≡ true → list_any f xs ≡ true)
any_is h [] some = absurd cc
any_is h (x ∷ xs) some =
    elim (h x) as (λ b. h x ≡ b → (b || list_any h xs) ≡ true → (y : _) × (h y ≡ true) × ((f : _ → Bool) → f y ≡ true → list_any f (x ∷ xs) ≡ true)) [
      | true ↦ λ is _. (x, is, λ f e. rw e refl)
      | false ↦ λ is more. let p = any_is h xs more in (p.0, p.1, λ f e. ap (λ b. f x || b) (p.2 f e) ∙ or_true (f x))
    ] refl some

four : (d a b c e : Bool) → (((d && a) || b) || ((d && c) || e)) ≡ ((d && (a || c)) || (b || e))
four false a b c e = refl
four true true b c e = refl
four true false true c e = sym (or_true c)
four true false false c e = refl

-- a test of two parts, of which one waits for the same bool
any_of_both : {X : Type 0} (d : Bool) (f h : X → Bool) (xs : List X) → list_any (λ x. (d && f x) || h x) xs ≡ ((d && list_any f xs) || list_any h xs)
any_of_both true f h [] = refl
any_of_both false f h [] = refl
any_of_both d f h (x ∷ xs) = rw (any_of_both d f h xs) (four d (f x) (h x) (list_any f xs) (list_any h xs))

-- ---- the sets

-- a key more
pub one_more_key : (s n : BTreeSet (Bor (List ℕ))) (k : Bor (List ℕ)) → Updates (λ x y. slice_cmp nat_cmp x.now y.now) s n k true
    → (q : List ℕ) → has_path (λ j. j.now) n q ≡ (bytes_eq k.now q || has_path (λ j. j.now) s q)
one_more_key s n k updates q =
    updates.0 (record { ref_ptr = (0, 0); now = q }) ∙ ap (λ b. cond b true (has_path (λ j. j.now) s q)) (is_eq-slice_cmp k.now q)
    ∙ elim (bytes_eq k.now q) as (λ b. cond b true (has_path (λ j. j.now) s q) ≡ (b || has_path (λ j. j.now) s q)) [ true ↦ refl | false ↦ refl ]

three : (a b c : Bool) → (a || (b || c)) ≡ (((a && true) || b) || c)
three true b c = refl
three false b c = refl

neither : (a b : Bool) → ((a && false) || b) ≡ b
neither true b = refl
neither false b = refl

-- what came before a slash is one more folder
pub one_more_front : (before after : Bool) (q path : List ℕ) (i : ℕ) → i < length path → slice_index path i ≡ 47
    → after ≡ (bytes_eq (take i path) q || before) → (initial : Bool) → before ≡ (goes_on_behind q (take i path) || initial)
    → after ≡ (goes_on_behind q (take (i + 1) path) || initial)
one_more_front before after q path i less is now initial was =
    let longer : goes_on_behind q (take (i + 1) path) ≡ ((bytes_eq q (take i path) && (47 == slice_index path i)) || goes_on_behind q (take i path)) =
    ap (goes_on_behind q) (take_more path i 0 less) ∙ one_more_byte q (take i path) (slice_index path i) in
    let slash : (47 == slice_index path i) ≡ true = eq-eqb 47 (slice_index path i) (sym is) in
    now ∙ ap (λ b. bytes_eq (take i path) q || b) was ∙ ap (λ b. b || (goes_on_behind q (take i path) || initial)) (nat_list_eq_equiv.symm (take i path) q)
    ∙ three (bytes_eq q (take i path)) (goes_on_behind q (take i path)) initial
    ∙ sym (ap (λ b. b || initial) (longer ∙ ap (λ b. (bytes_eq q (take i path) && b) || goes_on_behind q (take i path)) slash))

-- no slash, no folder more
pub no_more_front : (q path : List ℕ) (i : ℕ) → i < length path → (slice_index path i ≡ 47 → ⊥)
    → goes_on_behind q (take (i + 1) path) ≡ goes_on_behind q (take i path)
no_more_front q path i less other =
    ap (goes_on_behind q) (take_more path i 0 less) ∙ one_more_byte q (take i path) (slice_index path i)
    ∙ ap (λ b. (bytes_eq q (take i path) && b) || goes_on_behind q (take i path)) (ne_eqb 47 (slice_index path i) (λ e. other (sym e)))
    ∙ neither (bytes_eq q (take i path)) (goes_on_behind q (take i path))

-- ---- what conflicts

some_inside : (files folders : List ℕ → Bool) (paths : List (List ℕ)) (path : List ℕ) → AreNoted files folders paths
    → (i : ℕ) × (i < length path) × (slice_index path i ≡ 47) × (files (take i path) ≡ true) → list_any (λ p. is_on_the_way p path) paths ≡ true
some_inside files folders paths path noted found =
    let front : List ℕ = take found.0 path in
    let a = any_is (is_file front) paths (sym (noted.of_files front) ∙ found.3) in
    let parts = and_parts (bytes_eq a.0 front) (not (is_directory a.0)) a.1 in
    let same : a.0 ≡ front = (bytes_eq-Decides a.0 front).0 parts.0 in
    let behind : goes_on_behind a.0 path ≡ true = ap (λ p. goes_on_behind p path) same ∙ behind_front path found.0 found.1 found.2 in
    a.2 (λ p. is_on_the_way p path) (rw (parts.1, behind) refl)

none_inside : (files folders : List ℕ → Bool) (paths : List (List ℕ)) (path : List ℕ) → AreNoted files folders paths
    → HasNoFront files path → list_any (λ p. is_on_the_way p path) paths ≡ true → ⊥
none_inside files folders paths path noted none some =
    let a = any_is (λ p. is_on_the_way p path) paths some in
    let p : List ℕ = a.0 in
    let parts = and_parts (not (is_directory p)) (goes_on_behind p path) a.1 in
    let front = front_of p path parts.1 in
    let is : is_file p p ≡ true = ap (λ b. b && not (is_directory p)) (nat_list_eq_equiv.refl p) ∙ parts.0 in
    let has : files p ≡ true = noted.of_files p ∙ a.2 (is_file p) is in
    let misses : files p ≡ false = sym (ap files front.2) ∙ none (length p) front.0 front.1 in
    absurd cc

denied : (a b c : Bool) → (not a && (b || not c)) ≡ not ((not b && c) || a)
denied true true c = refl
denied true false true = refl
denied true false false = refl
denied false true c = refl
denied false false true = refl
denied false false false = refl

-- the files before a slash of a path are those that the path is below
pub inside_is : (files folders : List ℕ → Bool) (paths : List (List ℕ)) (path : List ℕ) (inside : Bool) → AreNoted files folders paths
    → (inside ≡ false → HasNoFront files path)
    → (inside ≡ true → (i : ℕ) × (i < length path) × (slice_index path i ≡ 47) × (files (take i path) ≡ true))
    → inside ≡ list_any (λ p. is_on_the_way p path) paths
inside_is files folders paths path inside noted none one =
    elim inside as (λ b. (b ≡ false → HasNoFront files path)
    → (b ≡ true → (i : ℕ) × (i < length path) × (slice_index path i ≡ 47) × (files (take i path) ≡ true)) → b ≡ list_any (λ p. is_on_the_way p path) paths) [
      | true ↦ λ _ found. sym (some_inside files folders paths path noted (found refl))
      | false ↦ λ empty _. sym (false_from_ne_true _ (none_inside files folders paths path noted (empty refl)))
    ] none one

-- a path is free if it is below no file, and is no file at the place of a folder
pub free_is : (files folders : List ℕ → Bool) (paths : List (List ℕ)) (path : List ℕ) (inside : Bool) → AreNoted files folders paths
    → (inside ≡ false → HasNoFront files path)
    → (inside ≡ true → (i : ℕ) × (i < length path) × (slice_index path i ≡ 47) × (files (take i path) ≡ true))
    → (not inside && (is_directory path || not (folders path))) ≡ not (list_any (in_the_way path) paths)
free_is files folders paths path inside noted none one =
    ap (λ b. not b && (is_directory path || not (folders path))) (inside_is files folders paths path inside noted none one)
    ∙ ap (λ b. not (list_any (λ p. is_on_the_way p path) paths) && (is_directory path || not b)) (noted.of_folders path)
    ∙ denied (list_any (λ p. is_on_the_way p path) paths) (is_directory path) (list_any (goes_on_behind path) paths)
    ∙ sym (ap not (any_of_both (not (is_directory path)) (goes_on_behind path) (λ p. is_on_the_way p path) paths))
