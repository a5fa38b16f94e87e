-- What a pattern means, path by path.
use Rattle.std.proofs.Common.{◌≡◌, ℕ, Bool, true, false, not, ◌&&◌, ◌||◌, cond, List, [], ◌∷◌, ◌++◌, length, map, filter, Some, None, Ok, Err, refl, sym, ap, subst, ◌∙◌, append_assoc, append-nil, length-append, arith}
use Rattle.std.proofs.lemmas.Bool.{both_ways, and_parts, and_from, false_from_ne_true, or_left, or_right}
use Rattle.std.proofs.lemmas.Slice.Eq.{bytes_eq-Decides}
use Rattle.std.specs.Prelude.{Contains, bytes_eq, drop}
use Rattle.std.specs.List.{AllByRecursion, list_any}
use Rattle.br_model.specs.Answer.{◌>>=◌}
use Rattle.br_model.specs.Text.{is_empty}
use Rattle.br_model.specs.Order.{is_among}
use Rattle.br_model.specs.Name.{is_slash, is_directory}
use Rattle.br_model.specs.Console.{begins_with, is_below, child_of, children, matching, matches, bare, is_meant, meant, meant_directories, some_of}
use Rattle.br_model.proofs.ListLaws.{none_in, first_in, cons_not_empty, to_each, some_passes, from_some, contains_filter, kept_passes, contains_map, from_image}
use Rattle.br_model.proofs.OrderLaws.{in_order_from, in_order_has_each}
use Rattle.br_tree.specs.Walk.{is_own, is_picked}
use Rattle.br_tree.proofs.MatchLaws.{either_way, or_cases}
use Rattle.br_tree.proofs.PartLaws.{part, behind, part_splits, part_whole, part_of_front, part_again, part_directory, last_later}
use Rattle.br_tree.proofs.RunLaws.{begins_to, begins_from, child_is, drop_front}

-- ---- paths below a directory

-- a path below a directory is the directory and more
pub record IsBelow (d p : List ℕ) : Type 0 where
  pub first : ℕ
  pub more : List ℕ
  pub is : p ≡ d ++ first ∷ more

pub below_is : (d p : List ℕ) → is_below d p ≡ true → IsBelow d p
below_is d p e = go (drop (length d) p) (begins_to p d parts.0)
  where
    parts : (begins_with p d ≡ true) × (not (bytes_eq p d) ≡ true)
    parts = and_parts (begins_with p d) (not (bytes_eq p d)) e

    go : (r : List ℕ) → p ≡ d ++ r → IsBelow d p
    go [] is = absurd (both_ways (not (bytes_eq p d)) (ap not ((bytes_eq-Decides p d).1 (is ∙ append-nil d))) parts.1)
    go (c ∷ cs) is = record { first = c; more = cs; is = is }

longer : (d : List ℕ) (c : ℕ) (cs : List ℕ) → d ++ c ∷ cs ≡ d → ⊥
longer d c cs e = omega (arith, ap length e, length-append d (c ∷ cs))

pub below_from : (d p : List ℕ) (c : ℕ) (cs : List ℕ) → p ≡ d ++ c ∷ cs → is_below d p ≡ true
below_from d p c cs is =
    and_from (begins_with p d) (not (bytes_eq p d)) (begins_from p d (c ∷ cs) is)
    (ap not (false_from_ne_true (bytes_eq p d) (λ t. longer d c cs (sym is ∙ (bytes_eq-Decides p d).0 t))))

pub child_named : (d p : List ℕ) (r : List ℕ) → p ≡ d ++ r → child_of d p ≡ part r
child_named d p r is = ap (child_of d) is ∙ child_is d r

-- whether a directory's path and more is one is up to what there is more
pub directory_behind : (d : List ℕ) (c : ℕ) (cs : List ℕ) → is_directory (d ++ c ∷ cs) ≡ is_directory (c ∷ cs)
directory_behind [] c cs = refl
directory_behind (x ∷ []) c cs = last_later x c cs
directory_behind (x ∷ y ∷ d) c cs = last_later x y (d ++ c ∷ cs) ∙ directory_behind (y ∷ d) c cs

-- ---- children

pub child_in : (paths : List (List ℕ)) (d q : List ℕ) → Contains paths q → is_below d q ≡ true → Contains (children paths d) (child_of d q)
unfolding children
child_in paths d q inside below =
    in_order_has_each (λ name. name) (map (child_of d) (filter (is_below d) paths)) (λ x y a b same. same) (child_of d q)
    (contains_map (child_of d) (filter (is_below d) paths) q (contains_filter (is_below d) paths q inside below))

pub child_from : (paths : List (List ℕ)) (d name : List ℕ) → Contains (children paths d) name → (q : List ℕ) × Contains paths q × (is_below d q ≡ true) × (child_of d q ≡ name)
unfolding children
child_from paths d name inside =
    let q = from_image (child_of d) (filter (is_below d) paths) name (in_order_from (λ n. n) (map (child_of d) (filter (is_below d) paths)) name inside) in
    let kept = kept_passes (is_below d) paths q.0 q.1 in
    (q.0, kept.0, kept.1, q.2)

-- the children that match
abbrev pub fits : List ℕ → List ℕ → Bool
fits pattern name = matches pattern (bare name)

-- the path of a child, or for a directory one that begins with it, has this child
named_so : (d z name : List ℕ) → IsBelow d z → child_of d z ≡ name → (bytes_eq z (d ++ name) || (is_directory name && begins_with z (d ++ name))) ≡ true
named_so d z name below is = go (list_any is_slash r) refl
  where
    r : List ℕ
    r = below.first ∷ below.more

    same : name ≡ part r
    same = sym is ∙ child_named d z r below.is

    go : (b : Bool) → list_any is_slash r ≡ b → (bytes_eq z (d ++ name) || (is_directory name && begins_with z (d ++ name))) ≡ true
    go true has =
        or_right (bytes_eq z (d ++ name)) (is_directory name && begins_with z (d ++ name))
        (and_from (is_directory name) (begins_with z (d ++ name)) (ap is_directory same ∙ part_directory r ∙ has)
        (begins_from z (d ++ name) (behind r) (below.is ∙ ap (λ s. d ++ s) (part_splits r) ∙ sym (append_assoc d (part r) (behind r)) ∙ ap (λ s. d ++ s ++ behind r) (sym same))))
    go false none =
        or_left (bytes_eq z (d ++ name)) (is_directory name && begins_with z (d ++ name))
        ((bytes_eq-Decides z (d ++ name)).1 (below.is ∙ ap (λ s. d ++ s) (sym (part_whole r none) ∙ sym same)))

-- and the other way round
record HasChild (d z name : List ℕ) : Type 0 where
  below : is_below d z ≡ true
  named : child_of d z ≡ name

so_named : (d q z name : List ℕ) → IsBelow d q → child_of d q ≡ name → (bytes_eq z (d ++ name) || (is_directory name && begins_with z (d ++ name))) ≡ true → HasChild d z name
so_named d q z name below is e =
    or_cases (bytes_eq z (d ++ name)) (is_directory name && begins_with z (d ++ name)) e
    (λ t. own ((bytes_eq-Decides z (d ++ name)).0 t))
    (λ t. let p = and_parts (is_directory name) (begins_with z (d ++ name)) t in within p.0 p.1)
  where
    r : List ℕ
    r = below.first ∷ below.more

    same : name ≡ part r
    same = sym is ∙ child_named d q r below.is

    own : z ≡ d ++ name → HasChild d z name
    own at = record {
      below = below_from d z below.first _ (at ∙ ap (λ s. d ++ s) same);
      named = child_named d z (part r) (at ∙ ap (λ s. d ++ s) same) ∙ part_again r ∙ sym same;
    }

    within : is_directory name ≡ true → begins_with z (d ++ name) ≡ true → HasChild d z name
    within dir begins =
        let more = drop (length (d ++ name)) z in
        let at : z ≡ d ++ (part r ++ more) = begins_to z (d ++ name) begins ∙ append_assoc d name more ∙ ap (λ s. d ++ (s ++ more)) same in
        record {
          below = below_from d z below.first _ at;
          named = child_named d z (part r ++ more) at ∙ part_of_front r more (sym (part_directory r) ∙ ap is_directory (sym same) ∙ dir) ∙ sym same;
        }

-- ---- what is meant

-- a path is meant if its child matches
pub meant_if_picked : (paths : List (List ℕ)) (d pattern z : List ℕ) → Contains paths z → is_meant d (matching paths d pattern) z ≡ is_picked true d pattern z
unfolding matching
meant_if_picked paths d pattern z inside =
    either_way (is_meant d (matching paths d pattern) z) (is_picked true d pattern z)
    (λ e.
    let name = from_some (λ name. bytes_eq z (d ++ name) || (is_directory name && begins_with z (d ++ name))) (matching paths d pattern) e in
    let kept = kept_passes (fits pattern) (children paths d) name.0 name.1 in
    let q = child_from paths d name.0 kept.0 in
    let h = so_named d q.0 z name.0 (below_is d q.0 q.2) q.3 name.2 in
    and_from (is_below d z) (fits pattern (child_of d z)) h.below (ap (fits pattern) h.named ∙ kept.1))
    (λ e.
    let p = and_parts (is_below d z) (fits pattern (child_of d z)) e in
    some_passes (λ name. bytes_eq z (d ++ name) || (is_directory name && begins_with z (d ++ name))) (matching paths d pattern) (child_of d z)
    (contains_filter (fits pattern) (children paths d) (child_of d z) (child_in paths d z inside p.0) p.1)
    (named_so d z (child_of d z) (below_is d z p.0) refl))

pub same_filter : (p q : List ℕ → Bool) (xs : List (List ℕ)) → AllByRecursion (λ x. p x ≡ q x) xs → filter p xs ≡ filter q xs
same_filter p q [] h = refl
same_filter p q (x ∷ xs) h = ap (λ b. cond b (x ∷ filter p xs) (filter p xs)) h.0 ∙ ap (λ ys. cond (q x) (x ∷ ys) ys) (same_filter p q xs h.1)

-- a child matches if some path is meant
same_emptiness : (paths : List (List ℕ)) (d pattern : List ℕ) → is_empty (matching paths d pattern) ≡ is_empty (filter (is_picked true d pattern) paths)
unfolding matching
same_emptiness paths d pattern = go (matching paths d pattern) refl (filter (is_picked true d pattern) paths) refl
  where
    go : (ns : List (List ℕ)) → matching paths d pattern ≡ ns → (zs : List (List ℕ)) → filter (is_picked true d pattern) paths ≡ zs → is_empty (matching paths d pattern) ≡ is_empty (filter (is_picked true d pattern) paths)
    go [] ns [] zs = ap is_empty ns ∙ sym (ap is_empty zs)
    go (n ∷ ns) of_names (z ∷ zs) of_paths = ap is_empty of_names ∙ cons_not_empty n ns ∙ sym (ap is_empty of_paths ∙ cons_not_empty z zs)
    go [] of_names (z ∷ zs) of_paths =
        let kept = kept_passes (is_picked true d pattern) paths z (subst (λ l. Contains l z) (sym of_paths) (first_in z zs z refl)) in
        let p = and_parts (is_below d z) (fits pattern (child_of d z)) kept.1 in
        absurd (none_in (child_of d z) (subst (λ l. Contains l (child_of d z)) of_names (contains_filter (fits pattern) (children paths d) (child_of d z) (child_in paths d z kept.0 p.0) p.1)))
    go (n ∷ ns) of_names [] of_paths =
        let kept = kept_passes (fits pattern) (children paths d) n (subst (λ l. Contains l n) (sym of_names) (first_in n ns n refl)) in
        let q = child_from paths d n kept.0 in
        absurd (none_in q.0 (subst (λ l. Contains l q.0) of_paths
        (contains_filter (is_picked true d pattern) paths q.0 q.1 (and_from (is_below d q.0) (fits pattern (child_of d q.0)) q.2 (ap (fits pattern) q.3 ∙ kept.1)))))

-- the paths that a pattern means are those whose child matches
pub meant_is : (paths : List (List ℕ)) (d pattern : List ℕ) → meant paths d pattern ≡ some_of (filter (is_picked true d pattern) paths)
unfolding meant
meant_is paths d pattern = go (is_empty (matching paths d pattern)) refl
  where
    same : filter (is_meant d (matching paths d pattern)) paths ≡ filter (is_picked true d pattern) paths
    same = same_filter (is_meant d (matching paths d pattern)) (is_picked true d pattern) paths (to_each (λ z. is_meant d (matching paths d pattern) z ≡ is_picked true d pattern z) paths (λ z inside. meant_if_picked paths d pattern z inside))

    go : (b : Bool) → is_empty (matching paths d pattern) ≡ b → (some_of (matching paths d pattern) >>= λ names. Ok (filter (is_meant d names) paths)) ≡ some_of (filter (is_picked true d pattern) paths)
    go true e =
        ap (λ b. cond b (Err 57) (Ok (matching paths d pattern)) >>= λ names. Ok (filter (is_meant d names) paths)) e
        ∙ sym (ap (λ b. cond b (Err 57) (Ok (filter (is_picked true d pattern) paths))) (sym (same_emptiness paths d pattern) ∙ e))
    go false e =
        ap (λ b. cond b (Err 57) (Ok (matching paths d pattern)) >>= λ names. Ok (filter (is_meant d names) paths)) e
        ∙ ap Ok same
        ∙ sym (ap (λ b. cond b (Err 57) (Ok (filter (is_picked true d pattern) paths))) (sym (same_emptiness paths d pattern) ∙ e))

-- ---- directories that are meant

-- a directory's own path is meant if its name matches
own_if_picked : (paths : List (List ℕ)) (d pattern z : List ℕ) → Contains paths z
    → is_among (map (λ name. d ++ name) (filter is_directory (matching paths d pattern))) z ≡ is_picked false d pattern z
unfolding matching
own_if_picked paths d pattern z inside =
    either_way (is_among (map (λ name. d ++ name) (filter is_directory (matching paths d pattern))) z) (is_picked false d pattern z)
    (λ e.
    let at = from_some (bytes_eq z) (map (λ name. d ++ name) (filter is_directory (matching paths d pattern))) e in
    let name = from_image (λ name. d ++ name) (filter is_directory (matching paths d pattern)) at.0 at.1 in
    let dir = kept_passes is_directory (matching paths d pattern) name.0 name.1 in
    let kept = kept_passes (fits pattern) (children paths d) name.0 dir.0 in
    let q = child_from paths d name.0 kept.0 in
    let is : z ≡ d ++ name.0 = (bytes_eq-Decides z at.0).0 at.2 ∙ sym name.2 in
    let h = so_named d q.0 z name.0 (below_is d q.0 q.2) q.3 (or_left (bytes_eq z (d ++ name.0)) (is_directory name.0 && begins_with z (d ++ name.0)) ((bytes_eq-Decides z (d ++ name.0)).1 is)) in
    let b = below_is d z h.below in
    let short : name.0 ≡ b.first ∷ b.more = sym (drop_front d name.0) ∙ ap (drop (length d)) (sym is ∙ b.is) ∙ drop_front d (b.first ∷ b.more) in
    and_from (is_below d z) (is_own d z && fits pattern (child_of d z)) h.below
    (and_from (is_own d z) (fits pattern (child_of d z))
    (and_from (is_directory z) (bytes_eq z (d ++ child_of d z)) (ap is_directory b.is ∙ directory_behind d b.first b.more ∙ ap is_directory (sym short) ∙ dir.1)
    ((bytes_eq-Decides z (d ++ child_of d z)).1 (is ∙ ap (λ n. d ++ n) (sym h.named))))
    (ap (fits pattern) h.named ∙ kept.1)))
    (λ e.
    let p = and_parts (is_below d z) (is_own d z && fits pattern (child_of d z)) e in
    let r = and_parts (is_own d z) (fits pattern (child_of d z)) p.1 in
    let o = and_parts (is_directory z) (bytes_eq z (d ++ child_of d z)) r.0 in
    let name = child_of d z in
    let is : z ≡ d ++ name = (bytes_eq-Decides z (d ++ name)).0 o.1 in
    let b = below_is d z p.0 in
    let short : name ≡ b.first ∷ b.more = sym (drop_front d name) ∙ ap (drop (length d)) (sym is ∙ b.is) ∙ drop_front d (b.first ∷ b.more) in
    let dir : is_directory name ≡ true = ap is_directory short ∙ sym (directory_behind d b.first b.more) ∙ ap is_directory (sym b.is) ∙ o.0 in
    some_passes (bytes_eq z) (map (λ n. d ++ n) (filter is_directory (matching paths d pattern))) (d ++ name)
    (contains_map (λ n. d ++ n) (filter is_directory (matching paths d pattern)) name
    (contains_filter is_directory (matching paths d pattern) name (contains_filter (fits pattern) (children paths d) name (child_in paths d z inside p.0) r.1) dir))
    ((bytes_eq-Decides z (d ++ name)).1 is))

pub meant_directories_is : (paths : List (List ℕ)) (d pattern : List ℕ) → meant_directories paths d (Some pattern) ≡ some_of (filter (is_picked false d pattern) paths)
unfolding meant_directories
meant_directories_is paths d pattern =
    ap some_of (same_filter (is_among (map (λ name. d ++ name) (filter is_directory (matching paths d pattern)))) (is_picked false d pattern) paths
    (to_each (λ z. is_among (map (λ name. d ++ name) (filter is_directory (matching paths d pattern))) z ≡ is_picked false d pattern z) paths (λ z inside. own_if_picked paths d pattern z inside)))

pub meant_itself_is : (paths : List (List ℕ)) (d : List ℕ) → meant_directories paths d None ≡ some_of (filter (bytes_eq d) paths)
unfolding meant_directories
meant_itself_is paths d = refl
