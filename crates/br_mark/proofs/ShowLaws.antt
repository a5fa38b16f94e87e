-- The lines of names and paths that a console shows.
use Rattle.std.proofs.Common.{◌≡◌, ℕ, ◌+◌, Bool, true, false, not, ◌&&◌, cond, eqb, List, [], ◌∷◌, ◌++◌, length, map, filter, flat_map, sum_by, Ok, Err, refl, ap, sym, ◌∙◌}
use Rattle.std.proofs.lemmas.List.Folds.{flat_map-map}
use Rattle.std.proofs.lemmas.List.Sums.{sum_by-cons}
use Rattle.std.proofs.lemmas.List.{length-map}
use Rattle.std.specs.Borrow.{Bor}
use Rattle.std.specs.Prelude.{decimal, codes}
use Rattle.br_model.specs.Answer.{◌>>=◌}
use Rattle.br_model.specs.Text.{is_empty, line, escaped}
use Rattle.br_model.specs.Order.{is_among}
use Rattle.br_model.specs.Name.{is_directory}
use Rattle.br_model.specs.View as view
use Rattle.br_model.specs.Console as model
use Rattle.br_model.proofs.ListLaws.{cons_not_empty}
use Rattle.br_view.specs.declared.entry.Entry.{Entry}
use Rattle.br_view.specs.Shown.{shown_pair}
use Rattle.br_tree.specs.declared.child.Child.{Child}
use Rattle.br_tree.specs.Marking.{Marking, console_at, paths_of, signed_children, found_paths, marked_entries}
use Rattle.br_tree.specs.Seen.{seen_child, seen_path}
use Rattle.br_mark.specs.Seen.{signed_line, flagged_line}

-- ---- lists

filter-map : {X Y : Type 0} (q : Y → Bool) (h : X → Y) (xs : List X) → filter q (map h xs) ≡ map h (filter (λ x. q (h x)) xs)
filter-map q h [] = refl
filter-map {X} {Y} q h (x ∷ xs) = go (q (h x)) (filter-map q h xs)
  where
    go : (b : Bool) → filter q (map h xs) ≡ map h (filter (λ y. q (h y)) xs)
        → cond b (h x ∷ filter q (map h xs)) (filter q (map h xs)) ≡ map h (cond b (x ∷ filter (λ y. q (h y)) xs) (filter (λ y. q (h y)) xs))
    go true rest = ap (λ ys. h x ∷ ys) rest
    go false rest = rest

sum_by-map : {X Y : Type 0} (f : Y → ℕ) (h : X → Y) (xs : List X) → sum_by f (map h xs) ≡ sum_by (λ x. f (h x)) xs
sum_by-map f h [] = refl
sum_by-map f h (x ∷ xs) = sum_by-cons f (h x) (map h xs) ∙ ap (λ n. f (h x) + n) (sum_by-map f h xs) ∙ sym (sum_by-cons (λ y. f (h y)) x xs)

filter-both : {X : Type 0} (p q : X → Bool) (xs : List X) → filter (λ x. p x && q x) xs ≡ filter q (filter p xs)
filter-both p q [] = refl
filter-both {X} p q (x ∷ xs) = go (p x) (filter-both p q xs)
  where
    go : (b : Bool) → filter (λ y. p y && q y) xs ≡ filter q (filter p xs)
        → cond (b && q x) (x ∷ filter (λ y. p y && q y) xs) (filter (λ y. p y && q y) xs) ≡ filter q (cond b (x ∷ filter p xs) (filter p xs))
    go true rest = ap (λ (ys : List X). cond (q x) (x ∷ ys) ys) rest
    go false rest = rest

-- ---- names that are found, or none

-- a line has its end
first_some : (front rest : List ℕ) → is_empty (line front ++ rest) ≡ false
first_some [] rest = cons_not_empty 10 rest
first_some (x ∷ front) rest = cons_not_empty x (line front ++ rest)

lines_some : (f : List ℕ → List ℕ) (names : List (List ℕ)) → is_empty (flat_map (λ name. line (f name)) names) ≡ is_empty names
lines_some f [] = refl
lines_some f (name ∷ names) = first_some (f name) (flat_map (λ name. line (f name)) names) ∙ sym (cons_not_empty name names)

pub shown_some : (c : model.Console) (f : List ℕ → List ℕ) (names : List (List ℕ)) (text : List ℕ) → text ≡ flat_map f names → is_empty names ≡ false
    → (model.some_of names >>= λ found. Ok (model.says c (flat_map f found))) ≡ Ok (model.says c text)
shown_some c f names text is some = rw some (ap (λ t. Ok (model.says c t)) (sym is))

pub shown_none : (c : model.Console) (f : List ℕ → List ℕ) (names : List (List ℕ)) → is_empty names ≡ true
    → (model.some_of names >>= λ found. Ok (model.says c (flat_map f found))) ≡ Err 57
shown_none c f names none = rw none refl

-- ---- names in a directory

pub listed : (m : Marking) (directory : List ℕ) (children : List Child) (text : List ℕ) → map seen_child children ≡ signed_children m directory
    → text ≡ flat_map (λ c. signed_line (seen_child c)) children → text ≡ flat_map (model.child_line (console_at directory m)) (model.children (paths_of m) directory)
listed m directory children text are is =
    is ∙ sym (flat_map-map signed_line seen_child children) ∙ ap (flat_map signed_line) are
    ∙ flat_map-map signed_line (λ name. (name, model.sign m.marked (directory ++ name))) (model.children (paths_of m) directory)

pub listed_matching : (m : Marking) (directory pattern : List ℕ) (children : List Child) (text : List ℕ) → map seen_child children ≡ signed_children m directory
    → text ≡ flat_map (λ c. signed_line (seen_child c)) (filter (λ c. model.matches pattern (model.bare c.name.now)) children)
    → text ≡ flat_map (model.child_line (console_at directory m)) (model.matching (paths_of m) directory pattern)
unfolding model.matching
listed_matching m directory pattern children text are is =
    let q : List ℕ × ℕ → Bool = λ p. model.matches pattern (model.bare p.0) in
    let beside : List ℕ → List ℕ × ℕ = λ name. (name, model.sign m.marked (directory ++ name)) in
    let names = model.children (paths_of m) directory in
    is ∙ sym (flat_map-map signed_line seen_child (filter (λ c. q (seen_child c)) children))
    ∙ ap (flat_map signed_line) (sym (filter-map q seen_child children) ∙ ap (filter q) are ∙ filter-map q beside names)
    ∙ flat_map-map signed_line beside (filter (λ name. q (beside name)) names)

pub names_empty : (c : model.Console) (names : List (List ℕ)) (text : List ℕ) (b : Bool) → text ≡ flat_map (model.child_line c) names → is_empty text ≡ b → is_empty names ≡ b
names_empty c names text b is e = sym (lines_some (λ name. model.sign c.marked (c.directory ++ name) ∷ escaped name) names) ∙ ap (λ (t : List ℕ). is_empty t) (sym is) ∙ e

-- ---- paths that are found

pub found_are : (m : Marking) (directory pattern : List ℕ) (found : List (Bor (List ℕ) × Bool)) (text : List ℕ) → map seen_path found ≡ found_paths m pattern
    → text ≡ flat_map (λ p. flagged_line (seen_path p)) found
    → text ≡ flat_map (model.found_line (console_at directory m)) (filter (λ path. model.matches pattern (model.last_component path)) (paths_of m))
found_are m directory pattern found text are is =
    is ∙ sym (flat_map-map flagged_line seen_path found) ∙ ap (flat_map flagged_line) are
    ∙ flat_map-map flagged_line (λ path. (path, is_among m.marked path)) (filter (λ path. model.matches pattern (model.last_component path)) (paths_of m))

pub found_empty : (m : Marking) (pattern : List ℕ) (found : List (Bor (List ℕ) × Bool)) (b : Bool) → map seen_path found ≡ found_paths m pattern → is_empty found ≡ b
    → is_empty (filter (λ path. model.matches pattern (model.last_component path)) (paths_of m)) ≡ b
found_empty m pattern found b are e =
    let paths = filter (λ path. model.matches pattern (model.last_component path)) (paths_of m) in
    ap (λ n. eqb n 0) (sym (length-map paths (λ path. (path, is_among m.marked path))) ∙ ap length (sym are) ∙ length-map found seen_path) ∙ e

-- ---- marked paths

-- a path with its entry
abbrev pub Pair : Type 0
Pair = Bor (List ℕ) × Entry

pub marked_below : (m : Marking) (directory : List ℕ) (entries : List Pair) (text : List ℕ) → map (λ (e : Pair). e.0.now) entries ≡ m.marked
    → text ≡ flat_map (λ (e : Pair). line (escaped e.0.now)) (filter (λ (e : Pair). model.begins_with e.0.now directory) entries)
    → text ≡ flat_map (λ path. line (escaped path)) (filter (λ path. model.begins_with path directory) m.marked)
marked_below m directory entries text are is =
    let shown : List ℕ → List ℕ = λ path. line (escaped path) in
    let below : List ℕ → Bool = λ path. model.begins_with path directory in
    let path_of : Pair → List ℕ = λ e. e.0.now in
    is ∙ sym (flat_map-map shown path_of (filter (λ e. below (path_of e)) entries))
    ∙ ap (flat_map shown) (sym (filter-map below path_of entries) ∙ ap (filter below) are)

pub marked_total : (m : Marking) (entries : List Pair) → map shown_pair entries ≡ marked_entries m
    → sum_by (λ (e : Pair). model.size_of e.1.size) (filter (λ (e : Pair). not (is_directory e.0.now)) entries) ≡ model.marked_bytes m.view m.marked
unfolding model.marked_bytes
marked_total m entries are =
    let size : view.Entry → ℕ = λ e. model.size_of e.size in
    let is_file : view.Entry → Bool = λ e. not (is_directory e.path) in
    sym (sum_by-map size shown_pair (filter (λ e. is_file (shown_pair e)) entries))
    ∙ ap (sum_by size) (sym (filter-map is_file shown_pair entries) ∙ ap (filter is_file) are ∙ sym (filter-both (λ (e : view.Entry). is_among m.marked e.path) is_file m.view))

-- the line of the estimate
pub estimate_line : (m : Marking) (n total : ℕ) → n ≡ length m.marked → total ≡ model.marked_bytes m.view m.marked
    → line (decimal n ++ codes " marked, " ++ decimal total ++ codes " bytes") ≡ line (decimal (length m.marked) ++ codes " marked, " ++ decimal (model.marked_bytes m.view m.marked) ++ codes " bytes")
estimate_line m n total is_n is_total =
    ap (λ k. line (decimal k ++ codes " marked, " ++ decimal total ++ codes " bytes")) is_n
    ∙ ap (λ t. line (decimal (length m.marked) ++ codes " marked, " ++ decimal t ++ codes " bytes")) is_total
