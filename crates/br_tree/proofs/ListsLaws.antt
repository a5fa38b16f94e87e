-- Lists of pairs and flags, step by step.
use Rattle.std.proofs.Common.{zero, suc, ◌<◌, get_or, ◌≡◌, ℕ, ◌+◌, Bool, true, false, not, ◌||◌, cond, List, [], ◌∷◌, ◌++◌, length, map, filter, take, drop, reverse, Some, None, Result, Ok, Err, refl, sym, ap, subst, ◌≤◌, ◌∙◌, append_assoc, arith}
use Rattle.std.proofs.lemmas.List.{reverse-append, reverse-reverse, length-map}
use Rattle.std.proofs.lemmas.List.Quantifiers.{position-Some}
use Rattle.std.proofs.lemmas.Bool.{ltb-false}
use Rattle.br_model.proofs.ListLaws.{holds_of_none, all_append}
use Rattle.std.specs.Prelude.{position, nat_lt, IfOk}
use Rattle.std.specs.List.{AllByRecursion, list_any, prefix_len}
use Rattle.br_model.specs.Order.{is_among}
use Rattle.br_model.specs.Name.{is_slash}
use Rattle.br_model.specs.View.{Entry, view_paths, IsView}
use Rattle.br_model.specs.Console.{matches, last_component}
use Rattle.br_view.specs.Shown.{shown_pair}
use Rattle.br_tree.specs.Seen.{flagged}
use Rattle.br_tree.specs.Walk.{Pair, seen_paths, IsRising}
use Rattle.br_tree.specs.Lists.{kept, found_in, last_part}
use Rattle.br_tree.proofs.FlagLaws.{view_rises}
use Rattle.br_tree.proofs.SetLaws.{Agrees, flags_agree}
use Rattle.br_tree.proofs.RunLaws.{to_pairs}

pub kept_more : (items new : List Pair) (rest : List Pair) (left : List Bool) (pair : Pair) (more : List Pair) (flag : Bool) (others : List Bool) (total : List Pair)
    → items ++ kept rest left ≡ total → rest ≡ pair ∷ more → left ≡ flag ∷ others → new ≡ items ++ cond flag (pair ∷ []) [] → new ++ kept more others ≡ total
kept_more items new rest left pair more flag others total h is_rest is_left is_new =
    ap (λ is. is ++ kept more others) is_new ∙ append_assoc items (cond flag (pair ∷ []) []) (kept more others)
    ∙ ap (λ r. items ++ kept r (flag ∷ others)) (sym is_rest) ∙ ap (λ fs. items ++ kept rest fs) (sym is_left) ∙ h

pub found_more : (pattern : List ℕ) (items new : List (List ℕ × Bool)) (rest : List Pair) (left : List Bool) (pair : Pair) (more : List Pair) (flag : Bool) (others : List Bool) (total : List (List ℕ × Bool))
    → items ++ found_in pattern rest left ≡ total → rest ≡ pair ∷ more → left ≡ flag ∷ others → new ≡ items ++ cond (matches pattern (last_component pair.0.now)) ((pair.0.now, flag) ∷ []) []
    → new ++ found_in pattern more others ≡ total
found_more pattern items new rest left pair more flag others total h is_rest is_left is_new =
    ap (λ is. is ++ found_in pattern more others) is_new ∙ append_assoc items (cond (matches pattern (last_component pair.0.now)) ((pair.0.now, flag) ∷ []) []) (found_in pattern more others)
    ∙ ap (λ r. items ++ found_in pattern r (flag ∷ others)) (sym is_rest) ∙ ap (λ fs. items ++ found_in pattern rest fs) (sym is_left) ∙ h

-- ---- what they are

-- the paths of the pairs that are kept
pub kept_paths : (xs : List Pair) (fs : List Bool) → map (λ (p : Pair). p.0.now) (kept xs fs) ≡ flagged (seen_paths xs) fs
kept_paths [] fs = refl
kept_paths (x ∷ xs) [] = refl
kept_paths (x ∷ xs) (true ∷ fs) = ap (λ ps. x.0.now ∷ ps) (kept_paths xs fs)
kept_paths (x ∷ xs) (false ∷ fs) = kept_paths xs fs

-- the entries of those whose flags a test agrees with
pub kept_entries : (q : List ℕ → Bool) (xs : List Pair) (fs : List Bool) → length fs ≡ length xs → Agrees q (seen_paths xs) fs → map shown_pair (kept xs fs) ≡ filter (λ (e : Entry). q e.path) (map shown_pair xs)
kept_entries q [] fs long h = refl
kept_entries q (x ∷ xs) [] long h = absurd (omega (arith, long))
kept_entries q (x ∷ xs) (f ∷ fs) long h = go f h.0 (kept_entries q xs fs (omega (arith, long)) h.1)
  where
    go : (f : Bool) → q x.0.now ≡ f → map shown_pair (kept xs fs) ≡ filter (λ (e : Entry). q e.path) (map shown_pair xs)
        → map shown_pair (cond f (x ∷ []) [] ++ kept xs fs) ≡ cond (q x.0.now) (shown_pair x ∷ filter (λ (e : Entry). q e.path) (map shown_pair xs)) (filter (λ (e : Entry). q e.path) (map shown_pair xs))
    go true is rest = ap (λ es. shown_pair x ∷ es) rest ∙ sym (ap (λ b. cond b (shown_pair x ∷ filter (λ (e : Entry). q e.path) (map shown_pair xs)) (filter (λ (e : Entry). q e.path) (map shown_pair xs))) is)
    go false is rest = rest ∙ sym (ap (λ b. cond b (shown_pair x ∷ filter (λ (e : Entry). q e.path) (map shown_pair xs)) (filter (λ (e : Entry). q e.path) (map shown_pair xs))) is)

-- what is found, with what a test says that agrees with the flags
pub found_are : (pattern : List ℕ) (q : List ℕ → Bool) (xs : List Pair) (fs : List Bool) → length fs ≡ length xs → Agrees q (seen_paths xs) fs
    → found_in pattern xs fs ≡ map (λ path. (path, q path)) (filter (λ path. matches pattern (last_component path)) (seen_paths xs))
found_are pattern q [] fs long h = refl
found_are pattern q (x ∷ xs) [] long h = absurd (omega (arith, long))
found_are pattern q (x ∷ xs) (f ∷ fs) long h = go (matches pattern (last_component x.0.now)) (found_are pattern q xs fs (omega (arith, long)) h.1)
  where
    rest : List (List ℕ)
    rest = filter (λ path. matches pattern (last_component path)) (seen_paths xs)

    go : (b : Bool) → found_in pattern xs fs ≡ map (λ path. (path, q path)) (filter (λ path. matches pattern (last_component path)) (seen_paths xs))
        → cond b ((x.0.now, f) ∷ []) [] ++ found_in pattern xs fs ≡ map (λ path. (path, q path)) (cond b (x.0.now ∷ filter (λ path. matches pattern (last_component path)) (seen_paths xs)) (filter (λ path. matches pattern (last_component path)) (seen_paths xs)))
    go true e = ap (λ zs. (x.0.now, f) ∷ zs) e ∙ ap (λ b. (x.0.now, b) ∷ map (λ path. (path, q path)) (filter (λ path. matches pattern (last_component path)) (seen_paths xs))) (sym h.0)
    go false e = e

-- ---- after the last slash

-- a text up to its first slash, without it
abbrev pub plain : List ℕ → List ℕ
plain [] = []
plain (c ∷ cs) = cond (is_slash c) [] (c ∷ plain cs)

plain_is : (text : List ℕ) → take (prefix_len (λ c. not (is_slash c)) text) text ≡ plain text
plain_is [] = refl
plain_is (c ∷ cs) = go (is_slash c) (plain_is cs)
  where
    go : (b : Bool) → take (prefix_len (λ d. not (is_slash d)) cs) cs ≡ plain cs → take (cond (not b) (1 + prefix_len (λ d. not (is_slash d)) cs) 0) (c ∷ cs) ≡ cond b [] (c ∷ plain cs)
    go true e = refl
    go false e = (let one : 1 + prefix_len (λ d. not (is_slash d)) cs ≡ suc (prefix_len (λ d. not (is_slash d)) cs) = omega arith in ap (λ n. take n (c ∷ cs)) one) ∙ ap (λ ds. c ∷ ds) e

plain_stops : (xs ys : List ℕ) (c : ℕ) → is_slash c ≡ true → plain (xs ++ c ∷ ys) ≡ plain xs
plain_stops [] ys c is = ap (λ b. cond b [] (c ∷ plain ys)) is
plain_stops (x ∷ xs) ys c is = ap (λ zs. cond (is_slash x) [] (x ∷ zs)) (plain_stops xs ys c is)

plain_whole : (xs : List ℕ) → list_any is_slash xs ≡ false → plain xs ≡ xs
plain_whole [] e = refl
plain_whole (x ∷ xs) e = go (is_slash x) e (λ h. plain_whole xs h)
  where
    go : (b : Bool) → (b || list_any is_slash xs) ≡ false → (list_any is_slash xs ≡ false → plain xs ≡ xs) → cond b [] (x ∷ plain xs) ≡ x ∷ xs
    go true h rest = absurd cc
    go false h rest = ap (λ zs. x ∷ zs) (rest h)

-- the text around its first slash
record Cut (text : List ℕ) (n : ℕ) : Type 0 where
  slash : ℕ
  is_one : is_slash slash ≡ true
  around : text ≡ take n text ++ slash ∷ drop (n + 1) text

cut_at : (text : List ℕ) (n : ℕ) → position is_slash text ≡ Some n → Cut text n
cut_at text n e = from text n (position-Some is_slash text n 0 e).0 (position-Some is_slash text n 0 e).1
  where
    from : (xs : List ℕ) (m : ℕ) → m < length xs → is_slash (get_or xs m 0) ≡ true → Cut xs m
    from [] m lt is = absurd (omega (arith, lt))
    from (x ∷ xs) zero lt is = record { slash = x; is_one = is; around = refl }
    from (x ∷ xs) (suc m) lt is =
        let rest = from xs m (omega (arith, lt)) is in
        record { slash = rest.slash; is_one = rest.is_one; around = ap (λ zs. x ∷ zs) rest.around ∙ (let e : suc m + 1 ≡ suc (m + 1) = omega arith in ap (λ k. x ∷ (take m xs ++ rest.slash ∷ drop k (x ∷ xs))) (sym e)) }

last_is : (text : List ℕ) → last_part text ≡ reverse (plain (reverse text))
last_is text = ap reverse (plain_is (reverse text))

-- after a slash it is the same
pub last_more : (text : List ℕ) (n : ℕ) → position is_slash text ≡ Some n → last_part (drop (n + 1) text) ≡ last_part text
last_more text n e =
    let cut = cut_at text n e in
    let b = drop (n + 1) text in
    let turned : reverse text ≡ reverse b ++ cut.slash ∷ reverse (take n text) =
    ap reverse cut.around ∙ reverse-append (take n text) (cut.slash ∷ b) ∙ ap (λ zs. zs ++ reverse (take n text)) (reverse-append (cut.slash ∷ []) b) ∙ append_assoc (reverse b) (cut.slash ∷ []) (reverse (take n text)) in
    last_is b ∙ ap reverse (sym (plain_stops (reverse b) (reverse (take n text)) cut.slash cut.is_one)) ∙ ap (λ zs. reverse (plain zs)) (sym turned) ∙ sym (last_is text)

-- without a slash the text is its last part
pub last_whole : (text : List ℕ) → position is_slash text ≡ None → text ≡ last_part text
last_whole text e =
    let long : length text ≤ prefix_len (λ c. not (is_slash c)) text = go (nat_lt (prefix_len (λ c. not (is_slash c)) text) (length text)) refl e in
    sym (reverse-reverse text) ∙ ap reverse (sym (plain_whole (reverse text) (holds_of_none is_slash (reverse text) (each_turned text (none_in_front text long))))) ∙ sym (last_is text)
  where
    go : (b : Bool) → nat_lt (prefix_len (λ c. not (is_slash c)) text) (length text) ≡ b → cond b (Some (prefix_len (λ c. not (is_slash c)) text)) None ≡ None → length text ≤ prefix_len (λ c. not (is_slash c)) text
    go true is h = absurd cc
    go false is h = ltb-false (prefix_len (λ c. not (is_slash c)) text) (length text) is

    none_in_front : (xs : List ℕ) → length xs ≤ prefix_len (λ c. not (is_slash c)) xs → AllByRecursion (λ c. is_slash c ≡ false) xs
    none_in_front [] h = tt
    none_in_front (x ∷ xs) h = at (is_slash x) refl h (λ k. none_in_front xs k)
      where
        at : (b : Bool) → is_slash x ≡ b → length (x ∷ xs) ≤ cond (not b) (1 + prefix_len (λ c. not (is_slash c)) xs) 0 → (length xs ≤ prefix_len (λ c. not (is_slash c)) xs → AllByRecursion (λ c. is_slash c ≡ false) xs)
            → (is_slash x ≡ false) × AllByRecursion (λ c. is_slash c ≡ false) xs
        at true is k rest = absurd (omega (arith, k))
        at false is k rest = (is, rest (omega (arith, k)))

    each_turned : (xs : List ℕ) → AllByRecursion (λ c. is_slash c ≡ false) xs → AllByRecursion (λ c. is_slash c ≡ false) (reverse xs)
    each_turned [] h = tt
    each_turned (x ∷ xs) h = subst (AllByRecursion (λ c. is_slash c ≡ false)) (sym (reverse-append (x ∷ []) xs)) (all_append (λ c. is_slash c ≡ false) (reverse xs) (x ∷ []) (each_turned xs h.1) (h.0, tt))

-- what a value meets, if there is one
pub ok_to : {X E : Type 0} (P Q : X → Type 0) (r : Result X E) → ((x : X) → P x → Q x) → IfOk r P → IfOk r Q
ok_to P Q (Ok x) f h = f x h
ok_to P Q (Err e) f h = h

-- ---- of a view and flags

module _ (view : List Entry) (xs : List Pair) (fs : List Bool) (same : map shown_pair xs ≡ view) (paths : seen_paths xs ≡ view_paths view) (rises : IsRising (seen_paths xs)) (long : length fs ≡ length view) where
  pub pairs_are_paths : map (λ (p : Pair). p.0.now) (kept xs fs) ≡ flagged (view_paths view) fs
  pairs_are_paths = kept_paths xs fs ∙ ap (λ ps. flagged ps fs) paths

  as_long : length fs ≡ length xs
  as_long = long ∙ ap length (sym same) ∙ length-map xs shown_pair

  agrees : Agrees (is_among (flagged (view_paths view) fs)) (seen_paths xs) fs
  agrees = subst (λ ps. Agrees (is_among (flagged ps fs)) (seen_paths xs) fs) paths (flags_agree (seen_paths xs) fs (to_pairs (seen_paths xs) rises))

  pub pairs_are_entries : map shown_pair (kept xs fs) ≡ filter (λ (e : Entry). is_among (flagged (view_paths view) fs) e.path) view
  pairs_are_entries = kept_entries (is_among (flagged (view_paths view) fs)) xs fs as_long agrees ∙ ap (filter (λ (e : Entry). is_among (flagged (view_paths view) fs) e.path)) same

  pub found_are_paths : (pattern : List ℕ) → found_in pattern xs fs ≡ map (λ path. (path, is_among (flagged (view_paths view) fs) path)) (filter (λ path. matches pattern (last_component path)) (view_paths view))
  found_are_paths pattern =
      found_are pattern (is_among (flagged (view_paths view) fs)) xs fs as_long agrees
      ∙ ap (λ ps. map (λ path. (path, is_among (flagged (view_paths view) fs) path)) (filter (λ path. matches pattern (last_component path)) ps)) paths

-- flags are what a test says that agrees with them
agreed : (q : List ℕ → Bool) (view : List Entry) (fs : List Bool) → length fs ≡ length view → Agrees q (view_paths view) fs → fs ≡ map (λ (e : Entry). q e.path) view
agreed q [] [] long h = refl
agreed q [] (f ∷ fs) long h = absurd (omega (arith, long))
agreed q (e ∷ es) [] long h = absurd (omega (arith, long))
agreed q (e ∷ es) (f ∷ fs) long h = ap (λ b. b ∷ fs) (sym h.0) ∙ ap (λ bs. q e.path ∷ bs) (agreed q es fs (omega (arith, long)) h.1)

-- the flags of a view say which of its paths are flagged
pub flags_are : (view : List Entry) (fs : List Bool) → IsView view → length fs ≡ length view → fs ≡ map (λ (e : Entry). is_among (flagged (view_paths view) fs) e.path) view
flags_are view fs is long = agreed (is_among (flagged (view_paths view) fs)) view fs long (flags_agree (view_paths view) fs (view_rises view is))
