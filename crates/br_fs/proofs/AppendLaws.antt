-- What appending makes of the files that are looked up.
use Rattle.std.proofs.Common.{◌≡◌, ℕ, Bool, true, false, cond, Option, Some, None, Result, Ok, Err, OnErr, option_map, List, [], ◌∷◌, ◌++◌, refl, ap, sym, ◌∙◌, inl, inr, append_assoc, ◌+◌, ◌≤◌, ◌<◌, ◌⊎◌, arith, length, take, drop}
use Rattle.std.proofs.Math.Seq.{take-add}
use Rattle.std.proofs.lemmas.List.{take-append-drop, take_all}
use Rattle.std.specs.Prelude.{bytes_eq, find, unwrap_or}
use Rattle.std.proofs.lemmas.Slice.Eq.{bytes_eq-Decides}
use Rattle.std.proofs.lemmas.Bool.Decides.{same_from_decides}
use Rattle.br_model.specs.Volume.{Volume, volume_bytes}
use Rattle.br_model.specs.SessionHolds.{bytes_of_volume}
use Rattle.br_fs.specs.Tree.{Tree, AreLonger}
use Rattle.br_fs.specs.Calls.{Appends}
use Rattle.br_fs.specs.Append.{AppendsInPart}
use Rattle.br_fs.specs.Memory.{longer, with_appended}

pub turned : (xs ys : List ℕ) → bytes_eq xs ys ≡ bytes_eq ys xs
turned xs ys =
    let e = bytes_eq-Decides ys xs in
    same_from_decides (bytes_eq xs ys) (bytes_eq ys xs) (bytes_eq-Decides xs ys) ((λ h. sym (e.0 h)), (λ h. e.1 (sym h)))

-- two that equal a third
same_third : (x y z : List ℕ) → bytes_eq x y ≡ true → bytes_eq z y ≡ bytes_eq x z
same_third x y z h = ap (λ (w : List ℕ). bytes_eq z w) (sym ((bytes_eq-Decides x y).0 h)) ∙ turned z x

-- a name that equals one is apart from what that one is apart from
apart_too : (x y z : List ℕ) → bytes_eq x y ≡ false → bytes_eq x z ≡ true → bytes_eq z y ≡ false
apart_too x y z h e = ap (λ (w : List ℕ). bytes_eq w y) (sym ((bytes_eq-Decides x z).0 e)) ∙ h

-- what a look-up finds at the front, and after it
abbrev pub shown_at : Bool → List ℕ → Option (List ℕ) → Option (List ℕ)
shown_at b bytes found = cond b (Some bytes) found

pub shown_cons : (v : Volume) (vs : List Volume) (name : List ℕ)
    → volume_bytes (v ∷ vs) name ≡ shown_at (bytes_eq v.name name) v.bytes (volume_bytes vs name)
unfolding volume_bytes
shown_cons v vs name =
    elim (bytes_eq v.name name) as (λ b. option_map (λ (w : Volume). w.bytes) (cond b (Some v) (find (λ w. bytes_eq w.name name) vs))
    ≡ shown_at b v.bytes (option_map (λ (w : Volume). w.bytes) (find (λ w. bytes_eq w.name name) vs)))
    [ true ↦ refl | false ↦ refl ]

pub shown_nil : (name : List ℕ) → volume_bytes [] name ≡ None
unfolding volume_bytes
shown_nil name = refl

-- at a file of the name, with a as the test that it is of the name appended to, b that it is of
-- the name looked up, and c that these two are the same
step : (a b c : Bool) (own bytes : List ℕ) (new old : Option (List ℕ)) (old_bytes : List ℕ)
    → (a ≡ true → c ≡ b) → (a ≡ false → b ≡ true → c ≡ false)
    → new ≡ cond c (Some (old_bytes ++ bytes)) old
    → cond a (shown_at b (own ++ bytes) old) (shown_at b own new)
    ≡ cond c (Some (cond a own old_bytes ++ bytes)) (shown_at b own old)
step true true c own bytes new old old_bytes same apart is = rw (same refl) refl
step true false c own bytes new old old_bytes same apart is = rw (same refl) refl
step false true c own bytes new old old_bytes same apart is = rw (apart refl refl) refl
step false false c own bytes new old old_bytes same apart is = is

if_cons : (a : Bool) (v : Volume) (vs : List Volume) (bytes : List ℕ) (others : List Volume) (name : List ℕ)
    → volume_bytes (cond a (longer bytes v ∷ vs) (v ∷ others)) name
    ≡ cond a (shown_at (bytes_eq v.name name) (v.bytes ++ bytes) (volume_bytes vs name)) (shown_at (bytes_eq v.name name) v.bytes (volume_bytes others name))
if_cons true v vs bytes others name = shown_cons (longer bytes v) vs name
if_cons false v vs bytes others name = shown_cons v others name

or_none : (a : Bool) (own : List ℕ) (old : Option (List ℕ)) → unwrap_or (shown_at a own old) [] ≡ cond a own (unwrap_or old [])
or_none true own old = refl
or_none false own old = refl

-- the files with bytes appended show just that
pub appended_shows : (path bytes : List ℕ) (vs : List Volume) → AreLonger path bytes vs (with_appended path bytes vs)
appended_shows path bytes [] name =
    shown_cons (record { name = path; bytes = bytes }) [] name
    ∙ rw (shown_nil name, shown_nil path, turned path name) refl
appended_shows path bytes (v ∷ vs) name =
    if_cons (bytes_eq v.name path) v vs bytes (with_appended path bytes vs) name
    ∙ step (bytes_eq v.name path) (bytes_eq v.name name) (bytes_eq name path) v.bytes bytes
    (volume_bytes (with_appended path bytes vs) name) (volume_bytes vs name) (bytes_of_volume vs path)
    (same_third v.name path name) (apart_too v.name path name) (appended_shows path bytes vs name)
    ∙ rw (shown_cons v vs path, shown_cons v vs name, or_none (bytes_eq v.name path) v.bytes (volume_bytes vs path)) refl

pub appended_is : (path bytes : List ℕ) (earlier later : List Volume) → later ≡ with_appended path bytes earlier → AreLonger path bytes earlier later
appended_is path bytes earlier later e name = ap (λ (vs : List Volume). volume_bytes vs name) e ∙ appended_shows path bytes earlier name

-- bytes after bytes
are_longer_both : (path one two : List ℕ) (first second third : List Volume) → AreLonger path one first second → AreLonger path two second third
    → AreLonger path (one ++ two) first third
are_longer_both path one two first second third a b other =
    let own : bytes_of_volume second path ≡ bytes_of_volume first path ++ one =
    ap (λ (o : Option (List ℕ)). unwrap_or o []) (a path ∙ ap (λ (t : Bool). cond t (Some (bytes_of_volume first path ++ one)) (volume_bytes first path)) ((bytes_eq-Decides path path).1 refl)) in
    b other
    ∙ elim (bytes_eq other path) as (λ t. volume_bytes second other ≡ cond t (Some (bytes_of_volume first path ++ one)) (volume_bytes first other)
    → cond t (Some (bytes_of_volume second path ++ two)) (volume_bytes second other)
    ≡ cond t (Some (bytes_of_volume first path ++ (one ++ two))) (volume_bytes first other)) [
      | true ↦ λ e. ap (λ (bs : List ℕ). Some (bs ++ two)) own ∙ ap (λ (bs : List ℕ). Some bs) (append_assoc (bytes_of_volume first path) one two)
      | false ↦ λ e. e
    ] (a other)

pub appends_both : (path one two : List ℕ) (first second third : Option Tree) → Appends path one first second → Appends path two second third
    → Appends path (one ++ two) first third
appends_both path one two None None None a b = tt
appends_both path one two None None (Some w) a b = absurd b
appends_both path one two None (Some v) third a b = absurd a
appends_both path one two (Some u) None third a b = absurd a
appends_both path one two (Some u) (Some v) None a b = absurd b
appends_both path one two (Some u) (Some v) (Some w) a b = record {
  files = are_longer_both path one two u.files v.files w.files a.files b.files;
  others = b.others ∙ a.others;
}

-- nothing is written yet, or the first `done` bytes are
abbrev pub HasWritten : Option Tree → Option Tree → List ℕ → List ℕ → ℕ → Type 0
HasWritten first second path bytes done = ((done ≡ 0) × (second ≡ first)) ⊎ Appends path (take done bytes) first second

none_done : (bytes : List ℕ) (done : ℕ) → done ≡ 0 → take done bytes ≡ []
none_done bytes done none = rw none refl

-- after the first bytes, the next ones
pub written_more : (first second third : Option Tree) (path own bytes rest : List ℕ) (done n : ℕ) → own ≡ path → rest ≡ take n (drop done bytes)
    → HasWritten first second path bytes done → Appends own rest second third → HasWritten first third path bytes (done + n)
written_more first second third path own bytes rest done n is next (inl none) b =
    let e : rest ≡ take (done + n) bytes =
    next ∙ ap (λ (l : List ℕ). l ++ take n (drop done bytes)) (sym (none_done bytes done none.0)) ∙ sym (take-add done n bytes) in
    inr (rw (is, e, none.1) at b)
written_more first second third path own bytes rest done n is next (inr a) b =
    inr (rw (take-add done n bytes) (appends_both path (take done bytes) (take n (drop done bytes)) first second third a (rw (is, next) at b)))

-- the first bytes are a part
pub part_of : (path bytes : List ℕ) (first second third : Option Tree) (done : ℕ) → third ≡ second → HasWritten first second path bytes done
    → AppendsInPart path bytes first third
part_of path bytes first second third done same (inl none) = inl (same ∙ none.1)
part_of path bytes first second third done same (inr a) =
    inr (take done bytes, drop done bytes, take-append-drop done bytes, rw same a)

pub all_of : (path bytes : List ℕ) (first second : Option Tree) (done : ℕ) → 0 < length bytes → length bytes ≤ done
    → HasWritten first second path bytes done → Appends path bytes first second
all_of path bytes first second done some all (inl none) = let e = none.0 in absurd (omega arith)
all_of path bytes first second done some all (inr a) = rw (take_all done bytes all) at a

-- what a call with no bytes wrote
pub none_of : (path bytes : List ℕ) (first second : Option Tree) (n : ℕ) → length bytes ≡ 0 → Appends path (take n bytes) first second
    → Appends path bytes first second
none_of path bytes first second n none a = rw (take_all n bytes (omega arith)) at a

-- what holds of a refusal if it holds anyway
pub on_err : {A E P : Type 0} (answer : Result A E) → P → OnErr answer P
on_err (Ok x) p = tt
on_err (Err e) p = p
