-- Keys are in one order, and a map's entries by key are a finite map.
use Rattle.std.proofs.Common.{◌≡◌, ℕ, cond, Option, Some, List, [], ◌∷◌, ◌++◌, refl, ap, sym, subst, ◌∙◌, append_assoc}
use Rattle.std.specs.Ordering.{nat_cmp, eq_by_cmp, ordering_reverse, match_ordering}
use Rattle.std.specs.declared.cmp.Ordering.TheVariants.{Less, Greater}
use Rattle.std.specs.Cmp.{IsTotalOrder, eq_by_cmp_equiv}
use Rattle.std.specs.Map.{lookup, keys_of}
use Rattle.std.specs.BTreeMap.{is_at, insert_entry}
use Rattle.std.specs.List.{AllByRecursion}
use Rattle.std.specs.List.Sorted.{IsStrictlySortedBy}
use Rattle.std.specs.FinMap.{find, get, insert, put, entries, from_entries, get-from_entries, get-insert, entries-insert, len-entries, len-empty, same_map}
use Rattle.std.specs.declared.cmp.Ordering.{Ordering}
use Rattle.std.proofs.lemmas.List.{nil_from_length}
use Rattle.std.proofs.lemmas.Cmp.{on_total, then_total}
use Rattle.std.specs.Cmp.{nat_cmp_total}
use Rattle.std.proofs.lemmas.Map.Lookups.{CmpEqualImpliesEq, exact_pairs, exact_unsigned}
use Rattle.br_model.specs.Name.{SessionKey, FileKey, session_cmp, key_cmp}

-- ---- the order

session_exact : CmpEqualImpliesEq session_cmp
session_exact a b h =
    ap (λ (p : ℕ × ℕ). record { id = p.0; time = p.1 }) (exact_pairs nat_cmp nat_cmp exact_unsigned exact_unsigned (a.id, a.time) (b.id, b.time) h)

-- keys that compare alike are one
pub key_exact : CmpEqualImpliesEq key_cmp
key_exact a b h =
    ap (λ (p : SessionKey × ℕ). record { session = p.0; index = p.1 })
    (exact_pairs session_cmp nat_cmp session_exact exact_unsigned (a.session, a.index) (b.session, b.index) h)

session_total : IsTotalOrder session_cmp
session_total = then_total (on_total (λ (s : SessionKey). s.id) nat_cmp_total) (on_total (λ (s : SessionKey). s.time) nat_cmp_total)

pub key_total : IsTotalOrder key_cmp
key_total = then_total (on_total (λ (k : FileKey). k.session) session_total) (on_total (λ (k : FileKey). k.index) nat_cmp_total)

-- ---- look-ups

-- what a map's entries have at a key
abbrev pub at_key : {X : Type 0} → List (FileKey × X) → FileKey → Option X
at_key es q = lookup (is_at (key_cmp q)) es

find_key : {X : Type 0} (es : List (FileKey × X)) (q : FileKey) → find key_cmp q es ≡ at_key es q
find_key [] q = refl
find_key (e ∷ es) q = ap (cond (is_at (key_cmp q) e.0) (Some e.1)) (find_key es q)

pub get_key : {X : Type 0} (es : List (FileKey × X)) (q : FileKey) → get (from_entries {R = key_cmp} es) q ≡ at_key es q
get_key es q = get-from_entries key_total es q ∙ find_key es q

-- entries that differ at one key make maps that differ there
pub one_put : {X : Type 0} (es fs : List (FileKey × X)) (k : FileKey) (v : X)
    → ((q : FileKey) → at_key fs q ≡ cond (is_at (key_cmp k) q) (Some v) (at_key es q)) → from_entries {R = key_cmp} fs ≡ insert (from_entries es) k v
one_put {X} es fs k v h = same_map key_total key_exact (from_entries {R = key_cmp} fs) (insert (from_entries es) k v) (λ q.
    get_key fs q ∙ h q ∙ ap (λ b. cond b (Some v) (at_key es q)) ((eq_by_cmp_equiv key_total).symm k q)
    ∙ sym (get-insert key_total (from_entries es) k v q ∙ ap (cond (eq_by_cmp key_cmp q k) (Some v)) (get_key es q)))

-- ---- entries in order

all_last : {X : Type 0} (P : FileKey → Type 0) (es rest : List (FileKey × X)) (e : FileKey × X) → AllByRecursion P (keys_of (es ++ e ∷ rest)) → P e.0
all_last P [] rest e h = h.0
all_last P (d ∷ es) rest e h = all_last P es rest e h.1

-- an entry whose key is above those of the others goes to the end
pub insert_last : {X : Type 0} (es rest : List (FileKey × X)) (e : FileKey × X) → IsStrictlySortedBy key_cmp (keys_of (es ++ e ∷ rest))
    → insert_entry key_cmp es e.0 e.1 ≡ es ++ e ∷ []
unfolding IsStrictlySortedBy
insert_last [] rest e h = refl
insert_last {X} (d ∷ es) rest e h =
    let above : key_cmp e.0 d.0 ≡ Greater = key_total.antisymm e.0 d.0 ∙ ap ordering_reverse (all_last (λ k. key_cmp d.0 k ≡ Less) es rest e h.0) in
    ap (λ o. match_ordering o (e ∷ d ∷ es) ((d.0, e.1) ∷ es) (d ∷ insert_entry key_cmp es e.0 e.1)) above
    ∙ ap (λ (fs : List (FileKey × X)). d ∷ fs) (insert_last es rest e h.1)

-- the next entry of a map, inserted into the copy of those before it
pub copied_more : {X : Type 0} (es left rest all new : List (FileKey × X)) (k : FileKey) (v w : X) → es ++ left ≡ all → left ≡ (k, v) ∷ rest
    → IsStrictlySortedBy key_cmp (keys_of all) → w ≡ v → new ≡ insert_entry key_cmp es k w → new ++ rest ≡ all
copied_more {X} es left rest all new k v w joined next sorted same put =
    let whole : es ++ (k, v) ∷ rest ≡ all = ap (λ (fs : List (FileKey × X)). es ++ fs) (sym next) ∙ joined in
    let at_end : new ≡ es ++ (k, v) ∷ [] =
    put ∙ ap (λ x. insert_entry key_cmp es k x) same
    ∙ insert_last es rest (k, v) (subst (λ (fs : List (FileKey × X)). IsStrictlySortedBy key_cmp (keys_of fs)) (sym whole) sorted) in
    ap (λ (fs : List (FileKey × X)). fs ++ rest) at_end ∙ append_assoc es ((k, v) ∷ []) rest ∙ whole

-- ---- sorted entries

-- entries in order of key are those of the map that is made of them
pub entries_of_sorted : {K X : Type 0} {R : K → K → Ordering} → IsTotalOrder R → (es : List (K × X)) → IsStrictlySortedBy R (keys_of es) → entries (from_entries {R = R} es) ≡ es
unfolding IsStrictlySortedBy
entries_of_sorted {K} {X} {R} total [] h = nil_from_length (entries (from_entries {X = X} {R = R} [])) (sym (len-entries (from_entries {X = X} {R = R} [])) ∙ len-empty R X)
entries_of_sorted {K} {X} {R} total (e ∷ es) h =
    entries-insert total (from_entries {R = R} es) e.0 e.1 ∙ ap (put R e.0 e.1) (entries_of_sorted total es h.1) ∙ front es h.0
  where
    front : (fs : List (K × X)) → AllByRecursion (λ k. R e.0 k ≡ Less) (keys_of fs) → put R e.0 e.1 fs ≡ e ∷ fs
    front [] all = refl
    front (f ∷ fs) all = rw all.0
