-- What is outdated, what is kept of each path, and that the newest files have each path once.
use Rattle.std.proofs.Common.{◌≡◌, ℕ, Bool, true, false, not, ◌&&◌, ◌||◌, cond, List, [], ◌∷◌, Option, Some, None, refl, sym, ap, subst, ◌∙◌}
use Rattle.std.proofs.lemmas.Bool.{and_parts, false_from_ne_true}
use Rattle.std.proofs.lemmas.Slice.Eq.{bytes_eq-Decides}
use Rattle.std.proofs.lemmas.Map.Text.{btree_map_updates_str}
use Rattle.std.specs.Prelude.{Contains, bytes_eq, IfSome}
use Rattle.std.specs.Borrow.{Bor}
use Rattle.std.specs.List.{list_any}
use Rattle.std.specs.Ordering.{nat_cmp, is_lt, ordering_reverse}
use Rattle.std.specs.Cmp.Lexicographic.{slice_cmp, nat_list_cmp_total}
use Rattle.std.specs.BTreeMap.{UpdatesBy}
use Rattle.std.specs.declared.cmp.Ordering.{Ordering}
use Rattle.std.specs.declared.cmp.Ordering.TheVariants.{Less, Equal, Greater}
use Rattle.br_model.specs.Name.{FileKey}
use Rattle.br_model.specs.Restored.{Restored}
use Rattle.br_model.proofs.ListLaws.{first_in, later_in, from_some, some_passes, from_given, given_in, contains_filter, kept_passes}
use Rattle.br_model.proofs.OrderLaws.{same_rank, not_below_itself, rank_cmp}
use Rattle.br_types.specs.Newest.{Copy, Kept, age_rank, is_older, is_of, is_outdated, is_beaten, is_news, IsNewestAt, kept_at, with_copy, Keeps, copy_of, copies_of, is_current, is_newest, newest, NewestHasEachPath, NewestHasEachPathOnce}

-- ---- the order of copies

less_is : (o : Ordering) → is_lt o ≡ true → o ≡ Less
less_is Less e = refl
less_is Equal e = absurd cc
less_is Greater e = absurd cc

-- a copy that is older than an older one is older
pub older_than_older : (a b c : FileKey) → is_older a b ≡ true → is_older b c ≡ true → is_older a c ≡ true
older_than_older a b c ab bc =
    ap is_lt (nat_list_cmp_total.trans (age_rank a) (age_rank b) (age_rank c) (less_is (rank_cmp (age_rank a) (age_rank b)) ab) (less_is (rank_cmp (age_rank b) (age_rank c)) bc))

-- a copy is not older than itself
pub not_older_itself : (a : FileKey) → is_older a a ≡ true → ⊥
not_older_itself a e = not_below_itself (age_rank a) (less_is (rank_cmp (age_rank a) (age_rank a)) e)

-- what is older than a copy is older than one that the copy is not newer than
pub older_than_later : (a b c : FileKey) → is_older a b ≡ true → is_older c b ≡ false → is_older a c ≡ true
older_than_later a b c ab cb = go (rank_cmp (age_rank b) (age_rank c)) refl
  where
    go : (o : Ordering) → rank_cmp (age_rank b) (age_rank c) ≡ o → is_older a c ≡ true
    go Less is = older_than_older a b c ab (ap is_lt is)
    go Equal is = ap (λ r. is_lt (rank_cmp (age_rank a) r)) (sym (same_rank (age_rank b) (age_rank c) is)) ∙ ab
    go Greater is =
        let less : rank_cmp (age_rank c) (age_rank b) ≡ Less = nat_list_cmp_total.antisymm (age_rank c) (age_rank b) ∙ ap ordering_reverse is in
        absurd (apart (sym cb ∙ ap is_lt less))
      where
        apart : false ≡ true → ⊥
        apart e = cc

-- ---- one copy more

taken : (a b : Bool) → (b ≡ true → a ≡ true) → (a || b) ≡ a
taken true b h = refl
taken false true h = sym (h refl)
taken false false h = refl

held : (a b : Bool) → (a ≡ true → b ≡ true) → (a || b) ≡ b
held true b h = sym (h refl)
held false b h = refl

-- with one copy more, what is kept is still the newest
pub one_more_copy : (copies : List Copy) (c : Copy) (path : List ℕ) (known : Option FileKey) → IsNewestAt copies path known → IsNewestAt (c ∷ copies) path (with_copy path known c)
unfolding is_outdated
one_more_copy copies c path known was = go (bytes_eq c.path path) refl
  where
    of_another : bytes_eq c.path path ≡ false → IsNewestAt (c ∷ copies) path known
    of_another e = record {
      some = was.some ∙ ap (λ b. b || list_any (is_of path) copies) (sym e);
      among = later known was.among;
      beats = λ key. ap (λ b. (b && is_older key c.key) || is_outdated copies (record { key = key; path = path })) e ∙ was.beats key;
    }
      where
        later : (o : Option FileKey) → IfSome o (λ k. Contains copies (record { key = k; path = path })) → IfSome o (λ k. Contains (c ∷ copies) (record { key = k; path = path }))
        later None h = h
        later (Some k) h = later_in c copies (record { key = k; path = path }) h

    is_this : bytes_eq c.path path ≡ true → c ≡ record { key = c.key; path = path }
    is_this e = let same : c.path ≡ path = (bytes_eq-Decides c.path path).0 e in λ i. record { key = c.key; path = same i }

    outdated_by : bytes_eq c.path path ≡ true → (key : FileKey) → is_outdated (c ∷ copies) (record { key = key; path = path }) ≡ (is_older key c.key || is_outdated copies (record { key = key; path = path }))
    outdated_by e key = ap (λ b. (b && is_older key c.key) || is_outdated copies (record { key = key; path = path })) e

    becomes : bytes_eq c.path path ≡ true → ((key : FileKey) → is_beaten key known ≡ true → is_older key c.key ≡ true) → IsNewestAt (c ∷ copies) path (Some c.key)
    becomes e news = record {
      some = ap (λ b. b || list_any (is_of path) copies) (sym e);
      among = first_in c copies (record { key = c.key; path = path }) (is_this e);
      beats = λ key. outdated_by e key ∙ ap (λ b. is_older key c.key || b) (was.beats key) ∙ taken (is_older key c.key) (is_beaten key known) (news key);
    }

    stays : (n : FileKey) → known ≡ Some n → bytes_eq c.path path ≡ true → is_older n c.key ≡ false → IsNewestAt (c ∷ copies) path (Some n)
    stays n is e old = record {
      some = ap (λ b. b || list_any (is_of path) copies) (sym e);
      among = later_in c copies (record { key = n; path = path }) (subst (λ o. IfSome o (λ k. Contains copies (record { key = k; path = path }))) is was.among);
      beats = λ key. outdated_by e key ∙ ap (λ b. is_older key c.key || b) (was.beats key ∙ ap (is_beaten key) is)
          ∙ held (is_older key c.key) (is_older key n) (λ older. older_than_later key c.key n older old);
    }

    by_known : (o : Option FileKey) → known ≡ o → bytes_eq c.path path ≡ true → IsNewestAt (c ∷ copies) path (cond (is_news o c.key) (Some c.key) o)
    by_known None is e = becomes e (λ key beaten. absurd (apart (sym (ap (is_beaten key) is) ∙ beaten)))
      where
        apart : false ≡ true → ⊥
        apart f = cc
    by_known (Some n) is e = by_age (is_older n c.key) refl
      where
        by_age : (b : Bool) → is_older n c.key ≡ b → IsNewestAt (c ∷ copies) path (cond b (Some c.key) (Some n))
        by_age true newer = becomes e (λ key beaten. older_than_older key n c.key (sym (ap (is_beaten key) is) ∙ beaten) newer)
        by_age false old = stays n is e old

    go : (b : Bool) → bytes_eq c.path path ≡ b → IsNewestAt (c ∷ copies) path (cond (b && is_news known c.key) (Some c.key) known)
    go false e = of_another e
    go true e = by_known known refl e

-- ---- what is kept

-- a copy that is not older than what is kept takes its place
pub noted : (before after : Kept) (key : FileKey) (on : Bor (List ℕ)) (known : Option FileKey) → known ≡ kept_at on.now before → is_news known key ≡ true
    → UpdatesBy (λ x y. slice_cmp nat_cmp x.now y.now) (λ k. slice_cmp nat_cmp on.now k.now) before after (Some key)
    → Keeps before (record { key = key; path = on.now }) after
noted before after key on known looked news puts path = btree_map_updates_str on.now before after (Some key) puts path ∙ go (bytes_eq on.now path) refl
  where
    go : (b : Bool) → bytes_eq on.now path ≡ b → cond b (Some key) (kept_at path before) ≡ cond (b && is_news (kept_at path before) key) (Some key) (kept_at path before)
    go false is = refl
    go true is =
        let same : on.now ≡ path = (bytes_eq-Decides on.now path).0 is in
        let is_new : is_news (kept_at path before) key ≡ true = ap (λ (q : List ℕ). is_news (kept_at q before) key) (sym same) ∙ ap (λ o. is_news o key) (sym looked) ∙ news in
        sym (ap (λ b. cond b (Some key) (kept_at path before)) is_new)

-- a set that keeps one copy more is noted with it
pub noted_more : (before after : Kept) (c : Copy) → Keeps before c after → (copies : List Copy)
    → ((path : List ℕ) → IsNewestAt copies path (kept_at path before)) → (path : List ℕ) → IsNewestAt (c ∷ copies) path (kept_at path after)
noted_more before after c keeps copies was path =
    subst (IsNewestAt (c ∷ copies) path) (sym (keeps path)) (one_more_copy copies c path (kept_at path before) (was path))

-- nothing is the newest of no copies
pub none_noted : (path : List ℕ) → IsNewestAt [] path None
unfolding is_outdated
none_noted path = record { some = refl; among = tt; beats = λ key. refl }

-- ---- the newest files of a restore

-- what outdates a copy is a newer one of its path
outdated_by_one : (copies : List Copy) (c : Copy) → is_outdated copies c ≡ true → (d : Copy) × Contains copies d × (d.path ≡ c.path) × (is_older c.key d.key ≡ true)
unfolding is_outdated
outdated_by_one copies c e =
    let found = from_some (λ (d : Copy). is_of c.path d && is_older c.key d.key) copies e in
    let parts = and_parts (is_of c.path found.0) (is_older c.key found.0.key) found.2 in
    (found.0, found.1, (bytes_eq-Decides found.0.path c.path).0 parts.0, parts.1)

-- a newer copy of the path outdates
is_outdated_by : (copies : List Copy) (c d : Copy) → Contains copies d → d.path ≡ c.path → is_older c.key d.key ≡ true → is_outdated copies c ≡ true
unfolding is_outdated
is_outdated_by copies c d among same older =
    some_passes (λ (e : Copy). is_of c.path e && is_older c.key e.key) copies d among (rw ((bytes_eq-Decides d.path c.path).1 same, older) refl)

-- a copy of a path that nothing outdates is current
pub current_if_alone : (copies : List Copy) (c : Copy) → ((d : Copy) → Contains copies d → d.path ≡ c.path → is_older c.key d.key ≡ true → ⊥) → is_outdated copies c ≡ false
current_if_alone copies c alone =
    false_from_ne_true (is_outdated copies c) (λ e. let found = outdated_by_one copies c e in alone found.0 found.1 found.2 found.3)

-- some copies have at each path a newest one
has_newest : (copies : List Copy) (path : List ℕ) → (known : Option FileKey) × IsNewestAt copies path known
has_newest [] path = (None, none_noted path)
has_newest (c ∷ copies) path = let more = has_newest copies path in (with_copy path more.0 c, one_more_copy copies c path more.0 more.1)

-- a copy of a path, and the newest one
newest_of : (copies : List Copy) (c : Copy) → Contains copies c
    → (d : Copy) × Contains copies d × (d.path ≡ c.path) × (is_older d.key c.key ≡ false) × (is_outdated copies d ≡ false)
newest_of copies c among = let all = has_newest copies c.path in go all.0 all.1
  where
    go : (known : Option FileKey) → IsNewestAt copies c.path known
        → (d : Copy) × Contains copies d × (d.path ≡ c.path) × (is_older d.key c.key ≡ false) × (is_outdated copies d ≡ false)
    go None is = absurd (apart (is.some ∙ some_passes (is_of c.path) copies c among ((bytes_eq-Decides c.path c.path).1 refl)))
      where
        apart : false ≡ true → ⊥
        apart e = cc
    go (Some n) is =
        let d : Copy = record { key = n; path = c.path } in
        let current : is_outdated copies d ≡ false = is.beats n ∙ false_from_ne_true (is_older n n) (not_older_itself n) in
        (d, is.among, refl, false_from_ne_true (is_older n c.key) (λ e. both (is_outdated copies d) (is_outdated_by copies d c among refl e) current), current)
      where
        both : (b : Bool) → b ≡ true → b ≡ false → ⊥
        both b e f = cc

-- a copy that nothing outdates is among the newest
among_newest : (rs : List Restored) (d : Copy) → Contains (copies_of rs) d → is_outdated (copies_of rs) d ≡ false → Contains (copies_of (newest rs)) d
unfolding newest
among_newest rs d among current =
    let found = from_given copy_of rs d among in
    let passes : is_newest rs found.0 ≡ true = ap (is_current (copies_of rs)) found.2 ∙ ap not current in
    given_in copy_of (newest rs) found.0 d (contains_filter (is_newest rs) rs found.0 found.1 passes) found.2

-- one of the newest is among the copies, and nothing outdates it
from_newest : (rs : List Restored) (d : Copy) → Contains (copies_of (newest rs)) d → Contains (copies_of rs) d × (is_outdated (copies_of rs) d ≡ false)
unfolding newest
from_newest rs d among =
    let found = from_given copy_of (newest rs) d among in
    let kept = kept_passes (is_newest rs) rs found.0 found.1 in
    (given_in copy_of rs found.0 d kept.0 found.2, go (is_outdated (copies_of rs) d) (sym (ap (is_current (copies_of rs)) found.2) ∙ kept.1))
  where
    go : (b : Bool) → not b ≡ true → b ≡ false
    go true e = absurd cc
    go false e = refl

pub newest_has_each_path_lem : NewestHasEachPath
newest_has_each_path_lem rs c among =
    let d = newest_of (copies_of rs) c among in
    (d.0, among_newest rs d.0 d.1 d.4, d.2, d.3)

-- copies of which none is older have one age
one_age : (a b : FileKey) → is_older a b ≡ false → is_older b a ≡ false → a ≡ b
one_age a b ab ba = go (rank_cmp (age_rank a) (age_rank b)) refl
  where
    apart : false ≡ true → ⊥
    apart e = cc

    go : (o : Ordering) → rank_cmp (age_rank a) (age_rank b) ≡ o → a ≡ b
    go Less is = absurd (apart (sym ab ∙ ap is_lt is))
    go Greater is = absurd (apart (sym ba ∙ ap is_lt (nat_list_cmp_total.antisymm (age_rank b) (age_rank a) ∙ ap ordering_reverse is)))
    go Equal is =
        let same : age_rank a ≡ age_rank b = same_rank (age_rank a) (age_rank b) is in
        let time_is : a.session.time ≡ b.session.time = cc in
        let id_is : a.session.id ≡ b.session.id = cc in
        let index_is : a.index ≡ b.index = cc in
        λ i. record { session = record { id = id_is i; time = time_is i }; index = index_is i }

pub newest_has_each_path_once_lem : NewestHasEachPathOnce
newest_has_each_path_once_lem rs c d own of_c of_d same =
    let p = from_newest rs c of_c in
    let q = from_newest rs d of_d in
    own c d p.0 q.0 (one_age c.key d.key (not_older c d p.1 q.0 (sym same)) (not_older d c q.1 p.0 same))
  where
    both : (b : Bool) → b ≡ true → b ≡ false → ⊥
    both b e f = cc

    not_older : (x y : Copy) → is_outdated (copies_of rs) x ≡ false → Contains (copies_of rs) y → y.path ≡ x.path → is_older x.key y.key ≡ false
    not_older x y current among at = false_from_ne_true (is_older x.key y.key) (λ e. both (is_outdated (copies_of rs) x) (is_outdated_by (copies_of rs) x y among at e) current)
