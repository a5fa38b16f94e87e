-- The rows with names in place of numbers, as rows are added.
use Rattle.std.proofs.Common.{◌≡◌, ◌⊎◌, inl, inr, ℤ, List, [], ◌∷◌, Bool, true, false, cond, not, ◌||◌, ◌&&◌, map, find, unwrap_or, Option, Some, Less, Equal, Greater, refl, sym, ap, ap₂, subst, ◌∙◌}
use Rattle.std.specs.declared.cmp.Ordering.{Ordering}
use Rattle.std.specs.Ordering.{is_eq, match_ordering}
use Rattle.std.specs.List.{AllByRecursion, list_any}
use Rattle.std.proofs.lemmas.Cmp.{alike_right}
use Rattle.std.proofs.lemmas.Bool.{or_parts, or_left, or_right}
use Rattle.sqlite.specs.declared.types.Value.{Value}
use Rattle.sqlite.specs.declared.types.Value.TheVariants.{Int}
use Rattle.sqlite.specs.Order.{Row, column, value_cmp}
use Rattle.sqlite.specs.Edit.{is_taken}
use Rattle.sqlite.specs.Tree.{Trees, rowid, put_row, IsTable}
use Rattle.sqlite.specs.Effect.{Database, IsDatabase}
use Rattle.sqlite_schema.specs.Rules.{Keeps, passes}
use Rattle.sqlite_value.specs.Keys.{first_key, joined}
use Rattle.sqlite_schema.specs.Names.{same_name}
use Rattle.sqlite.specs.Ops.{is_null}
use Rattle.sqlite_schema.specs.declared.schema.Constraint.TheVariants.{ForeignKey, NotNull}
use Rattle.sqlite_value.proofs.OrderLemmas.{value_cmp_total}
use Rattle.sqlite_rules.specs.Lists.{Has}
use Rattle.sqlite_rules.proofs.ListLemmas.{some_has, all_has, all_from}
use Rattle.br_catalog_tables.specs.TreePlaces.{Layout}
use Rattle.sqlite.specs.Schema.{Schema}
use Rattle.sqlite.specs.Table.{Table}
use Rattle.sqlite_schema.specs.declared.schema.Constraint.{Constraint}
use Rattle.br_catalog_tables.specs.Tables.{job, job_media, file}
use Rattle.br_catalog_tables.specs.KnownSchemas.{HasAll, Owns, Stands, with_own}
use Rattle.br_store.proofs.Inserts.{has_table}
use Rattle.br_store.proofs.Lookups.{by_name}
use Rattle.br_store.specs.Held.{is_named, job_shown, span_shown, file_shown}
use Rattle.br_store.proofs.Values.{tied, names_itself}

pub any_true : {X : Type 0} (p : X → Bool) (xs : List X) (x : X) → Has xs x → p x ≡ true → list_any p xs ≡ true
any_true p [] x h e = absurd h
any_true p (y ∷ xs) x (inl same) e = or_left _ _ (ap p (sym same) ∙ e)
any_true p (y ∷ xs) x (inr more) e = or_right _ _ (any_true p xs x more e)

and_true : (b : Bool) → (b && true) ≡ b
and_true true = refl
and_true false = refl

any_same : {X : Type 0} (p q : X → Bool) → ((x : X) → p x ≡ q x) → (xs : List X) → list_any p xs ≡ list_any q xs
any_same p q same [] = refl
any_same p q same (x ∷ xs) = ap (λ b. b || list_any p xs) (same x) ∙ ap (λ b. q x || b) (any_same p q same xs)

-- a row that the test passes by does not change what is found first
pub find_put : (p : Row → Bool) (new : Row) (rows : List Row) → is_taken rows new ≡ false → p new ≡ false → find p (put_row new rows) ≡ find p rows
find_put p new [] free fails = rw fails refl
find_put p new (r ∷ rows) free fails = let parts = or_parts _ _ free in go (value_cmp (rowid r) (rowid new)) parts.0 (find_put p new rows parts.1 fails)
  where
    go : (o : Ordering) → is_eq o ≡ false → find p (put_row new rows) ≡ find p rows → find p (match_ordering o (r ∷ put_row new rows) (new ∷ rows) (new ∷ r ∷ rows)) ≡ find p (r ∷ rows)
    go Less other more = ap (λ f. cond (p r) (Some r) f) more
    go Equal other more = absurd cc
    go Greater other more = rw fails refl

-- a new row has none of the numbers that are known
pub other_name : (rows : List Row) (new : Row) (id : Value) → is_taken rows new ≡ false → list_any (is_named id) rows ≡ true → is_named id new ≡ false
other_name rows new id free known = go (is_named id new) refl
  where
    go : (b : Bool) → is_named id new ≡ b → b ≡ false
    go false e = refl
    go true e =
        let it = some_has (is_named id) rows known in
        let same : value_cmp (rowid it.0) (rowid new) ≡ Equal = alike_right value_cmp_total (column new 0) id (column it.0 0) (tied (column new 0) id e) ∙ tied (column it.0 0) id it.2 in
        absurd (let taken = any_true (λ r. is_eq (value_cmp (rowid r) (rowid new))) rows it.0 it.1 (ap is_eq same) in let no = sym taken ∙ free in cc)

pub map_same : {X Y : Type 0} (f g : X → Y) (xs : List X) → AllByRecursion (λ x. f x ≡ g x) xs → map f xs ≡ map g xs
map_same f g [] h = refl
map_same f g (x ∷ xs) h = ap (λ y. y ∷ map f xs) h.0 ∙ ap (λ ys. g x ∷ ys) (map_same f g xs h.1)

-- ---- each number of a sound database is that of a row

pub present : (b rest : Bool) → (not b && rest) ≡ true → (b ≡ false) × (rest ≡ true)
present false rest h = (refl, h)
present true rest h = absurd cc

-- the first reference has its row
pub referred : (v : Value) (rows : List Row) (rest : Bool) → (((is_null v || false) || list_any (λ r. is_named v r && true) rows) && rest) ≡ true → is_null v ≡ false
    → (list_any (is_named v) rows ≡ true) × (rest ≡ true)
referred v rows rest h full = go (is_null v) full (list_any (λ r. is_named v r && true) rows) (any_same _ _ (λ r. and_true (is_named v r)) rows) h
  where
    go : (n : Bool) → n ≡ false → (found : Bool) → found ≡ list_any (is_named v) rows → (((n || false) || found) && rest) ≡ true → (list_any (is_named v) rows ≡ true) × (rest ≡ true)
    go true e found is h = absurd cc
    go false e true is h = (sym is, h)
    go false e false is h = absurd cc

abbrev pub Knows : List Row → Value → Type 0
Knows rows id = list_any (is_named id) rows ≡ true

module _ (schema : Schema) (l : Layout) (o : Owns) (has : HasAll schema l o) where
  job_known : (trees : Trees) (row : Row) → passes ForeignKey schema trees (with_own (job l.job) o.job) row ≡ true → passes NotNull schema trees (with_own (job l.job) o.job) row ≡ true
      → Knows (trees l.client) (column row 4) × Knows (trees l.fileset) (column row 7)
  unfolding first_key joined same_name
  job_known trees row keys full =
      let key = rw (by_name schema _ has.client, by_name schema _ has.fileset) at keys in
      let a = present (is_null (column row 2)) _ full in
      let b = present (is_null (column row 3)) _ a.1 in
      let c = present (is_null (column row 4)) _ b.1 in
      let d = present (is_null (column row 5)) _ c.1 in
      let e = present (is_null (column row 6)) _ d.1 in
      let f = present (is_null (column row 7)) _ e.1 in
      let one = referred (column row 4) (trees l.client) _ key c.0 in
      (one.0, (referred (column row 7) (trees l.fileset) _ one.1 f.0).0)

  span_known : (trees : Trees) (row : Row) → passes ForeignKey schema trees (with_own (job_media l.job_media) o.job_media) row ≡ true → passes NotNull schema trees (with_own (job_media l.job_media) o.job_media) row ≡ true
      → Knows (trees l.media) (column row 3)
  unfolding first_key joined same_name
  span_known trees row keys full =
      let key = rw (by_name schema _ has.job, by_name schema _ has.media) at keys in
      let a = present (is_null (column row 2)) _ full in
      let b = present (is_null (column row 3)) _ a.1 in
      let one = referred (column row 2) (trees l.job) _ key a.0 in
      (referred (column row 3) (trees l.media) _ one.1 b.0).0

  file_known : (trees : Trees) (row : Row) → passes ForeignKey schema trees (with_own (file l.file) o.file) row ≡ true → passes NotNull schema trees (with_own (file l.file) o.file) row ≡ true
      → Knows (trees l.path) (column row 4)
  unfolding first_key joined same_name
  file_known trees row keys full =
      let key = rw (by_name schema _ has.job, by_name schema _ has.path) at keys in
      let a = present (is_null (column row 2)) _ full in
      let b = present (is_null (column row 3)) _ a.1 in
      let c = present (is_null (column row 4)) _ b.1 in
      let one = referred (column row 3) (trees l.job) _ key b.0 in
      (referred (column row 4) (trees l.path) _ one.1 c.0).0

-- each number in the rows that are shown is that of a row
pub record AreKnown (l : Layout) (trees : Trees) : Type 0 where
  pub jobs : AllByRecursion (λ row. Knows (trees l.client) (column row 4) × Knows (trees l.fileset) (column row 7)) (trees l.job)
  pub spans : AllByRecursion (λ row. Knows (trees l.media) (column row 3)) (trees l.job_media)
  pub files : AllByRecursion (λ row. Knows (trees l.path) (column row 4)) (trees l.file)

pub are_known : (l : Layout) (o : Owns) (db : Database) → HasAll db.schema l o → IsDatabase db → AreKnown l db.trees
are_known l o db has sound =
    let keys = sound.obeys.rules ForeignKey in
    let full = sound.obeys.rules NotNull in
    let of = λ (rule : Constraint) (all : Keeps rule db.schema db.trees) (t : Table) (s : Stands db.schema t) (row : Row) (in_it : Has (db.trees t.tree) row).
    all_has _ (db.trees t.tree) row (all_has _ db.schema.tables t all (has_table db.schema t s)) in_it in
    record {
      jobs = all_from _ (db.trees l.job) (λ row in_it. job_known db.schema l o has db.trees row (of ForeignKey keys _ has.job row in_it) (of NotNull full _ has.job row in_it));
      spans = all_from _ (db.trees l.job_media) (λ row in_it. span_known db.schema l o has db.trees row (of ForeignKey keys _ has.job_media row in_it) (of NotNull full _ has.job_media row in_it));
      files = all_from _ (db.trees l.file) (λ row in_it. file_known db.schema l o has db.trees row (of ForeignKey keys _ has.file row in_it) (of NotNull full _ has.file row in_it));
    }

-- ---- a table that has gained a row at most

abbrev pub HasGrown : List Row → List Row → Type 0
HasGrown old new = (new ≡ old) ⊎ ((row : Row) × (new ≡ put_row row old) × (is_taken old row ≡ false))

pub put_keeps : (new : Row) (rows : List Row) (x : Row) → is_taken rows new ≡ false → Has rows x → Has (put_row new rows) x
put_keeps new [] x free h = absurd h
put_keeps new (r ∷ rows) x free h = let parts = or_parts _ _ free in go (value_cmp (rowid r) (rowid new)) parts.0 h (λ more. put_keeps new rows x parts.1 more)
  where
    go : (o : Ordering) → is_eq o ≡ false → Has (r ∷ rows) x → (Has rows x → Has (put_row new rows) x) → Has (match_ordering o (r ∷ put_row new rows) (new ∷ rows) (new ∷ r ∷ rows)) x
    go Less other (inl same) next = inl same
    go Less other (inr more) next = inr (next more)
    go Equal other h next = absurd cc
    go Greater other h next = inr h

pub grown_has : (old new : List Row) → HasGrown old new → (x : Row) → Has old x → Has new x
grown_has old new (inl same) x h = subst (λ rows. Has rows x) (sym same) h
grown_has old new (inr put) x h = subst (λ rows. Has rows x) (sym put.1) (put_keeps put.0 old x put.2 h)

pub same_found : (old new : List Row) → HasGrown old new → (id : Value) → Knows old id → find (is_named id) new ≡ find (is_named id) old
same_found old new (inl same) id known = ap (find (is_named id)) same
same_found old new (inr put) id known = ap (find (is_named id)) put.1 ∙ find_put (is_named id) put.0 old put.2 (other_name old put.0 id put.2 known)

-- what keeps the number of a row goes with putting rows in
pub put-map : (f : Row → Row) → ((r : Row) → rowid (f r) ≡ rowid r) → (new : Row) (rows : List Row) → map f (put_row new rows) ≡ put_row (f new) (map f rows)
put-map f keeps new [] = refl
put-map f keeps new (r ∷ rows) = rw (keeps r, keeps new) (go (value_cmp (rowid r) (rowid new)) (put-map f keeps new rows))
  where
    go : (o : Ordering) → map f (put_row new rows) ≡ put_row (f new) (map f rows)
        → map f (match_ordering o (r ∷ put_row new rows) (new ∷ rows) (new ∷ r ∷ rows)) ≡ match_ordering o (f r ∷ put_row (f new) (map f rows)) (f new ∷ map f rows) (f new ∷ f r ∷ map f rows)
    go Less more = ap (λ ys. f r ∷ ys) more
    go Equal more = refl
    go Greater more = refl

-- the row that is found first is the one with the number
pub find_row : (rows : List Row) (row : Row) (id : ℤ) → IsTable rows → Has rows row → column row 0 ≡ Int id → find (is_named (Int id)) rows ≡ Some row
find_row [] row id up has is = absurd has
find_row (c ∷ rows) row id up (inl same) is = rw (ap (is_named (Int id)) (sym same) ∙ names_itself row id is) (ap Some (sym same))
find_row (c ∷ rows) row id up (inr more) is =
    go (is_named (Int id) c) refl (find_row rows row id up.1 more is)
  where
    go : (b : Bool) → is_named (Int id) c ≡ b → find (is_named (Int id)) rows ≡ Some row → cond b (Some c) (find (is_named (Int id)) rows) ≡ Some row
    go false e found = found
    go true e found =
        let below = all_has _ rows row up.0 more in
        let same : value_cmp (rowid c) (Int id) ≡ Equal = tied (column c 0) (Int id) e in
        absurd (let x = sym (rw is at below) ∙ same in cc)

pub same_jobs : (a b c d jobs : List Row) → HasGrown a b → HasGrown c d → AllByRecursion (λ row. Knows a (column row 4) × Knows c (column row 7)) jobs
    → map (job_shown b d) jobs ≡ map (job_shown a c) jobs
same_jobs a b c d jobs first second known =
    map_same _ _ jobs (all_from _ jobs (λ row in_it.
    let is = all_has _ jobs row known in_it in
    ap₂ (λ (o p : Option Row). column row 0 ∷ column row 2 ∷ column row 3 ∷ column (unwrap_or o []) 2 ∷ column row 5 ∷ column row 6 ∷ column (unwrap_or p []) 2 ∷ column row 8 ∷ column row 9 ∷ [])
    (same_found a b first (column row 4) is.0) (same_found c d second (column row 7) is.1)))

pub same_spans : (a b spans : List Row) → HasGrown a b → AllByRecursion (λ row. Knows a (column row 3)) spans → map (span_shown b) spans ≡ map (span_shown a) spans
same_spans a b spans first known =
    map_same _ _ spans (all_from _ spans (λ row in_it.
    ap (λ (o : Option Row). column row 2 ∷ column (unwrap_or o []) 2 ∷ column row 4 ∷ column row 5 ∷ column row 6 ∷ column row 7 ∷ column row 8 ∷ column row 9 ∷ column row 10 ∷ [])
    (same_found a b first (column row 3) (all_has _ spans row known in_it))))

pub same_files : (a b files : List Row) → HasGrown a b → AllByRecursion (λ row. Knows a (column row 4)) files → map (file_shown b) files ≡ map (file_shown a) files
same_files a b files first known =
    map_same _ _ files (all_from _ files (λ row in_it.
    ap (λ (o : Option Row). column row 3 ∷ column row 2 ∷ column (unwrap_or o []) 2 ∷ column row 5 ∷ column row 6 ∷ column row 7 ∷ [])
    (same_found a b first (column row 4) (all_has _ files row known in_it))))
