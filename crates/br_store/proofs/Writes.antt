-- What helpers write, as the rows that are then there.
use Rattle.std.proofs.Common.{codes, ◌≡◌, ◌⊎◌, inl, inr, ℕ, ℤ, List, [], ◌∷◌, ◌++◌, Bool, true, false, map, find, bytes_eq, Option, unwrap_or, IsTrue, ◌==◌, append-nil, append_assoc, Result, Ok, Err, OnOk, refl, sym, ap, ap₂, subst, pos, ◌∙◌}
use Rattle.std.proofs.lemmas.Bool.Decides.{Decides-eqb}
use Rattle.std.proofs.lemmas.Slice.Eq.{bytes_eq-Decides}
use Rattle.std.specs.List.{AllByRecursion}
use Rattle.sqlite.specs.declared.types.Value.TheVariants.{Null, Int, Text, Blob}
use Rattle.sqlite.specs.Order.{Row, column}
use Rattle.sqlite.specs.Edit.{is_taken, next_rowid}
use Rattle.sqlite.specs.Schema.{Schema}
use Rattle.sqlite.specs.Table.{Table}
use Rattle.sqlite.specs.Tree.{Trees, IsAscending, IsTable, put_row, rowid}
use Rattle.sqlite.specs.Effect.{Database}
use Rattle.sqlite.specs.View.{IsShaped, is_int}
use Rattle.sqlite_trees.specs.declared.store.Shape.TheVariants.{Table as Shaped}
use Rattle.sqlite_trees.proofs.TreeLemmas.{IsShaped-put_row}
use Rattle.sqlite_rules.specs.Lists.{Has}
use Rattle.sqlite_rules.proofs.TableLemmas.{put_has}
use Rattle.sqlite.specs.State.{State, KeepsCommit, IsUnchanged}
use Rattle.br_store.specs.declared.name_numbers.Dictionary.{Dictionary}
use Rattle.br_store.specs.declared.name_numbers.Dictionary.TheVariants.{Client, FileSet, Media, Path}
use Rattle.br_catalog_tables.specs.TreePlaces.{Layout, media_type}
use Rattle.br_catalog_tables.specs.Tables.{tables_at}
use Rattle.br_catalog_tables.specs.KnownSchemas.{HasAll, Owns, Stands}
use Rattle.br_store.specs.Names.{tree_of, word, name_row}
use Rattle.br_catalog_rows.specs.Decode.{job_row, span_row, file_row, digest_text, front, rest, high, low}
use Rattle.br_model.specs.Job.{JobRow, FileRow, Span, JobRows}
use Rattle.br_catalog_rows.specs.Rows.{Rows, with_job, with_spans, with_files, with_rows, with_file_row}
use Rattle.br_store.specs.Held.{name_at, Added, AddsMedia, HasTables, Wrote, GoesOn, IsNameAt, IsName, layout_in, media_in, rows_at, rows_in, job_shown, span_shown, file_shown}
use Rattle.br_store.proofs.Joined.{HasGrown, AreKnown, are_known, grown_has, find_row, put-map, same_jobs, same_spans, same_files}
use Rattle.br_store.proofs.Appends.{map-append, put_next}
use Rattle.br_store.proofs.Layouts.{has_here, layout_is}
use Rattle.br_store.proofs.Lookups.{by_tree}

decide : (a b : ℕ) → (a ≡ b) ⊎ (a ≡ b → ⊥)
decide a b = go (a == b) refl
  where
    go : (t : Bool) → (a == b) ≡ t → (a ≡ b) ⊎ (a ≡ b → ⊥)
    go true e = inl ((Decides-eqb a b).0 e)
    go false e = inr (λ same. let yes_it_is = (Decides-eqb a b).1 same in let x = sym e ∙ yes_it_is in cc)

-- a table after one row was added to one table
grown_at : (t tree : ℕ) (row : Row) (old new : Trees) → new tree ≡ put_row row (old tree) → is_taken (old tree) row ≡ false → ((t ≡ tree → ⊥) → new t ≡ old t)
    → HasGrown (old t) (new t)
grown_at t tree row old new put free same = elim (decide t tree) [
  | inl e ↦ inr (row, ap new e ∙ put ∙ ap (λ n. put_row row (old n)) (sym e), ap (λ n. is_taken (old n) row) e ∙ free)
  | inr away ↦ inl (same away)
]

-- the trees of names have at most one row more
pub record HasNames (l : Layout) (old new : Trees) : Type 0 where
  pub clients : HasGrown (old l.client) (new l.client)
  pub filesets : HasGrown (old l.fileset) (new l.fileset)
  pub media : HasGrown (old l.media) (new l.media)
  pub paths : HasGrown (old l.path) (new l.path)

pub names_grow : (s : Schema) (l : Layout) (tree : ℕ) (row : Row) (old new : Database) → Added s l tree row old new → HasNames l old.trees new.trees
names_grow s l tree row old new a = record {
  clients = grown_at l.client tree row old.trees new.trees a.rows a.fresh a.others.1.0;
  filesets = grown_at l.fileset tree row old.trees new.trees a.rows a.fresh a.others.1.1.0;
  media = grown_at l.media tree row old.trees new.trees a.rows a.fresh a.others.1.1.1.0;
  paths = grown_at l.path tree row old.trees new.trees a.rows a.fresh a.others.1.1.1.1.0;
}

pub names_kept : (l : Layout) (old new : Trees) → HasNames l old new → (d : Dictionary) (name : List ℕ) (id : ℕ) → IsNameAt l old d name id → IsNameAt l new d name id
names_kept l old new h Client name id is = (is.0, grown_has (old l.client) (new l.client) h.clients is.0 is.1, is.2, is.3)
names_kept l old new h FileSet name id is = (is.0, grown_has (old l.fileset) (new l.fileset) h.filesets is.0 is.1, is.2, is.3)
names_kept l old new h Media name id is = (is.0, grown_has (old l.media) (new l.media) h.media is.0 is.1, is.2, is.3)
names_kept l old new h Path name id is = (is.0, grown_has (old l.path) (new l.path) h.paths is.0 is.1, is.2, is.3)

-- the shape of a tree after one row was added to one tree
shaped_at : (t tree : ℕ) (row : Row) (old new : Trees) → IsTrue (is_int (rowid row)) → new tree ≡ put_row row (old tree) → ((t ≡ tree → ⊥) → new t ≡ old t)
    → IsShaped Shaped (old t) → IsShaped Shaped (new t)
shaped_at t tree row old new keyed put same shaped = elim (decide t tree) [
  | inl e ↦ subst (IsShaped Shaped) (sym (ap new e ∙ put ∙ ap (λ n. put_row row (old n)) (sym e))) (IsShaped-put_row row (old t) keyed shaped)
  | inr away ↦ subst (IsShaped Shaped) (sym (same away)) shaped
]

pub shaped_all : (tree : ℕ) (row : Row) (old new : Trees) → IsTrue (is_int (rowid row)) → new tree ≡ put_row row (old tree)
    → (tables : List Table) → AllByRecursion (λ (t : Table). (t.tree ≡ tree → ⊥) → new t.tree ≡ old t.tree) tables
    → AllByRecursion (λ (t : Table). IsShaped Shaped (old t.tree)) tables → AllByRecursion (λ (t : Table). IsShaped Shaped (new t.tree)) tables
shaped_all tree row old new keyed put [] same shaped = tt
shaped_all tree row old new keyed put (t ∷ tables) same shaped =
    (shaped_at t.tree tree row old new keyed put same.0 shaped.0, shaped_all tree row old new keyed put tables same.1 shaped.1)

-- a catalogue to which one row was added is one still, with its tables in the same trees
pub still_stands : (l : Layout) (tree : ℕ) (row : Row) (old new : Database) → IsTrue (is_int (rowid row)) → layout_in old.trees ≡ l → HasTables old → Added old.schema l tree row old new
    → (layout_in new.trees ≡ l) × HasTables new
still_stands l tree row old new keyed was tables a =
    let o = tables.own in
    let has = subst (λ (s : Schema). HasAll s l o) (sym a.schema) (subst (λ (m : Layout). HasAll old.schema m o) was tables.schema) in
    let now = layout_is l o new has a.sound in
    let all : AllByRecursion (λ (t : Table). IsShaped Shaped (new.trees t.tree)) (tables_at l) =
    shaped_all tree row old.trees new.trees keyed a.rows (tables_at l) a.others (subst (λ (m : Layout). AllByRecursion (λ (t : Table). IsShaped Shaped (old.trees t.tree)) (tables_at m)) was tables.shaped) in (
      now,
      record {
        own = o;
        schema = has_here l o new has a.sound;
        sound = a.sound;
        shaped = subst (λ (m : Layout). AllByRecursion (λ (t : Table). IsShaped Shaped (new.trees t.tree)) (tables_at m)) (sym now) all;
      },
    )

-- each row of a table, after one row was added to one tree, was there before or has the type `File`
typed_at : (t tree : ℕ) (row : Row) (old new : Trees) → new tree ≡ put_row row (old tree) → ((t ≡ tree → ⊥) → new t ≡ old t) → (t ≡ tree → column row media_type ≡ Text (codes "File"))
    → (x : Row) → Has (new t) x → Has (old t) x ⊎ (column x media_type ≡ Text (codes "File"))
typed_at t tree row old new put same typed x has = elim (decide t tree) [
  | inl e ↦ elim (put_has row (old t) x (subst (λ (rows : List Row). Has rows x) (ap new e ∙ put ∙ ap (λ n. put_row row (old n)) (sym e)) has)) [
    | inl is ↦ inr (ap (λ (r : Row). column r media_type) is ∙ typed e)
    | inr before ↦ inl before
  ]
  | inr away ↦ inl (subst (λ (rows : List Row). Has rows x) (same away) has)
]

-- the volumes after one row was added to one table
adds_media : (l : Layout) (tree : ℕ) (row : Row) (old new : Database) → layout_in old.trees ≡ l → layout_in new.trees ≡ l → Added old.schema l tree row old new
    → (l.media ≡ tree → column row media_type ≡ Text (codes "File")) → AddsMedia old.trees new.trees
adds_media l tree row old new was now a typed = record {
  typed = λ x has.
      subst (λ (m : Layout). Has (old.trees m.media) x ⊎ (column x media_type ≡ Text (codes "File"))) (sym was)
      (typed_at l.media tree row old.trees new.trees a.rows a.others.1.1.1.0 typed x (subst (λ (m : Layout). Has (new.trees m.media) x) now has));
}

-- what one more row of a table makes of the rows
pub wrote_row : (l : Layout) (tree : ℕ) (row : Row) (rows : Rows) (old new : State) → IsTrue (is_int (rowid row)) → layout_in old.now.trees ≡ l → HasTables old.now → GoesOn old new
    → (l.media ≡ tree → column row media_type ≡ Text (codes "File")) → Added old.now.schema l tree row old.now new.now → rows_at l new.now.trees ≡ rows → Wrote rows old new
wrote_row l tree row rows old new keyed was tables on typed a has =
    let still = still_stands l tree row old.now new.now keyed was tables a in
    let now = still.0 in
    record {
      was_open = λ up. on.was_open;
      mode = subst IsTrue (sym on.mode) refl;
      committed = on.committed_is;
      tables = still.1;
      names = λ d name id is. subst (λ (m : Layout). IsNameAt m new.now.trees d name id) (sym now)
          (names_kept l old.now.trees new.now.trees (names_grow old.now.schema l tree row old.now new.now a) d name id (subst (λ (m : Layout). IsNameAt m old.now.trees d name id) was is));
      media = adds_media l tree row old.now new.now was now a typed;
      has = ap (λ (m : Layout). rows_at m new.now.trees) now ∙ has;
    }

pub four : (a b : Rows) → a.versions ≡ b.versions → a.jobs ≡ b.jobs → a.spans ≡ b.spans → a.files ≡ b.files → a ≡ b
four a b versions jobs spans files =
    ap₂ (λ v j. record a { versions = v; jobs = j }) versions jobs ∙ ap₂ (λ s f. record b { spans = s; files = f }) spans files

rows_are : (l : Layout) (old new : Trees) (versions : new l.version ≡ old l.version) → HasNames l old new → AreKnown l old → new l.job ≡ old l.job → new l.job_media ≡ old l.job_media → new l.file ≡ old l.file
    → rows_at l new ≡ rows_at l old
rows_are l old new versions grow known jobs spans files =
    let a : (rows_at l new).versions ≡ (rows_at l old).versions = ap (map (λ (r : Row). column r 1 ∷ [])) versions in
    let b : (rows_at l new).jobs ≡ (rows_at l old).jobs = ap (map (job_shown (new l.client) (new l.fileset))) jobs ∙ same_jobs (old l.client) (new l.client) (old l.fileset) (new l.fileset) (old l.job) grow.clients grow.filesets known.jobs in
    let c : (rows_at l new).spans ≡ (rows_at l old).spans = ap (map (span_shown (new l.media))) spans ∙ same_spans (old l.media) (new l.media) (old l.job_media) grow.media known.spans in
    let d : (rows_at l new).files ≡ (rows_at l old).files = ap (map (file_shown (new l.path))) files ∙ same_files (old l.path) (new l.path) (old l.file) grow.paths known.files in
    four (rows_at l new) (rows_at l old) a b c d

-- the trees in the order of the tables
abbrev trees_at : Layout → List ℕ
trees_at l = l.version ∷ l.client ∷ l.fileset ∷ l.media ∷ l.path ∷ l.job ∷ l.job_media ∷ l.file ∷ []

-- the tables are in different trees
abbrev pub AreApart : Layout → Type 0
AreApart l = IsAscending (λ (tree other : ℕ). tree ≡ other → ⊥) (trees_at l)

-- two tables of a schema with different names are in different trees
differ_in : (schema : Schema) (t u : Table) → Stands schema t → Stands schema u → bytes_eq t.name u.name ≡ false → t.tree ≡ u.tree → ⊥
differ_in schema t u s r other same =
    let both = sym (by_tree schema t s) ∙ ap (λ (n : ℕ). find (λ (x : Table). x.tree == n) schema.tables) same ∙ by_tree schema u r in
    let is : t ≡ u = cc in
    let equal = (bytes_eq-Decides t.name u.name).1 (ap (λ (x : Table). x.name) is) in
    let no = sym equal ∙ other in
    absurd cc

pub apart_of : (schema : Schema) (l : Layout) (o : Owns) → HasAll schema l o → AreApart l
apart_of schema l o has =
    let differ = λ (t u : Table) (s : Stands schema t) (r : Stands schema u) (other : bytes_eq t.name u.name ≡ false). differ_in schema t u s r other in
    ((differ _ _ has.version has.client refl, (differ _ _ has.version has.fileset refl, (differ _ _ has.version has.media refl, (differ _ _ has.version has.path refl, (differ _ _ has.version has.job refl, (differ _ _ has.version has.job_media refl, (differ _ _ has.version has.file refl, tt))))))), ((differ _ _ has.client has.fileset refl, (differ _ _ has.client has.media refl, (differ _ _ has.client has.path refl, (differ _ _ has.client has.job refl, (differ _ _ has.client has.job_media refl, (differ _ _ has.client has.file refl, tt)))))), ((differ _ _ has.fileset has.media refl, (differ _ _ has.fileset has.path refl, (differ _ _ has.fileset has.job refl, (differ _ _ has.fileset has.job_media refl, (differ _ _ has.fileset has.file refl, tt))))), ((differ _ _ has.media has.path refl, (differ _ _ has.media has.job refl, (differ _ _ has.media has.job_media refl, (differ _ _ has.media has.file refl, tt)))), ((differ _ _ has.path has.job refl, (differ _ _ has.path has.job_media refl, (differ _ _ has.path has.file refl, tt))), ((differ _ _ has.job has.job_media refl, (differ _ _ has.job has.file refl, tt)), ((differ _ _ has.job_media has.file refl, tt), (tt, tt))))))))

-- the trees of rows are not those of names
apart : (l : Layout) (d : Dictionary) (P : ℕ → Type 0) → P l.client → P l.fileset → P l.media → P l.path → P (tree_of l d)
apart l Client P a b c d = a
apart l FileSet P a b c d = b
apart l Media P a b c d = c
apart l Path P a b c d = d

name_keyed : (d : Dictionary) (id : ℤ) (name : List ℕ) (more : Row) → IsTrue (is_int (rowid (name_row d id name ++ more)))
name_keyed Client id name more = refl
name_keyed FileSet id name more = refl
name_keyed Media id name more = refl
name_keyed Path id name more = refl

-- of the rows of names only those of volumes are in the table of volumes
name_typed : (l : Layout) (d : Dictionary) (id : ℤ) (name : List ℕ) (more : Row) → AreApart l → l.media ≡ tree_of l d → column (name_row d id name ++ more) media_type ≡ Text (codes "File")
name_typed l Client id name more h e = absurd (h.1.0.1.0 (sym e))
name_typed l FileSet id name more h e = absurd (h.1.1.0.0 (sym e))
name_typed l Media id name more h e = refl
name_typed l Path id name more h e = absurd (h.1.1.1.0.0 e)

pub wrote_name : (d : Dictionary) (name : List ℕ) (old new : State) → HasTables old.now → GoesOn old new
    → (more : Row) → Added old.now.schema (layout_in old.now.trees) (tree_of (layout_in old.now.trees) d) (name_row d (next_rowid (old.now.trees (tree_of (layout_in old.now.trees) d))) name ++ more) old.now new.now
    → Wrote (rows_in old.now.trees) old new
wrote_name d name old new tables on more a =
    let l = layout_in old.now.trees in
    let h : AreApart l = apart_of old.now.schema l tables.own tables.schema in
    let row = name_row d (next_rowid (old.now.trees (tree_of l d))) name ++ more in
    wrote_row l (tree_of l d) row (rows_in old.now.trees) old new (name_keyed d _ name more) refl tables on (name_typed l d _ name more h) a
    (rows_are l old.now.trees new.now.trees
    (a.others.0 (apart l d (λ n. l.version ≡ n → ⊥) h.0.0 h.0.1.0 h.0.1.1.0 h.0.1.1.1.0))
    (names_grow old.now.schema l (tree_of l d) row old.now new.now a) (are_known l tables.own old.now tables.schema tables.sound)
    (a.others.1.1.1.1.1.0 (apart l d (λ n. l.job ≡ n → ⊥) (λ e. h.1.0.1.1.1.0 (sym e)) (λ e. h.1.1.0.1.1.0 (sym e)) (λ e. h.1.1.1.0.1.0 (sym e)) (λ e. h.1.1.1.1.0.0 (sym e))))
    (a.others.1.1.1.1.1.1.0 (apart l d (λ n. l.job_media ≡ n → ⊥) (λ e. h.1.0.1.1.1.1.0 (sym e)) (λ e. h.1.1.0.1.1.1.0 (sym e)) (λ e. h.1.1.1.0.1.1.0 (sym e)) (λ e. h.1.1.1.1.0.1.0 (sym e))))
    (a.others.1.1.1.1.1.1.1.0 (apart l d (λ n. l.file ≡ n → ⊥) (λ e. h.1.0.1.1.1.1.1.0 (sym e)) (λ e. h.1.1.0.1.1.1.1.0 (sym e)) (λ e. h.1.1.1.0.1.1.1.0 (sym e)) (λ e. h.1.1.1.1.0.1.1.0 (sym e)))))

-- ---- rows of jobs, spans and files

find_name : (l : Layout) (trees : Trees) (d : Dictionary) (name : List ℕ) (id : ℕ) (tables : IsTable (trees (tree_of l d))) (is : IsNameAt l trees d name id)
    → name_at (trees (tree_of l d)) (Int (pos id)) ≡ word d name
find_name l trees d name id up is = ap (λ (o : Option Row). column (unwrap_or o []) 2) (find_row (trees (tree_of l d)) is.0 (pos id) up is.1 is.2) ∙ is.3

pub wrote_job : (j : JobRow) (client fileset : ℕ) (old new : State) → HasTables old.now → GoesOn old new
    → IsName old.now.trees Client j.client client → IsName old.now.trees FileSet j.fileset fileset
    → (more : Row) → Added old.now.schema (layout_in old.now.trees) (layout_in old.now.trees).job (Int (pos j.id) ∷ Null ∷ Text (j.kind ∷ []) ∷ Text (j.level ∷ []) ∷ Int (pos client) ∷ Text (j.status ∷ []) ∷ Int (pos j.start) ∷ Int (pos fileset) ∷ Int (pos j.session.id) ∷ Int (pos j.session.time) ∷ more) old.now new.now
    → Wrote (with_job j (rows_in old.now.trees)) old new
wrote_job j client fileset old new tables on is_client is_fileset more a =
    let l = layout_in old.now.trees in
    let h : AreApart l = apart_of old.now.schema l tables.own tables.schema in
    let before = old.now.trees in
    let after = new.now.trees in
    let row : Row = Int (pos j.id) ∷ Null ∷ Text (j.kind ∷ []) ∷ Text (j.level ∷ []) ∷ Int (pos client) ∷ Text (j.status ∷ []) ∷ Int (pos j.start) ∷ Int (pos fileset) ∷ Int (pos j.session.id) ∷ Int (pos j.session.time) ∷ more in
    let clients : after l.client ≡ before l.client = a.others.1.0 h.1.0.1.1.1.0 in
    let filesets : after l.fileset ≡ before l.fileset = a.others.1.1.0 h.1.1.0.1.1.0 in
    let shown : job_shown (before l.client) (before l.fileset) row ≡ job_row j =
    ap₂ (λ c f. Int (pos j.id) ∷ Text (j.kind ∷ []) ∷ Text (j.level ∷ []) ∷ c ∷ Text (j.status ∷ []) ∷ Int (pos j.start) ∷ f ∷ Int (pos j.session.id) ∷ Int (pos j.session.time) ∷ [])
    (find_name l before Client j.client client tables.shaped.1.0.0 is_client) (find_name l before FileSet j.fileset fileset tables.shaped.1.1.0.0 is_fileset) in
    let jobs : map (job_shown (after l.client) (after l.fileset)) (after l.job) ≡ put_row (job_row j) (map (job_shown (before l.client) (before l.fileset)) (before l.job)) =
    ap₂ (λ c f. map (job_shown c f) (after l.job)) clients filesets ∙ ap (map (job_shown (before l.client) (before l.fileset))) a.rows
    ∙ put-map (job_shown (before l.client) (before l.fileset)) (λ r. refl) row (before l.job) ∙ ap (λ r. put_row r (map (job_shown (before l.client) (before l.fileset)) (before l.job))) shown in
    let versions : (rows_at l after).versions ≡ (rows_in before).versions = ap (map (λ (r : Row). column r 1 ∷ [])) (a.others.0 h.0.1.1.1.1.0) in
    let spans : (rows_at l after).spans ≡ (rows_in before).spans = ap₂ (λ m s. map (span_shown m) s) (a.others.1.1.1.0 h.1.1.1.0.1.0) (a.others.1.1.1.1.1.1.0 (λ e. h.1.1.1.1.1.0.0 (sym e))) in
    let files : (rows_at l after).files ≡ (rows_in before).files =
    ap (λ p. map (file_shown p) (after l.file)) (a.others.1.1.1.1.0 h.1.1.1.1.0.0) ∙ ap (map (file_shown (before l.path))) (a.others.1.1.1.1.1.1.1.0 (λ e. h.1.1.1.1.1.0.1.0 (sym e))) in
    wrote_row l l.job row (with_job j (rows_in before)) old new refl refl tables on (λ e. absurd (h.1.1.1.0.1.0 e)) a (four _ _ versions jobs spans files)

pub wrote_span : (job : ℕ) (s : Span) (media : ℕ) (old new : State) → HasTables old.now → GoesOn old new → IsName old.now.trees Media s.volume media
    → (more : Row) → Added old.now.schema (layout_in old.now.trees) (layout_in old.now.trees).job_media (Int (next_rowid (old.now.trees (layout_in old.now.trees).job_media)) ∷ Null ∷ Int (pos job) ∷ Int (pos media) ∷ Int (pos s.first) ∷ Int (pos s.last) ∷ Int (pos (high s.start)) ∷ Int (pos (high s.end)) ∷ Int (pos (low s.start)) ∷ Int (pos (low s.end)) ∷ Int (pos s.vol_index) ∷ more) old.now new.now
    → Wrote (with_spans job (s ∷ []) (rows_in old.now.trees)) old new
wrote_span job s media old new tables on is_media more a =
    let l = layout_in old.now.trees in
    let h : AreApart l = apart_of old.now.schema l tables.own tables.schema in
    let before = old.now.trees in
    let after = new.now.trees in
    let rest : Row = Null ∷ Int (pos job) ∷ Int (pos media) ∷ Int (pos s.first) ∷ Int (pos s.last) ∷ Int (pos (high s.start)) ∷ Int (pos (high s.end)) ∷ Int (pos (low s.start)) ∷ Int (pos (low s.end)) ∷ Int (pos s.vol_index) ∷ more in
    let row : Row = Int (next_rowid (before l.job_media)) ∷ rest in
    let last : after l.job_media ≡ before l.job_media ++ row ∷ [] = a.rows ∙ put_next rest (before l.job_media) tables.shaped.1.1.1.1.1.1.0 in
    let shown : span_shown (before l.media) row ≡ span_row job s =
    ap (λ m. Int (pos job) ∷ m ∷ Int (pos s.first) ∷ Int (pos s.last) ∷ Int (pos (high s.start)) ∷ Int (pos (high s.end)) ∷ Int (pos (low s.start)) ∷ Int (pos (low s.end)) ∷ Int (pos s.vol_index) ∷ [])
    (find_name l before Media s.volume media tables.shaped.1.1.1.0.0 is_media) in
    let spans : (rows_at l after).spans ≡ (rows_in before).spans ++ span_row job s ∷ [] =
    ap₂ (λ m rows. map (span_shown m) rows) (a.others.1.1.1.0 h.1.1.1.0.1.1.0) last ∙ map-append (span_shown (before l.media)) (before l.job_media) (row ∷ []) ∙ ap (λ r. (rows_in before).spans ++ r ∷ []) shown in
    let versions : (rows_at l after).versions ≡ (rows_in before).versions = ap (map (λ (r : Row). column r 1 ∷ [])) (a.others.0 h.0.1.1.1.1.1.0) in
    let jobs : (rows_at l after).jobs ≡ (rows_in before).jobs =
    ap₂ (λ c f. map (job_shown c f) (after l.job)) (a.others.1.0 h.1.0.1.1.1.1.0) (a.others.1.1.0 h.1.1.0.1.1.1.0) ∙ ap (map (job_shown (before l.client) (before l.fileset))) (a.others.1.1.1.1.1.0 h.1.1.1.1.1.0.0) in
    let files : (rows_at l after).files ≡ (rows_in before).files =
    ap (λ p. map (file_shown p) (after l.file)) (a.others.1.1.1.1.0 h.1.1.1.1.0.1.0) ∙ ap (map (file_shown (before l.path))) (a.others.1.1.1.1.1.1.1.0 (λ e. h.1.1.1.1.1.1.0.0 (sym e))) in
    wrote_row l l.job_media row (with_spans job (s ∷ []) (rows_in before)) old new refl refl tables on (λ e. absurd (h.1.1.1.0.1.1.0 e)) a (four _ _ versions jobs spans files)

pub wrote_file : (index job path : ℕ) (front rest lstat digest : List ℕ) (old new : State) → HasTables old.now → GoesOn old new
    → IsName old.now.trees Path front path
    → (more : Row) → Added old.now.schema (layout_in old.now.trees) (layout_in old.now.trees).file (Int (next_rowid (old.now.trees (layout_in old.now.trees).file)) ∷ Null ∷ Int (pos index) ∷ Int (pos job) ∷ Int (pos path) ∷ Blob rest ∷ Text lstat ∷ Text digest ∷ more) old.now new.now
    → Wrote (with_file_row (Int (pos job) ∷ Int (pos index) ∷ Blob front ∷ Blob rest ∷ Text lstat ∷ Text digest ∷ []) (rows_in old.now.trees)) old new
wrote_file index job path front rest lstat digest old new tables on is_path more a =
    let l = layout_in old.now.trees in
    let h : AreApart l = apart_of old.now.schema l tables.own tables.schema in
    let before = old.now.trees in
    let after = new.now.trees in
    let shows : Row = Int (pos job) ∷ Int (pos index) ∷ Blob front ∷ Blob rest ∷ Text lstat ∷ Text digest ∷ [] in
    let cells : Row = Null ∷ Int (pos index) ∷ Int (pos job) ∷ Int (pos path) ∷ Blob rest ∷ Text lstat ∷ Text digest ∷ more in
    let row : Row = Int (next_rowid (before l.file)) ∷ cells in
    let last : after l.file ≡ before l.file ++ row ∷ [] = a.rows ∙ put_next cells (before l.file) tables.shaped.1.1.1.1.1.1.1.0 in
    let shown : file_shown (before l.path) row ≡ shows =
    ap (λ p. Int (pos job) ∷ Int (pos index) ∷ p ∷ Blob rest ∷ Text lstat ∷ Text digest ∷ []) (find_name l before Path front path tables.shaped.1.1.1.1.0.0 is_path) in
    let files : (rows_at l after).files ≡ (rows_in before).files ++ shows ∷ [] =
    ap (λ p. map (file_shown p) (after l.file)) (a.others.1.1.1.1.0 h.1.1.1.1.0.1.1.0) ∙ ap (map (file_shown (before l.path))) last
    ∙ map-append (file_shown (before l.path)) (before l.file) (row ∷ []) ∙ ap (λ r. (rows_in before).files ++ r ∷ []) shown in
    let versions : (rows_at l after).versions ≡ (rows_in before).versions = ap (map (λ (r : Row). column r 1 ∷ [])) (a.others.0 h.0.1.1.1.1.1.1.0) in
    let jobs : (rows_at l after).jobs ≡ (rows_in before).jobs =
    ap₂ (λ c f. map (job_shown c f) (after l.job)) (a.others.1.0 h.1.0.1.1.1.1.1.0) (a.others.1.1.0 h.1.1.0.1.1.1.1.0) ∙ ap (map (job_shown (before l.client) (before l.fileset))) (a.others.1.1.1.1.1.0 h.1.1.1.1.1.0.1.0) in
    let spans : (rows_at l after).spans ≡ (rows_in before).spans = ap₂ (λ m s. map (span_shown m) s) (a.others.1.1.1.0 h.1.1.1.0.1.1.1.0) (a.others.1.1.1.1.1.1.0 h.1.1.1.1.1.1.0.0) in
    wrote_row l l.file row (with_file_row shows (rows_in before)) old new refl refl tables on (λ e. absurd (h.1.1.1.0.1.1.1.0 e)) a (four _ _ versions jobs spans files)

-- ---- one after the other

pub wrote_none : (old new : State) → IsTrue old.in_transaction → HasTables old.now → IsUnchanged old new → Wrote (rows_in old.now.trees) old new
wrote_none old new inside tables same = record {
  was_open = λ up. same.0.was_open;
  mode = subst IsTrue (sym same.0.mode) inside;
  committed = same.0.committed_is;
  tables = subst HasTables (sym same.0.now_is) tables;
  names = λ d name id is. subst (λ (db : Database). IsName db.trees d name id) (sym same.0.now_is) is;
  media = record { typed = λ x has. inl (subst (λ (db : Database). Has (media_in db.trees) x) same.0.now_is has) };
  has = ap (λ (db : Database). rows_in db.trees) same.0.now_is;
}

pub wrote_then : (rows more : Rows) (a b c : State) → Wrote rows a b → Wrote more b c → Wrote more a c
wrote_then rows more a b c one two = record {
  was_open = λ up. one.was_open (two.was_open up);
  mode = two.mode;
  committed = two.committed ∙ one.committed;
  tables = two.tables;
  names = λ d name id is. two.names d name id (one.names d name id is);
  media = record { typed = λ x has. elim (two.media.typed x has) [ inl mid ↦ one.media.typed x mid | inr is ↦ inr is ] };
  has = two.has;
}

-- the rows may be stated in another way
pub wrote_as : (rows more : Rows) (old new : State) → rows ≡ more → Wrote rows old new → Wrote more old new
wrote_as rows more old new same one = subst (λ r. Wrote r old new) same one

pub kept_then : (rows : Rows) (a b c : State) → Wrote rows a b → KeepsCommit b c → KeepsCommit a c
kept_then rows a b c so kept = record { was_open = λ up. so.was_open (kept.was_open up); committed = λ up. kept.committed up ∙ so.committed }

-- what is written after a step that adds no row is written after the rows before that step
pub wrote_after : (f : Rows → Rows) (a b c : State) → Wrote (rows_in a.now.trees) a b → Wrote (f (rows_in b.now.trees)) b c → Wrote (f (rows_in a.now.trees)) a c
wrote_after f a b c one two = wrote_as (f (rows_in b.now.trees)) (f (rows_in a.now.trees)) a c (ap f one.has) (wrote_then (rows_in a.now.trees) (f (rows_in b.now.trees)) a b c one two)

pub wrote_next : (f g : Rows → Rows) (rows : Rows) (a b c : State) → Wrote (f rows) a b → Wrote (g (rows_in b.now.trees)) b c → Wrote (g (f rows)) a c
wrote_next f g rows a b c one two = wrote_as (g (rows_in b.now.trees)) (g (f rows)) a c (ap g one.has) (wrote_then (f rows) (g (rows_in b.now.trees)) a b c one two)

pub file_row_is : (job : ℕ) (f : FileRow) (index : ℕ) (a b l d : List ℕ) → index ≡ f.index → a ≡ front f.path → b ≡ rest f.path → l ≡ f.lstat → d ≡ digest_text f.digest
    → ◌≡◌ {A = Row} (Int (pos job) ∷ Int (pos index) ∷ Blob a ∷ Blob b ∷ Text l ∷ Text d ∷ []) (file_row job f)
file_row_is job f index a b l d e1 e2 e3 e4 e5 = rw (e1, e2, e3, e4, e5) refl

pub no_files : (job : ℕ) (rows : Rows) → with_files job [] rows ≡ rows
no_files job rows = ap (λ l. record rows { files = l }) (append-nil rows.files)

pub one_span_more : (job : ℕ) (spans : List Span) (s : Span) (rows : Rows) → with_spans job (s ∷ []) (with_spans job spans rows) ≡ with_spans job (spans ++ s ∷ []) rows
one_span_more job spans s rows =
    ap (λ l. record rows { spans = l }) (append_assoc rows.spans (map (span_row job) spans) (span_row job s ∷ []) ∙ ap (λ l. rows.spans ++ l) (sym (map-append (span_row job) spans (s ∷ []))))

pub one_file_more : (job : ℕ) (files : List FileRow) (f : FileRow) (rows : Rows) → with_files job (f ∷ []) (with_files job files rows) ≡ with_files job (files ++ f ∷ []) rows
one_file_more job files f rows =
    ap (λ l. record rows { files = l }) (append_assoc rows.files (map (file_row job) files) (file_row job f ∷ []) ∙ ap (λ l. rows.files ++ l) (sym (map-append (file_row job) files (f ∷ []))))

pub rows_are_all : (j : JobRows) (id : ℕ) (row : JobRow) (spans : List Span) (files : List FileRow) (rows : Rows) → id ≡ j.row.id → row ≡ j.row → spans ≡ j.spans → files ≡ j.files
    → with_files id files (with_spans id spans (with_job row rows)) ≡ with_rows j rows
rows_are_all j id row spans files rows e1 e2 e3 e4 = rw (e1, e2, e3, e4) refl

-- a job's row whose values are stated in another way
pub wrote_job_as : (j : JobRow) (id client fileset start session time : ℕ) (kind level status : List ℕ) (old new : State)
    → id ≡ j.id → start ≡ j.start → session ≡ j.session.id → time ≡ j.session.time → kind ≡ j.kind ∷ [] → level ≡ j.level ∷ [] → status ≡ j.status ∷ []
    → HasTables old.now → GoesOn old new → IsName old.now.trees Client j.client client → IsName old.now.trees FileSet j.fileset fileset
    → (more : Row) → Added old.now.schema (layout_in old.now.trees) (layout_in old.now.trees).job (Int (pos id) ∷ Null ∷ Text kind ∷ Text level ∷ Int (pos client) ∷ Text status ∷ Int (pos start) ∷ Int (pos fileset) ∷ Int (pos session) ∷ Int (pos time) ∷ more) old.now new.now
    → Wrote (with_job j (rows_in old.now.trees)) old new
wrote_job_as j id client fileset start session time kind level status old new e1 e2 e3 e4 e5 e6 e7 tables on is_client is_fileset more a =
    wrote_job j client fileset old new tables on is_client is_fileset more (rw (e1, e2, e3, e4, e5, e6, e7) at a)

pub on_ok_both : {T E P Q R : Type 0} (r : Result T E) → (P → Q → R) → OnOk r P → OnOk r Q → OnOk r R
on_ok_both (Ok x) f p q = f p q
on_ok_both (Err e) f p q = tt
