-- The rows that the joined queries show.
use Rattle.std.proofs.Common.{◌≡◌, ℕ, List, [], ◌∷◌, ◌++◌, Bool, true, false, ◌&&◌, ◌||◌, codes, cond, map, find, unwrap_or, Result, Some, Less, Equal, refl, sym, ap, ap₂, subst, subst₂, ◌∙◌}
use Rattle.std.specs.List.{AllByRecursion, list_any, flat_map}
use Rattle.std.specs.Ordering.{ordering_then}
use Rattle.std.proofs.lemmas.Cmp.{alike_right, on_total}
use Rattle.sqlite.specs.declared.types.Value.{Value}
use Rattle.sqlite.specs.Order.{Row, column, value_cmp}
use Rattle.sqlite.specs.Term.{Env}
use Rattle.sqlite.specs.Query.{IsAnswer, Output, output, output_cmp}
use Rattle.sqlite.specs.Program.{overlay}
use Rattle.sqlite.specs.Tree.{Trees, IsTable, IsAscending, rowid}
use Rattle.sqlite.specs.Effect.{Database}
use Rattle.sqlite_value.proofs.OrderLemmas.{value_cmp_total}
use Rattle.sqlite_sql.proofs.QueryLemmas.{key_cmp_total}
use Rattle.sqlite_keyed.proofs.SortLemmas.{sorted_unique}
use Rattle.sqlite_rules.proofs.ListLemmas.{all_has, all_from}
use Rattle.br_model.specs.Answer.{IsRefusal}
use Rattle.br_catalog_rows.specs.Fault.{cause, of_rows_fault, rows_cause}
use Rattle.br_catalog_rows.specs.declared.fault.RowsFault.{RowsFault}
use Rattle.br_catalog_rows.specs.declared.fault.RowsFault.TheVariants.{Memory, BadRows}
use Rattle.br_catalog_tables.specs.TreePlaces.{Layout}
use Rattle.br_catalog_rows.specs.Rows.{Rows}
use Rattle.br_store.specs.Held.{HasTables, HasVersions, is_named, named, layout_in, rows_at, rows_in, tree_named, versions_in, job_shown, span_shown, file_shown}
use Rattle.br_store.proofs.Values.{tied}
use Rattle.br_store.proofs.Joined.{Knows, are_known}
use Rattle.br_store.proofs.Writes.{four}
use Rattle.br_store.proofs.Selects.{not_over}
use Rattle.br_store.proofs.Asks.{versions_query, jobs_query, spans_query, files_query}

abbrev picks : {X : Type 0} → (Row → X) → Value → Row → List X
picks f id c = cond (is_named id c && true) (f c ∷ []) []

-- two rows of a table with one number are one
apart : (id : Value) (c d : Row) → value_cmp (rowid c) (rowid d) ≡ Less → is_named id c ≡ true → is_named id d ≡ false
apart id c d below one = go (is_named id d) refl
  where
    go : (b : Bool) → is_named id d ≡ b → b ≡ false
    go false e = refl
    go true e =
        let same : value_cmp (column c 0) (column d 0) ≡ Equal = alike_right value_cmp_total (column d 0) id (column c 0) (tied (column d 0) id e) ∙ tied (column c 0) id one in
        absurd (let x = sym below ∙ same in cc)

none_picked : {X : Type 0} (f : Row → X) (id : Value) (rows : List Row) → AllByRecursion (λ d. is_named id d ≡ false) rows → flat_map (picks f id) rows ≡ []
none_picked f id [] h = refl
none_picked f id (d ∷ rows) h = ap (λ b. cond (b && true) (f d ∷ []) [] ++ flat_map (picks f id) rows) h.0 ∙ none_picked f id rows h.1

-- the join of a row with a table that has its number is one row
pub one_picked : {X : Type 0} (f : Row → X) (id : Value) (clients : List Row) → IsTable clients → list_any (is_named id) clients ≡ true → flat_map (picks f id) clients ≡ f (named clients id) ∷ []
one_picked f id [] up known = absurd cc
one_picked f id (c ∷ clients) up known = go (is_named id c) refl known (one_picked f id clients up.1)
  where
    go : (b : Bool) → is_named id c ≡ b → (b || list_any (is_named id) clients) ≡ true → (list_any (is_named id) clients ≡ true → flat_map (picks f id) clients ≡ f (named clients id) ∷ [])
        → cond (b && true) (f c ∷ []) [] ++ flat_map (picks f id) clients ≡ f (unwrap_or (cond b (Some c) (find (is_named id) clients)) []) ∷ []
    go true e any more = ap (λ l. f c ∷ l) (none_picked f id clients (all_from _ clients (λ d in_it. apart id c d (all_has _ clients d up.0 in_it) e)))
    go false e any more = more any

pub singles : {X Y : Type 0} (f : X → List Y) (g : X → Y) (xs : List X) → AllByRecursion (λ x. f x ≡ g x ∷ []) xs → flat_map f xs ≡ map g xs
singles f g [] h = refl
singles f g (x ∷ xs) h = ap₂ ◌++◌ h.0 (singles f g xs h.1)

pub map-map : {X Y Z : Type 0} (f : Y → Z) (g : X → Y) (xs : List X) → map f (map g xs) ≡ map (λ x. f (g x)) xs
map-map f g [] = refl
map-map f g (x ∷ xs) = ap (λ l. f (g x) ∷ l) (map-map f g xs)

pub ascend : {X Y : Type 0} (R : Y → Y → Type 0) (f : X → Y) (xs : List X) → IsAscending (λ a b. R (f a) (f b)) xs → IsAscending R (map f xs)
ascend R f [] up = tt
ascend {X} R f (x ∷ xs) up = (go xs up.0, ascend R f xs up.1)
  where
    go : (ys : List X) → AllByRecursion (λ y. R (f x) (f y)) ys → AllByRecursion (R (f x)) (map f ys)
    go [] h = tt
    go (y ∷ ys) h = (h.0, go ys h.1)

pub weaker : {X : Type 0} (R S : X → X → Type 0) → ((a b : X) → R a b → S a b) → (xs : List X) → IsAscending R xs → IsAscending S xs
weaker R S f [] up = tt
weaker {X} R S f (x ∷ xs) up = (go xs up.0, weaker R S f xs up.1)
  where
    go : (ys : List X) → AllByRecursion (R x) ys → AllByRecursion (S x) ys
    go [] h = tt
    go (y ∷ ys) h = (f x y h.0, go ys h.1)

flat_same : {X Y : Type 0} (f g : X → List Y) (xs : List X) → ((x : X) → f x ≡ g x) → flat_map f xs ≡ flat_map g xs
flat_same f g [] same = refl
flat_same f g (x ∷ xs) same = ap₂ ◌++◌ (same x) (flat_same f g xs same)

abbrev nothing : {X Y : Type 0} → X → List Y
nothing x = []

flat_none : {X Y : Type 0} (xs : List X) → flat_map (nothing {X = X} {Y = Y}) xs ≡ []
flat_none [] = refl
flat_none {X} {Y} (x ∷ xs) = flat_none {X = X} {Y = Y} xs

-- the join of a row with two tables that have its numbers is one row
two_picked : {X : Type 0} (h : Row → Row → X) (id other : Value) (cs ds : List Row) → IsTable cs → IsTable ds → list_any (is_named id) cs ≡ true → list_any (is_named other) ds ≡ true
    → flat_map (λ c. flat_map (λ d. cond (is_named id c && (is_named other d && true)) (h c d ∷ []) []) ds) cs ≡ h (named cs id) (named ds other) ∷ []
two_picked {X} h id other cs ds up_c up_d known_c known_d =
    flat_same _ (picks (λ c. h c (named ds other)) id) cs (λ c. inner c (is_named id c)) ∙ one_picked (λ c. h c (named ds other)) id cs up_c known_c
  where
    inner : (c : Row) (b : Bool) → flat_map (λ d. cond (b && (is_named other d && true)) (h c d ∷ []) []) ds ≡ cond (b && true) (h c (named ds other) ∷ []) []
    inner c true = one_picked (h c) other ds up_d known_d
    inner c false = flat_none {X = Row} {Y = X} ds

-- ---- the tables of an answer

rows_over : (l : Layout) (trees : Trees) → rows_at l (overlay trees []) ≡ rows_at l trees
rows_over l trees =
    let same = not_over trees in
    four (rows_at l (overlay trees [])) (rows_at l trees) (ap (map (λ (r : Row). column r 1 ∷ [])) (same l.version))
    (ap₂ (λ c f. map (job_shown c f) (overlay trees [] l.job)) (same l.client) (same l.fileset) ∙ ap (map (job_shown (trees l.client) (trees l.fileset))) (same l.job))
    (ap₂ (λ m rows. map (span_shown m) rows) (same l.media) (same l.job_media))
    (ap₂ (λ p rows. map (file_shown p) rows) (same l.path) (same l.file))

-- what the tables of a catalogue are, as a query reads them
record AreRead (l : Layout) (trees : Trees) : Type 0 where
  clients : IsTable (trees l.client)
  filesets : IsTable (trees l.fileset)
  media : IsTable (trees l.media)
  paths : IsTable (trees l.path)
  jobs : IsTable (trees l.job)
  spans : IsTable (trees l.job_media)
  files : IsTable (trees l.file)
  known_jobs : AllByRecursion (λ row. Knows (trees l.client) (column row 4) × Knows (trees l.fileset) (column row 7)) (trees l.job)
  known_spans : AllByRecursion (λ row. Knows (trees l.media) (column row 3)) (trees l.job_media)
  known_files : AllByRecursion (λ row. Knows (trees l.path) (column row 4)) (trees l.file)

are_read : (db : Database) → HasTables db → AreRead (layout_in db.trees) (overlay db.trees [])
are_read db tables =
    let l = layout_in db.trees in
    let known = are_known l tables.own db tables.schema tables.sound in
    let same = λ (tree : ℕ). sym (not_over db.trees tree) in
    let jobs = λ (c f rows : List Row). AllByRecursion (λ row. Knows c (column row 4) × Knows f (column row 7)) rows in
    let spans = λ (m rows : List Row). AllByRecursion (λ row. Knows m (column row 3)) rows in
    let files = λ (p rows : List Row). AllByRecursion (λ row. Knows p (column row 4)) rows in
    record {
      clients = subst IsTable (same l.client) tables.shaped.1.0.0;
      filesets = subst IsTable (same l.fileset) tables.shaped.1.1.0.0;
      media = subst IsTable (same l.media) tables.shaped.1.1.1.0.0;
      paths = subst IsTable (same l.path) tables.shaped.1.1.1.1.0.0;
      jobs = subst IsTable (same l.job) tables.shaped.1.1.1.1.1.0.0;
      spans = subst IsTable (same l.job_media) tables.shaped.1.1.1.1.1.1.0.0;
      files = subst IsTable (same l.file) tables.shaped.1.1.1.1.1.1.1.0.0;
      known_jobs = subst (jobs (overlay db.trees [] l.client) (overlay db.trees [] l.fileset)) (same l.job) (subst₂ (λ c f. jobs c f (db.trees l.job)) (same l.client) (same l.fileset) known.jobs);
      known_spans = subst₂ spans (same l.media) (same l.job_media) known.spans;
      known_files = subst₂ files (same l.path) (same l.file) known.files;
    }

abbrev job_env : Layout → Trees → Row → Env
job_env l trees r = [] ∷ r ∷ named (trees l.client) (column r 4) ∷ named (trees l.fileset) (column r 7) ∷ []

abbrev span_env : Layout → Trees → Row → Env
span_env l trees r = [] ∷ r ∷ named (trees l.media) (column r 3) ∷ []

abbrev file_env : Layout → Trees → Row → Env
file_env l trees r = [] ∷ r ∷ named (trees l.path) (column r 4) ∷ []

abbrev version_env : Row → Env
version_env r = [] ∷ r ∷ []

-- the rows of the table of the version, as a query reads them
versions_read : (tree : ℕ) (trees : Trees) (rows : List Row) → IsTable (trees tree) → IsAnswer (versions_query tree) trees [] rows → rows ≡ map (λ (r : Row). column r 1 ∷ []) (trees tree)
versions_read tree trees rows rising a =
    let q = versions_query tree in
    let all = trees tree in
    let out = λ (r : Row). output q (version_env r) in
    let staged : a.staged ≡ map (version_env) all =
    a.grouped ∙ singles _ (version_env) all (all_from _ all (λ r in_it. refl)) in
    let kept : a.kept ≡ map out all = a.distinct ∙ ap (map (output q)) staged ∙ map-map (output q) (version_env) all in
    let up : IsAscending (λ (x y : Output). output_cmp q x y ≡ Less) a.kept =
    subst (IsAscending (λ (x y : Output). output_cmp q x y ≡ Less)) (sym kept)
    (ascend _ out all (weaker _ _ (λ x y below. ap (λ o. ordering_then o Equal) below) all rising)) in
    let ordered : a.ordered ≡ a.kept = sorted_unique (output_cmp q) (on_total (λ (o : Output). o.0) (key_cmp_total (map (λ k. k.1) q.order) 0)) a.kept a.ordered up a.same a.sorted in
    a.shown ∙ ap (map (λ (o : Output). o.1)) (ordered ∙ kept) ∙ map-map (λ (o : Output). o.1) out all

pub versions_shown : (db : Database) (rows : List Row) → HasVersions db → IsAnswer (versions_query (tree_named db.trees (codes "Version"))) (overlay db.trees []) [] rows → rows ≡ versions_in db.trees
versions_shown db rows has a =
    let tree = tree_named db.trees (codes "Version") in
    let same = not_over db.trees tree in
    versions_read tree (overlay db.trees []) rows (subst IsTable (sym same) has.shaped.0) a ∙ ap (map (λ (r : Row). column r 1 ∷ [])) same

jobs_read : (l : Layout) (trees : Trees) (rows : List Row) → AreRead l trees → IsAnswer (jobs_query l) trees [] rows → rows ≡ (rows_at l trees).jobs
jobs_read l trees rows are a =
    let q = jobs_query l in
    let all = trees l.job in
    let out = λ (r : Row). output q (job_env l trees r) in
    let staged : a.staged ≡ map (job_env l trees) all =
    a.grouped ∙ singles _ (job_env l trees) all (all_from _ all (λ r in_it. two_picked (λ c f. [] ∷ r ∷ c ∷ f ∷ []) (column r 4) (column r 7) (trees l.client) (trees l.fileset) are.clients are.filesets (all_has _ all r are.known_jobs in_it).0 (all_has _ all r are.known_jobs in_it).1)) in
    let kept : a.kept ≡ map out all = a.distinct ∙ ap (map (output q)) staged ∙ map-map (output q) (job_env l trees) all in
    let up : IsAscending (λ (x y : Output). output_cmp q x y ≡ Less) a.kept =
    subst (IsAscending (λ (x y : Output). output_cmp q x y ≡ Less)) (sym kept)
    (ascend _ out all (weaker _ _ (λ x y below. ap (λ o. ordering_then o Equal) below) all are.jobs)) in
    let ordered : a.ordered ≡ a.kept = sorted_unique (output_cmp q) (on_total (λ (o : Output). o.0) (key_cmp_total (map (λ k. k.1) q.order) 0)) a.kept a.ordered up a.same a.sorted in
    a.shown ∙ ap (map (λ (o : Output). o.1)) (ordered ∙ kept) ∙ map-map (λ (o : Output). o.1) out all

pub jobs_shown : (db : Database) (rows : List Row) → HasTables db → IsAnswer (jobs_query (layout_in db.trees)) (overlay db.trees []) [] rows → rows ≡ (rows_in db.trees).jobs
jobs_shown db rows tables a =
    let l = layout_in db.trees in
    jobs_read l (overlay db.trees []) rows (are_read db tables) a ∙ ap (λ (r : Rows). r.jobs) (rows_over l db.trees)

spans_read : (l : Layout) (trees : Trees) (rows : List Row) → AreRead l trees → IsAnswer (spans_query l) trees [] rows → rows ≡ (rows_at l trees).spans
spans_read l trees rows are a =
    let q = spans_query l in
    let all = trees l.job_media in
    let out = λ (r : Row). output q (span_env l trees r) in
    let staged : a.staged ≡ map (span_env l trees) all =
    a.grouped ∙ singles _ (span_env l trees) all (all_from _ all (λ r in_it. one_picked (λ c. [] ∷ r ∷ c ∷ []) (column r 3) (trees l.media) are.media (all_has _ all r are.known_spans in_it))) in
    let kept : a.kept ≡ map out all = a.distinct ∙ ap (map (output q)) staged ∙ map-map (output q) (span_env l trees) all in
    let up : IsAscending (λ (x y : Output). output_cmp q x y ≡ Less) a.kept =
    subst (IsAscending (λ (x y : Output). output_cmp q x y ≡ Less)) (sym kept)
    (ascend _ out all (weaker _ _ (λ x y below. ap (λ o. ordering_then o Equal) below) all are.spans)) in
    let ordered : a.ordered ≡ a.kept = sorted_unique (output_cmp q) (on_total (λ (o : Output). o.0) (key_cmp_total (map (λ k. k.1) q.order) 0)) a.kept a.ordered up a.same a.sorted in
    a.shown ∙ ap (map (λ (o : Output). o.1)) (ordered ∙ kept) ∙ map-map (λ (o : Output). o.1) out all

pub spans_shown : (db : Database) (rows : List Row) → HasTables db → IsAnswer (spans_query (layout_in db.trees)) (overlay db.trees []) [] rows → rows ≡ (rows_in db.trees).spans
spans_shown db rows tables a =
    let l = layout_in db.trees in
    spans_read l (overlay db.trees []) rows (are_read db tables) a ∙ ap (λ (r : Rows). r.spans) (rows_over l db.trees)

files_read : (l : Layout) (trees : Trees) (rows : List Row) → AreRead l trees → IsAnswer (files_query l) trees [] rows → rows ≡ (rows_at l trees).files
files_read l trees rows are a =
    let q = files_query l in
    let all = trees l.file in
    let out = λ (r : Row). output q (file_env l trees r) in
    let staged : a.staged ≡ map (file_env l trees) all =
    a.grouped ∙ singles _ (file_env l trees) all (all_from _ all (λ r in_it. one_picked (λ c. [] ∷ r ∷ c ∷ []) (column r 4) (trees l.path) are.paths (all_has _ all r are.known_files in_it))) in
    let kept : a.kept ≡ map out all = a.distinct ∙ ap (map (output q)) staged ∙ map-map (output q) (file_env l trees) all in
    let up : IsAscending (λ (x y : Output). output_cmp q x y ≡ Less) a.kept =
    subst (IsAscending (λ (x y : Output). output_cmp q x y ≡ Less)) (sym kept)
    (ascend _ out all (weaker _ _ (λ x y below. ap (λ o. ordering_then o Equal) below) all are.files)) in
    let ordered : a.ordered ≡ a.kept = sorted_unique (output_cmp q) (on_total (λ (o : Output). o.0) (key_cmp_total (map (λ k. k.1) q.order) 0)) a.kept a.ordered up a.same a.sorted in
    a.shown ∙ ap (map (λ (o : Output). o.1)) (ordered ∙ kept) ∙ map-map (λ (o : Output). o.1) out all

pub files_shown : (db : Database) (rows : List Row) → HasTables db → IsAnswer (files_query (layout_in db.trees)) (overlay db.trees []) [] rows → rows ≡ (rows_in db.trees).files
files_shown db rows tables a =
    let l = layout_in db.trees in
    files_read l (overlay db.trees []) rows (are_read db tables) a ∙ ap (λ (r : Rows). r.files) (rows_over l db.trees)

-- what the rows refuse, their catalogue refuses
pub refused_by_rows : {Y : Type 0} (f : RowsFault) (r : Result Y ℕ) → IsRefusal (rows_cause f) r → IsRefusal (cause (of_rows_fault f)) r
refused_by_rows Memory r is = tt
refused_by_rows BadRows r is = is
