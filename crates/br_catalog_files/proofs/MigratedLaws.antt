-- The trees of version 2 are a catalogue with the rows of version 1.
use Rattle.std.proofs.Common.{◌≡◌, ◌≢◌, ℕ, ℤ, List, [], ◌∷◌, map, codes, true, IsTrue, Ok, refl, sym, ap, ap₂, subst, ◌∙◌}
use Rattle.std.specs.List.{AllByRecursion}
use Rattle.sqlite.specs.Order.{Row, column}
use Rattle.sqlite.specs.Schema.{Schema}
use Rattle.sqlite.specs.Table.{Table}
use Rattle.sqlite.specs.Tree.{Trees}
use Rattle.sqlite.specs.View.{IsShaped, is_int}
use Rattle.sqlite.specs.Effect.{IsDatabase}
use Rattle.sqlite_trees.specs.declared.store.Shape.TheVariants.{Table as Shaped}
use Rattle.br_model.specs.Job.{JobRows}
use Rattle.br_catalog_rows.specs.Load.{check_first, read_history, read_loaded}
use Rattle.br_catalog_rows.specs.Rows.{Rows}
use Rattle.br_catalog_tables.specs.declared.old_schema.OldLayout.{OldLayout}
use Rattle.br_catalog_tables.specs.OldTables.{keeps_tree, moved_layout}
use Rattle.br_catalog_tables.specs.TreePlaces.{Layout}
use Rattle.br_catalog_tables.specs.KnownSchemas.{no_owns}
use Rattle.br_catalog_tables.specs.Tables.{tables_at}
use Rattle.br_store.specs.Held.{file_shown, job_shown, rows_at, rows_in, span_shown, tree_named}
use Rattle.br_store.specs.Made.{is_first}
use Rattle.br_store.proofs.Layouts.{has_here, layout_is}
use Rattle.br_store.proofs.Writes.{four}
use Rattle.br_catalog_files.specs.OldFiles.{moved_row, shown_row}
use Rattle.br_catalog_files.specs.Moved.{IsMovedFrom, database, moved_files, version_rows}
use Rattle.br_catalog_files.specs.Old.{HasOld, IsMigrated, old_rows_in, read_old, renewed}
use Rattle.br_catalog_files.specs.OldRead.{FormJobs}
use Rattle.br_catalog_files.specs.Sound.{AreMovedRows}
use Rattle.sqlite_trees.specs.Objects.{catalog_tree}
use Rattle.br_catalog_files.proofs.CatalogLaws.{shared}
use Rattle.br_catalog_files.proofs.OldLaws.{old_layout, old_names}
use Rattle.br_catalog_files.proofs.RenewLaws.{all_moved, table_moved}
use Rattle.br_catalog_files.proofs.SoundLaws.{stays_sound}
use Rattle.br_catalog_files.proofs.TreeLaws.{moved_file, moved_other, moved_version, spared}

-- the rows of files of version 2 show what those of version 1 showed
same_shown : (paths names rows : List Row) → map (file_shown paths) (map (moved_row names) rows) ≡ map (shown_row paths names) rows
same_shown paths names [] = refl
same_shown paths names (r ∷ rows) = ap (λ (l : List Row). shown_row paths names r ∷ l) (same_shown paths names rows)

shaped_moved : (names rows : List Row) → IsShaped Shaped rows → IsShaped Shaped (map (moved_row names) rows)
shaped_moved names rows up = (table_moved names rows up.0, all_moved (λ v. IsTrue (is_int v)) names rows up.1)

-- the rows of version 1, by the trees in which its tables are
abbrev pub loaded_rows : OldLayout → Trees → Rows
loaded_rows l old = record (rows_at (moved_layout l) old) { files = map (shown_row (old l.path) (old l.filename)) (old l.file) }

module _ (schema : Schema) (l : OldLayout) (old : Trees) (has : HasOld l (database schema old)) where
  pub old_rows : old_rows_in old ≡ loaded_rows l old
  old_rows =
      let layout = old_layout l (database schema old) has in
      let names : tree_named old (codes "Filename") ≡ l.filename = old_names l (database schema old) has in
      ap₂ (λ (m : Layout) (n : ℕ). record (rows_at m old) { files = map (shown_row (old m.path) (old n)) (old m.file) }) layout names

  module _ (id : ℤ) (new : Trees) (moved : IsMovedFrom schema l id old new) where
    apart : l.file ≢ l.version
    apart same = (spared l l.version has.is.apart.version).file (sym same)

    version_is : new l.version ≡ version_rows id 2
    version_is = ap (λ (t : Trees). t l.version) moved.is ∙ moved_version l old moved.a moved.b moved.c moved.d (moved_files l old) (version_rows id 2)

    files_are : new l.file ≡ moved_files l old
    files_are = ap (λ (t : Trees). t l.file) moved.is ∙ moved_file l old moved.a moved.b moved.c moved.d (moved_files l old) (version_rows id 2) apart

    same : (t : ℕ) → keeps_tree l t ≡ true → new t ≡ old t
    same t keeps = ap (λ (trees : Trees). trees t) moved.is ∙ moved_other l old moved.a moved.b moved.c moved.d (moved_files l old) (version_rows id 2) t keeps

    sound_new : IsDatabase (database moved.after new)
    sound_new = record {
      lists = moved.lists;
      obeys = stays_sound schema moved.after l old new id has.is has.sound.obeys moved.moved (shared (old catalog_tree) (new catalog_tree) schema moved.after l.file moved.shares has.sound.lists.listed moved.lists.listed) version_is same (subst (AreMovedRows (old l.file)) (sym files_are) moved.rows);
    }

    shaped_new : AllByRecursion (λ (t : Table). IsShaped Shaped (new t.tree)) (tables_at (moved_layout l))
    shaped_new =
        let s = has.sorted in
        let a = has.is.apart in
        let at = λ (t : ℕ) (keeps : keeps_tree l t ≡ true) (up : IsShaped Shaped (old t)). subst (IsShaped Shaped) (sym (same t keeps)) up in (
          subst (IsShaped Shaped) (sym version_is) ((tt, tt), (refl, tt)),
          (at l.client a.client s.clients, (at l.fileset a.fileset s.filesets, (at l.media a.media s.media, (at l.path a.path s.paths, (at l.job a.job s.jobs, (at l.job_media a.job_media s.spans, (subst (IsShaped Shaped) (sym files_are) (shaped_moved (old l.filename) (old l.file) s.files), tt))))))),
        )

    rows_new : rows_at (moved_layout l) new ≡ renewed (loaded_rows l old)
    rows_new =
        let a = has.is.apart in
        four (rows_at (moved_layout l) new) (renewed (loaded_rows l old)) (ap (map (λ (r : Row). column r 1 ∷ [])) version_is)
        (ap₂ (λ c f. map (job_shown c f) (new l.job)) (same l.client a.client) (same l.fileset a.fileset) ∙ ap (map (job_shown (old l.client) (old l.fileset))) (same l.job a.job))
        (ap₂ (λ m rows. map (span_shown m) rows) (same l.media a.media) (same l.job_media a.job_media))
        (ap₂ (λ p rows. map (file_shown p) rows) (same l.path a.path) files_are ∙ same_shown (old l.path) (old l.filename) (old l.file))

    -- it is a catalogue with the rows of the catalogue of version 1
    pub is_migrated : IsMigrated (database schema old) (database moved.after new)
    is_migrated =
        let db = database moved.after new in
        let now = layout_is (moved_layout l) no_owns db moved.moved.has sound_new in
        record {
          tables = record {
            own = no_owns;
            schema = has_here (moved_layout l) no_owns db moved.moved.has sound_new;
            sound = sound_new;
            shaped = subst (λ (m : Layout). AllByRecursion (λ (t : Table). IsShaped Shaped (new t.tree)) (tables_at m)) (sym now) shaped_new;
          };
          rows = ap (λ (m : Layout). rows_at m new) now ∙ rows_new ∙ ap renewed (sym old_rows);
        }

-- ---- the history

read_first : (rows : Rows) (jobs : List JobRows) → is_first rows.versions ≡ true → read_loaded rows.jobs rows.spans rows.files ≡ Ok jobs → read_old rows ≡ Ok jobs
read_first rows jobs first is = rw first is

read_second : (rows : Rows) → read_history (renewed rows) ≡ read_loaded rows.jobs rows.spans rows.files
unfolding read_history check_first
read_second rows = refl

-- the rows of version 1 formed these jobs
pub jobs_before : (schema : Schema) (l : OldLayout) (old : Trees) (id : ℤ) (jobs : List JobRows) → HasOld l (database schema old) → old l.version ≡ version_rows id 1 → FormJobs l old jobs
    → read_old (old_rows_in old) ≡ Ok jobs
jobs_before schema l old id jobs has version loaded =
    ap read_old (old_rows schema l old has) ∙ read_first (loaded_rows l old) jobs (ap (λ (rows : List Row). is_first (map (λ (r : Row). column r 1 ∷ []) rows)) version) loaded

-- and so do the rows of version 2
pub jobs_after : (schema after : Schema) (l : OldLayout) (old new : Trees) (jobs : List JobRows) → HasOld l (database schema old) → IsMigrated (database schema old) (database after new) → FormJobs l old jobs
    → read_history (rows_in new) ≡ Ok jobs
jobs_after schema after l old new jobs has is loaded = ap read_history (is.rows ∙ ap renewed (old_rows schema l old has)) ∙ read_second (loaded_rows l old) ∙ loaded
