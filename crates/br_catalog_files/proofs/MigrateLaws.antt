-- A migration, step by step.
use Rattle.std.proofs.Common.{◌≡◌, ℕ, ℤ, pos, List, [], ◌∷◌, refl, sym, ap, ap₂, subst, ◌∙◌}
use Rattle.std.proofs.lemmas.Cmp.{tied_itself}
use Rattle.sqlite.specs.declared.types.Value.TheVariants.{Int}
use Rattle.sqlite.specs.Order.{Row}
use Rattle.sqlite.specs.Schema.{Schema}
use Rattle.sqlite.specs.Tree.{Trees}
use Rattle.sqlite_value.proofs.OrderLemmas.{value_cmp_total}
use Rattle.sqlite_trees.specs.Objects.{catalog_tree}
use Rattle.sqlite_trees.specs.Tree.{put_row, with_tree}
use Rattle.sqlite_trees.specs.View.{View, IsOrdered, IsShaped, SetsTree}
use Rattle.sqlite_trees.specs.declared.store.Shape.{Shape}
use Rattle.sqlite_trees.specs.declared.store.Shape.TheVariants.{Table}
use Rattle.sqlite_catalog.specs.Listing.{Lists}
use Rattle.br_catalog_files.specs.Moved.{IsMoved, IsMovedFrom, IsWritten, moved_files, version_rows}
use Rattle.br_catalog_tables.specs.declared.old_schema.OldLayout.{OldLayout}
use Rattle.br_catalog_tables.specs.OldSchemas.{IsMovedSchema}
use Rattle.br_catalog_files.specs.OldRead.{AreSorted, IsOldIn, IsReadOld}
use Rattle.br_catalog_files.specs.Claims.{WritesNew}
use Rattle.br_catalog_files.specs.Renewed.{HasFiles, IsAltered, ListsNoOther, Replaces, replaced}
use Rattle.br_catalog_files.specs.Sound.{moved_trees}
use Rattle.br_catalog_files.specs.MigrationSteps.{AreTables, Reads}
use Rattle.br_catalog_files.specs.declared.migrating.Old.{Old}
use Rattle.br_catalog_files.specs.declared.old_version.OldSchema.{OldSchema}
use Rattle.br_catalog_files.proofs.RenewLaws.{altered_then}
use Rattle.br_catalog_files.proofs.StepLaws.{reads_then}
use Rattle.br_catalog_files.proofs.TreeLaws.{filled_other, made_empty, moved_objects, stored_low}

-- the rows of tables ascend
pub sorted_in : (l : OldLayout) (v : View) → IsOrdered v.shape v.trees → AreTables l v → AreSorted l v.trees
sorted_in l v up t =
    let at = λ (tree : ℕ) (is : v.shape tree ≡ Table). subst (λ s. IsShaped s (v.trees tree)) is (up tree) in
    record {
      versions = at l.version t.version;
      clients = at l.client t.client;
      filesets = at l.fileset t.fileset;
      media = at l.media t.media;
      paths = at l.path t.path;
      names = at l.filename t.name;
      jobs = at l.job t.job;
      spans = at l.job_media t.span;
      files = at l.file t.file;
    }

-- reads leave the trees
pub same_trees : (a b : View) → Reads a b → b.trees ≡ a.trees
same_trees a b reads = ap (λ (v : View). v.trees) reads.same

-- a version is written over the one with its rowid
put_over : (id : ℤ) → put_row (Int id ∷ Int (pos 2) ∷ []) ((Int id ∷ Int (pos 1) ∷ []) ∷ []) ≡ (Int id ∷ Int (pos 2) ∷ []) ∷ []
put_over id = rw (tied_itself value_cmp_total (Int id)) refl

writes_altered : (v w : View) (trees : Trees) → w ≡ record v { trees = trees; cursors = w.cursors } → IsAltered v w trees
writes_altered v w trees is =
    is ∙ ap₂ (λ (s : ℕ → Shape) (r : ℕ → ℕ). record v { trees = trees; shape = s; reals = r; cursors = w.cursors }) (sym (ap (λ (x : View). x.shape) is)) (sym (ap (λ (x : View). x.reals) is))

-- the tables were replaced, and the rows of files and the version were written
module _ (schema : Schema) (l : OldLayout) (v0 v1 v2 v3 : View) (o : Old) where
  pub written_of : IsOldIn schema l v0.trees → IsReadOld l o v0.trees → Replaces l v0 v1 → (v1.trees l.file ≡ [] → HasFiles l.file v1 v2 (moved_files l v0.trees))
      → SetsTree v2 v3 l.version (put_row (Int o.version ∷ Int (pos 2) ∷ [])) → ((after : Schema) × Lists (v3.trees catalog_tree) after × IsMovedSchema after schema l) → IsWritten schema l o.version v0 v3
  written_of old read r put_them sets new =
      let made = replaced l v0.trees r.a r.b r.c r.d in
      let files = moved_files l v0.trees in
      let t1 : v1.trees ≡ made = ap (λ (v : View). v.trees) r.is in
      let has = put_them (ap (λ (t : Trees). t l.file) t1 ∙ made_empty l v0.trees r.a r.b r.c r.d (stored_low l.file old.is.has.file.stored)) in
      let t2 : v2.trees ≡ with_tree made l.file files = ap (λ (v : View). v.trees) has.is ∙ ap₂ (λ (t : Trees) (rows : List Row). with_tree t l.file rows) t1 has.files in
      let was : v2.trees l.version ≡ (Int o.version ∷ Int (pos 1) ∷ []) ∷ [] =
      ap (λ (t : Trees). t l.version) t2 ∙ filled_other l v0.trees r.a r.b r.c r.d files l.version old.is.apart.version (stored_low l.version old.is.has.version.stored) ∙ read.version_is in
      let version : put_row (Int o.version ∷ Int (pos 2) ∷ []) (v2.trees l.version) ≡ (Int o.version ∷ Int (pos 2) ∷ []) ∷ [] =
      ap (put_row (Int o.version ∷ Int (pos 2) ∷ [])) was ∙ put_over o.version in
      let t3 : v3.trees ≡ moved_trees l v0.trees r.a r.b r.c r.d files (version_rows o.version 2) = ap (λ (v : View). v.trees) sets.is ∙ ap₂ (λ (t : Trees) (rows : List Row). with_tree t l.version rows) t2 version in
      let objects : v3.trees catalog_tree ≡ r.d =
      ap (λ (t : Trees). t catalog_tree) t3 ∙ moved_objects l v0.trees r.a r.b r.c r.d files (version_rows o.version 2) (stored_low l.file old.is.has.file.stored) (stored_low l.version old.is.has.version.stored) in
      let to2 = altered_then v0 v1 v2 made (λ t. v2.trees) r.is (writes_altered v1 v2 v2.trees (has.is ∙ ap (λ (t : Trees). record v1 { trees = t; cursors = v2.cursors }) (sym (ap (λ (v : View). v.trees) has.is)))) in
      let to3 = altered_then v0 v2 v3 v2.trees (λ t. v3.trees) to2 (writes_altered v2 v3 v3.trees (sets.is ∙ ap (λ (t : Trees). record v2 { trees = t; cursors = v3.cursors }) (sym (ap (λ (v : View). v.trees) sets.is)))) in
      record {
        sound = r.sound;
        moved = record {
          a = r.a;
          b = r.b;
          c = r.c;
          d = r.d;
          is = t3;
          after = new.0;
          lists = new.1;
          shares = subst (ListsNoOther l.file (v0.trees catalog_tree)) (sym objects) r.lists;
          moved = new.2;
          rows = read.moved;
        };
        is = to3;
      }

-- the same from the store before the reads
pub moved_of : (tables : OldSchema) (v0 v1 v2 v3 : View) (o : Old) → IsOldIn tables.schema tables.layout v0.trees → Reads v0 v1 → IsReadOld tables.layout o v1.trees → Reads v1 v2 → WritesNew tables o v2 v3 → IsMoved v0 v3 o.jobs
moved_of tables v0 v1 v2 v3 o old first read second writes =
    let l = tables.layout in
    let t1 = same_trees v0 v1 first in
    let t2 = same_trees v1 v2 second ∙ t1 in
    let was = subst (IsReadOld l o) t1 read in
    let w = writes (subst (IsOldIn tables.schema l) (sym t2) old) (subst (IsReadOld l o) (sym t2) was) in
    let both : IsAltered v0 v2 v0.trees = writes_altered v0 v2 v0.trees (reads_then v0 v1 v2 first second).same in
    record {
      was = record {
        schema = tables.schema;
        layout = l;
        is = old;
        id = o.version;
        version_was = was.version_is;
        sorted = was.sorted;
        all = was.all;
        loaded = was.loaded;
      };
      written = record {
        sound = first.sound;
        moved = subst (λ (t : Trees). IsMovedFrom tables.schema l o.version t v3.trees) t2 w.moved;
        is = altered_then v0 v2 v3 v0.trees (λ t. v3.trees) both w.is;
      };
      many = was.many;
    }
