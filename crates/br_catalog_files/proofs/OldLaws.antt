-- Where the tables of version 1 are.
use Rattle.std.proofs.Common.{◌≡◌, true, codes, refl, ap₂, ◌∙◌}
use Rattle.sqlite.specs.Table.{Table}
use Rattle.sqlite.specs.Effect.{Database}
use Rattle.sqlite_schema.specs.Names.{same_name}
use Rattle.br_catalog_tables.specs.declared.old_schema.OldLayout.{OldLayout}
use Rattle.br_catalog_tables.specs.KnownSchemas.{Stands}
use Rattle.br_catalog_tables.specs.OldTables.{moved_layout}
use Rattle.br_store.specs.Held.{layout_in, tree_named}
use Rattle.br_store.proofs.Layouts.{tree_at, tree_is}
use Rattle.br_catalog_files.specs.Old.{HasOld}

module _ (l : OldLayout) (db : Database) (has : HasOld l db) where
  -- a table is in the tree that its name leads to
  named : (t : Table) → Stands db.schema t → same_name t.name t.name ≡ true → tree_named db.trees t.name ≡ t.tree
  named t stands self = tree_is db.trees db.schema.tables t.name has.sound.lists.listed.tables ∙ tree_at db.schema t stands self

  -- the tables with the catalogue's names are in the trees that they have in version 2 made of it
  pub old_layout : layout_in db.trees ≡ moved_layout l
  unfolding same_name
  old_layout =
      let a = layout_in db.trees in
      let b = moved_layout l in
      let tables = has.is.has in
      ap₂ (λ v c. record a { version = v; client = c }) (named _ tables.version refl) (named _ tables.client refl)
      ∙ ap₂ (λ f m. record a { version = b.version; client = b.client; fileset = f; media = m }) (named _ tables.fileset refl) (named _ tables.media refl)
      ∙ ap₂ (λ p j. record a { version = b.version; client = b.client; fileset = b.fileset; media = b.media; path = p; job = j }) (named _ tables.path refl) (named _ tables.job refl)
      ∙ ap₂ (λ s f. record b { job_media = s; file = f }) (named _ tables.job_media refl) (named _ tables.file refl)

  pub old_names : tree_named db.trees (codes "Filename") ≡ l.filename
  unfolding same_name
  old_names = named _ has.is.has.filename refl
